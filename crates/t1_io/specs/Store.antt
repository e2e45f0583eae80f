-- What a store of a fixed room keeps of the bytes that it was given.
use Rattle.std.specs.Prelude.{◌+◌, ◌-◌, ◌^◌, min, nat_le, if◌then◌else◌, ℕ, List, [], ◌++◌, length, take, Option, None, Some}

-- the first bytes, as many as fit, the number of all bytes, and the room
pub record Kept : Type 0 where
  pub first : List ℕ
  pub count : ℕ
  pub room : ℕ

-- a store that was given nothing
abbrev pub empty_store : ℕ → Kept
empty_store room = record { first = []; count = 0; room = room }

-- all the bytes, where they fit
abbrev pub told : Kept → Option (List ℕ)
told kept = if nat_le kept.count kept.room then Some kept.first else None

-- the store after it was given these: its number of bytes stays at the last value of 64 bits
abbrev pub kept_after : Kept → List ℕ → Kept
kept_after kept bytes = record { first = take kept.room (kept.first ++ bytes); count = min (kept.count + length bytes) (2 ^ 64 - 1); room = kept.room }
