-- What holds of banks: of each request in a sound state, and so of every bank that was made, whatever
-- requests came before.
use Rattle.std.specs.Prelude.{ℕ, ◌≡◌, ◌+◌, ◌*◌, ◌%◌, ◌^◌, ◌<◌, ◌≤◌, ◌⊎◌, ◌==◌, true, false, if◌then◌else◌, List, [], ◌∷◌, length, map, get_or, Some, None, Option}
use Rattle.std.specs.List.{filter}
use Rattle.t1_num.specs.Memory.{number_at}
use Rattle.t1_shape.specs.Shapes.{Shape}
use Rattle.t1_shape.specs.Numbers.{banks, most_l2_sets, bank_at}
use Rattle.t1_shape.specs.Slots.{slot_of, with_fill, first_slot}
use Rattle.t1_packet.specs.declared.cache.Cache.{Cache}
use Rattle.t1_packet.specs.declared.cache.Cache.TheVariants.{Dcache, Icache}
use Rattle.t1_packet.specs.declared.served.Served.{Served}
use Rattle.t1_packet.specs.Data.{KillData, RequestData}
use Rattle.t1_packet.specs.Ops.{op_addr, op_size, asked_way}
use Rattle.t1_packet.specs.Packets.{kills_to}
use Rattle.t1_packet.specs.Caches.{layout, slot_killed, with_kills, filled_line}
use Rattle.t1_dir.specs.Directory.{tags_at}
use Rattle.t1_event.specs.Kills.{effect, is_doomed}
use Rattle.t1_event.specs.Posts.{reply_line}
use Rattle.t1_event.specs.BankRule.{BankState, is_fit, old_of, evicted_of, refused, served_by, bank_with, bank_start, bank_after}
use Rattle.t1_bank.specs.Sound.{IsSound, Mirrors}
use Rattle.t1_bank.specs.Copies.{AreOfCaches}
use Rattle.t1_bank.specs.FlatMemory.{flat_with, flat_after}

-- ---- states

-- a bank as it is made
pub record IsStart (shape : Shape) (bank cores sets : ℕ) (image : List ℕ) : Type 0 where
  pub bank_is : bank < banks shape
  pub few : cores ≤ 8
  pub some : 0 < sets
  pub many : sets ≤ most_l2_sets shape
  pub even : length image % 65536 ≡ 0
  pub small : length image ≤ 2 ^ 28

-- any state that a bank comes to, by requests of any kind
abbrev pub Always : (BankState → Type 0) → Type 0
Always P =
    (shape : Shape) (bank cores sets : ℕ) (image : List ℕ) (rs : List RequestData) → IsStart shape bank cores sets image
    → P (bank_after (bank_start shape bank cores sets image) rs)

-- what no request changes
pub record IsAlike (b c : BankState) : Type 0 where
  pub cores : b.cores ≡ c.cores
  pub ram : b.ram ≡ c.ram
  pub bank : b.array.bank ≡ c.array.bank
  pub shape : b.array.shape ≡ c.array.shape
  pub directory : b.directory.shape ≡ c.directory.shape

abbrev pub StaysSound : Type 0
StaysSound = (b : BankState) (r : RequestData) → IsSound b → IsSound (bank_with b r) × IsAlike (bank_with b r) b

-- ---- kills

-- each kill is of a core, a set and a way that there are; at most six are of one core, so that a
-- packet has room for all of them
pub record MakesFewKills (b : BankState) : Type 0 where
  pub ranges : (r : RequestData) → AreOfCaches b.directory.shape b.cores (served_by b r).kills
  pub six : (r : RequestData) (core : ℕ) → length (filter (λ kill. kill.core == core) (served_by b r).kills) ≤ 6
  pub posted : (r : RequestData) (core : ℕ) → kills_to core (served_by b r).kills ≡ filter (λ kill. kill.core == core) (served_by b r).kills
  pub all : (r : RequestData) → length (served_by b r).kills ≤ 6 * b.cores

abbrev pub Among : KillData → List KillData → Type 0
Among kill [] = ⊥
Among kill (first ∷ rest) = (kill ≡ first) ⊎ Among kill rest

-- a kill names a way that the directory had filled, with a line that has to go
pub record IsShown (b : BankState) (r : RequestData) (kill : KillData) : Type 0 where
  pub line : ℕ
  pub at : get_or (tags_at b.directory kill.core kill.cache) (slot_killed b.directory.shape kill) None ≡ Some line
  pub doomed : is_doomed kill.cache (r.core == kill.core) (evicted_of b r) (effect r.op (old_of b r)) (Some line) ≡ true

abbrev pub KillsWhatIsShown : BankState → Type 0
KillsWhatIsShown b = (r : RequestData) (kill : KillData) → Among kill (served_by b r).kills → IsShown b r kill

-- where a kill stands among those of an access: by core, data before instruction, then by slot
abbrev pub cache_key : Cache → ℕ
cache_key Dcache = 0
cache_key Icache = 512

abbrev pub kill_key : Shape → KillData → ℕ
kill_key shape kill = 1024 * kill.core + cache_key kill.cache + slot_killed shape kill

-- each number is at least `low`, and above the one before
abbrev pub Rises : ℕ → List ℕ → Type 0
Rises low [] = Unit {0}
Rises low (x ∷ xs) = (low ≤ x) × Rises (x + 1) xs

-- so no two kills are the same
abbrev pub KillsInOrder : BankState → Type 0
KillsInOrder b = (r : RequestData) → Rises 0 (map (kill_key b.directory.shape) (served_by b r).kills)

-- ---- bytes

-- what is read is a flat memory that mirrors the bank, and the writes keep the mirror
pub record ReadsMemory (b : BankState) (memory : List ℕ) : Type 0 where
  pub old : (r : RequestData) → is_fit b r ≡ true → (served_by b r).old ≡ number_at memory (op_addr r.op) (op_size r.op)
  pub line : (r : RequestData) → (served_by b r).line ≡ reply_line memory r.op (served_by b r).way
  pub after : (r : RequestData) → Mirrors (bank_with b r) (flat_with b.array.shape b.cores b.ram b.array.bank memory r)

abbrev pub BytesAreMemory : Type 0
BytesAreMemory = (b : BankState) (memory : List ℕ) → IsSound b → Mirrors b memory → ReadsMemory b memory

-- from the start it is the image after the writes that were served
abbrev pub MirrorsTheImage : Type 0
MirrorsTheImage =
    (shape : Shape) (bank cores sets : ℕ) (image : List ℕ) (rs : List RequestData) → IsStart shape bank cores sets image
    → Mirrors (bank_after (bank_start shape bank cores sets image) rs) (flat_after shape cores (length image) bank image rs)

-- ---- fills and evictions

-- a fill takes the way in which the directory shows the line; where it shows it in none, the request's own
abbrev pub IsFillAt : BankState → RequestData → Cache → ℕ → ℕ → Option ℕ → Type 0
IsFillAt b r cache line way (Some slot) = first_slot (layout b.directory.shape cache) line + way ≡ slot
IsFillAt b r cache line way None = (way ≡ asked_way r.op) × (way < (layout b.directory.shape cache).ways)

abbrev pub FillsRightly : BankState → Type 0
FillsRightly b =
    (r : RequestData) (cache : Cache) (line way : ℕ) → filled_line cache r.op ≡ Some line → (served_by b r).way ≡ Some way
    → IsFillAt b r cache line way (slot_of (layout b.directory.shape cache) (tags_at b.directory r.core cache) line)

-- what is evicted is a line of this bank
abbrev pub EvictsItsOwn : BankState → Type 0
EvictsItsOwn b = (r : RequestData) (addr : ℕ) → (served_by b r).evicted ≡ Some addr → (bank_at b.array.shape addr ≡ b.array.bank) × (addr % 64 ≡ 0)

-- ---- the directory, by what was served alone

-- the tags of one core and cache after a served access: its kills, and then, where the core asked, its fill
abbrev pub tags_with : Shape → ℕ → Cache → Served → List (Option ℕ) → List (Option ℕ)
tags_with shape core cache served tags =
    let left = with_kills shape core cache served.kills tags in
    if served.request.core == core then with_fill (layout shape cache) (filled_line cache served.request.op) served.way (λ line. line) left else left

abbrev pub DirectoryFollows : BankState → Type 0
DirectoryFollows b =
    (r : RequestData) (core : ℕ) (cache : Cache)
    → tags_at (bank_with b r).directory core cache ≡ tags_with b.directory.shape core cache (served_by b r) (tags_at b.directory core cache)

-- ---- refusals

abbrev pub RefusesQuietly : Type 0
RefusesQuietly = (b : BankState) (r : RequestData) → is_fit b r ≡ false → (bank_with b r ≡ b) × (served_by b r ≡ refused r)

-- ---- all of it

pub record IsLawful (b : BankState) : Type 0 where
  pub sound : IsSound b
  pub few : MakesFewKills b
  pub shown : KillsWhatIsShown b
  pub order : KillsInOrder b
  pub fills : FillsRightly b
  pub evicts : EvictsItsOwn b
  pub follows : DirectoryFollows b

abbrev pub SoundIsLawful : Type 0
SoundIsLawful = (b : BankState) → IsSound b → IsLawful b
