-- Ends of ports in a row.
use Rattle.std.specs.Prelude.{ℕ, ◌==◌, ◌/◌, ◌%◌, ◌^◌, ◌≡◌, Bool, List, [], ◌∷◌, ◌++◌, get_or, set}
use Rattle.t1_ring.specs.Ends.{Mark, TxState, RxState}

module _ {T : Type 0} where
  -- what each sent, the free slots that each knows of, and the port of each
  abbrev pub sent_by : List (TxState T) → List (List T)
  sent_by [] = []
  sent_by (t ∷ ts) = t.sent ∷ sent_by ts

  abbrev pub rooms_of : List (TxState T) → List ℕ
  rooms_of [] = []
  rooms_of (t ∷ ts) = t.room ∷ rooms_of ts

  abbrev pub tx_marks : List (TxState T) → List Mark
  tx_marks [] = []
  tx_marks (t ∷ ts) = t.mark ∷ tx_marks ts

  -- what each received, and the port of each
  abbrev pub received_by : List (RxState T) → List (List T)
  received_by [] = []
  received_by (r ∷ rs) = r.received ∷ received_by rs

  abbrev pub rx_marks : List (RxState T) → List Mark
  rx_marks [] = []
  rx_marks (r ∷ rs) = r.mark ∷ rx_marks rs

-- the bit of an end in a word with a bit for each
abbrev pub has_bit : ℕ → ℕ → Bool
has_bit word at = word / 2 ^ at % 2 == 1

-- nothing was sent, or received, by any of them
abbrev pub AreUnused : {A : Type 0} → List (List A) → Type 0
AreUnused lists = (at : ℕ) → get_or lists at [] ≡ []

-- one of them sent, or received, one thing more
abbrev pub with_more : {A : Type 0} → List (List A) → ℕ → A → List (List A)
with_more lists at item = set lists at (get_or lists at [] ++ item ∷ [])
