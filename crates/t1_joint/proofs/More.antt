-- More values to read change nothing of what was replayed.
use Rattle.std.proofs.Common.{◌≡◌, ℕ, zero, suc, ◌*◌, ◌^◌, ◌==◌, nat_lt, Bool, true, false, List, [], ◌∷◌, ◌++◌, Option, Some, None, refl, ap, sym, ◌∙◌}
use Rattle.t1_decode.specs.Words.{insn_of}
use Rattle.t1_state.specs.declared.strand.Strand.{Strand}
use Rattle.t1_state.specs.Interrupts.{due_of}
use Rattle.t1_exec.specs.declared.need.Need.{Need}
use Rattle.t1_exec.specs.declared.need.Need.TheVariants as need
use Rattle.t1_exec.specs.Needs.{need_of}
use Rattle.t1_event.specs.declared.item.Item.{Item}
use Rattle.t1_event.specs.Items.{fetch_item, load_item}
use Rattle.t1_joint.specs.Replay.{End, Running, Starved, Done, Replay, Bounds, atomic_item, with_value, with_read, met, with_word, fetched, is_fetchable, begun, begun_or_spent, unit_at, unit, units}

-- the same replay with more values to read
abbrev pub more : Replay → List ℕ → Replay
more r xs = record r { reads = r.reads ++ xs }

abbrev Lives : Replay → Type 0
Lives r = r.end ≡ Starved → ⊥

value_more : (s : Strand) (word : ℕ) (items : List Item) (make : ℕ → Item) (value : ℕ) (reads xs : List ℕ) (fits : Bool)
    → Lives (with_value s word items make value reads fits)
    → with_value s word items make value (reads ++ xs) fits ≡ more (with_value s word items make value reads fits) xs
value_more s word items make value reads xs true l = refl
value_more s word items make value reads xs false l = absurd (l refl)

read_more : (s : Strand) (word : ℕ) (items : List Item) (size : ℕ) (make : ℕ → Item) (reads xs : List ℕ)
    → Lives (with_read s word items size make reads)
    → with_read s word items size make (reads ++ xs) ≡ more (with_read s word items size make reads) xs
read_more s word items size make [] xs l = absurd (l refl)
read_more s word items size make (v ∷ reads) xs l = value_more s word items make v reads xs (nat_lt v (2 ^ (8 * size))) l

met_more : (s : Strand) (word : ℕ) (items : List Item) (reads xs : List ℕ) (n : Need) → Lives (met s word items reads n)
    → met s word items (reads ++ xs) n ≡ more (met s word items reads n) xs
met_more s word items reads xs need.Plain l = refl
met_more s word items reads xs need.Halt l = refl
met_more s word items reads xs (need.Trap number) l = refl
met_more s word items reads xs (need.Membar mask) l = refl
met_more s word items reads xs need.Flush l = refl
met_more s word items reads xs (need.Store addr size value) l = refl
met_more s word items reads xs (need.Load addr size) l = read_more s word items size (load_item addr size) reads xs l
met_more s word items reads xs (need.Atomic addr size op) l = read_more s word items size (atomic_item addr size op) reads xs l

word_more : (b : Bounds) (s : Strand) (items : List Item) (word : ℕ) (reads xs : List ℕ) (fits : Bool) → Lives (with_word b s items word reads fits)
    → with_word b s items word (reads ++ xs) fits ≡ more (with_word b s items word reads fits) xs
word_more b s items word reads xs true l = met_more s word (items ++ fetch_item s.pc word ∷ []) reads xs (need_of s (insn_of word) b.ram) l
word_more b s items word reads xs false l = absurd (l refl)

fetched_more : (b : Bounds) (s : Strand) (items : List Item) (reads xs : List ℕ) → Lives (fetched b s items reads)
    → fetched b s items (reads ++ xs) ≡ more (fetched b s items reads) xs
fetched_more b s items [] xs l = absurd (l refl)
fetched_more b s items (word ∷ reads) xs l = word_more b s items word reads xs (nat_lt word (2 ^ 32)) l

begun_more : (b : Bounds) (s : Strand) (items : List Item) (reads xs : List ℕ) (due : Option ℕ) (in_ram : Bool) → Lives (begun b s items reads due in_ram)
    → begun b s items (reads ++ xs) due in_ram ≡ more (begun b s items reads due in_ram) xs
begun_more b s items reads xs (Some number) in_ram l = refl
begun_more b s items reads xs None true l = fetched_more b s items reads xs l
begun_more b s items reads xs None false l = refl

spent_more : (b : Bounds) (s : Strand) (items : List Item) (reads xs : List ℕ) (spent : Bool) → Lives (begun_or_spent b s items reads spent)
    → begun_or_spent b s items (reads ++ xs) spent ≡ more (begun_or_spent b s items reads spent) xs
spent_more b s items reads xs true l = refl
spent_more b s items reads xs false l = begun_more b s items reads xs (due_of s) (is_fetchable b.ram s.pc) l

unit_more : (b : Bounds) (r : Replay) (xs : List ℕ) (e : End) → r.end ≡ e → Lives (unit_at b r e) → unit_at b (more r xs) e ≡ more (unit_at b r e) xs
unit_more b r xs Running is l = spent_more b r.strand r.items r.reads xs (r.strand.units == b.budget) l
unit_more b r xs Starved is l = absurd (l is)
unit_more b r xs (Done e) is l = refl

starved_stays : (b : Bounds) (r : Replay) (e : End) → r.end ≡ e → r.end ≡ Starved → (unit_at b r e).end ≡ Starved
starved_stays b r Running is s = let clash : Running ≡ Starved = sym is ∙ s in cc
starved_stays b r Starved is s = s
starved_stays b r (Done e) is s = s

pub units_more : (b : Bounds) (n : ℕ) (r : Replay) (xs : List ℕ) → Lives (units b n r) → units b n (more r xs) ≡ more (units b n r) xs
units_more b zero r xs l = refl
units_more b (suc n) r xs l =
    let before : Lives (units b n r) = λ s. l (starved_stays b (units b n r) (units b n r).end refl s) in
    ap (λ (q : Replay). unit b q) (units_more b n r xs before) ∙ unit_more b (units b n r) xs (units b n r).end refl l
