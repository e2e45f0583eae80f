-- What a strand's own steps do to its replay.
use Rattle.std.proofs.Common.{◌≡◌, ◌^◌, ◌*◌, ◌<◌, ℕ, ◌==◌, true, false, List, [], ◌∷◌, ◌++◌, refl, ap, sym, ◌∙◌, subst, zero, suc, set, length, Option, Some, None, inl, inr, nat_lt, append-nil}
use Rattle.std.specs.List.{slice_get}
use Rattle.std.proofs.lemmas.List.{map-append}
use Rattle.std.proofs.lemmas.Bool.{cases_Bool}
use Rattle.t1_decode.specs.Words.{insn_of}
use Rattle.t1_state.specs.declared.strand.Strand.{Strand}
use Rattle.t1_state.specs.declared.strand.Entered.{Entered}
use Rattle.t1_state.specs.declared.strand.Entered.TheVariants as entry
use Rattle.t1_state.specs.Traps.{entered, entered_by}
use Rattle.t1_state.specs.Interrupts.{due_of}
use Rattle.t1_exec.specs.declared.need.Need.{Need}
use Rattle.t1_exec.specs.declared.need.Need.TheVariants as need
use Rattle.t1_exec.specs.declared.need.AtomicOp.TheVariants.{Swap, Cas}
use Rattle.t1_exec.specs.Needs.{need_of}
use Rattle.t1_exec.specs.Meanings.{after_of}
use Rattle.t1_event.specs.declared.item.Item.{Item}
use Rattle.t1_event.specs.declared.item.How.{How}
use Rattle.t1_event.specs.declared.trace.Ending.TheVariants as ending
use Rattle.t1_event.specs.Items.{fetch_item, load_item, reads_of, unplaced}
use Rattle.t1_joint.specs.Replay.{Running, Done, Replay, Bounds, fetch_trap, trapped, entry_end, acted, met, is_fetchable}
use Rattle.t1_joint.specs.Follows.{StandsAt, HasBegun}
use Rattle.t1_joint.proofs.Units.{unit_goes, interrupt_goes, fetch_trap_goes, spent_stands, word_begins}
use Rattle.t1_core.specs.Threads.{placed, read_item, next_phase, entry_phase, item_placed, placed_at}
use Rattle.t1_core.specs.Replays.{IsReading, IsBetween, IsFetching, IsAsking, ReplaysAt, bare_items}

-- a place changes nothing of the items without their places
set_bare : (items : List Item) (k : ℕ) (x : Item) (how : How) → slice_get items k ≡ Some x → bare_items (set items k (placed x how)) ≡ bare_items items
set_bare [] k x how e = refl
set_bare (y ∷ xs) zero x how e =
    let same : x ≡ y = cc in
    ap (λ (z : Item). unplaced z ∷ bare_items xs) same
set_bare (y ∷ xs) (suc k) x how e = ap (λ (l : List Item). unplaced y ∷ l) (set_bare xs k x how e)

bare_at : (items : List Item) (k : ℕ) (how : How) (o : Option Item) → slice_get items k ≡ o → bare_items (placed_at items k how o) ≡ bare_items items
bare_at items k how None e = refl
bare_at items k how (Some x) e = set_bare items k x how e

pub bare_placed : (items : List Item) (k : ℕ) (how : How) → bare_items (item_placed items k how) ≡ bare_items items
bare_placed items k how = bare_at items k how (slice_get items k) refl

pub after_unit : (b : Bounds) (from s : Strand) (xs : List Item) → StandsAt b from s (reads_of xs) xs Running → ReplaysAt b from s xs (next_phase s.units b.budget)
after_unit b from s xs stands =
    elim (cases_Bool (s.units == b.budget)) [
      | inl e ↦ rw e (spent_stands b from s xs stands e)
      | inr e ↦ rw e (let r : IsBetween b from s xs = record { stands = stands; unspent = e } in r)
    ]

pub after_trap : (b : Bounds) (from s : Strand) (xs : List Item) (e : Entered) → StandsAt b from s (reads_of xs) xs (entry_end e) → ReplaysAt b from s xs (entry_phase e s.units b.budget)
after_trap b from s xs entry.Taken stands = after_unit b from s xs stands
after_trap b from s xs (entry.Fault number) stands = stands

-- the word comes
pub word_follows : (b : Bounds) (from s : Strand) (items : List Item) (word : ℕ) (how : How) → IsFetching b from s (bare_items items) → nat_lt word (2 ^ 32) ≡ true
    → HasBegun b from s (bare_items (items ++ placed (fetch_item s.pc word) how ∷ [])) word
word_follows b from s items word how f fits =
    subst (λ (xs : List Item). HasBegun b from s xs word) (sym (map-append unplaced items (placed (fetch_item s.pc word) how ∷ [])))
    (word_begins b from s (bare_items items) word f.between.stands f.between.unspent f.not_due f.in_ram fits)

-- a unit ends with these items of its own
pub unit_follows : (b : Bounds) (from s : Strand) (items own : List Item) (word v : ℕ) (new : List ℕ) → HasBegun b from s (bare_items items) word
    → met s word (bare_items items) new (need_of s (insn_of word) b.ram) ≡ acted s word v (bare_items items ++ bare_items own) [] Running
    → reads_of (bare_items own) ≡ new
    → ReplaysAt b from (after_of s (insn_of word) v) (bare_items (items ++ own)) (next_phase (after_of s (insn_of word) v).units b.budget)
unit_follows b from s items own word v new h met_is reads =
    let after : Replay = acted s word v (bare_items items ++ bare_items own) [] Running in
    let stands : StandsAt b from after.strand (reads_of after.items) after.items after.end =
    unit_goes b from s (bare_items items) word new after (bare_items own) h met_is refl refl reads in
    subst (λ (xs : List Item). ReplaysAt b from (after_of s (insn_of word) v) xs (next_phase (after_of s (insn_of word) v).units b.budget)) (sym (map-append unplaced items own))
    (after_unit b from (after_of s (insn_of word) v) (bare_items items ++ bare_items own) stands)

-- a value of the size that the need reads
abbrev pub IsValueOf : ℕ → Need → Type 0
IsValueOf v (need.Load addr size) = nat_lt v (2 ^ (8 * size)) ≡ true
IsValueOf v (need.Atomic addr size o) = nat_lt v (2 ^ (8 * size)) ≡ true
IsValueOf v need.Plain = Unit {0}
IsValueOf v need.Halt = Unit {0}
IsValueOf v (need.Trap number) = Unit {0}
IsValueOf v (need.Store addr size value) = Unit {0}
IsValueOf v (need.Membar mask) = Unit {0}
IsValueOf v need.Flush = Unit {0}

met_reads : (s : Strand) (word : ℕ) (items : List Item) (v : ℕ) (n : Need) → IsReading n → IsValueOf v n
    → met s word items (v ∷ []) n ≡ acted s word v (items ++ unplaced (read_item n v) ∷ []) [] Running
met_reads s word items v (need.Load addr size) r f = rw f refl
met_reads s word items v (need.Atomic addr size (Swap new)) r f = rw f refl
met_reads s word items v (need.Atomic addr size (Cas expect new)) r f = rw f refl
met_reads s word items v need.Plain r f = absurd r
met_reads s word items v need.Halt r f = absurd r
met_reads s word items v (need.Trap number) r f = absurd r
met_reads s word items v (need.Store addr size value) r f = absurd r
met_reads s word items v (need.Membar mask) r f = absurd r
met_reads s word items v need.Flush r f = absurd r

got_one : (v : ℕ) (n : Need) → IsReading n → reads_of (unplaced (read_item n v) ∷ []) ≡ v ∷ []
unfolding reads_of
got_one v (need.Load addr size) r = refl
got_one v (need.Atomic addr size (Swap new)) r = refl
got_one v (need.Atomic addr size (Cas expect new)) r = refl
got_one v need.Plain r = absurd r
got_one v need.Halt r = absurd r
got_one v (need.Trap number) r = absurd r
got_one v (need.Store addr size value) r = absurd r
got_one v (need.Membar mask) r = absurd r
got_one v need.Flush r = absurd r

-- the value of a load or an atomic comes
pub value_follows : (b : Bounds) (from s : Strand) (items : List Item) (word v : ℕ) (how : How) (n : Need) → need_of s (insn_of word) b.ram ≡ n
    → HasBegun b from s (bare_items items) word → IsReading n → IsValueOf v n
    → ReplaysAt b from (after_of s (insn_of word) v) (bare_items (items ++ placed (read_item n v) how ∷ [])) (next_phase (after_of s (insn_of word) v).units b.budget)
value_follows b from s items word v how n e h r f =
    unit_follows b from s items (placed (read_item n v) how ∷ []) word v (v ∷ []) h
    (ap (λ (m : Need). met s word (bare_items items) (v ∷ []) m) e ∙ met_reads s word (bare_items items) v n r f) (got_one v n r)

-- a trap in the midst of a unit
pub trap_follows : (b : Bounds) (from s : Strand) (items : List Item) (word number : ℕ) → HasBegun b from s (bare_items items) word
    → need_of s (insn_of word) b.ram ≡ need.Trap number
    → ReplaysAt b from (entered s number) (bare_items items) (entry_phase (entered_by s number) (entered s number).units b.budget)
unfolding reads_of
trap_follows b from s items word number h e =
    let after : Replay = trapped s (bare_items items) [] number in
    let stands : StandsAt b from after.strand (reads_of after.items) after.items after.end =
    unit_goes b from s (bare_items items) word [] after [] h (ap (λ (n : Need). met s word (bare_items items) [] n) e) refl (sym (append-nil (bare_items items))) refl in
    after_trap b from (entered s number) (bare_items items) (entered_by s number) stands

-- the halt
pub halt_follows : (b : Bounds) (from s : Strand) (items : List Item) (word : ℕ) → HasBegun b from s (bare_items items) word
    → need_of s (insn_of word) b.ram ≡ need.Halt
    → StandsAt b from (after_of s (insn_of word) 0) (reads_of (bare_items items)) (bare_items items) (Done ending.Halted)
unfolding reads_of
halt_follows b from s items word h e =
    let after : Replay = acted s word 0 (bare_items items) [] (Done ending.Halted) in
    unit_goes b from s (bare_items items) word [] after [] h (ap (λ (n : Need). met s word (bare_items items) [] n) e) refl (sym (append-nil (bare_items items))) refl

-- an interrupt at a unit's begin
pub interrupt_follows : (b : Bounds) (from s : Strand) (items : List Item) (number : ℕ) → IsBetween b from s (bare_items items) → due_of s ≡ Some number
    → ReplaysAt b from (entered s number) (bare_items items) (entry_phase (entered_by s number) (entered s number).units b.budget)
interrupt_follows b from s items number between due =
    after_trap b from (entered s number) (bare_items items) (entered_by s number) (interrupt_goes b from s (bare_items items) number between.stands between.unspent due)

-- no word can be fetched
pub out_follows : (b : Bounds) (from s : Strand) (items : List Item) → IsBetween b from s (bare_items items) → due_of s ≡ None → is_fetchable b.ram s.pc ≡ false
    → ReplaysAt b from (entered s fetch_trap) (bare_items items) (entry_phase (entered_by s fetch_trap) (entered s fetch_trap).units b.budget)
out_follows b from s items between not_due out =
    after_trap b from (entered s fetch_trap) (bare_items items) (entered_by s fetch_trap) (fetch_trap_goes b from s (bare_items items) between.stands between.unspent not_due out)
