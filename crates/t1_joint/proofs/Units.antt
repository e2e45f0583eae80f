-- A replay goes on by one unit.
use Rattle.std.proofs.Common.{◌≡◌, ℕ, suc, ◌==◌, ◌^◌, nat_lt, cond, Bool, true, false, List, [], ◌∷◌, ◌++◌, Option, Some, None, refl, ap, sym, ◌∙◌, append_assoc, append-nil}
use Rattle.t1_decode.specs.Words.{insn_of}
use Rattle.t1_state.specs.declared.strand.Strand.{Strand}
use Rattle.t1_state.specs.Interrupts.{due_of}
use Rattle.t1_exec.specs.Needs.{need_of}
use Rattle.t1_event.specs.declared.item.Item.{Item}
use Rattle.t1_event.specs.declared.trace.Ending.TheVariants as ending
use Rattle.t1_event.specs.Kinds.{is_read}
use Rattle.t1_event.specs.Items.{fetch_item, reads_of}
use Rattle.t1_joint.specs.Replay.{Running, Starved, Done, Replay, Bounds, fetch_trap, trapped, met, with_word, is_fetchable, begun, begun_or_spent, unit, units, started}
use Rattle.t1_joint.specs.Follows.{StandsAt, HasBegun}
use Rattle.t1_joint.proofs.More.{more, units_more}

-- where a replay stands, it stands with more values to read
stands_more : (b : Bounds) (from s : Strand) (reads new : List ℕ) (items : List Item) (n : ℕ)
    → units b n (started from reads) ≡ record { strand = s; items = items; reads = []; end = Running }
    → units b n (started from (reads ++ new)) ≡ record { strand = s; items = items; reads = new; end = Running }
stands_more b from s reads new items n e =
    units_more b n (started from reads) new (λ bad. (let clash : Running ≡ Starved = sym (ap (λ (r : Replay). r.end) e) ∙ bad in cc))
    ∙ ap (λ (q : Replay). more q new) e

-- one unit more, on the values that it reads
pub next_unit : (b : Bounds) (from s : Strand) (reads new : List ℕ) (items : List Item) (n : ℕ)
    → units b n (started from reads) ≡ record { strand = s; items = items; reads = []; end = Running }
    → (s.units == b.budget) ≡ false
    → units b (suc n) (started from (reads ++ new)) ≡ begun b s items new (due_of s) (is_fetchable b.ram s.pc)
next_unit b from s reads new items n e unspent =
    ap (λ (q : Replay). unit b q) (stands_more b from s reads new items n e)
    ∙ ap (λ (t : Bool). begun_or_spent b s items new t) unspent

pub reads_of-append : (xs ys : List Item) → reads_of (xs ++ ys) ≡ reads_of xs ++ reads_of ys
unfolding reads_of
reads_of-append [] ys = refl
reads_of-append (x ∷ xs) ys =
    ap (λ r. cond (is_read x.kind) (x.got ∷ []) [] ++ r) (reads_of-append xs ys) ∙ sym (append_assoc _ (reads_of xs) (reads_of ys))

-- a strand that has begun a unit goes on by the need of its word
pub unit_goes : (b : Bounds) (from s : Strand) (items : List Item) (word : ℕ) (new : List ℕ) (after : Replay) (own : List Item)
    → HasBegun b from s items word
    → met s word items new (need_of s (insn_of word) b.ram) ≡ after
    → after.reads ≡ [] → after.items ≡ items ++ own → reads_of own ≡ new
    → StandsAt b from after.strand (reads_of after.items) after.items after.end
unfolding reads_of
unit_goes b from s items word new after own h met_is none items_are new_are =
    let reads : reads_of after.items ≡ reads_of h.before ++ (word ∷ new) =
    ap reads_of items_are
    ∙ reads_of-append items own
    ∙ ap (λ l. reads_of items ++ l) new_are
    ∙ ap (λ l. reads_of l ++ new) h.items_are
    ∙ ap (λ l. l ++ new) (reads_of-append h.before (fetch_item s.pc word ∷ []))
    ∙ append_assoc (reads_of h.before) (word ∷ []) new in
    let goes : units b (suc h.stands.count) (started from (reads_of h.before ++ (word ∷ new))) ≡ after =
    next_unit b from s (reads_of h.before) (word ∷ new) h.before h.stands.count h.stands.is h.unspent
    ∙ ap (λ (d : Option ℕ). begun b s h.before (word ∷ new) d (is_fetchable b.ram s.pc)) h.not_due
    ∙ ap (λ (t : Bool). begun b s h.before (word ∷ new) None t) h.in_ram
    ∙ ap (λ (t : Bool). with_word b s h.before word new t) h.fits
    ∙ ap (λ (l : List Item). met s word l new (need_of s (insn_of word) b.ram)) (sym h.items_are)
    ∙ met_is in
    record {
      count = suc h.stands.count;
      is =
          ap (λ (l : List ℕ). units b (suc h.stands.count) (started from l)) reads
          ∙ goes
          ∙ ap (λ (l : List ℕ). let r : Replay = record { strand = after.strand; items = after.items; reads = l; end = after.end } in r) none;
    }

-- between two units the word comes
pub word_begins : (b : Bounds) (from s : Strand) (items : List Item) (word : ℕ) → StandsAt b from s (reads_of items) items Running
    → (s.units == b.budget) ≡ false → due_of s ≡ None → is_fetchable b.ram s.pc ≡ true → nat_lt word (2 ^ 32) ≡ true
    → HasBegun b from s (items ++ fetch_item s.pc word ∷ []) word
word_begins b from s items word stands unspent not_due in_ram fits =
    record { before = items; stands = stands; items_are = refl; unspent = unspent; not_due = not_due; in_ram = in_ram; fits = fits }

-- a trap at a unit's begin: the interrupt that is due
pub interrupt_goes : (b : Bounds) (from s : Strand) (items : List Item) (number : ℕ) → StandsAt b from s (reads_of items) items Running
    → (s.units == b.budget) ≡ false → due_of s ≡ Some number
    → StandsAt b from (trapped s items [] number).strand (reads_of items) items (trapped s items [] number).end
interrupt_goes b from s items number stands unspent due =
    record {
      count = suc stands.count;
      is =
          ap (λ (l : List ℕ). units b (suc stands.count) (started from l)) (sym (append-nil (reads_of items)))
          ∙ next_unit b from s (reads_of items) [] items stands.count stands.is unspent
          ∙ ap (λ (d : Option ℕ). begun b s items [] d (is_fetchable b.ram s.pc)) due;
    }

-- a trap at a unit's begin: no word can be fetched
pub fetch_trap_goes : (b : Bounds) (from s : Strand) (items : List Item) → StandsAt b from s (reads_of items) items Running
    → (s.units == b.budget) ≡ false → due_of s ≡ None → is_fetchable b.ram s.pc ≡ false
    → StandsAt b from (trapped s items [] fetch_trap).strand (reads_of items) items (trapped s items [] fetch_trap).end
fetch_trap_goes b from s items stands unspent not_due out =
    record {
      count = suc stands.count;
      is =
          ap (λ (l : List ℕ). units b (suc stands.count) (started from l)) (sym (append-nil (reads_of items)))
          ∙ next_unit b from s (reads_of items) [] items stands.count stands.is unspent
          ∙ ap (λ (d : Option ℕ). begun b s items [] d (is_fetchable b.ram s.pc)) not_due
          ∙ ap (λ (t : Bool). begun b s items [] None t) out;
    }

-- the budget is spent
pub spent_stands : (b : Bounds) (from s : Strand) (items : List Item) → StandsAt b from s (reads_of items) items Running
    → (s.units == b.budget) ≡ true → StandsAt b from s (reads_of items) items (Done ending.Spent)
spent_stands b from s items stands spent =
    record {
      count = suc stands.count;
      is = ap (λ (q : Replay). unit b q) stands.is ∙ ap (λ (t : Bool). begun_or_spent b s items [] t) spent;
    }
