-- The program order of one strand on one flat memory: a memory order that obeys total store order.
use Rattle.std.proofs.Common.{◌≡◌, ℕ, zero, suc, ◌+◌, ◌-◌, ◌<◌, List, [], ◌∷◌, get_or, slice_index, Some, refl, sym, ap, ◌∙◌, inl, inr, arith}
use Rattle.std.proofs.lemmas.Bool.{cases_order}
use Rattle.std.proofs.lemmas.Option.{none-some, same_Some}
use Rattle.std.specs.List.{slice_get}
use Rattle.t1_num.specs.Memory.{byte_of}
use Rattle.t1_event.specs.declared.item.Item.{Item}
use Rattle.t1_event.specs.declared.item.ItemKind.{ItemKind}
use Rattle.t1_event.specs.declared.item.ItemKind.TheVariants.{Fetch, Load, Store, Atomic, Membar, Flush}
use Rattle.t1_event.specs.declared.report.Place.{Place}
use Rattle.t1_event.specs.Kinds.{IsRead, IsWrite, IsAccess, IsChanging}
use Rattle.t1_event.specs.Items.{Covers, byte_got}
use Rattle.t1_event.specs.Order.{Act, place_of, Before, IsListing, IsCandidate, IsLastWrite, Value, ObeysTso}
use Rattle.t1_event.specs.ProgramOrder.{program_order}
use Rattle.t1_event.specs.FlatMemory.{ActsAt, ActsOn, IsMemory, OneStrandObeysTso}
use Rattle.t1_event.proofs.Accesses.{place_at, entry_at, index_of, entries_ascend}
use Rattle.t1_num.proofs.MemoryLaws.{byte_of_number_at}
use Rattle.t1_event.proofs.LastWrite.{memory_at, LastWrite, byte_at, length-memory_at, bytes_stay_at, acts_at}

read_access : (kind : ItemKind) → IsRead kind → IsAccess kind
read_access Fetch e = refl
read_access Load e = refl
read_access (Atomic wrote) e = refl
read_access Store e = refl
read_access Membar e = e
read_access Flush e = e

write_access : (kind : ItemKind) → IsWrite kind → IsAccess kind
write_access Fetch e = refl
write_access Load e = refl
write_access (Atomic wrote) e = refl
write_access Store e = refl
write_access Membar e = e
write_access Flush e = e

changing_access : (kind : ItemKind) → IsChanging kind → IsAccess kind
changing_access Fetch e = refl
changing_access Load e = refl
changing_access (Atomic wrote) e = refl
changing_access Store e = refl
changing_access Membar e = e
changing_access Flush e = e

-- ---- the acts of one strand

module _ (items : List Item) where
  abbrev One : Type 0
  One = Act (items ∷ [])

  -- each act is of strand 0
  in_strand : (x : One) → (x.strand ≡ 0) × (slice_get items x.number ≡ Some x.item)
  in_strand x = by x.strand x.stands
    where
      by : (strand : ℕ) → slice_get (get_or (items ∷ []) strand []) x.number ≡ Some x.item → (strand ≡ 0) × (slice_get items x.number ≡ Some x.item)
      by zero e = (refl, e)
      by (suc strand) e = absurd (none-some x.item e)

  abbrev act_at : (number : ℕ) (item : Item) → slice_get items number ≡ Some item → One
  act_at number item e = record { strand = 0; number = number; item = item; stands = e }

  listed : (x : One) → IsAccess x.item.kind → (k : ℕ) × (slice_get (program_order 0 items) k ≡ Some (place_of x))
  listed x access =
      let i = index_of 0 0 items x.number x.item (in_strand x).1 access in
      let strand : x.strand ≡ 0 = (in_strand x).0 in
      let number : 0 + x.number ≡ x.number = omega arith in
      let same : place_at 0 (0 + x.number) ≡ place_of x = cc (strand, number) in
      (i.0, i.1 ∙ ap Some same)

  before : (x y : One) → x.number < y.number → IsAccess x.item.kind → IsAccess y.item.kind → Before (program_order 0 items) x y
  before x y l ax ay =
      let i = listed x ax in
      let j = listed y ay in
      elim (cases_order i.0 j.0) [
        | inl e ↦
            let same : Some (place_of x) ≡ Some (place_of y) = sym i.1 ∙ ap (slice_get (program_order 0 items)) e ∙ j.1 in
            let number : x.number ≡ y.number = ap (λ (p : Place). p.item) (same_Some (place_of x) (place_of y) same) in
            absurd (omega arith)
        | inr (inl ascends) ↦ record { first = i.0; second = j.0; ascends = ascends; at_first = i.1; at_second = j.1 }
        | inr (inr turned) ↦ absurd (omega (arith, entries_ascend 0 0 items j.0 i.0 (place_of y) (place_of x) turned j.1 i.1))
      ]

  number_below : (x y : One) → Before (program_order 0 items) x y → x.number < y.number
  number_below x y b = entries_ascend 0 0 items b.first b.second (place_of x) (place_of y) b.ascends b.at_first b.at_second

  listing : IsListing (items ∷ []) (program_order 0 items)
  listing = record {
    all = listed;
    only = λ k p e.
        let l = entry_at 0 0 items k p e in
        let number : 0 + l.index ≡ l.index = omega arith in
        (act_at l.index l.item l.stands, l.access, sym (l.place ∙ ap (place_at 0) number));
    once = λ j k p d e. elim (cases_order j k) [
      | inl same ↦ same
      | inr (inl l) ↦ absurd (omega (arith, entries_ascend 0 0 items j k p p l d e))
      | inr (inr l) ↦ absurd (omega (arith, entries_ascend 0 0 items k j p p l e d))
    ];
  }

  -- ---- candidates

  candidate_below : (read : One) (a : ℕ) (write : One) → IsCandidate (program_order 0 items) read a write → write.number < read.number
  candidate_below read a write c = elim c.seen [ inl b ↦ number_below write read b | inr (kind, e) ↦ e.number ]

  is_last : (read : One) (a : ℕ) → IsAccess read.item.kind → (w : LastWrite items read.number a)
      → IsLastWrite (program_order 0 items) read a (act_at w.index w.item w.stands)
  is_last read a access w =
      let write = act_at w.index w.item w.stands in
      let change : IsAccess w.item.kind = changing_access w.item.kind w.writes.0 in
      record {
        candidate = record { changes = w.writes.0; covers = w.writes.1; seen = inl (before write read w.below change access) };
        last = λ other c.
            let below : other.number < read.number = candidate_below read a other c in
            elim (cases_order other.number w.index) [
              | inl same ↦ let strand : other.strand ≡ 0 = (in_strand other).0 in inl cc
              | inr (inl less) ↦ inr (before other write less (changing_access other.item.kind c.changes) change)
              | inr (inr more) ↦ absurd (w.last other.number other.item more below (in_strand other).1 (c.changes, c.covers))
            ];
      }

  -- ---- total store order

  module _ (image : List ℕ) (m : IsMemory image) (acts : ActsOn image items) where
    at_read : (read : One) → ActsAt (memory_at image items read.number) read.item
    at_read read = acts_at image items read.number read.item acts (in_strand read).1

    got_byte : (read : One) (a : ℕ) → IsRead read.item.kind → Covers read.item a → byte_got read.item a ≡ slice_index (memory_at image items read.number) a
    got_byte read a r c =
        let memory : List ℕ = memory_at image items read.number in
        let offset : read.item.addr + (a - read.item.addr) ≡ a = omega (arith, c.0) in
        ap (λ v. byte_of v read.item.size (a - read.item.addr)) ((at_read read).reads r)
        ∙ byte_of_number_at memory (bytes_stay_at image items read.number m.bytes) read.item.addr read.item.size (a - read.item.addr) (omega (arith, c.0, c.1))
        ∙ ap (slice_index memory) offset

    value : Value image (items ∷ []) (program_order 0 items)
    value = record {
      memory = λ read a r within covers. elim (byte_at image items read.number a within) [
        | inl (w, put) ↦ inl (act_at w.index w.item w.stands, is_last read a (read_access read.item.kind r) w, got_byte read a r covers ∙ put)
        | inr (none, same) ↦ inr (
          λ write c. none write.number write.item (candidate_below read a write c) (in_strand write).1 (c.changes, c.covers),
          got_byte read a r covers ∙ same,
        )
      ];
      io = λ read r io.
          let within = (at_read read).within (read_access read.item.kind r) in
          absurd (omega (arith, io.0, within, length-memory_at image items read.number, m.below_io));
    }

    obeys_tso : ObeysTso image (items ∷ []) (program_order 0 items)
    obeys_tso = record {
      load_op = λ x y e r access. before x y e.number (read_access x.item.kind r) access;
      store_store = λ x y e v w. before x y e.number (write_access x.item.kind v) (write_access y.item.kind w);
      value = value;
      barrier = λ x b y d e w barrier r. before x y (omega (arith, d.number, e.number)) (write_access x.item.kind w) (read_access y.item.kind r);
    }

pub one_strand_obeys_tso : OneStrandObeysTso
one_strand_obeys_tso image items m acts = (listing items, obeys_tso items image m acts)
