-- Where the strands of one text part.
use Rattle.std.proofs.Common.{◌≡◌, ℕ, ◌+◌, ◌⊎◌, List, [], ◌∷◌, ◌++◌, length, get_or, refl, sym, ap, subst, ◌∙◌, append_assoc, inl, inr, arith}
use Rattle.std.proofs.lemmas.List.{length-append}
use Rattle.t1_elf.specs.declared.object.Image.{Image}
use Rattle.t1_event.specs.declared.item.Item.{Item}
use Rattle.t1_event.specs.declared.trace.Trace.{Trace}
use Rattle.t1_event.specs.declared.commit.Commit.{Commit}
use Rattle.t1_event.specs.declared.report.Config.{Config}
use Rattle.t1_event.specs.declared.report.Place.{Place}
use Rattle.t1_log.specs.Lines.{ending_line_of}
use Rattle.t1_log.specs.Log.{item_line_of, trace_lines_of}
use Rattle.t1_log.specs.Texts.{lines_from}
use Rattle.t1_line_forms.specs.declared.line.Line.TheVariants as line
use Rattle.t1_take.specs.Items.{IsGoodItem, IsGoodTrace}
use Rattle.t1_take.proofs.Leaving.{item_first}
use Rattle.t1_read.specs.Faults.{IsOpen, IsClosed, IsInRange}
use Rattle.t1_read.specs.Standing.{so_far}
use Rattle.t1_read.proofs.HeadStands.{small_ram}
use Rattle.t1_read.proofs.StrandsFound.{has_ended, trace_is, end_first}
use Rattle.t1_one_text.proofs.Lists.{each_all}
use Rattle.t1_one_text.proofs.Items.{items_cut}
use Rattle.t1_one_text.proofs.Strands.{traces_cut}
use Rattle.t1_one_fault.proofs.Lists.{GoesOn, ListsCompared, Same, Longer, Shorter, compared}
use Rattle.t1_one_fault.proofs.Next.{IsGoodNext, Parted, One, FirstGoes, OtherGoes}
use Rattle.t1_one_fault.proofs.Tails.{tail_of, AreNone, tail_none, report_of, tails_part}

abbrev ItemAt : ℕ → ℕ → Item → Type 0
ItemAt ram n item = IsGoodItem ram item

abbrev TraceAt : ℕ → ℕ → Trace → Type 0
TraceAt ram n trace = IsGoodTrace ram trace

-- the items of the next strand, and what follows
abbrev pub items_of_next : List Trace → List Item → List ℕ → List ℕ
items_of_next traces items x = lines_from (item_line_of (length traces)) 0 items ++ x

-- ---- items

item_next : (config : Config) (image : Image) (traces : List Trace) (i j : List Item) (l : List Commit) (o : List Place) (c x y : List ℕ) → IsOpen config traces
    → GoesOn (item_line_of (length traces)) (ItemAt config.ram) 0 i j x y → IsGoodNext (so_far config image traces i l o c) x
item_next config image traces i j l o c x y open_is g = record {
  kind = line.Item (length traces) g.number;
  follows = (open_is, refl, (let n = g.number_is in omega (arith, n)));
  other = refl;
  text = item_line_of (length traces) g.number g.one;
  more = lines_from (item_line_of (length traces)) (g.number + 1) g.more ++ y;
  good = (g.one, g.good, refl);
  rest_is = g.rest_is;
}

-- where a strand is left
open_part : (config : Config) (image : Image) (traces : List Trace) (i j : List Item) (l m : List Commit) (o p : List Place) (c d x y : List ℕ) → IsOpen config traces → AreNone l o c → AreNone m p d
    → IsInRange (report_of config image traces l o c) i → IsInRange (report_of config image traces m p d) j → items_of_next traces i (tail_of l o c x) ≡ items_of_next traces j (tail_of m p d y)
    → Parted (so_far config image traces i l o c) (so_far config image traces j m p d) x y
open_part config image traces i j l m o p c d x y open_is none nothing f g e =
    by (compared (item_line_of (length traces)) (ItemAt config.ram) (items_cut config.ram (length traces) (small_ram config f.limits)) 0 i j x y
    (each_all (IsGoodItem config.ram) 0 i f.items_are) (each_all (IsGoodItem config.ram) 0 j g.items_are)
    (ap (items_of_next traces i) (sym (tail_none l o c x none)) ∙ (e ∙ ap (items_of_next traces j) (tail_none m p d y nothing))))
  where
    by : ListsCompared (item_line_of (length traces)) (ItemAt config.ram) 0 i j x y → Parted (so_far config image traces i l o c) (so_far config image traces j m p d) x y
    by (Same same rest) = One (λ k. so_far config image traces (same k) ((none.0 ∙ sym nothing.0) k) ((none.1 ∙ sym nothing.1) k) ((none.2 ∙ sym nothing.2) k)) rest
    by (Longer n) = FirstGoes (item_next config image traces i j l o c x y open_is n)
    by (Shorter n) = OtherGoes (item_next config image traces j i m p d y x open_is n)

pub items_empty : (traces : List Trace) (items : List Item) (x : List ℕ) → items ≡ [] → items_of_next traces items x ≡ x
unfolding lines_from
items_empty traces items x e = ap (λ (xs : List Item). items_of_next traces xs x) e

-- behind all strands
closed_part : (config : Config) (image : Image) (traces : List Trace) (i j : List Item) (l m : List Commit) (o p : List Place) (c d x y : List ℕ) → IsClosed config traces → i ≡ [] → j ≡ []
    → IsInRange (report_of config image traces l o c) i → IsInRange (report_of config image traces m p d) j → items_of_next traces i (tail_of l o c x) ≡ items_of_next traces j (tail_of m p d y)
    → Parted (so_far config image traces i l o c) (so_far config image traces j m p d) x y
closed_part config image traces i j l m o p c d x y closed none nothing f g e =
    subst (λ (k : List Item). Parted (so_far config image traces i l o c) (so_far config image traces k m p d) x y) (none ∙ sym nothing)
    (tails_part config image traces i j l m o p c d x y closed f g (sym (items_empty traces i (tail_of l o c x) none) ∙ (e ∙ items_empty traces j (tail_of m p d y) nothing)))

items_part : (config : Config) (image : Image) (traces : List Trace) (i j : List Item) (l m : List Commit) (o p : List Place) (c d x y : List ℕ)
    → IsInRange (report_of config image traces l o c) i → IsInRange (report_of config image traces m p d) j → items_of_next traces i (tail_of l o c x) ≡ items_of_next traces j (tail_of m p d y)
    → Parted (so_far config image traces i l o c) (so_far config image traces j m p d) x y
items_part config image traces i j l m o p c d x y f g e = by f.turn g.turn
  where
    by : (IsOpen config traces × AreNone l o c) ⊎ (IsClosed config traces × (i ≡ [])) → (IsOpen config traces × AreNone m p d) ⊎ (IsClosed config traces × (j ≡ []))
        → Parted (so_far config image traces i l o c) (so_far config image traces j m p d) x y
    by (inl a) (inl b) = open_part config image traces i j l m o p c d x y a.0 a.1 b.1 f g e
    by (inr a) (inr b) = closed_part config image traces i j l m o p c d x y a.0 a.1 b.1 f g e
    by (inl a) (inr b) = absurd (omega (arith, a.0, b.0))
    by (inr a) (inl b) = absurd (omega (arith, a.0, b.0))

-- ---- strands

pub none_open : (config : Config) (image : Image) (traces : List Trace) (items : List Item) (log : List Commit) (order : List Place) (console : List ℕ) → IsOpen config traces
    → IsInRange (report_of config image traces log order console) items → AreNone log order console
none_open config image traces items log order console open_is f = by f.turn
  where
    by : (IsOpen config traces × AreNone log order console) ⊎ (IsClosed config traces × (items ≡ [])) → AreNone log order console
    by (inl a) = a.1
    by (inr a) = absurd (omega (arith, open_is, a.0))

-- an item of the strand or its end
trace_next : (config : Config) (image : Image) (s t : List Trace) (i : List Item) (l : List Commit) (o : List Place) (c x y : List ℕ) → IsOpen config s → IsInRange (report_of config image s l o c) i
    → GoesOn trace_lines_of (TraceAt config.ram) 0 s t (items_of_next s i (tail_of l o c x)) y → IsGoodNext (so_far config image s i l o c) x
trace_next config image s t i l o c x y open_is f g =
    let one = g.one in
    let end = has_ended one.ending g.good.ended in
    let strand : ℕ = length s in
    let lines : ℕ → Item → List ℕ = item_line_of strand in
    let last : List ℕ = ending_line_of strand end.ending one.units one.pc in
    let rest : List ℕ = lines_from trace_lines_of (g.number + 1) g.more ++ y in
    let at : g.number ≡ strand = (let n = g.number_is in omega (arith, n)) in
    let reads : trace_lines_of g.number one ++ rest ≡ lines_from lines 0 one.items ++ (last ++ rest) =
    ap (λ (n : ℕ). trace_lines_of n one ++ rest) at ∙ (ap (λ (z : List ℕ). z ++ rest) (trace_is strand one end.ending end.is) ∙ append_assoc (lines_from lines 0 one.items) last rest) in
    let none = none_open config image s i l o c open_is f in
    let both : lines_from lines 0 i ++ x ≡ lines_from lines 0 one.items ++ (last ++ rest) = ap (items_of_next s i) (sym (tail_none l o c x none)) ∙ (g.rest_is ∙ reads) in
    elim (compared lines (ItemAt config.ram) (items_cut config.ram strand (small_ram config f.limits)) 0 i one.items x (last ++ rest) (each_all (IsGoodItem config.ram) 0 i f.items_are)
    (each_all (IsGoodItem config.ram) 0 one.items g.good.items) both) [
      | Same same r ↦ record {
        kind = line.End strand;
        follows = (open_is, refl);
        other = refl;
        text = last;
        more = rest;
        good = (end.ending, one.units, one.pc, end.good, g.good.units, g.good.pc, refl);
        rest_is = r;
      }
      | Longer n ↦ item_next config image s i one.items l o c x (last ++ rest) open_is n
      | Shorter n ↦ absurd (
          let first = sym (end_first strand end.ending one.units one.pc rest) ∙ (ap (λ (z : List ℕ). get_or z 0 0) n.rest_is ∙ item_first strand n.number n.one _) in
          omega (arith, first)
          )
    ]

-- where another has a strand more, this one is left
left_open : (config : Config) (image : Image) (s t : List Trace) (j : List Item) (m : List Commit) (p : List Place) (d x y : List ℕ) → IsInRange (report_of config image t m p d) j
    → GoesOn trace_lines_of (TraceAt config.ram) 0 s t x y → IsOpen config s
left_open config image s t j m p d x y g n = (
    let longer = ap (λ (ts : List Trace). length ts) n.all_is ∙ length-append s (n.one ∷ n.more) in
    elim g.turn [
      | inl a ↦ omega (arith, longer, a.0)
      | inr a ↦ omega (arith, longer, a.0)
    ]
    )

pub traces_part : (config : Config) (image : Image) (s t : List Trace) (i j : List Item) (l m : List Commit) (o p : List Place) (c d x y : List ℕ)
    → IsInRange (report_of config image s l o c) i → IsInRange (report_of config image t m p d) j
    → lines_from trace_lines_of 0 s ++ items_of_next s i (tail_of l o c x) ≡ lines_from trace_lines_of 0 t ++ items_of_next t j (tail_of m p d y)
    → Parted (so_far config image s i l o c) (so_far config image t j m p d) x y
traces_part config image s t i j l m o p c d x y f g e =
    by (compared trace_lines_of (TraceAt config.ram) (traces_cut config.ram (small_ram config f.limits)) 0 s t left right (each_all (IsGoodTrace config.ram) 0 s f.traces) (each_all (IsGoodTrace config.ram) 0 t g.traces) e)
  where
    left : List ℕ
    left = items_of_next s i (tail_of l o c x)

    right : List ℕ
    right = items_of_next t j (tail_of m p d y)

    by : ListsCompared trace_lines_of (TraceAt config.ram) 0 s t left right → Parted (so_far config image s i l o c) (so_far config image t j m p d) x y
    by (Same same rest) =
        subst (λ (u : List Trace). IsInRange (report_of config image u m p d) j → left ≡ items_of_next u j (tail_of m p d y) → Parted (so_far config image s i l o c) (so_far config image u j m p d) x y) same
        (λ h r. items_part config image s i j l m o p c d x y f h r) g rest
    by (Longer n) = FirstGoes (trace_next config image s t i l o c x right (left_open config image s t j m p d left right g n) f n)
    by (Shorter n) = OtherGoes (trace_next config image t s j m p d y left (left_open config image t s i l o c right left f n) g n)
