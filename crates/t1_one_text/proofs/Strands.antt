-- The lines of strands are cut in one way.
use Rattle.std.proofs.Common.{◌≡◌, ℕ, ◌^◌, ◌<◌, ◌≤◌, List, ◌++◌, drop, codes, decimal, Some, refl, sym, ap, ◌∙◌, append_assoc, arith}
use Rattle.t1_event.specs.declared.item.Item.{Item}
use Rattle.t1_event.specs.declared.trace.Ending.{Ending}
use Rattle.t1_event.specs.declared.trace.Ending.TheVariants.{Halted, Fault, Spent}
use Rattle.t1_event.specs.declared.trace.Trace.{Trace}
use Rattle.t1_log.specs.Hex.{hex_of}
use Rattle.t1_log.specs.Lines.{ending_fields_of, ending_line_of}
use Rattle.t1_log.specs.Log.{item_line_of, trace_lines_of}
use Rattle.t1_log.specs.Texts.{lines_from}
use Rattle.t1_read.specs.Exact.{NextIsNot}
use Rattle.t1_take.specs.Items.{IsGoodItem, IsGoodEnd, IsGoodTrace}
use Rattle.t1_take.proofs.Leaving.{item_first}
use Rattle.t1_read.proofs.StrandsFound.{has_ended, trace_is, end_next}
use Rattle.t1_one_text.proofs.Fields.{letter, past, number_cut, hex_cut, digits_cut}
use Rattle.t1_one_text.proofs.Lists.{Cuts, each_all, lists_cut}
use Rattle.t1_one_text.proofs.Items.{items_cut}

-- ---- ends

pub record SameEnd (f g : Ending) (u v p q : ℕ) (x y : List ℕ) : Type 0 where
  pub ending : f ≡ g
  pub units : u ≡ v
  pub pc : p ≡ q
  pub rest : x ≡ y

-- units and a PC, behind a word that both have
counted : (f g : Ending) (u v p q : ℕ) (x y : List ℕ) → f ≡ g → u < 2 ^ 32 → v < 2 ^ 32 → p < 2 ^ 64 → q < 2 ^ 64
    → (decimal u ++ (codes " " ++ hex_of 16 p)) ++ x ≡ (decimal v ++ (codes " " ++ hex_of 16 q)) ++ y → SameEnd f g u v p q x y
counted f g u v p q x y same l k m n e =
    let units = number_cut u v (codes " " ++ hex_of 16 p) (codes " " ++ hex_of 16 q) x y (omega (arith, l)) (omega (arith, k)) refl refl e in
    let pc = hex_cut 16 p q x y m n (ap (drop 1) units.1) in
    record { ending = same; units = units.0; pc = pc.0; rest = pc.1 }

ends_cut : (f g : Ending) (u v p q : ℕ) (x y : List ℕ) → IsGoodEnd (Some f) → IsGoodEnd (Some g) → u < 2 ^ 32 → v < 2 ^ 32 → p < 2 ^ 64 → q < 2 ^ 64
    → ending_fields_of f u p ++ x ≡ ending_fields_of g v q ++ y → SameEnd f g u v p q x y
unfolding ending_fields_of
ends_cut Halted Halted u v p q x y a b l k m n e = counted Halted Halted u v p q x y refl l k m n (ap (drop 7) e)
ends_cut Spent Spent u v p q x y a b l k m n e = counted Spent Spent u v p q x y refl l k m n (ap (drop 6) e)
ends_cut (Fault i) (Fault j) u v p q x y a b l k m n e =
    let units = number_cut u v (codes " " ++ (hex_of 16 p ++ (codes " " ++ hex_of 3 i))) (codes " " ++ (hex_of 16 q ++ (codes " " ++ hex_of 3 j))) x y (omega (arith, l)) (omega (arith, k)) refl refl (ap (drop 6) e) in
    let pc = digits_cut 16 p q (codes " " ++ hex_of 3 i) (codes " " ++ hex_of 3 j) x y m n (ap (drop 1) units.1) in
    let number = hex_cut 3 i j x y (omega (arith, a)) (omega (arith, b)) (ap (drop 1) pc.1) in
    record { ending = ap Fault number.0; units = units.0; pc = pc.0; rest = number.1 }
ends_cut Halted Spent u v p q x y a b l k m n e = absurd (let c : 104 ≡ 115 = letter 0 e in omega (arith, c))
ends_cut Halted (Fault j) u v p q x y a b l k m n e = absurd (let c : 104 ≡ 102 = letter 0 e in omega (arith, c))
ends_cut Spent Halted u v p q x y a b l k m n e = absurd (let c : 115 ≡ 104 = letter 0 e in omega (arith, c))
ends_cut Spent (Fault j) u v p q x y a b l k m n e = absurd (let c : 115 ≡ 102 = letter 0 e in omega (arith, c))
ends_cut (Fault i) Halted u v p q x y a b l k m n e = absurd (let c : 102 ≡ 104 = letter 0 e in omega (arith, c))
ends_cut (Fault i) Spent u v p q x y a b l k m n e = absurd (let c : 102 ≡ 115 = letter 0 e in omega (arith, c))

ending_cut : (strand : ℕ) (f g : Ending) (u v p q : ℕ) (x y : List ℕ) → IsGoodEnd (Some f) → IsGoodEnd (Some g) → u < 2 ^ 32 → v < 2 ^ 32 → p < 2 ^ 64 → q < 2 ^ 64
    → ending_line_of strand f u p ++ x ≡ ending_line_of strand g v q ++ y → SameEnd f g u v p q x y
unfolding ending_line_of
ending_cut strand f g u v p q x y a b l k m n e =
    let fields = past (decimal strand) (codes " " ++ (ending_fields_of f u p ++ codes "\n")) (codes " " ++ (ending_fields_of g v q ++ codes "\n")) x y (ap (drop 2) e) in
    let end = ends_cut f g u v p q (codes "\n" ++ x) (codes "\n" ++ y) a b l k m n
    (sym (append_assoc (ending_fields_of f u p) (codes "\n") x) ∙ (ap (drop 1) fields ∙ append_assoc (ending_fields_of g v q) (codes "\n") y)) in
    record { ending = end.ending; units = end.units; pc = end.pc; rest = ap (drop 1) end.rest }

-- ---- strands

pub traces_cut : (ram : ℕ) → ram ≤ 2 ^ 40 → Cuts trace_lines_of (λ (k : ℕ) (trace : Trace). IsGoodTrace ram trace)
traces_cut ram small strand a b x y f g e =
    let fa = has_ended a.ending f.ended in
    let gb = has_ended b.ending g.ended in
    let left : List ℕ = ending_line_of strand fa.ending a.units a.pc in
    let right : List ℕ = ending_line_of strand gb.ending b.units b.pc in
    let line : ℕ → Item → List ℕ = item_line_of strand in
    let parts : (lines_from line 0 a.items ++ left) ++ x ≡ (lines_from line 0 b.items ++ right) ++ y =
    sym (ap (λ (t : List ℕ). t ++ x) (trace_is strand a fa.ending fa.is)) ∙ (e ∙ ap (λ (t : List ℕ). t ++ y) (trace_is strand b gb.ending gb.is)) in
    let items = lists_cut line (λ (k : ℕ) (item : Item). IsGoodItem ram item) (NextIsNot 105) (items_cut ram strand small) (λ n item r s. s.other (item_first strand n item r)) 0 a.items b.items (left ++ x) (right ++ y)
    (each_all (IsGoodItem ram) 0 a.items f.items) (each_all (IsGoodItem ram) 0 b.items g.items) (end_next strand fa.ending a.units a.pc x) (end_next strand gb.ending b.units b.pc y)
    (sym (append_assoc (lines_from line 0 a.items) left x) ∙ (parts ∙ append_assoc (lines_from line 0 b.items) right y)) in
    let end = ending_cut strand fa.ending gb.ending a.units b.units a.pc b.pc x y fa.good gb.good f.units g.units f.pc g.pc items.1 in
    let ending : a.ending ≡ b.ending = fa.is ∙ (ap (λ (o : Ending). Some o) end.ending ∙ sym gb.is) in
    (λ i. record { items = items.0 i; units = end.units i; pc = end.pc i; ending = ending i }, end.rest)
