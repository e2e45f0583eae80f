-- Strands that stand in a text are read.
use Rattle.std.proofs.Common.{◌≡◌, ◌∙◌, ℕ, ◌<◌, ◌++◌, List, [], length, drop, get_or, Option, Some, None, refl, ap, arith}
use Rattle.t1_event.specs.declared.trace.Trace.{Trace}
use Rattle.t1_event.specs.declared.trace.Ending.{Ending}
use Rattle.t1_log.specs.Lines.{ending_line_of}
use Rattle.t1_log.specs.Texts.{lines_from}
use Rattle.t1_log.specs.Log.{item_line_of, trace_lines_of}
use Rattle.t1_take.specs.Items.{IsGoodEnd}
use Rattle.t1_take.proofs.Finding.{next}
use Rattle.t1_read.specs.Exact.{NextIsNot}

pub record IsEnded (o : Option Ending) : Type 0 where
  pub ending : Ending
  pub is : o ≡ Some ending
  pub good : IsGoodEnd (Some ending)

pub has_ended : (o : Option Ending) → IsGoodEnd o → IsEnded o
has_ended None g = absurd g
has_ended (Some ending) g = record { ending = ending; is = refl; good = g }

last_is : (strand : ℕ) (o : Option Ending) (units pc : ℕ) (ending : Ending) → o ≡ Some ending
    → (elim o [ None ↦ [] | Some e ↦ ending_line_of strand e units pc ]) ≡ ending_line_of strand ending units pc
last_is strand o units pc ending e = rw e refl

pub trace_is : (strand : ℕ) (trace : Trace) (ending : Ending) → trace.ending ≡ Some ending → trace_lines_of strand trace ≡ lines_from (item_line_of strand) 0 trace.items ++ ending_line_of strand ending trace.units trace.pc
unfolding trace_lines_of
trace_is strand trace ending e = ap (λ (t : List ℕ). lines_from (item_line_of strand) 0 trace.items ++ t) (last_is strand trace.ending trace.units trace.pc ending e)

pub end_next : (strand : ℕ) (ending : Ending) (units pc : ℕ) (rest : List ℕ) → NextIsNot 105 (ending_line_of strand ending units pc ++ rest)
unfolding ending_line_of
end_next strand ending units pc rest = record { some = omega arith; other = λ e. (let bad : 101 ≡ 105 = e in omega (arith, bad)) }

pub end_some : (strand : ℕ) (ending : Ending) (units pc : ℕ) → 0 < length (ending_line_of strand ending units pc)
unfolding ending_line_of
end_some strand ending units pc = omega arith

pub end_first : (strand : ℕ) (ending : Ending) (units pc : ℕ) (rest : List ℕ) → get_or (ending_line_of strand ending units pc ++ rest) 0 0 ≡ 101
unfolding ending_line_of
end_first strand ending units pc rest = refl

-- the lines of a strand: those of its items, and its end, which is no item's
pub record IsStrandNext (text : List ℕ) (at strand : ℕ) (trace : Trace) (rest : List ℕ) : Type 0 where
  pub end : IsEnded trace.ending
  pub reads : drop at text ≡ lines_from (item_line_of strand) 0 trace.items ++ (ending_line_of strand end.ending trace.units trace.pc ++ rest)
  pub after : NextIsNot 105 (ending_line_of strand end.ending trace.units trace.pc ++ rest)

pub strand_next : (text : List ℕ) (at strand : ℕ) (trace : Trace) (rest : List ℕ) → IsGoodEnd trace.ending → drop at text ≡ trace_lines_of strand trace ++ rest → IsStrandNext text at strand trace rest
strand_next text at strand trace rest good e =
    let end = has_ended trace.ending good in
    let last : List ℕ = ending_line_of strand end.ending trace.units trace.pc in
    record {
      end = end;
      reads = next (drop at text) (lines_from (item_line_of strand) 0 trace.items) last rest (e ∙ ap (λ (t : List ℕ). t ++ rest) (trace_is strand trace end.ending end.is));
      after = end_next strand end.ending trace.units trace.pc rest;
    }
