-- The end of a core's run.
use Rattle.std.proofs.Common.{◌≡◌, ◌<◌, ℕ, zero, suc, true, false, List, [], ◌∷◌, length, map, Option, Some, None, refl, ap, sym, ◌∙◌, subst, inl, inr, arith}
use Rattle.std.specs.List.{slice_get}
use Rattle.std.proofs.lemmas.Bool.{and_parts}
use Rattle.std.proofs.lemmas.Option.{slice_get_within}
use Rattle.t1_state.specs.declared.strand.Strand.{Strand}
use Rattle.t1_sbuf.specs.declared.entry.Entry.{Entry}
use Rattle.t1_event.specs.declared.trace.Ending.{Ending}
use Rattle.t1_event.specs.declared.trace.Trace.{Trace}
use Rattle.t1_joint.specs.Lists.{IsIn}
use Rattle.t1_joint.specs.Start.{Setup}
use Rattle.t1_joint.specs.Parts.{Standing, Fetching, Has, Ended}
use Rattle.t1_joint.specs.Fit.{HasEnded}
use Rattle.t1_core.specs.declared.phase.Phase.{Phase}
use Rattle.t1_core.specs.declared.phase.Phase.TheVariants as phase
use Rattle.t1_core.specs.Threads.{ThreadState}
use Rattle.t1_core.specs.Ends.{ending_of, is_over_in, is_over, all_over, finished_of, trace_of}
use Rattle.t1_core_rule.specs.Histories.{History}
use Rattle.t1_core_rule.specs.Outs.{numbers_of}
use Rattle.t1_core_rule.specs.Parts.{standing_of, standing_at, waiting_at, part_of}
use Rattle.t1_core_rule.specs.Steady.{IsSteady}
use Rattle.t1_core_rule.specs.Laws.{history_of}
use Rattle.t1_core_rule.proofs.Walks.{history_steady}
use Rattle.t1_core_idle.specs.Laws.{FinishedCoresHaveEnded, FinishedTracesHaveEndings}
use Rattle.t1_core_idle.proofs.Acts.{has_strand}

-- ---- one strand

record HasOver (s : Standing) (waiting : List ℕ) : Type 0 where
  ending : Ending
  is : s ≡ Ended ending
  empty : waiting ≡ []

over_in : (core strand ram k : ℕ) (s : Strand) (p : Phase) (es : List Entry) → is_over_in p es ≡ true → HasOver (standing_of core strand ram s k p) (numbers_of es)
over_in core strand ram k s (phase.Ended e) [] o = record { ending = e; is = refl; empty = refl }
over_in core strand ram k s (phase.Ended e) (d ∷ ds) o = let clash : false ≡ true = o in cc
over_in core strand ram k s phase.Fetch es o = let clash : false ≡ true = o in cc
over_in core strand ram k s (phase.Have word) es o = let clash : false ≡ true = o in cc
over_in core strand ram k s (phase.OutFetch way seen) es o = let clash : false ≡ true = o in cc
over_in core strand ram k s (phase.OutData word way seen) es o = let clash : false ≡ true = o in cc

in_over : (core strand ram k : ℕ) (s : Strand) (p : Phase) (es : List Entry) (e : Ending) → standing_of core strand ram s k p ≡ Ended e → numbers_of es ≡ [] → is_over_in p es ≡ true
in_over core strand ram k s (phase.Ended f) [] e is none = refl
in_over core strand ram k s (phase.Ended f) (d ∷ ds) e is none = let clash : ◌≡◌ {A = List ℕ} (d.item ∷ numbers_of ds) [] = none in cc
in_over core strand ram k s phase.Fetch es e is none = let clash : Fetching ≡ Ended e = is in cc
in_over core strand ram k s (phase.Have word) es e is none = let clash : Has word ≡ Ended e = is in cc
in_over core strand ram k s (phase.OutFetch way seen) es e is none = cc
in_over core strand ram k s (phase.OutData word way seen) es e is none = cc

has_ending : (p : Phase) (es : List Entry) → is_over_in p es ≡ true → (e : Ending) × (ending_of p ≡ Some e)
has_ending (phase.Ended e) es o = (e, refl)
has_ending phase.Fetch es o = let clash : false ≡ true = o in cc
has_ending (phase.Have word) es o = let clash : false ≡ true = o in cc
has_ending (phase.OutFetch way seen) es o = let clash : false ≡ true = o in cc
has_ending (phase.OutData word way seen) es o = let clash : false ≡ true = o in cc

-- ---- all strands

one_over : (ts : List ThreadState) (i : ℕ) (t : ThreadState) → all_over ts ≡ true → slice_get ts i ≡ Some t → is_over t ≡ true
one_over [] i t o e = let clash : ◌≡◌ {A = Option ThreadState} None (Some t) = e in cc
one_over (u ∷ ts) zero t o e =
    let same : u ≡ t = cc (e) in
    subst (λ (v : ThreadState). is_over v ≡ true) same (and_parts (is_over u) (all_over ts) o).0
one_over (u ∷ ts) (suc i) t o e = one_over ts i t (and_parts (is_over u) (all_over ts) o).1 e

each_over : (ts : List ThreadState) → ((i : ℕ) (t : ThreadState) → slice_get ts i ≡ Some t → is_over t ≡ true) → all_over ts ≡ true
each_over [] f = refl
each_over (t ∷ ts) f = rw (f 0 t refl, each_over ts (λ i u e. f (suc i) u e)) refl

traces_end : (ts : List ThreadState) (trace : Trace) → all_over ts ≡ true → IsIn trace (map trace_of ts) → (e : Ending) × (trace.ending ≡ Some e)
traces_end [] trace o g = absurd g
traces_end (t ∷ ts) trace o (inl same) =
    let e = has_ending t.phase t.stores (and_parts (is_over t) (all_over ts) o).0 in
    (e.0, ap (λ (v : Trace). v.ending) same ∙ e.1)
traces_end (t ∷ ts) trace o (inr g) = traces_end ts trace (and_parts (is_over t) (all_over ts) o).1 g

module _ (w : Setup) (core : ℕ) (h : History) (s : IsSteady w core h) where
  abbrev threads : List ThreadState
  threads = h.core.threads

  -- each strand of a finished core has ended, with an empty buffer
  pub strand_ended : (strand : ℕ) → finished_of h.core ≡ true → strand < w.config.strands → HasEnded (part_of w.config.chip h) strand
  strand_ended strand o l =
      let size = s.size in
      let t = has_strand threads strand (omega (arith, size, l)) in
      let over = over_in h.core.number strand h.core.ram (length t.0.items) t.0.strand t.0.phase t.0.stores (one_over threads strand t.0 o t.1) in
      record {
        ending = over.ending;
        is = ap (λ (v : Option ThreadState). standing_at h.core.number strand h.core.ram v) t.1 ∙ over.is;
        empty = ap (λ (v : Option ThreadState). waiting_at v) t.1 ∙ over.empty;
      }

  -- and a core of which each strand has is finished
  pub core_finished : ((strand : ℕ) → strand < w.config.strands → HasEnded (part_of w.config.chip h) strand) → finished_of h.core ≡ true
  core_finished f =
      each_over threads (λ i t e.
      let size = s.size in
      let low = slice_get_within threads i t e in
      let q = f i (omega (arith, size, low)) in
      in_over h.core.number i h.core.ram (length t.items) t.strand t.phase t.stores q.ending
      (sym (ap (λ (v : Option ThreadState). standing_at h.core.number i h.core.ram v) e) ∙ q.is) (sym (ap (λ (v : Option ThreadState). waiting_at v) e) ∙ q.empty))

pub finished_cores_have_ended : FinishedCoresHaveEnded
finished_cores_have_ended w core calls whole =
    let s = history_steady w core calls whole in
    let h : History = history_of w core calls in
    ((λ o strand l. strand_ended w core h s strand o l), λ f. core_finished w core h s f)

pub finished_traces_have_endings : FinishedTracesHaveEndings
finished_traces_have_endings w core calls trace o g = traces_end (history_of w core calls).core.threads trace o g
