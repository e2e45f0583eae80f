-- Parts that fit, with every strand ended and every buffer empty, are a joint history.
use Rattle.std.proofs.Common.{◌≡◌, ℕ, ◌+◌, ◌*◌, ◌/◌, ◌%◌, ◌<◌, if◌then◌else◌, List, [], ◌∷◌, ◌++◌, map, Some, refl, ap, sym, ◌∙◌, subst, arith}
use Rattle.std.specs.List.{slice_get}
use Rattle.t1_event.specs.declared.item.Item.{Item}
use Rattle.t1_event.specs.declared.trace.Trace.{Trace}
use Rattle.t1_event.specs.Kinds.{is_read, IsAccess}
use Rattle.t1_joint.specs.JointHistory.{IsJointHistory}
use Rattle.std.proofs.lemmas.Option.{slice_get_within}
use Rattle.std.proofs.lemmas.Nat.{div-add-mod', mod_below}
use Rattle.t1_joint.specs.Start.{Setup, start_in, bounds_in}
use Rattle.t1_joint.specs.Parts.{Standing, Ended, Parts}
use Rattle.t1_joint.specs.CoreRule.{IsReplay, IsTraceSoFar}
use Rattle.t1_joint.specs.Fit.{Fit, AreOver, traces_of}
use Rattle.t1_joint.specs.JointHistory.{IsSetup, Table}
use Rattle.t1_state.specs.declared.strand.Strand.{Strand}
use Rattle.t1_event.specs.declared.trace.Ending.{Ending}
use Rattle.t1_event.specs.Items.{reads_of, unplaced}
use Rattle.t1_joint.specs.Replay.{Bounds, Replay, Done, units, started}
use Rattle.t1_joint.specs.Follows.{Follows, IsTraceOf}
use Rattle.t1_joint.specs.CoreRule.{ending_at}
use Rattle.t1_tso.proofs.Order.{same_item}
use Rattle.t1_tso.proofs.Histories.{history_obeys_tso}
use Rattle.t1_fit.specs.Laws.{FittingPartsAreAJointHistory, FittingPartsHaveProperPackets, FittingPartsObeyTso}
use Rattle.t1_fit.proofs.Joins.{kept, proper_of}
use Rattle.t1_fit.proofs.Flat.{length_flat, flat_get, core_in}
use Rattle.t1_fit.proofs.Behind.{sizes, seen_before, times_at, record_of_item, by_bank, by_bridge, filled_rightly}
use Rattle.t1_fit.proofs.Ends.{ascends, naming, program, placed_rightly}

-- the reads of items are those of the items without their places
reads_unplaced : (xs : List Item) → reads_of (map unplaced xs) ≡ reads_of xs
unfolding reads_of
reads_unplaced [] = refl
reads_unplaced (x ∷ xs) = ap (λ (l : List ℕ). (if is_read x.kind then x.got ∷ [] else []) ++ l) (reads_unplaced xs)

-- a strand that has ended followed the table
ended_follows : (b : Bounds) (from state : Strand) (trace : Trace) (standing : Standing) (ending : Ending) → IsTraceSoFar b from state trace standing → standing ≡ Ended ending
    → Follows b from trace × (trace.ending ≡ Some ending)
ended_follows b from state trace standing ending so_far e =
    let stands : IsReplay b from state (map unplaced trace.items) (Ended ending) = subst (λ (v : Standing). IsReplay b from state (map unplaced trace.items) v) e so_far.replay in
    let end : ending_at (Ended ending) ≡ trace.ending = ap ending_at (sym e) ∙ so_far.ending in
    let came : units b stands.count (started from (reads_of trace.items)) ≡ record { strand = state; items = map unplaced trace.items; reads = []; end = Done ending } =
    ap (λ (l : List ℕ). units b stands.count (started from l)) (sym (reads_unplaced trace.items)) ∙ stands.is in
    let here : IsTraceOf trace (record { strand = state; items = map unplaced trace.items; reads = []; end = Done ending }) =
    record { stopped = tt; items = refl; units = so_far.units; pc = so_far.pc; ending = end; used = refl } in
    (record { count = stands.count; is = subst (λ (r : Replay). IsTraceOf trace r) (sym came) here }, sym end)

module _ (w : Setup) (setup : IsSetup w) (p : Parts) (f : Fit w p) (over : AreOver w p) where
  table : Table w (traces_of w p)
  table g trace is =
      let strands : ℕ = w.config.strands in
      let c : ℕ = g / strands in
      let s : ℕ = g % strands in
      let some : 0 < strands = setup.strands.0 in
      let size = length_flat p.core w.config.cores strands some (sizes w setup p f) in
      let below : g < w.config.cores * strands = (let l = slice_get_within (traces_of w p) g trace is in omega (arith, l, size)) in
      let lc : c < w.config.cores = core_in p.core w.config.cores strands some (sizes w setup p f) g below in
      let ls : s < strands = mod_below g strands some in
      let split : c * strands + s ≡ g = div-add-mod' g strands in
      let here : slice_get (p.core c).traces s ≡ Some trace =
      sym (flat_get p.core w.config.cores strands some (sizes w setup p f) c s lc ls) ∙ (ap (λ (k : ℕ). slice_get (traces_of w p) k) split ∙ is) in
      let ended = over c s lc ls in
      let so_far = (kept w setup p f c lc).follows s trace here in
      let r = ended_follows (bounds_in w.config) (start_in w.config w.image.entry (c * strands + s)) ((p.core c).state s) trace ((p.core c).standing s) ended.ending so_far ended.is in
      record {
        follows = subst (λ (k : ℕ). Follows (bounds_in w.config) (start_in w.config w.image.entry k) trace) split r.0;
        ending = ended.ending;
        ended = r.1;
      }

  pub history : IsJointHistory w (traces_of w p) p.crossbar.log
  history = record {
    setup = setup;
    all_strands = length_flat p.core w.config.cores w.config.strands setup.strands.0 (sizes w setup p f);
    naming = naming w setup p f over;
    times = record { at = λ x access. times_at w setup p f x; seen = seen_before w setup p f; ascends = ascends w setup p f };
    program = program w setup p f over;
    places = record { rightly = placed_rightly w setup p f over; filled = filled_rightly w setup p f };
    banks = record {
      record_is = λ n c x is nm.
          let y = (naming w setup p f over).names n c is in
          let same : y.0.item ≡ x.item = same_item y.0 x (sym y.2.strand ∙ nm.strand) (sym y.2.item ∙ nm.item) in
          record_of_item w setup p f n c x is nm (subst (λ (v : Item). IsAccess v.kind) same y.1);
      bank = by_bank w setup p f;
      bridge = by_bridge w setup p f;
    };
    table = table;
  }

pub fitting_parts_are_history : FittingPartsAreAJointHistory
fitting_parts_are_history w p setup f over = history w setup p f over

pub packets_are_proper : FittingPartsHaveProperPackets
packets_are_proper w p setup f c = proper_of w setup p f c

pub fitting_parts_tso : FittingPartsObeyTso
fitting_parts_tso w p order setup f over o = history_obeys_tso w (traces_of w p) p.crossbar.log order (history w setup p f over) o
