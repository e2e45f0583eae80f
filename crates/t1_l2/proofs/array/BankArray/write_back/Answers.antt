use Rattle.std.proofs.Common.{◌≡◌, ◌∙◌, ◌*◌, ◌<◌, ℕ, List, [], Some, None, get_or, set, length, ap, sym, subst, arith}
use Rattle.std.proofs.lemmas.List.{get_or_read}
use Rattle.t1_shape.specs.Numbers.{l2_ways, place_in_bank}
use Rattle.t1_l2.specs.Array.{ArrayState, place_of}
use Rattle.t1_l2.specs.Overlay.{IsL2}
use Rattle.t1_l2.proofs.Kept.{emptied}
use Rattle.std.proofs.lemmas.List.{length-set}
use Rattle.t1_l2.proofs.View.{view, back_view}
use Rattle.t1_l2.proofs.array.BankArray.write_back.Goals as goal

pub returns-clause-new : goal.returns-clause-new
returns-clause-new c =
    let i = c.self.inside in
    let low : c.args.slot < l2_ways i.chip * i.sets = subst (λ (a : ArrayState). c.args.slot < l2_ways a.shape * a.sets) (sym c.self.view_is) c.requires in
    let tag : get_or i.tags.items c.args.slot None ≡ Some c.in-Some.line =
    sym (get_or_read i.tags.items c.args.slot c.index.result.now (let f = c.self.invariant.l2.size in omega (arith, low, f)) c.index.ensures None) ∙ c.in-Some.is in
    let read : c.index-2.result.now ≡ get_or i.lines.items c.args.slot [] =
    get_or_read i.lines.items c.args.slot c.index-2.result.now (let f = c.self.invariant.full in omega (arith, low, f)) c.index-2.ensures [] in
    let place : c.place_of-place.result ≡ place_in_bank i.chip c.in-Some.line = c.place_of-place.ensures ∙ sym (ap (λ (a : ArrayState). place_of a c.in-Some.line) c.self.view_is) in
    let after : ℕ → List ℕ → ArrayState = λ n l. view i.chip i.bank i.sets (set i.tags.items c.args.slot None) i.pointers.items i.lines.items (set i.ram.items n l) in
    ap (λ (n : ℕ). after n c.index-2.result.now) place
    ∙ (ap (λ (l : List ℕ). after (place_in_bank i.chip c.in-Some.line) l) read
    ∙ (back_view i.chip i.bank i.sets i.tags.items i.pointers.items i.lines.items i.ram.items c.self.invariant.l2 c.self.invariant.full c.args.slot c.in-Some.line low tag
    ∙ ap (λ (a : ArrayState). record a { tags = set a.tags c.args.slot None }) c.self.view_is))

pub invariant_of-self : goal.invariant_of-self
invariant_of-self c =
    let i = c.self.inside in
    let same : length (set i.ram.items c.place_of-place.result c.index-2.result.now) ≡ length i.ram.items = length-set i.ram.items c.place_of-place.result c.index-2.result.now in
    record {
      l2 = subst (λ (n : ℕ). IsL2 i.chip i.bank i.sets n (set i.tags.items c.args.slot None) i.pointers.items) (sym same)
          (emptied i.chip i.bank i.sets (length i.ram.items) i.tags.items i.pointers.items c.self.invariant.l2 c.args.slot);
      full = c.self.invariant.full;
      first = c.self.invariant.first;
    }
