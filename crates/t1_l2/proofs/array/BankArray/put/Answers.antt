use Rattle.std.proofs.Common.{◌≡◌, ◌∙◌, ◌*◌, ◌%◌, ◌<◌, ℕ, List, [], Option, None, get_or, set, ap, sym, subst, arith}
use Rattle.std.proofs.lemmas.List.{get_or_read}
use Rattle.t1_num.specs.Memory.{with_number_at}
use Rattle.t1_shape.specs.Numbers.{l2_ways}
use Rattle.t1_l2.specs.Array.{ArrayState, written_at}
use Rattle.t1_l2.proofs.View.{view, put_view}
use Rattle.t1_l2.proofs.array.BankArray.put.Goals as goal

pub returns-in-Some : goal.returns-in-Some
returns-in-Some c =
    let i = c.self.inside in
    let tags : i.tags.items ≡ c.args.self.now.tags = ap (λ (a : ArrayState). a.tags) c.self.view_is in
    let at = c.in-Some.ensures.at in
    let low : c.in-Some.slot < l2_ways i.chip * i.sets = subst (λ (a : ArrayState). c.in-Some.slot < l2_ways a.shape * a.sets) (sym c.self.view_is) at.1 in
    let read : c.index_mut.result.now ≡ get_or i.lines.items c.in-Some.slot [] =
    get_or_read i.lines.items c.in-Some.slot c.index_mut.result.now (let f = c.self.invariant.full in omega (arith, low, f)) c.index_mut.ensures.value [] in
    ap (λ (l : List ℕ). view i.chip i.bank i.sets i.tags.items i.pointers.items (set i.lines.items c.in-Some.slot l) i.ram.items)
    (c.put_be.ensures ∙ ap (λ (l : List ℕ). with_number_at l (c.args.addr % 64) c.args.size c.args.value) read)
    ∙ (put_view i.chip i.bank i.sets i.tags.items i.pointers.items i.lines.items i.ram.items c.self.invariant.l2 c.self.invariant.full c.in-Some.slot c.args.addr c.args.size c.args.value low
    (ap (λ (ts : List (Option ℕ)). get_or ts c.in-Some.slot None) tags ∙ at.0)
    ∙ ap (λ (a : ArrayState). written_at a c.args.addr c.args.size c.args.value) c.self.view_is)
