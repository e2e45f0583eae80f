use Rattle.std.proofs.Common.{◌≡◌, ◌∙◌, ◌+◌, ◌*◌, ◌∷◌, [], List, length, nat_lt, Some, true, get_or, ℕ, sym, ap, arith}
use Rattle.std.proofs.lemmas.List.{get_or_read}
use Rattle.t1_packet.specs.declared.served.Served.{Served}
use Rattle.t1_packet.specs.Data.{RequestData}
use Rattle.t1_machine.specs.Machine.{ring_of, asker_from, most_served}
use Rattle.t1_machine.proofs.Steps.{serve_wakes}
use Rattle.t1_machine.proofs.machine.Machine.serve.Goals as goal

pub returns-clause-woken : goal.returns-clause-woken
returns-clause-woken c =
    let i = c.self.invariant.0 in
    let served = get_or_read c.self.inside.served.items _ _ (omega (arith, i.all_served, c.requires)) c.index-ring.ensures [] in
    let room : nat_lt (length (get_or c.self.inside.served.items c.args.number [])) most_served ≡ true =
    ap (λ (ring : List Served). nat_lt (length ring) most_served) (sym served) ∙ (sym c.has_room.ensures ∙ c.if-not-has_room.false) in
    let tried = get_or_read c.self.inside.tried.items _ _ (omega (arith, i.all_tried, c.requires)) c.index.ensures 0 in
    let long : length c.self.inside.cores.items ≡ c.len-cores.result = omega (arith, c.len-cores.ensures) in
    let asker : asker_from c.self.inside.requests.items (length c.self.inside.cores.items) c.args.number (get_or c.self.inside.tried.items c.args.number 0) (length c.self.inside.cores.items) ≡ Some c.in-Some.asker =
    ap (λ (cores : ℕ). asker_from c.self.inside.requests.items cores c.args.number (get_or c.self.inside.tried.items c.args.number 0) cores) long
    ∙ (ap (λ (from : ℕ). asker_from c.self.inside.requests.items c.len-cores.result c.args.number from c.len-cores.result) (sym tried)
    ∙ (ap (λ (rings : List (List RequestData)). asker_from rings c.len-cores.result c.args.number c.index.result.now c.len-cores.result) (sym c.deref.ensures.value)
    ∙ sym c.in-Some.ensures.asker)) in
    let ring = get_or_read c.self.inside.requests.items _ _ (omega (arith, i.all_requests, c.requires, c.in-Some.ensures.within, c.len-cores.ensures)) c.index_mut-ring.ensures.value [] in
    serve_wakes _ _ c.self.view_is c.args.number c.in-Some.asker c.core_after.result c.in-Some-pop.request c.pop.new.self c.push.new.self c.serve_at-served.new.banks.items
    (omega (arith, c.in-Some.ensures.within, c.len-cores.ensures, i.few)) c.requires room asker (sym ring ∙ c.in-Some-pop.ensures.some)
