use Rattle.std.proofs.Common.{◌≡◌, ◌∙◌, [], drop, length, sym, subst, arith, rules}
use Rattle.std.proofs.Math.ListN.{length-set}
use Rattle.std.proofs.lemmas.List.{get_or_read}
use Rattle.t1_machine.specs.Machine.{MachineState, HasSpare, reply_rooms}
use Rattle.t1_machine.proofs.Posts.{admitted_fits, admission_cores}
use Rattle.t1_machine.proofs.Steps.{admit_wakes}
use Rattle.t1_machine.proofs.machine.Machine.admit.Goals as goal

pub admit-requires : goal.admit-requires
admit-requires c =
    let v : MachineState = record {
      chip = c.self.inside.chip;
      cores = c.self.inside.cores.items;
      requests = c.self.inside.requests.items;
      served = c.self.inside.served.items;
      replies = c.self.inside.replies.items;
      banks = c.self.inside.banks.items;
      tried = c.self.inside.tried.items;
      xbar = c.self.inside.xbar;
    } in
    let spare : HasSpare v = subst (λ (m : MachineState). HasSpare m) (sym c.self.view_is) c.requires.spare in
    let five : length v.served ≡ 9 = c.self.invariant.0.all_served in
    let read = get_or_read v.served _ _ (omega (arith, five, c.requires.dest)) c.index-ring.ensures [] in
    record { spare = spare c.args.number c.in-Some.served.now (drop 1 c.index-ring.result.now) (sym read ∙ c.in-Some.ensures.some) }

pub push_posts-cores-requires-clause-fit : goal.push_posts-cores-requires-clause-fit
push_posts-cores-requires-clause-fit c =
    let cores = c.self.invariant.1 in
    let all = c.self.invariant.0.all_replies in
    let rooms : c.reply_rooms-rooms.result ≡ reply_rooms c.self.inside.replies.items = search rules in
    let answer = sym c.in-Done.ensures.answer in
    admitted_fits c.self.inside.xbar c.args.number c.in-Some.served.now c.self.inside.replies.items c.in-Done.index c.in-Done.posts (cores ∙ sym all) (rw (← rooms) answer)

pub invariant_of-self : goal.invariant_of-self
invariant_of-self c =
    let i = c.self.invariant in
    let h = i.0 in
    let served = length-set c.self.inside.served.items c.args.number c.pop.new.self in (
      record {
        some = h.some;
        few = h.few;
        all_requests = h.all_requests;
        all_served = served ∙ h.all_served;
        all_replies = c.push_posts-cores.ensures.len ∙ h.all_replies;
        all_banks = h.all_banks;
        all_tried = h.all_tried;
      },
      admission_cores c.self.inside.xbar c.args.number c.in-Some.served.now c.reply_rooms-rooms.result _ c.admit.ensures.xbar ∙ i.1,
      i.2,
    )

pub returns-in-Done-clause-woken : goal.returns-in-Done-clause-woken
returns-in-Done-clause-woken c =
    admit_wakes _ _ c.self.view_is c.args.number c.push_posts-cores.result c.pop.new.self c.push_posts-cores.new.replies.items c.admit.new.self c.requires.dest c.push_posts-cores.ensures.others
