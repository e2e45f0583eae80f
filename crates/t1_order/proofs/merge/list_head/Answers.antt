use Rattle.std.proofs.Common.{◌+◌, get_or, refl, sym, ap, ◌∙◌, subst, arith}
use Rattle.t1_order.specs.declared.merge.Rest.{Rest}
use Rattle.t1_order.specs.Next.{IsNext, NoneBetween}
use Rattle.t1_order.proofs.Steps.{number_within, items_read, time_kept, same_time}
use Rattle.t1_order.proofs.merge.list_head.Goals as goal
use Rattle.t1_order.proofs.merge.list_head.Goals.{then-ne, else-ne}

pub next_from-number-requires : goal.next_from-number-requires
next_from-number-requires c =
    let items = items_read c.args.traces.now c.args.rest.now c.args.head c.index-traces-strand.result c.as_slice.result.now c.requires.rest c.requires.head c.as_slice.ensures in
    rw items (omega (arith, number_within c.args.rest.now c.args.head c.requires.rest c.requires.head))

pub overflow_cast-result : goal.overflow_cast-result
overflow_cast-result c =
    let within = number_within c.args.rest.now c.args.head c.requires.rest c.requires.head in
    let short = c.requires.short c.args.head.strand in
    omega (arith, within, short)

pub returns : goal.returns
returns c =
    let before = c.args.rest.now in
    let after = c.if-ne.rest in
    let head = c.args.head in
    let number = c.next_from-number.result.number in
    let time = c.next_from-number.result.time in
    let items = items_read c.args.traces.now before head c.index-traces-strand.result c.as_slice.result.now c.requires.rest c.requires.head c.as_slice.ensures in
    record {
      number = number;
      time = time;
      place_is = refl;
      numbers =
          elim c.if-ne.branch [ then-ne w ↦ ap (λ (r : Rest). r.numbers) w.rest-is | else-ne w ↦ ap (λ (r : Rest). r.numbers) w.rest-is ];
      times = elim c.if-ne.branch [
        | then-ne w ↦ ap (λ (r : Rest). r.times) w.rest-is ∙ w.put.ensures
        | else-ne w ↦
            ap (λ (r : Rest). r.times) w.rest-is
            ∙ time_kept before head time c.requires.head (same_time time head.time (sym c.ne.ensures ∙ w.if-ne.false))
      ];
      commits =
          elim c.if-ne.branch [ then-ne w ↦ ap (λ (r : Rest). r.commits) w.rest-is | else-ne w ↦ ap (λ (r : Rest). r.commits) w.rest-is ];
      above = let a = c.next_from-number.ensures.above in omega (arith, a);
      next = subst (λ xs. IsNext xs number time) items c.next_from-number.ensures.next;
      first = subst (λ xs. NoneBetween xs (get_or before.numbers head.strand 0 + 1) number) items c.next_from-number.ensures.first;
    }
