use Rattle.std.proofs.Common.{◌≡◌, ◌∙◌, ◌+◌, ◌%◌, ◌≤◌, sym, ap, subst, cond, max, suc, ℕ, length, arith}
use Rattle.std.proofs.lemmas.List.{length-map}
use Rattle.t1_event.specs.declared.item.Item.{Item}
use Rattle.t1_event.specs.declared.trace.Trace.{Trace}
use Rattle.t1_event.specs.Items.{items_of}
use Rattle.t1_check.specs.Latest.{at}
use Rattle.t1_check.specs.Positions.{item_in}
use Rattle.t1_check.specs.Sources.{writes_byte, OwnBelow}
use Rattle.t1_check.proofs.Peaks.{peak_more, peak_none}
use Rattle.t1_check.proofs.Reading.{sources_are, in_word, right_more}
use Rattle.t1_check.proofs.value.wrong_read.Goals as goal

pub loop-line-init : goal.loop-line-init
loop-line-init c = record {
  latest = λ addr. c.new-latest.ensures addr ∙ sym (peak_none (item_in (items_of c.args.traces.now) c.args.order.now) (λ i. suc i) addr);
  right = λ k l. absurd (omega (arith, l));
}

pub note-requires : goal.note-requires
note-requires c = λ _. subst (λ (x : Item). x.addr % 8 + x.size ≤ 8) (sym c.item_in.ensures) (in_word (items_of c.args.traces.now) c.args.order.now c.args.table.now c.loop-line.line c.requires.marked c.loop-line-test.true c.requires.words)

pub returns-in-Some : goal.returns-in-Some
returns-in-Some c =
    let same = length-map c.args.traces.now (λ (t : Trace). t.items) in
    let own : OwnBelow (items_of c.args.traces.now) c.args.table.now c.args.own.now (length (items_of c.args.traces.now)) = λ s l. c.requires.own s (omega (arith, l, same)) in
    let s = sources_are (items_of c.args.traces.now) c.args.order.now c.args.table.now c.args.own.now c.loop-line.latest c.loop-line.line c.requires.marked c.loop-line-test.true c.requires.words own c.loop-line.invariant.latest in
    (c.loop-line-test.true, c.loop-line.invariant.right, c.in-Some.ensures c.args.table.now s)

pub loop-line-preserved : goal.loop-line-preserved
loop-line-preserved c =
    let same = length-map c.args.traces.now (λ (t : Trace). t.items) in
    let own : OwnBelow (items_of c.args.traces.now) c.args.table.now c.args.own.now (length (items_of c.args.traces.now)) = λ s l. c.requires.own s (omega (arith, l, same)) in
    let k : ℕ = c.loop-line.line in
    let s = sources_are (items_of c.args.traces.now) c.args.order.now c.args.table.now c.args.own.now c.loop-line.latest k c.requires.marked c.loop-line-test.true c.requires.words own c.loop-line.invariant.latest in
    let e : k + 1 ≡ suc k = omega arith in
    let item = c.item_in.ensures in
    let noted = c.in_ok-note.ensures in
    record {
      latest = λ a. noted a
          ∙ (ap (λ (x : Item). cond (writes_byte x a) (max (at c.loop-line.latest a) (k + 1)) (at c.loop-line.latest a)) item
          ∙ (ap (λ (n : ℕ). cond (writes_byte (item_in (items_of c.args.traces.now) c.args.order.now k) a) (max (at c.loop-line.latest a) n) (at c.loop-line.latest a)) e
          ∙ (ap (λ (v : ℕ). cond (writes_byte (item_in (items_of c.args.traces.now) c.args.order.now k) a) (max v (suc k)) v) (c.loop-line.invariant.latest a)
          ∙ sym (peak_more (item_in (items_of c.args.traces.now) c.args.order.now) (λ i. suc i) k a))));
      right = right_more c.args.image.now (items_of c.args.traces.now) c.args.order.now c.args.table.now k c.loop-line.invariant.right (c.in-None.ensures c.args.table.now s);
    }
