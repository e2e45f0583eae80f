use Rattle.std.proofs.Common.{◌≡◌, ◌∙◌, ◌+◌, ◌*◌, ◌/◌, ◌++◌, ◌<◌, sym, ap, cond, max, ℕ, List, get_or, length, inl, inr, arith}
use Rattle.std.proofs.lemmas.Bool.{cases_eq}
use Rattle.std.proofs.lemmas.List.{length-append}
use Rattle.std.proofs.lemmas.Option.{slice_get-get_or}
use Rattle.t1_event.specs.declared.item.Item.{Item}
use Rattle.t1_check.specs.Positions.{item_of, no_item}
use Rattle.t1_check.specs.Sources.{own_at, writes_byte}
use Rattle.t1_check.proofs.Peaks.{peak_more, peak_none}
use Rattle.t1_check.proofs.Words.{cells_kept, cells_new}
use Rattle.t1_check.proofs.own.own_row.Goals as goal

pub loop-number-init : goal.loop-number-init
loop-number-init c = record {
  len = ap length c.new-own.ensures.items;
  latest = λ addr. c.new-latest.ensures addr ∙ sym (peak_none (item_of c.args.items.now) (λ k. get_or c.args.row.now k 0) addr);
  all = λ i byte l. absurd (omega (arith, l));
}

pub note-requires : goal.note-requires
note-requires c = c.requires.words c.loop-number.number _ (slice_get-get_or c.args.items.now c.loop-number.number no_item c.loop-number-test.true)

pub loop-number-preserved : goal.loop-number-preserved
loop-number-preserved c =
    let i : ℕ = c.loop-number.number in
    let items : List Item = c.args.items.now in
    let old : List ℕ = c.loop-number.own.items in
    let own : List ℕ = c.extend_from_slice.new.self.items in
    let inv = c.loop-number.invariant in
    let word : List ℕ = c.word.result in
    let longer : own ≡ old ++ word = c.in_ok-extend_from_slice.ensures.items in
    let eight : length word ≡ 8 = omega (arith, c.word.type_inv) in
    let noted = c.in_ok-note.ensures in
    record {
      len = ap length longer ∙ (length-append old word ∙ omega (arith, inv.len, eight));
      latest = λ addr. noted addr
          ∙ (ap (λ (v : ℕ). cond (writes_byte (item_of items i) addr) (max v (get_or c.args.row.now i 0)) v) (inv.latest addr)
          ∙ sym (peak_more (item_of items) (λ k. get_or c.args.row.now k 0) i addr));
      all = λ k byte l b. elim (cases_eq k i) [
        | inl e ↦
            let place : 8 * k + byte ≡ length old + byte = omega (arith, inv.len, e) in
            ap (λ (xs : List ℕ). get_or xs (8 * k + byte) 0) longer
            ∙ (cells_new old word (8 * k + byte) byte place
            ∙ (c.word.ensures byte b
            ∙ (inv.latest (8 * ((item_of items i).addr / 8) + byte)
            ∙ ap (λ (n : ℕ). own_at items c.args.row.now n (8 * ((item_of items n).addr / 8) + byte)) (sym e))))
        | inr e ↦
            let before : k < i = omega (arith, l, e) in
            ap (λ (xs : List ℕ). get_or xs (8 * k + byte) 0) longer
            ∙ (cells_kept old word (8 * k + byte) (omega (arith, inv.len, before, b)) ∙ inv.all k byte before b)
      ];
    }
