use Rattle.std.proofs.Common.{◌∙◌, ◌∷◌, ◌++◌, ℕ, List, [], codes, length, inl, inr, refl, sym, ap, arith}
use Rattle.std.proofs.lemmas.List.{length-append}
use Rattle.t1_log.specs.Hex.{hex_of, hex_of_bytes}
use Rattle.t1_take.proofs.ConsoleTexts.{no_bytes, one_more_byte}
use Rattle.t1_take.proofs.Finding.{hex_no_feed}
use Rattle.t1_take.proofs.Leaving.{pieces_start, pieces_cases, pieces_next, bytes_spelled, byte_next, longer_than, first_at}
use Rattle.t1_take.proofs.lists.take_run.Goals as goal

pub loop-count-init : goal.loop-count-init
loop-count-init c = record {
  count = ap length c.new-bytes.ensures;
  takes = no_bytes c.args.text.now c.args.cursor.now c.new-bytes.result.items c.new-bytes.ensures;
  finds = λ all rest some few bytes e. pieces_start hex_of_bytes c.args.text.now c.args.cursor.now c.new-bytes.result.items all (codes "\n" ++ rest) c.new-bytes.ensures e;
}

pub loop-count-preserved : goal.loop-count-preserved
loop-count-preserved c =
    let longer = c.push.ensures.items in
    let done : List ℕ = c.loop-count.bytes.items in
    record {
      count = omega (arith, ap length longer ∙ length-append done (c.hex.result ∷ []), c.loop-count.invariant.count);
      takes = one_more_byte c.args.text.now c.args.cursor.now c.loop-count.cursor c.hex.new.self done c.push.new.self.items c.hex.result c.loop-count.invariant.takes (c.hex.ensures.takes (omega arith)) longer;
      finds = λ all rest some few bytes e. (
          let so = c.loop-count.invariant.finds all rest some few bytes e in
          elim (pieces_cases hex_of_bytes (hex_of 2) bytes_spelled c.args.text.now c.args.cursor.now c.loop-count.cursor done all (codes "\n" ++ rest) so) [
            | inl none ↦ absurd (elim (c.if-is_over.ensures.goes refl) [
              | inl z ↦ (let n = ap length none.0 in omega (arith, n, some, z, c.loop-count.invariant.count))
              | inr other ↦ other (first_at c.args.text.now c.loop-count.cursor.at 10 rest none.1)
            ])
            | inr n ↦
                let found = c.hex.ensures.finds n.one (hex_of_bytes n.more ++ (codes "\n" ++ rest)) (omega arith) (let l = byte_next done all n.one n.more bytes n.all_is in omega (arith, l)) n.rest_is in
                pieces_next hex_of_bytes (hex_of 2) c.args.text.now c.args.cursor.now c.loop-count.cursor c.hex.new.self done c.push.new.self.items all (codes "\n" ++ rest) so n
                (longer ∙ ap (λ (b : ℕ). done ++ b ∷ []) found.0) found.1
          ]
          );
    }

pub returns-then-is_over-clause-finds : goal.returns-then-is_over-clause-finds
returns-then-is_over-clause-finds c = λ all rest some few bytes e.
    let so = c.loop-count.invariant.finds all rest some few bytes e in
    elim (pieces_cases hex_of_bytes (hex_of 2) bytes_spelled c.args.text.now c.args.cursor.now c.loop-count.cursor c.loop-count.bytes.items all (codes "\n" ++ rest) so) [
      | inl none ↦ (sym none.0, record { good = so.good; rest_is = none.1 })
      | inr n ↦ absurd (hex_no_feed c.args.text.now c.loop-count.cursor.at 2 n.one (hex_of_bytes n.more ++ (codes "\n" ++ rest)) (omega arith) n.rest_is (c.if-is_over.ensures.over refl).1)
    ]

pub returns-clause-finds : goal.returns-clause-finds
returns-clause-finds c = λ all rest some few bytes e.
    let so = c.loop-count.invariant.finds all rest some few bytes e in
    elim (pieces_cases hex_of_bytes (hex_of 2) bytes_spelled c.args.text.now c.args.cursor.now c.loop-count.cursor c.loop-count.bytes.items all (codes "\n" ++ rest) so) [
      | inl none ↦ (sym none.0, record { good = so.good; rest_is = none.1 })
      | inr n ↦ absurd (let l = longer_than c.loop-count.bytes.items all n.one n.more n.all_is in omega (arith, l, few, c.loop-count.invariant.count))
    ]
