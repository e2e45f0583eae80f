use Rattle.std.proofs.Common.{◌≡◌, ◌∙◌, ◌++◌, ◌∷◌, ℕ, List, take, length, [], inl, inr, refl, sym, ap, arith}
use Rattle.std.proofs.lemmas.List.{length-set, length-take, take_all, take_more_set}
use Rattle.t1_log.specs.Hex.{hex_of, hex_of_bytes}
use Rattle.t1_take.proofs.ConsoleTexts.{no_bytes, one_more_byte}
use Rattle.t1_take.proofs.Leaving.{pieces_start, pieces_cases, pieces_next, bytes_spelled, byte_next, longer_than}
use Rattle.t1_take.proofs.head.take_bytes.Goals as goal

pub loop-byte-init : goal.loop-byte-init
loop-byte-init c = record {
  len = refl;
  takes = no_bytes c.args.text.now c.args.cursor.now [] refl;
  finds = λ all rest count bytes e. pieces_start hex_of_bytes c.args.text.now c.args.cursor.now [] all rest refl e;
}

pub loop-byte-preserved : goal.loop-byte-preserved
loop-byte-preserved c =
    let more = take_more_set c.loop-byte.block c.loop-byte.byte c.hex.result (omega (arith, c.loop-byte.invariant.len, c.loop-byte-test.true)) in
    record {
      len = length-set c.loop-byte.block c.loop-byte.byte c.hex.result ∙ c.loop-byte.invariant.len;
      takes = one_more_byte c.args.text.now c.args.cursor.now c.loop-byte.cursor c.hex.new.self (take c.loop-byte.byte c.loop-byte.block) _ c.hex.result c.loop-byte.invariant.takes (c.hex.ensures.takes (omega arith)) more;
      finds = λ all rest count bytes e. (
          let so = c.loop-byte.invariant.finds all rest count bytes e in
          let done : List ℕ = take c.loop-byte.byte c.loop-byte.block in
          elim (pieces_cases hex_of_bytes (hex_of 2) bytes_spelled c.args.text.now c.args.cursor.now c.loop-byte.cursor done all rest so) [
            | inl none ↦ absurd (let n = ap length none.0 in omega (arith, n, count, length-take c.loop-byte.byte c.loop-byte.block, c.loop-byte.invariant.len, c.loop-byte-test.true))
            | inr n ↦
                let found = c.hex.ensures.finds n.one (hex_of_bytes n.more ++ rest) (omega arith) (let l = byte_next done all n.one n.more bytes n.all_is in omega (arith, l)) n.rest_is in
                pieces_next hex_of_bytes (hex_of 2) c.args.text.now c.args.cursor.now c.loop-byte.cursor c.hex.new.self done _ all rest so n (more ∙ ap (λ (b : ℕ). done ++ b ∷ []) found.0) found.1
          ]
          );
    }

pub returns-clause-finds : goal.returns-clause-finds
returns-clause-finds c = λ all rest count bytes e.
    let so = c.loop-byte.invariant.finds all rest count bytes e in
    let whole : take c.loop-byte.byte c.loop-byte.block ≡ c.loop-byte.block = take_all c.loop-byte.byte c.loop-byte.block (let l = c.loop-byte.invariant.len in omega (arith, l)) in
    elim (pieces_cases hex_of_bytes (hex_of 2) bytes_spelled c.args.text.now c.args.cursor.now c.loop-byte.cursor (take c.loop-byte.byte c.loop-byte.block) all rest so) [
      | inl none ↦ (sym (none.0 ∙ whole), record { good = so.good; rest_is = none.1 })
      | inr n ↦ absurd (let l = longer_than (take c.loop-byte.byte c.loop-byte.block) all n.one n.more n.all_is in let k = ap length whole in omega (arith, l, k, count, c.loop-byte.invariant.len))
    ]
