use Rattle.std.proofs.Common.{◌≡◌, ◌∙◌, ◌+◌, ◌-◌, ◌++◌, ◌&&◌, ℕ, List, length, drop, true, false, leb, ltb, if◌then◌else◌, get_or, codes, Some, sym, ap, arith}
use Rattle.t1_log.specs.Hex.{hex_of, hex_of_bytes}
use Rattle.t1_log.specs.Texts.{is_blank}
use Rattle.t1_log.specs.Lines.{block_line_of}
use Rattle.t1_take.specs.Image.{IsBlockAt}
use Rattle.t1_take.specs.Taken.{Leaves}
use Rattle.t1_take.proofs.Finding.{next}
use Rattle.t1_take.proofs.Taking.{followed, renamed}
use Rattle.t1_take.proofs.ImageTexts.{block_text}
use Rattle.t1_take.proofs.head.take_block.Goals as goal
use Rattle.t1_take.proofs.head.take_block.Goals.{After-word-3, then-addr-ne0-via-then-addr-ne0, then-addr-ne0-via-else-addr-ne0+then-addr-ram, then-addr-ne0-via-else-addr-ne0+else-addr-ram+then-addr-least}

-- ---- what the answers share

-- where the line of a block stands, its address and its bytes were taken
walked : (c : After-word-3) (addr : ℕ) (block rest : List ℕ) → IsBlockAt c.args.least (length c.args.ram.now) addr block → drop c.args.cursor.now.at c.args.text.now ≡ block_line_of addr block ++ rest
    → (c.hex-addr.result ≡ addr) × (c.take_bytes-block.result ≡ block) × Leaves c.args.text.now c.args.cursor.now c.word-3.new.self rest
walked c addr block rest good e =
    let p2 : List ℕ = hex_of_bytes block ++ codes "\n" in
    let p1 : List ℕ = codes " " ++ p2 in
    let p0 : List ℕ = hex_of 10 addr ++ p1 in
    let s0 = c.word.ensures.finds (omega arith) (p0 ++ rest) (e ∙ ap (λ (t : List ℕ). t ++ rest) (sym (block_text addr block))) in
    let s1 = c.hex-addr.ensures.finds addr (p1 ++ rest) (omega arith) good.digits (next _ (hex_of 10 addr) p1 rest s0.rest_is) in
    let s2 = c.word-2.ensures.finds (omega arith) (p2 ++ rest) s1.1.rest_is in
    let s3 = c.take_bytes-block.ensures.finds block (codes "\n" ++ rest) good.count good.are_bytes (next _ (hex_of_bytes block) (codes "\n") rest s2.rest_is) in
    let s4 = c.word-3.ensures.finds (omega arith) rest s3.1.rest_is in
    (s1.0, s3.0, record { good = λ g. s4.good (s3.1.good (s2.good (s1.1.good (s0.good g)))); rest_is = s4.rest_is })

-- ---- the answers

pub returns-clause-wrote : goal.returns-clause-wrote
returns-clause-wrote c = record {
  block = c.take_bytes-block.result;
  count = c.take_bytes-block.ensures.count;
  some = sym c.is_blank.ensures ∙ c.if-is_blank.false;
  place = omega (arith, c.if-addr-ne0.false);
  above = omega (arith, c.if-addr-least.false);
  within = omega (arith, c.if-addr-ram.false, c.if-addr-ne0.false, c.requires);
  bytes = c.write_block.ensures.bytes;
  reads =
      (renamed (block_text c.hex-addr.result c.take_bytes-block.result)
      (followed c.word.ensures.takes (followed (c.hex-addr.ensures.takes (omega arith)) (followed c.word-2.ensures.takes (followed c.take_bytes-block.ensures.takes c.word-3.ensures.takes))))).reads
      (sym c.is_good.ensures ∙ c.if-not-is_good.false);
}

pub returns-then-not-is_good-clause-finds : goal.returns-then-not-is_good-clause-finds
returns-then-not-is_good-clause-finds c = λ addr block rest good g e.
    let w = walked (goal.at.returns-then-not-is_good-clause-finds c).After-word-3 addr block rest good e in
    absurd (let bad : true ≡ false = sym (w.2.good g) ∙ (sym c.is_good.ensures ∙ c.if-not-is_good.true) in cc)

pub returns-then-addr-ne0-clause-finds : goal.returns-then-addr-ne0-clause-finds
returns-then-addr-ne0-clause-finds c = λ addr block rest good g e.
    let addr_is = (walked (goal.at.returns-then-addr-ne0-clause-finds c).After-word-3 addr block rest good e).0 in
    absurd (elim c.then-addr-ne0.branch [
      | then-addr-ne0-via-then-addr-ne0 w ↦ omega (arith, addr_is, good.place, w.if-addr-ne0.true)
      | then-addr-ne0-via-else-addr-ne0+then-addr-ram w ↦ omega (arith, addr_is, good.within, w.if-addr-ram.true)
      | then-addr-ne0-via-else-addr-ne0+else-addr-ram+then-addr-least w ↦ omega (arith, addr_is, good.above, w.if-addr-least.true)
    ])

pub returns-then-is_blank-clause-finds : goal.returns-then-is_blank-clause-finds
returns-then-is_blank-clause-finds c = λ addr block rest good g e.
    let w = walked (goal.at.returns-then-is_blank-clause-finds c).After-word-3 addr block rest good e in
    absurd (let bad : true ≡ false = sym c.if-is_blank.true ∙ (c.is_blank.ensures ∙ (ap is_blank w.1 ∙ good.some)) in cc)

pub returns-clause-finds : goal.returns-clause-finds
returns-clause-finds c = λ addr block rest good g e.
    let w = walked (goal.at.returns-clause-finds c).After-word-3 addr block rest good e in (
      ap (λ (n : ℕ). Some n) w.0,
      λ at. c.write_block.ensures.bytes at ∙ (λ i. if leb (w.0 i) at && ltb at (w.0 i + 32) then get_or (w.1 i) (at - w.0 i) 0 else get_or c.args.ram.now at 0),
      w.2,
    )
