use Rattle.std.proofs.Common.{◌≡◌, ◌∙◌, ◌+◌, ◌*◌, ◌%◌, ◌^◌, ◌≤◌, ◌⊎◌, ◌++◌, ℕ, List, [], length, drop, get_or, Some, inl, inr, ap, sym, subst, refl, arith}
use Rattle.std.proofs.lemmas.Option.{same_Some, none-some}
use Rattle.t1_num.specs.MemoryLaws.{AreBytes}
use Rattle.t1_event.specs.declared.report.Config.{Config}
use Rattle.t1_log.specs.Texts.{image_lines_of}
use Rattle.t1_take.specs.declared.cursor.Cursor.{Cursor}
use Rattle.t1_take.specs.Image.{HasBlock, IsWritten}
use Rattle.t1_take.specs.Taken.{Reads, Leaves}
use Rattle.t1_take.proofs.ImageTexts.{image_start, image_end, block_more}
use Rattle.t1_take.proofs.Leaving.{begun_good, begun_at, peeked}
use Rattle.t1_event.specs.declared.report.Report.{Report}
use Rattle.t1_line_forms.specs.declared.line.Line.TheVariants as line
use Rattle.t1_read.specs.Exact.{NextIsNot}
use Rattle.t1_read.specs.Faults.{Within}
use Rattle.t1_read.specs.Standing.{so_far, Stands, IsHead}
use Rattle.t1_read.proofs.Judging.{named, by_letter}
use Rattle.t1_read.proofs.Places.{went_on, at_end_of_text, nothing_past}
use Rattle.t1_read.proofs.HeadStands.{some_strand, small_ram, image_stands, tight_more, new_block}
use Rattle.t1_read.proofs.ImageFound.{block_of, IsBlockNext, image_begun, image_cases, image_more, block_first, block_some}
use Rattle.t1_read.proofs.head.read_image.Goals.{At-loop-line, After-peek, After-take_block}
use Rattle.t1_read.proofs.head.read_image.Goals as goal

-- ---- what the answers share

size_is : (c : At-loop-line) → length c.loop-line.ram % 32 ≡ 0
size_is c = ap (λ (n : ℕ). n % 32) c.loop-line.invariant.len ∙ c.requires.blocks

lines_read : (c : At-loop-line) → Reads c.args.text.now c.args.lines.now.at c.loop-line.lines.at (image_lines_of c.loop-line.ram)
lines_read c = image_end c.args.text.now c.args.lines.now.at c.loop-line.lines.at c.loop-line.ram c.loop-line.least (size_is c) c.loop-line.invariant.so_far

standing : (c : At-loop-line) (config : Config) (entry : ℕ) → IsHead c.args.text.now c.args.lines.now.at config entry → length c.args.ram.now ≡ config.ram
    → Stands c.args.text.now c.loop-line.lines.at (so_far config (record { entry = entry; ram = c.loop-line.ram }) [] [] [] [] [])
standing c config entry head size =
    image_stands c.args.text.now c.args.lines.now.at c.loop-line.lines.at config entry c.loop-line.ram c.loop-line.least (c.loop-line.invariant.len ∙ size) head c.loop-line.invariant.bytes c.loop-line.invariant.so_far

-- the byte that stands next
byte : (c : After-peek) → c.peek.result ≡ get_or c.args.text.now c.loop-line.lines.at 0
byte c = c.peek.ensures ∙ ap (λ (k : Cursor). get_or c.args.text.now k.at 0) c.next-cursor.ensures

-- where an image stands, all of it was read, or a block of it stands next
cases : (c : At-loop-line) (all rest : List ℕ) → length all ≡ length c.args.ram.now → length all ≤ 2 ^ 40 → AreBytes all → NextIsNot 109 rest → drop c.args.lines.now.at c.args.text.now ≡ image_lines_of all ++ rest
    → ((c.loop-line.ram ≡ all) × (drop c.loop-line.lines.at c.args.text.now ≡ rest)) ⊎ IsBlockNext c.args.text.now c.loop-line.lines.at c.loop-line.ram c.loop-line.least all rest
cases c all rest size most bytes other e =
    image_cases c.args.text.now c.args.lines.now.at c.loop-line.lines.at c.loop-line.ram c.loop-line.least all rest (size ∙ sym c.loop-line.invariant.len) most (size_is c) bytes c.loop-line.invariant.so_far
    (c.loop-line.invariant.finds all rest size most bytes other e)

-- where an image stands, its next block was taken
found : (c : After-take_block) (all rest : List ℕ) → length all ≡ length c.args.ram.now → length all ≤ 2 ^ 40 → AreBytes all → NextIsNot 109 rest → drop c.args.lines.now.at c.args.text.now ≡ image_lines_of all ++ rest
    → (n : IsBlockNext c.args.text.now c.loop-line.lines.at c.loop-line.ram c.loop-line.least all rest)
    × (c.take_block.result ≡ Some (32 * n.block.number)) × HasBlock c.loop-line.ram c.take_block.new.ram (32 * n.block.number) (block_of all n.block.number)
    × Leaves c.args.text.now c.next-cursor.result c.take_block.new.cursor n.after
found c all rest size most bytes other e =
    elim (cases (goal.at.After-take_block c).At-loop-line all rest size most bytes other e) [
      | inl none ↦ absurd (other.other (sym (peeked c.args.text.now c.loop-line.lines.at rest none.1) ∙ (sym (byte (goal.at.After-take_block c).After-peek) ∙ c.if-peek-ne109.false)))
      | inr n ↦
          let taken = c.take_block.ensures.finds (32 * n.block.number) (block_of all n.block.number) n.after n.good (begun_good c.next-cursor.result _ c.next-cursor.ensures)
          (begun_at c.args.text.now c.next-cursor.result _ _ c.next-cursor.ensures n.reads) in
          (n, taken.0, taken.1, taken.2)
    ]

-- ---- the loop

pub loop-line-init : goal.loop-line-init
loop-line-init c = record { len = refl; so_far = image_start c.args.text.now c.args.lines.now.at c.args.ram.now c.requires.zeros; tight = inl refl; bytes = λ i. (let z = c.requires.zeros i in omega (arith, z)); on = omega arith; finds = λ all rest size most bytes other e. image_begun c.args.text.now c.args.lines.now.at c.args.ram.now all rest e }

pub loop-line-preserved : goal.loop-line-preserved
loop-line-preserved c =
    let written : IsWritten c.args.text.now c.loop-line.lines.at c.went.new.self.at c.loop-line.least c.loop-line.ram c.take_block.new.ram c.in-Some.addr =
    subst (λ (n : ℕ). IsWritten c.args.text.now n c.went.new.self.at c.loop-line.least c.loop-line.ram c.take_block.new.ram c.in-Some.addr) (ap (λ (k : Cursor). k.at) c.next-cursor.ensures)
    (subst (λ (n : ℕ). IsWritten c.args.text.now c.next-cursor.result.at n c.loop-line.least c.loop-line.ram c.take_block.new.ram c.in-Some.addr) (sym c.went.ensures) c.in-Some.ensures.wrote) in
    record {
      len = c.take_block.ensures.length ∙ c.loop-line.invariant.len;
      so_far = block_more c.args.text.now c.args.lines.now.at c.loop-line.lines.at c.went.new.self.at c.loop-line.ram c.take_block.new.ram c.loop-line.least c.in-Some.addr c.take_block.ensures.length c.loop-line.invariant.so_far written;
      tight = tight_more c.args.text.now _ _ c.loop-line.least c.in-Some.addr c.loop-line.ram c.take_block.new.ram written;
      bytes = λ i. omega (arith, c.type_inv.ram i);
      on = (let m = went_on c.args.text.now _ _ _ (block_some c.in-Some.addr written.block) written.reads in let o = c.loop-line.invariant.on in omega (arith, m, o));
      finds = λ all rest size most bytes other e. (
          let f = found (goal.at.loop-line-preserved c).After-take_block all rest size most bytes other e in
          image_more c.args.text.now c.args.lines.now.at c.loop-line.lines.at c.went.new.self.at c.loop-line.ram c.take_block.new.ram c.loop-line.least _ all rest (size ∙ sym c.loop-line.invariant.len) c.loop-line.invariant.so_far
          (c.loop-line.invariant.finds all rest size most bytes other e) f.0.block f.2 (ap (λ (n : ℕ). n + 32) (same_Some _ _ (sym c.in-Some.is ∙ f.1))) (ap (λ (n : ℕ). drop n c.args.text.now) c.went.ensures ∙ (f.3.rest_is ∙ f.0.after_is))
          );
    }

-- ---- another byte stands next

pub returns-then-peek-ne109-clause-reads : goal.returns-then-peek-ne109-clause-reads
returns-then-peek-ne109-clause-reads c = lines_read (goal.at.returns-then-peek-ne109-clause-reads c).At-loop-line

pub returns-then-peek-ne109-clause-finds : goal.returns-then-peek-ne109-clause-finds
returns-then-peek-ne109-clause-finds c = λ all rest size most bytes other e.
    elim (cases (goal.at.returns-then-peek-ne109-clause-finds c).At-loop-line all rest size most bytes other e) [
      | inl done ↦ done
      | inr n ↦ absurd (c.if-peek-ne109.true (byte (goal.at.returns-then-peek-ne109-clause-finds c).After-peek ∙ (peeked c.args.text.now c.loop-line.lines.at _ n.reads ∙ block_first (32 * n.block.number) (block_of all n.block.number) n.after)))
    ]

pub returns-then-peek-ne109-clause-leads : goal.returns-then-peek-ne109-clause-leads
returns-then-peek-ne109-clause-leads c = λ config entry head size. record {
  stands = standing (goal.at.returns-then-peek-ne109-clause-leads c).At-loop-line config entry head size;
  past = λ kind follows is here. c.if-peek-ne109.true (byte (goal.at.returns-then-peek-ne109-clause-leads c).After-peek ∙ here);
}

-- ---- a line was refused

pub returns-in-None-clause-finds : goal.returns-in-None-clause-finds
returns-in-None-clause-finds c = λ all rest size most bytes other e.
    absurd (none-some _ (sym c.in-None.is ∙ (found (goal.at.returns-in-None-clause-finds c).After-take_block all rest size most bytes other e).1))

pub returns-in-None-clause-leads : goal.returns-in-None-clause-leads
returns-in-None-clause-leads c = λ config entry head size. (
    let at = c.loop-line.lines.at in
    let ram = c.loop-line.ram in
    let so = c.loop-line.invariant in
    let count : length ram ≡ config.ram = so.len ∙ size in
    let small = small_ram config head.limits in
    let report : Report = record { config = config; image = record { entry = entry; ram = ram }; traces = []; log = []; order = []; console = [] } in
    named c.args.text.now at (Within report []) line.Block c.fault.result (standing (goal.at.returns-in-None-clause-leads c).At-loop-line config entry head size)
    (by_letter c.args.text.now at report [] line.Block (some_strand config head.limits, refl, refl) (sym (byte (goal.at.returns-in-None-clause-leads c).After-peek) ∙ c.if-peek-ne109.false)
    (λ one rest g e. none-some _ (c.in-None.ensures.finds g.0 g.1 rest (new_block ram c.loop-line.least g.0 g.1 so.so_far.whole so.tight (omega (arith, count, small)) g.2)
    (begun_good c.next-cursor.result at c.next-cursor.ensures) (begun_at c.args.text.now c.next-cursor.result at _ c.next-cursor.ensures (e ∙ ap (λ (t : List ℕ). t ++ rest) g.3))).0))
    c.fault.ensures
    )

-- ---- the text ends

pub returns-clause-reads : goal.returns-clause-reads
returns-clause-reads c = lines_read (goal.at.returns-clause-reads c).At-loop-line

pub returns-clause-finds : goal.returns-clause-finds
returns-clause-finds c = λ all rest size most bytes other e.
    let so = c.loop-line.invariant.finds all rest size most bytes other e in
    absurd (nothing_past c.args.text.now c.loop-line.lines.at _ rest so.rest_is other.some (let on = c.loop-line.invariant.on in omega (arith, on, c.loop-line-test.false)))

pub returns-clause-leads : goal.returns-clause-leads
returns-clause-leads c = λ config entry head size. record {
  stands = standing (goal.at.returns-clause-leads c).At-loop-line config entry head size;
  past = λ kind follows is here. (let on = c.loop-line.invariant.on in at_end_of_text c.args.text.now c.loop-line.lines.at 109 (omega (arith, on, c.loop-line-test.false)) (omega arith) here);
}
