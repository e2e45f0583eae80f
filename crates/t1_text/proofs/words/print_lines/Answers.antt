use Rattle.std.proofs.Common.{◌≡◌, ℕ, ◌+◌, ◌*◌, ◌/◌, ◌<◌, ◌≤◌, List, length, get_or, refl, ap, sym, ◌∙◌}
use Rattle.std.proofs.lemmas.List.{take_all}
use Rattle.t1_num.specs.Memory.{number_at}
use Rattle.t1_io.proofs.Growth.{Grew-nil}
use Rattle.t1_log.specs.Texts.{lines_from}
use Rattle.t1_log.proofs.Printing.{Grew-more, GrewPart-more, on_err}
use Rattle.t1_text.specs.Words.{word_line_of, words_of, numbered_line_of}
use Rattle.t1_text.proofs.InBytes.{length-words_from, get_or-words_from}
use Rattle.t1_text.proofs.words.print_lines.Goals as goal

-- the line that was made is the one of this number
line_is : (addr : ℕ) (bytes line made : List ℕ) (number word : ℕ) → line ≡ made → made ≡ word_line_of (addr + 4 * number) word
    → word ≡ number_at bytes (4 * number) 4 → number < length bytes / 4 → line ≡ numbered_line_of addr number (get_or (words_of bytes) number 0)
line_is addr bytes line made number word same is word_is below =
    same ∙ is ∙ ap (word_line_of (addr + 4 * number)) (word_is ∙ sym (get_or-words_from (length bytes / 4) number bytes below))

pub loop-number-init : goal.loop-number-init
unfolding lines_from
loop-number-init g c = record { faults = refl; printed = Grew-nil _ }

pub loop-number-preserved : goal.loop-number-preserved
loop-number-preserved g c =
    let bytes = c.args.bytes.now in
    let below : c.loop-number.number < length bytes / 4 = c.loop-number-test.true in
    let is = line_is c.args.addr bytes _ _ c.loop-number.number _ c.as_slice.ensures c.word_line-line.ensures c.word_at.ensures below in
    record {
      faults = c.in_ok-write_all.ensures.cause.kept ∙ c.loop-number.invariant.faults;
      printed = Grew-more (numbered_line_of c.args.addr) (words_of bytes) c.loop-number.number 0 _ _ _
          (rw (length-words_from (length bytes / 4) bytes) below) c.loop-number.invariant.printed (rw is at c.in_ok-write_all.ensures.all);
    }

pub returns-in_err-write_all-clause-part : goal.returns-in_err-write_all-clause-part
returns-in_err-write_all-clause-part g c =
    let bytes = c.args.bytes.now in
    let below : c.loop-number.number < length bytes / 4 = c.loop-number-test.true in
    let is = line_is c.args.addr bytes _ _ c.loop-number.number _ c.as_slice.ensures c.word_line-line.ensures c.word_at.ensures below in
    on_err _ _
    (GrewPart-more (numbered_line_of c.args.addr) (words_of bytes) c.loop-number.number 0 _ _ _
    (rw (length-words_from (length bytes / 4) bytes) below) c.loop-number.invariant.printed (rw is at c.in_err-write_all.ensures.part))

pub returns-clause-all : goal.returns-clause-all
returns-clause-all g c =
    let bytes = c.args.bytes.now in
    let whole : length (words_of bytes) ≤ c.loop-number.number = rw (length-words_from (length bytes / 4) bytes) c.loop-number-test.false in
    rw (take_all c.loop-number.number (words_of bytes) whole) at c.loop-number.invariant.printed
