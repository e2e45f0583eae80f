use Rattle.std.proofs.Common.{◌≡◌, ◌≤◌, ◌^◌, ◌++◌, ℕ, List, drop, length}
use Rattle.t1_num.specs.MemoryLaws.{AreBytes}
use Rattle.t1_log.specs.Texts.{image_lines_of}
use Rattle.t1_read.specs.Exact.{NextIsNot}
use Rattle.t1_read.proofs.HeadStands.{IsTight}
use Rattle.t1_read.proofs.ImageFound.{ImageLeft}
use Rattle.t1_take.proofs.ImageTexts.{IsImageSoFar}
use Rattle.t1_read.proofs.head.read_image.Given as goal

abbrev pub invariant-loop-line : goal.invariant-loop-line
invariant-loop-line l = record {
  len : length l.ram ≡ length l.initial.ram;
  so_far : IsImageSoFar l.text l.initial.lines.at l.lines.at l.ram l.least;
  tight : IsTight l.ram l.least;
  bytes : AreBytes l.ram;
  on : l._line ≤ l.lines.at;
  finds : (all rest : List ℕ) → length all ≡ length l.initial.ram → length all ≤ 2 ^ 40 → AreBytes all → NextIsNot 109 rest → drop l.initial.lines.at l.text ≡ image_lines_of all ++ rest
      → ImageLeft l.text l.lines.at l.ram l.least all rest;
}
