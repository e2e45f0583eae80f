use Rattle.std.proofs.Common.{◌≡◌, ◌≤◌, length, drop, arith, length-drop, Some, None, Ok, Err}
use Rattle.std.proofs.Math.ListN.{drop_of_length-le}
use Rattle.t1_lex.specs.Tokens.{tokens_of}
use Rattle.t1_lex.specs.Pieces.{piece_of}
use Rattle.t1_lex.proofs.Spans.{same_lexemes, no_lexemes}
use Rattle.t1_lex.proofs.Order.{tokens_in_order}
use Rattle.t1_lex.proofs.Cutting.{after_none, reads_on, reads_bad, reads_end}
use Rattle.t1_lex.proofs.lexer.lex_into.Goals as goal

pub loop-at-init : goal.loop-at-init
loop-at-init c = record {
  read = rw c.clear.ensures.items (after_none _);
  line = omega arith;
  within = omega arith;
}

pub returns-in_default : goal.returns-in_default
returns-in_default c =
    let p : piece_of (drop c.loop-at.at c.args.text.now) ≡ None = cc (c.split_at.ensures.back, c.in_default.ensures.value) in
    let e : tokens_of c.args.text.now ≡ Err (c.loop-at.at, c.loop-at.line) =
    reads_bad _ _ _ _ _ c.loop-at.invariant.read p (omega (arith, length-drop c.loop-at.at c.args.text.now)) in
    record { tokens = e; lexemes = no_lexemes c.args.text.now _ e; order = tt }

pub loop-at-preserved : goal.loop-at-preserved
loop-at-preserved c =
    let p : piece_of (drop c.loop-at.at c.args.text.now) ≡ Some (c.in-Some.size, c.in-Some.kind) = cc (c.split_at.ensures.back, c.in-Some.ensures.value) in
    let w : c.in-Some.size ≤ length (drop c.loop-at.at c.args.text.now) = rw (← c.split_at.ensures.back) c.in-Some.ensures.within.1 in
    record {
      read = reads_on _ _ _ _ _ _ _ _ _ c.loop-at.invariant.read p c.in-Some.ensures.within.0 w c.in-Ok.ensures.line c.in-Ok.ensures.tokens;
      line = omega (arith, c.in-Ok.ensures.near, c.in-Some.ensures.within.0);
      within = omega (arith, length-drop c.loop-at.at c.args.text.now, w);
    }

pub returns : goal.returns
returns c =
    let e : tokens_of c.args.text.now ≡ Ok c.loop-at.tokens.items = reads_end _ _ _ _ _ c.loop-at.invariant.read (drop_of_length-le c.args.text.now {i = c.loop-at.at} (omega arith)) in
    record { tokens = e; lexemes = same_lexemes c.args.text.now _ e; order = tokens_in_order c.args.text.now _ e }
