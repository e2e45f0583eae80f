use Rattle.std.proofs.Common.{◌≡◌, ◌∙◌, ◌++◌, ℕ, List, drop, codes, ap, sym, append_assoc, inl, true, false, refl, arith}
use Rattle.t1_log.specs.Log.{version_line}
use Rattle.t1_take.specs.declared.cursor.Cursor.{Cursor}
use Rattle.t1_take.proofs.Leaving.{begun_good}
use Rattle.t1_read.proofs.head.read_version.Goals as goal

pub returns-in-Some-clause-leads : goal.returns-in-Some-clause-leads
returns-in-Some-clause-leads c = λ start. (
    let text = c.args.text.now in
    let found = c.in-Some.ensures in
    let first = c.in-Some._line.now in
    inl (record {
      first = first;
      after = found.after;
      begins = found.begins;
      other = λ e. (
          let line : text ≡ version_line ++ found.after = found.begins.is ∙ (sym (append_assoc first (codes "\n") found.after) ∙ ap (λ (t : List ℕ). t ++ found.after) e) in
          let here : drop c.next-cursor.result.at text ≡ version_line ++ found.after =
          ap (λ (k : Cursor). drop k.at text) c.next-cursor.ensures ∙ (ap (λ (n : ℕ). drop n text) start ∙ line) in
          let good = (c.word.ensures.finds (omega arith) found.after here).good (begun_good c.next-cursor.result _ c.next-cursor.ensures) in
          let bad : true ≡ false = sym good ∙ (sym c.is_good.ensures ∙ c.if-is_good.false) in
          cc
          );
      number_is = refl;
    })
    )
