use Rattle.std.proofs.Common.{◌≡◌, ◌∙◌, ℕ, List, [], Option, Some, get_or, set, ap, subst, sym}
use Rattle.std.proofs.lemmas.List.{get_or_read}
use Rattle.t1_dir.specs.Directory.{row_with}
use Rattle.t1_dir.specs.Marks.{AreMarked}
use Rattle.t1_dir.proofs.MarkLaws.{shown_marks}
use Rattle.t1_dir.proofs.directory.show.Goals as goal

pub returns-clause-kept : goal.returns-clause-kept
returns-clause-kept c m =
    let tags : List (List (Option ℕ)) = c.args.tags.now.items in
    let core : ℕ = c.args.core in
    let slot : ℕ = c.args.slot in
    let row : c.index_mut-row.result.now ≡ get_or tags core [] = get_or_read tags core c.index_mut-row.result.now c.requires.core.0 c.index_mut-row.ensures.value [] in
    let new : c.put-2.new.self ≡ set (get_or tags core []) slot (Some c.args.line) = c.put-2.ensures ∙ ap (λ (r : List (Option ℕ)). set r slot (Some c.args.line)) row in
    subst (λ (r : List (Option ℕ)). AreMarked (set tags core r) c.put.new.self) (sym new)
    (subst (λ (marks : List (List ℕ)). AreMarked (row_with tags core slot (Some c.args.line)) marks) (sym c.put.ensures.value)
    (shown_marks tags c.args.marks.now core slot c.args.line c.requires.core.1 c.requires.slot c.put.ensures.wide m))
