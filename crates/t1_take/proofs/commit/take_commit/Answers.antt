use Rattle.std.proofs.Common.{◌≡◌, ◌∙◌, ◌^◌, ◌<◌, ◌≤◌, ◌++◌, ℕ, List, [], drop, true, false, codes, get_or, Some, sym, ap, subst, refl, arith}
use Rattle.std.specs.List.{slice_get}
use Rattle.std.proofs.lemmas.Option.{same_Some, none-some}
use Rattle.t1_event.specs.declared.item.Item.{Item}
use Rattle.t1_event.specs.declared.commit.Commit.{Commit}
use Rattle.t1_event.specs.Items.{items_of}
use Rattle.t1_event.specs.Records.{op_of, old_of}
use Rattle.t1_log.specs.Log.{kill_fields_of, way_field_of, evicted_field_of, commit_line_of}
use Rattle.t1_take.specs.declared.commit.Named.{Named}
use Rattle.t1_take.specs.Taken.{Leaves}
use Rattle.t1_take.specs.Commits.{head_of}
use Rattle.t1_take.specs.WellFormed.{IsGoodCommit}
use Rattle.t1_take.proofs.Taking.{followed, renamed}
use Rattle.t1_take.proofs.Finding.{next}
use Rattle.t1_take.proofs.CommitTexts.{commit_text}
use Rattle.t1_take.proofs.commit.take_commit.Goals.{After-word-2}
use Rattle.t1_take.proofs.commit.take_commit.Goals as goal

-- ---- what the answers share

-- where the line of a commit stands, its fields were taken
walked : (c : After-word-2) (commit : Commit) (rest : List ℕ) → IsGoodCommit c.args.cores (items_of c.args.traces.now) c.args.index commit → commit.strand ≤ 255 → commit.item < 2 ^ 32
    → drop c.args.cursor.now.at c.args.text.now ≡ commit_line_of c.args.index commit ++ rest
    → (c.take_named-named.result ≡ record { dest = commit.dest; strand = commit.strand; number = commit.item }) × (c.take_way-way.result ≡ commit.way) × (c.take_evicted-evicted.result ≡ commit.evicted) × (c.take_kills-kills.result ≡ commit.kills)
    × Leaves c.args.text.now c.args.cursor.now c.word-2.new.self rest
walked c commit rest good strand item e =
    let named : Named = record { dest = commit.dest; strand = commit.strand; number = commit.item } in
    let w : List ℕ = kill_fields_of commit.kills ++ codes "\n" in
    let z : List ℕ = evicted_field_of commit.evicted ++ w in
    let y : List ℕ = codes " " ++ z in
    let x : List ℕ = way_field_of commit.way ++ y in
    let s1 = c.take_named-named.ensures.finds named (x ++ rest) good.dest strand item (next _ (head_of c.args.index named) x rest (e ∙ ap (λ (t : List ℕ). t ++ rest) (sym (commit_text c.args.index commit named refl refl refl)))) in
    let s2 = c.take_way-way.ensures.finds commit.way (y ++ rest) good.way refl (next _ (way_field_of commit.way) y rest s1.1.rest_is) in
    let s3 = c.word.ensures.finds (omega arith) (z ++ rest) s2.1.rest_is in
    let s4 = c.take_evicted-evicted.ensures.finds commit.evicted (w ++ rest) good.evicted (next _ (evicted_field_of commit.evicted) w rest s3.rest_is) in
    let s5 = c.take_kills-kills.ensures.finds commit.kills rest good.kills good.few (next _ (kill_fields_of commit.kills) (codes "\n") rest s4.1.rest_is) in
    let s6 = c.word-2.ensures.finds (omega arith) rest s5.1.rest_is in
    (s1.0, s2.0, s4.0, s5.0, record { good = λ g. s6.good (s5.1.good (s4.1.good (s3.good (s2.1.good (s1.1.good g))))); rest_is = s6.rest_is })

-- the access that a commit names is the one that the line named
names : (cores : ℕ) (traces : List (List Item)) (index : ℕ) (commit : Commit) (named : Named) (good : IsGoodCommit cores traces index commit) → named ≡ record { dest = commit.dest; strand = commit.strand; number = commit.item }
    → slice_get (get_or traces named.strand []) named.number ≡ Some good.item
names cores traces index commit named good e = subst (λ (n : Named). slice_get (get_or traces n.strand []) n.number ≡ Some good.item) (sym e) good.names

-- ---- the answers

pub returns-in-Some-clause-reads : goal.returns-in-Some-clause-reads
returns-in-Some-clause-reads c =
    (renamed (commit_text c.args.index _ c.take_named-named.result refl refl refl)
    (followed c.take_named-named.ensures.takes (followed c.take_way-way.ensures.takes (followed c.word.ensures.takes (followed c.take_evicted-evicted.ensures.takes (followed c.take_kills-kills.ensures.takes c.word-2.ensures.takes)))))).reads
    (sym c.is_good.ensures ∙ c.if-not-is_good.false)

pub returns-then-not-is_good-clause-finds : goal.returns-then-not-is_good-clause-finds
returns-then-not-is_good-clause-finds c = λ commit rest good strand item g e.
    let w = walked (goal.at.returns-then-not-is_good-clause-finds c).After-word-2 commit rest good strand item e in
    absurd (let bad : true ≡ false = sym (w.4.good g) ∙ (sym c.is_good.ensures ∙ c.if-not-is_good.true) in cc)

pub returns-in-Some-clause-finds : goal.returns-in-Some-clause-finds
returns-in-Some-clause-finds c = λ commit rest good strand item g e.
    let w = walked (goal.at.returns-in-Some-clause-finds c).After-word-2 commit rest good strand item e in
    let found = same_Some (c.in-Some.item, c.in-Some.seen) (good.item, commit.seen) (c.in-Some.ensures.finds good.item commit.seen (names _ _ _ commit _ good w.0) good.placed) in
    let item_is : c.in-Some.item ≡ good.item = ap (λ (p : Item × ℕ). p.0) found in
    let op_is : c.op_of.result ≡ commit.op = c.op_of.ensures ∙ ((λ i. op_of (item_is i) (w.1 i) (item_is i).kind) ∙ sym good.op) in
    let old_is : c.old_of.result ≡ commit.old = c.old_of.ensures ∙ ((λ i. old_of (item_is i) (item_is i).kind) ∙ sym good.old) in
    let seen_is : c.in-Some.seen ≡ commit.seen = ap (λ (p : Item × ℕ). p.1) found in (
      λ i. Some (record {
        dest = (w.0 i).dest;
        strand = (w.0 i).strand;
        item = (w.0 i).number;
        op = op_is i;
        seen = seen_is i;
        old = old_is i;
        way = w.1 i;
        evicted = w.2 i;
        kills = w.3 i;
      }),
      w.4,
    )

pub returns-in-None-clause-finds : goal.returns-in-None-clause-finds
returns-in-None-clause-finds c = λ commit rest good strand item g e.
    let w = walked (goal.at.returns-in-None-clause-finds c).After-word-2 commit rest good strand item e in
    absurd (none-some (good.item, commit.seen) (c.in-None.ensures.finds good.item commit.seen (names _ _ _ commit _ good w.0) good.placed))
