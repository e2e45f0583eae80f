-- The lines of commits, in pieces.
use Rattle.std.proofs.Common.{◌≡◌, ℕ, zero, suc, ◌++◌, ◌∷◌, List, [], length, drop, codes, Some, refl, sym, ap, subst, ◌∙◌, append_assoc, append-nil, inl, inr, ◌⊎◌}
use Rattle.std.proofs.lemmas.Option.{same_Some, none-some}
use Rattle.std.specs.List.{slice_get}
use Rattle.t1_packet.specs.Data.{KillData}
use Rattle.t1_event.specs.declared.item.Item.{Item}
use Rattle.t1_event.specs.declared.commit.Commit.{Commit}
use Rattle.t1_log.specs.Log.{kill_field_of, kill_fields_of, way_field_of, evicted_field_of, commit_head_of, commit_line_of}
use Rattle.t1_take.specs.declared.cursor.Cursor.{Cursor}
use Rattle.t1_take.specs.declared.commit.Named.{Named}
use Rattle.t1_take.specs.Taken.{IsGood, Takes}
use Rattle.t1_take.specs.Commits.{kill_tail_of, head_of}
use Rattle.t1_take.specs.WellFormed.{IsGoodCommit, AreGoodCommits}
use Rattle.t1_take.proofs.Taking.{followed, renamed}

pub kill_text : (kill : KillData) → codes " " ++ kill_tail_of kill ≡ kill_field_of kill
unfolding kill_tail_of kill_field_of
kill_text kill = refl

kills_last : (kills : List KillData) (kill : KillData) → kill_fields_of kills ++ kill_field_of kill ≡ kill_fields_of (kills ++ kill ∷ [])
unfolding kill_fields_of
kills_last [] kill = sym (append-nil (kill_field_of kill))
kills_last (k ∷ ks) kill = append_assoc (kill_field_of k) (kill_fields_of ks) (kill_field_of kill) ∙ ap (λ r. kill_field_of k ++ r) (kills_last ks kill)

pub no_kills : (text : List ℕ) (a : Cursor) (kills : List KillData) → kills ≡ [] → Takes text a a (kill_fields_of kills)
unfolding kill_fields_of
no_kills text a kills e = record { before = λ g. g; reads = λ _. ap (λ ks. kill_fields_of ks ++ drop a.at text) (sym e) }

pub one_more_kill : (text : List ℕ) (a b c d : Cursor) (kills longer : List KillData) (kill : KillData)
    → Takes text a b (kill_fields_of kills) → Takes text b c (codes " ") → Takes text c d (kill_tail_of kill) → longer ≡ kills ++ kill ∷ [] → Takes text a d (kill_fields_of longer)
one_more_kill text a b c d kills longer kill x y z e =
    renamed (ap (λ f. kill_fields_of kills ++ f) (kill_text kill) ∙ (kills_last kills kill ∙ ap kill_fields_of (sym e))) (followed x (followed y z))

pub not_good : (text : List ℕ) (a b : Cursor) (piece : List ℕ) → (IsGood b → ⊥) → Takes text a b piece
not_good text a b piece n = record { before = λ g. absurd (n g); reads = λ g. absurd (n g) }

pub commit_text : (index : ℕ) (commit : Commit) (named : Named) → named.dest ≡ commit.dest → named.strand ≡ commit.strand → named.number ≡ commit.item
    → head_of index named ++ (way_field_of commit.way ++ (codes " " ++ (evicted_field_of commit.evicted ++ (kill_fields_of commit.kills ++ codes "\n")))) ≡ commit_line_of index commit
unfolding head_of commit_line_of commit_head_of
commit_text index commit named d s n = rw (d, s, n) refl

-- ---- the list of good commits, one more at the end

at_last : {A : Type 0} (xs : List A) (x y : A) (i : ℕ) → slice_get (xs ++ x ∷ []) i ≡ Some y → ((slice_get xs i ≡ Some y)) ⊎ ((i ≡ length xs) × (x ≡ y))
at_last [] x y zero e = inr (refl, same_Some x y e)
at_last [] x y (suc i) e = absurd (none-some y e)
at_last (z ∷ xs) x y zero e = inl e
at_last (z ∷ xs) x y (suc i) e = elim (at_last xs x y i e) [
  | inl f ↦ inl f
  | inr p ↦ inr (ap (λ (k : ℕ). suc k) p.0, p.1)
]

pub commits_more : (cores : ℕ) (traces : List (List Item)) (log longer : List Commit) (commit : Commit) (index : ℕ) → AreGoodCommits cores traces log → index ≡ length log
    → IsGoodCommit cores traces index commit → longer ≡ log ++ commit ∷ [] → AreGoodCommits cores traces longer
commits_more cores traces log longer commit index good at here e i c is =
    elim (at_last log commit c i (ap (λ xs. slice_get xs i) (sym e) ∙ is)) [
      | inl before ↦ good i c before
      | inr p ↦ subst (λ (k : ℕ). IsGoodCommit cores traces k c) (at ∙ sym p.0) (subst (IsGoodCommit cores traces index) p.1 here)
    ]
