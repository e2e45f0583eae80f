-- The tags of the caches are those that the directories show.
use Rattle.std.proofs.Common.{◌≡◌, ℕ, zero, suc, ◌≤◌, ◌==◌, inl, inr, cond, List, [], ◌∷◌, length, replicate, Option, Some, None, refl, ap, ◌∙◌}
use Rattle.std.specs.List.{slice_get, filter}
use Rattle.std.proofs.lemmas.Bool.{cases_Bool}
use Rattle.t1_shape.specs.Shapes.{Shape}
use Rattle.t1_shape.specs.Slots.{Line, slots_in, tags_of, with_fill}
use Rattle.t1_packet.specs.declared.cache.Cache.{Cache}
use Rattle.t1_packet.specs.Data.{KillData}
use Rattle.t1_packet.specs.Caches.{layout, with_kills, filled_line, with_answer}
use Rattle.t1_packet.specs.Packets.{kills_to, packet_of}
use Rattle.t1_dir.specs.Directory.{no_tags}
use Rattle.t1_event.specs.declared.commit.Commit.{Commit}
use Rattle.t1_event.specs.Log.{core_of, memory_at}
use Rattle.t1_event.specs.Shadow.{with_commit, directory_at}
use Rattle.t1_event.specs.Posts.{reply_line, post_of, post_by, no_lines, with_post, l1_at}
use Rattle.t1_tso.proofs.Tags.{with_kills-first, tags-with_kills, tags-with_answer}

-- ---- one commit, as it changes one core's cache

-- the slots after a commit's kills, all of them, and its answer where the core asked
abbrev pub with_commit_in : Shape → ℕ → List ℕ → ℕ → Cache → List (Option Line) → Commit → List (Option Line)
with_commit_in shape strands m core cache slots c =
    cond (core_of strands c == core)
    (with_answer shape cache c.op c.way (reply_line m c.op c.way) (with_kills shape core cache c.kills slots))
    (with_kills shape core cache c.kills slots)

-- where no reply comes, the packet is its kills, or none
no_reply : (shape : Shape) (index core : ℕ) (cache : Cache) (ks : List KillData) (slots : List (Option Line))
    → with_post shape core cache (packet_of index None ks) slots ≡ with_kills shape core cache ks slots
no_reply shape index core cache [] slots = refl
no_reply shape index core cache (k ∷ ks) slots = refl

-- the post of a commit does to a core's cache what the commit does
pub post_is : (shape : Shape) (strands : ℕ) (m : List ℕ) (n core : ℕ) (cache : Cache) (slots : List (Option Line)) (c : Commit)
    → length (filter (λ k. k.core == core) c.kills) ≤ 8
    → with_post shape core cache (post_of strands m n core c) slots ≡ with_commit_in shape strands m core cache slots c
post_is shape strands m n core cache slots c few =
    let same = with_kills-first shape core cache c.kills slots few in
    elim (cases_Bool (core_of strands c == core)) [
      | inl e ↦ rw e (ap (λ (l : List (Option Line)). with_answer shape cache c.op c.way (reply_line m c.op c.way) l) same)
      | inr e ↦ rw e (no_reply shape n core cache (kills_to core c.kills) slots ∙ same)
    ]

tags_step : (shape : Shape) (strands : ℕ) (m : List ℕ) (core : ℕ) (cache : Cache) (slots : List (Option Line)) (c : Commit)
    → tags_of (with_commit_in shape strands m core cache slots c) ≡ with_commit shape strands core cache (tags_of slots) (Some c)
tags_step shape strands m core cache slots c =
    let left = tags-with_kills shape core cache c.kills slots in
    elim (cases_Bool (core_of strands c == core)) [
      | inl e ↦ rw e (tags-with_answer shape cache c.op c.way (reply_line m c.op c.way) (with_kills shape core cache c.kills slots)
          ∙ ap (λ (l : List (Option ℕ)). with_fill (layout shape cache) (filled_line cache c.op) c.way (λ (number : ℕ). number) l) left)
      | inr e ↦ rw e left
    ]

-- each core gets at most eight kills of a commit
abbrev pub FewKills : List Commit → Type 0
FewKills log = (n core : ℕ) (c : Commit) → slice_get log n ≡ Some c → length (filter (λ k. k.core == core) c.kills) ≤ 8

pub tags_start : (shape : Shape) (cache : Cache) → tags_of (no_lines shape cache) ≡ no_tags shape cache
unfolding no_lines no_tags
tags_start shape cache = go (slots_in (layout shape cache))
  where
    go : (n : ℕ) → tags_of (replicate n None) ≡ replicate n None
    go zero = refl
    go (suc n) = ap (λ (l : List (Option ℕ)). None ∷ l) (go n)

module _ (shape : Shape) (image : List ℕ) (strands : ℕ) (log : List Commit) (few : FewKills log) where
  -- one more commit
  pub l1_next : (core : ℕ) (cache : Cache) (t : ℕ) (c : Commit) → slice_get log t ≡ Some c
      → l1_at shape strands image log core cache (suc t) ≡ with_commit_in shape strands (memory_at image log t) core cache (l1_at shape strands image log core cache t) c
  l1_next core cache t c is =
      ap (λ (o : Option Commit). with_post shape core cache (post_by strands (memory_at image log t) t core o) (l1_at shape strands image log core cache t)) is
      ∙ post_is shape strands (memory_at image log t) t core cache (l1_at shape strands image log core cache t) c (few t core c is)

  tags_next : (core : ℕ) (cache : Cache) (t : ℕ) → tags_of (l1_at shape strands image log core cache t) ≡ directory_at shape strands log core cache t
      → (o : Option Commit) → slice_get log t ≡ o
      → tags_of (with_post shape core cache (post_by strands (memory_at image log t) t core o) (l1_at shape strands image log core cache t))
      ≡ with_commit shape strands core cache (directory_at shape strands log core cache t) o
  tags_next core cache t before None is = before
  tags_next core cache t before (Some c) is =
      ap tags_of (post_is shape strands (memory_at image log t) t core cache (l1_at shape strands image log core cache t) c (few t core c is))
      ∙ (tags_step shape strands (memory_at image log t) core cache (l1_at shape strands image log core cache t) c
      ∙ ap (λ (l : List (Option ℕ)). with_commit shape strands core cache l (Some c)) before)

  -- the tags of each core's caches are what the directories show, after any number of commits
  pub covered : (core : ℕ) (cache : Cache) (t : ℕ) → tags_of (l1_at shape strands image log core cache t) ≡ directory_at shape strands log core cache t
  covered core cache zero = tags_start shape cache
  covered core cache (suc t) = tags_next core cache t (covered core cache t) (slice_get log t) refl
