-- A directory shows each line in its own set, and in one slot alone.
use Rattle.std.proofs.Common.{◌≡◌, ℕ, zero, suc, ◌==◌, inl, inr, List, [], ◌∷◌, get_or, set, Option, Some, None, refl, subst}
use Rattle.std.specs.List.{slice_get}
use Rattle.std.proofs.lemmas.Bool.{cases_Bool, eqb-true}
use Rattle.t1_shape.specs.Shapes.{Shape}
use Rattle.t1_shape.specs.Slots.{Layout, slots_in, slot_of, IsOnce, with_fill}
use Rattle.t1_shape.proofs.Once.{left_by, FillsAt, IsFree, free_from, once_set, once_start}
use Rattle.t1_packet.specs.declared.cache.Cache.{Cache}
use Rattle.t1_packet.specs.Data.{KillData}
use Rattle.t1_packet.specs.Caches.{layout, is_kill_of, slot_killed, with_kills, filled_line}
use Rattle.t1_dir.specs.Directory.{no_tags}
use Rattle.t1_event.specs.declared.commit.Commit.{Commit}
use Rattle.t1_event.specs.Log.{core_of}
use Rattle.t1_event.specs.Shadow.{with_commit, directory_at}

-- what is left after kills stood there before
pub left_by_kills : {A : Type 0} (shape : Shape) (core : ℕ) (cache : Cache) (ks : List KillData) (slots : List (Option A)) (k : ℕ) (l : A)
    → get_or (with_kills shape core cache ks slots) k None ≡ Some l → get_or slots k None ≡ Some l
left_by_kills shape core cache [] slots k l e = e
left_by_kills {A} shape core cache (y ∷ ys) slots k l e =
    elim (cases_Bool (is_kill_of shape core cache y)) [
      | inl t ↦
          let e' : get_or (with_kills shape core cache ys (set slots (slot_killed shape y) None)) k None ≡ Some l = rw t at e in
          left_by slots (slot_killed shape y) k l (left_by_kills shape core cache ys (set slots (slot_killed shape y) None) k l e')
      | inr t ↦
          let e' : get_or (with_kills shape core cache ys slots) k None ≡ Some l = rw t at e in
          left_by_kills shape core cache ys slots k l e'
    ]

pub once-with_kills : (shape : Shape) (g : Layout) (core : ℕ) (cache : Cache) (ks : List KillData) (tags : List (Option ℕ)) → IsOnce g tags → IsOnce g (with_kills shape core cache ks tags)
once-with_kills shape g core cache ks tags o = record {
  own = λ k l e. o.own k l (left_by_kills shape core cache ks tags k l e);
  once = λ i k l e f. o.once i k l (left_by_kills shape core cache ks tags i l e) (left_by_kills shape core cache ks tags k l f);
}

pub once-with_fill : (g : Layout) (tags left : List (Option ℕ)) (fill way : Option ℕ) → IsOnce g left
    → ((k l : ℕ) → get_or left k None ≡ Some l → get_or tags k None ≡ Some l)
    → ((line w : ℕ) → fill ≡ Some line → way ≡ Some w → IsFree g tags line w)
    → IsOnce g (with_fill g fill way (λ line. line) left)
once-with_fill g tags left None way o below free = o
once-with_fill g tags left (Some line) None o below free = o
once-with_fill g tags left (Some line) (Some w) o below free = once_set g tags left line w (free line w refl refl) o below

-- how a fill's way is chosen, at each commit
abbrev pub FillsWell : Shape → ℕ → List Commit → Type 0
FillsWell shape strands log =
    (n : ℕ) (c : Commit) (cache : Cache) (line way : ℕ) → slice_get log n ≡ Some c → filled_line cache c.op ≡ Some line → c.way ≡ Some way
    → FillsAt (layout shape cache) (slot_of (layout shape cache) (directory_at shape strands log (core_of strands c) cache n) line) line way

pub start_once : (shape : Shape) (cache : Cache) → IsOnce (layout shape cache) (no_tags shape cache)
unfolding no_tags
start_once shape cache = once_start (layout shape cache) (slots_in (layout shape cache))

module _ (shape : Shape) (strands : ℕ) (log : List Commit) (fills : FillsWell shape strands log) where
  once_next : (core : ℕ) (cache : Cache) (n : ℕ) → IsOnce (layout shape cache) (directory_at shape strands log core cache n) → (o : Option Commit) → slice_get log n ≡ o
      → IsOnce (layout shape cache) (with_commit shape strands core cache (directory_at shape strands log core cache n) o)
  once_next core cache n before None is = before
  once_next core cache n before (Some c) is =
      let tags = directory_at shape strands log core cache n in
      let left = once-with_kills shape (layout shape cache) core cache c.kills tags before in
      elim (cases_Bool (core_of strands c == core)) [
        | inl e ↦ rw e (once-with_fill (layout shape cache) tags (with_kills shape core cache c.kills tags) (filled_line cache c.op) c.way left (λ k l f. left_by_kills shape core cache c.kills tags k l f)
            (λ line w il iw.
            let here : core_of strands c ≡ core = eqb-true (core_of strands c) core e in
            let f : FillsAt (layout shape cache) (slot_of (layout shape cache) (directory_at shape strands log core cache n) line) line w =
            subst (λ (i : ℕ). FillsAt (layout shape cache) (slot_of (layout shape cache) (directory_at shape strands log i cache n) line) line w) here (fills n c cache line w is il iw) in
            free_from (layout shape cache) tags line w before (slot_of (layout shape cache) tags line) refl f))
        | inr e ↦ rw e left
      ]

  pub directory_once : (core : ℕ) (cache : Cache) (n : ℕ) → IsOnce (layout shape cache) (directory_at shape strands log core cache n)
  directory_once core cache zero = start_once shape cache
  directory_once core cache (suc n) = once_next core cache n (directory_once core cache n) (slice_get log n) refl
