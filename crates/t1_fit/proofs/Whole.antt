-- A bank's own directory is its part of the whole directory, so what it finds is what the whole shows.
use Rattle.std.proofs.Common.{◌≡◌, ℕ, zero, suc, ◌⊎◌, ◌==◌, inl, inr, true, false, List, [], ◌++◌, Option, Some, None, refl, ap, sym, ◌∙◌, subst}
use Rattle.std.specs.List.{slice_get}
use Rattle.std.proofs.lemmas.Bool.{cases_eq, cases_Bool, eq-eqb, ne_eqb, eqb-true}
use Rattle.t1_shape.specs.Shapes.{Shape}
use Rattle.t1_shape.specs.Slots.{Layout, slots_in, slot_of, IsOnce, with_fill}
use Rattle.t1_shape.proofs.Once.{FillsAt, IsFree, free_from}
use Rattle.t1_packet.specs.declared.cache.Cache.{Cache}
use Rattle.t1_packet.specs.declared.cache.Cache.TheVariants.{Dcache, Icache}
use Rattle.t1_packet.specs.Data.{KillData}
use Rattle.t1_packet.specs.Caches.{layout, bank_of, with_kills, filled_line}
use Rattle.t1_dir.specs.Directory.{no_tags}
use Rattle.t1_event.specs.declared.commit.Commit.{Commit}
use Rattle.t1_event.specs.Log.{core_of}
use Rattle.t1_event.specs.Kills.{kills_here, kills_below}
use Rattle.t1_event.specs.Shadow.{with_commit, directory_at}
use Rattle.t1_tso.proofs.Once.{left_by_kills, once-with_kills, once-with_fill, start_once}
use Rattle.t1_fit.proofs.Part.{part, own_with, own_at, IsBanked, Harmless, part_start, part-with_kills, part_fill, kills_part, harmless_kills, with_kills_untouched, fill_untouched, slot_part}

-- each bank's own directory is its part of the whole, which shows a line once
pub record IsWhole (shape : Shape) (strands : ℕ) (log : List Commit) (n : ℕ) : Type 0 where
  pub part_is : (b core : ℕ) (cache : Cache) → own_at shape b strands log core cache n ≡ part shape b cache (directory_at shape strands log core cache n)
  pub once : (core : ℕ) (cache : Cache) → IsOnce (layout shape cache) (directory_at shape strands log core cache n)

-- a bank's commit, with the kills that its own directory shows
pub record IsRuled (shape : Shape) (strands cores : ℕ) (log : List Commit) (n : ℕ) (c : Commit) : Type 0 where
  pub banked : IsBanked shape c
  pub kills : c.kills ≡ kills_below shape (λ i κ. own_at shape c.dest strands log i κ n) (core_of strands c) c.evicted c.op cores

-- or one that fills and kills nothing, as of I/O
pub record IsStill (c : Commit) : Type 0 where
  pub kills : c.kills ≡ []
  pub way : c.way ≡ None

no_fill : (g : Layout) (l : Option ℕ) (tags : List (Option ℕ)) → with_fill g l None (λ line. line) tags ≡ tags
no_fill g None tags = refl
no_fill g (Some l) tags = refl

still_step : (shape : Shape) (strands core : ℕ) (cache : Cache) (tags : List (Option ℕ)) (c : Commit) → IsStill c → with_commit shape strands core cache tags (Some c) ≡ tags
still_step shape strands core cache tags c s =
    let g : Layout = layout shape cache in
    let left : with_kills shape core cache c.kills tags ≡ tags = ap (λ (ks : List KillData). with_kills shape core cache ks tags) s.kills in
    let kept : with_fill g (filled_line cache c.op) c.way (λ line. line) (with_kills shape core cache c.kills tags) ≡ tags =
    ap (λ (v : Option ℕ). with_fill g (filled_line cache c.op) v (λ (line : ℕ). line) (with_kills shape core cache c.kills tags)) s.way
    ∙ (no_fill g (filled_line cache c.op) (with_kills shape core cache c.kills tags) ∙ left) in
    elim (cases_Bool (core_of strands c == core)) [ inl e ↦ rw e kept | inr e ↦ rw e left ]

module _ (shape : Shape) (strands cores : ℕ) (log : List Commit) (of : (n : ℕ) (c : Commit) → slice_get log n ≡ Some c → IsRuled shape strands cores log n c ⊎ IsStill c)
    (fill : (n : ℕ) (c : Commit) (cache : Cache) (line way : ℕ) → slice_get log n ≡ Some c → filled_line cache c.op ≡ Some line → c.way ≡ Some way
    → FillsAt (layout shape cache) (slot_of (layout shape cache) (own_at shape c.dest strands log (core_of strands c) cache n) line) line way) where
  of_filled : (n : ℕ) (c : Commit) (cache : Cache) (line way : ℕ) → slice_get log n ≡ Some c → filled_line cache c.op ≡ Some line → c.way ≡ Some way → bank_of shape cache line ≡ c.dest
  of_filled n c cache line way is il iw =
      elim (of n c is) [
        | inl r ↦ r.banked.filled cache line il
        | inr s ↦ absurd (let clash : ◌≡◌ {A = Option ℕ} None (Some way) = sym s.way ∙ iw in cc)
      ]

  -- the fill, by the whole directory
  free : (n : ℕ) (c : Commit) → slice_get log n ≡ Some c → IsWhole shape strands log n → (core : ℕ) (cache : Cache) → core_of strands c ≡ core
      → (line way : ℕ) → filled_line cache c.op ≡ Some line → c.way ≡ Some way → IsFree (layout shape cache) (directory_at shape strands log core cache n) line way
  free n c is w core cache here line way il iw =
      let f : FillsAt (layout shape cache) (slot_of (layout shape cache) (own_at shape c.dest strands log core cache n) line) line way =
      subst (λ (i : ℕ). FillsAt (layout shape cache) (slot_of (layout shape cache) (own_at shape c.dest strands log i cache n) line) line way) here (fill n c cache line way is il iw) in
      let e : slot_of (layout shape cache) (own_at shape c.dest strands log core cache n) line ≡ slot_of (layout shape cache) (directory_at shape strands log core cache n) line =
      ap (λ (ts : List (Option ℕ)). slot_of (layout shape cache) ts line) (w.part_is c.dest core cache)
      ∙ slot_part shape c.dest cache (directory_at shape strands log core cache n) line (of_filled n c cache line way is il iw) in
      free_from (layout shape cache) (directory_at shape strands log core cache n) line way (w.once core cache) (slot_of (layout shape cache) (directory_at shape strands log core cache n) line) refl
      (subst (λ (o : Option ℕ). FillsAt (layout shape cache) o line way) e f)

  once_step : (n : ℕ) (c : Commit) → slice_get log n ≡ Some c → IsWhole shape strands log n → (core : ℕ) (cache : Cache)
      → IsOnce (layout shape cache) (with_commit shape strands core cache (directory_at shape strands log core cache n) (Some c))
  once_step n c is w core cache =
      let tags = directory_at shape strands log core cache n in
      let left = once-with_kills shape (layout shape cache) core cache c.kills tags (w.once core cache) in
      elim (cases_Bool (core_of strands c == core)) [
        | inl e ↦ rw e (once-with_fill (layout shape cache) tags (with_kills shape core cache c.kills tags) (filled_line cache c.op) c.way left (λ k l f. left_by_kills shape core cache c.kills tags k l f)
            (λ line way il iw. free n c is w core cache (eqb-true (core_of strands c) core e) line way il iw))
        | inr e ↦ rw e left
      ]

  own_part : (c : Commit) (core : ℕ) (cache : Cache) (tags : List (Option ℕ)) → IsBanked shape c
      → with_commit shape strands core cache (part shape c.dest cache tags) (Some c) ≡ part shape c.dest cache (with_commit shape strands core cache tags (Some c))
  own_part c core cache tags b =
      let left = part-with_kills shape c.dest core cache c.kills tags in
      elim (cases_Bool (core_of strands c == core)) [
        | inl e ↦ rw e (ap (λ (ts : List (Option ℕ)). with_fill (layout shape cache) (filled_line cache c.op) c.way (λ (at : ℕ). at) ts) (sym left)
            ∙ sym (part_fill shape c.dest (layout shape cache) cache (filled_line cache c.op) c.way (with_kills shape core cache c.kills tags) (λ l il. b.filled cache l il)))
        | inr e ↦ rw e (sym left)
      ]

  other_part : (n : ℕ) (c : Commit) → slice_get log n ≡ Some c → IsRuled shape strands cores log n c → IsWhole shape strands log n → (b core : ℕ) (cache : Cache) → (c.dest ≡ b → ⊥)
      → part shape b cache (with_commit shape strands core cache (directory_at shape strands log core cache n) (Some c)) ≡ part shape b cache (directory_at shape strands log core cache n)
  other_part n c is r w b core cache ne =
      let tags = directory_at shape strands log core cache n in
      let harmless : Harmless shape b core cache tags c.kills =
      subst (λ (ks : List KillData). Harmless shape b core cache (directory_at shape strands log core cache n) ks) (sym r.kills)
      (harmless_kills shape strands log n c b core cache r.banked ne (λ k κ. w.part_is c.dest k κ) cores) in
      let left : part shape b cache (with_kills shape core cache c.kills tags) ≡ part shape b cache tags = with_kills_untouched shape b core cache tags c.kills tags harmless refl in
      elim (cases_Bool (core_of strands c == core)) [
        | inl e ↦ rw e (fill_untouched shape b cache (filled_line cache c.op) c.way tags (with_kills shape core cache c.kills tags) (w.once core cache)
            (λ l il q. ne (sym (r.banked.filled cache l il) ∙ q))
            (λ l v il iv. (free n c is w core cache (eqb-true (core_of strands c) core e) l v il iv).small)
            left)
        | inr e ↦ rw e left
      ]

  ruled_step : (n : ℕ) → IsWhole shape strands log n → (c : Commit) → slice_get log n ≡ Some c → (b core : ℕ) (cache : Cache) → IsRuled shape strands cores log n c
      → own_with shape b strands core cache (own_at shape b strands log core cache n) (Some c) ≡ part shape b cache (with_commit shape strands core cache (directory_at shape strands log core cache n) (Some c))
  ruled_step n w c is b core cache r =
      elim (cases_eq c.dest b) [
        | inl same ↦
            let t : (c.dest == b) ≡ true = eq-eqb c.dest b same in
            rw t (ap (λ (ts : List (Option ℕ)). with_commit shape strands core cache ts (Some c)) (w.part_is b core cache)
            ∙ subst (λ (d : ℕ). with_commit shape strands core cache (part shape d cache (directory_at shape strands log core cache n)) (Some c)
            ≡ part shape d cache (with_commit shape strands core cache (directory_at shape strands log core cache n) (Some c))) same
            (own_part c core cache (directory_at shape strands log core cache n) r.banked))
        | inr ne ↦
            let f : (c.dest == b) ≡ false = ne_eqb c.dest b ne in
            rw f (w.part_is b core cache ∙ sym (other_part n c is r w b core cache ne))
      ]

  part_step : (n : ℕ) → IsWhole shape strands log n → (o : Option Commit) → slice_get log n ≡ o → (b core : ℕ) (cache : Cache)
      → own_with shape b strands core cache (own_at shape b strands log core cache n) o ≡ part shape b cache (with_commit shape strands core cache (directory_at shape strands log core cache n) o)
  part_step n w None is b core cache = w.part_is b core cache
  part_step n w (Some c) is b core cache =
      elim (of n c is) [
        | inl r ↦ ruled_step n w c is b core cache r
        | inr s ↦
            let t : own_with shape b strands core cache (own_at shape b strands log core cache n) (Some c) ≡ own_at shape b strands log core cache n =
            elim (cases_Bool (c.dest == b)) [ inl e ↦ rw e (still_step shape strands core cache (own_at shape b strands log core cache n) c s) | inr e ↦ rw e refl ] in
            t ∙ (w.part_is b core cache ∙ ap (λ (ts : List (Option ℕ)). part shape b cache ts) (sym (still_step shape strands core cache (directory_at shape strands log core cache n) c s)))
      ]

  whole_step : (n : ℕ) → IsWhole shape strands log n → (o : Option Commit) → slice_get log n ≡ o → (core : ℕ) (cache : Cache)
      → IsOnce (layout shape cache) (with_commit shape strands core cache (directory_at shape strands log core cache n) o)
  whole_step n w None is core cache = w.once core cache
  whole_step n w (Some c) is core cache = once_step n c is w core cache

  start_part : (b : ℕ) (cache : Cache) → part shape b cache (no_tags shape cache) ≡ no_tags shape cache
  unfolding no_tags
  start_part b cache = part_start shape (slots_in (layout shape cache)) b cache

  pub whole : (n : ℕ) → IsWhole shape strands log n
  whole zero = record {
    part_is = λ b core cache. sym (start_part b cache);
    once = λ core cache. start_once shape cache;
  }
  whole (suc n) = record {
    part_is = λ b core cache. part_step n (whole n) (slice_get log n) refl b core cache;
    once = λ core cache. whole_step n (whole n) (slice_get log n) refl core cache;
  }

  -- the kills found in a bank's own directory are those found in the whole
  pub kills_whole : (n : ℕ) (c : Commit) → IsBanked shape c → (k : ℕ)
      → kills_below shape (λ i κ. own_at shape c.dest strands log i κ n) (core_of strands c) c.evicted c.op k
      ≡ kills_below shape (λ i κ. directory_at shape strands log i κ n) (core_of strands c) c.evicted c.op k
  kills_whole n c b zero = refl
  kills_whole n c b (suc k) =
      let own : Cache → List KillData = λ κ. kills_here shape k κ (core_of strands c == k) c.evicted c.op (own_at shape c.dest strands log k κ n) 0 in
      let all : Cache → List KillData = λ κ. kills_here shape k κ (core_of strands c == k) c.evicted c.op (directory_at shape strands log k κ n) 0 in
      let one : (κ : Cache) → own κ ≡ all κ = λ κ.
      ap (λ (ts : List (Option ℕ)). kills_here shape k κ (core_of strands c == k) c.evicted c.op ts 0) ((whole n).part_is c.dest k κ)
      ∙ kills_part shape k κ (core_of strands c == k) c (directory_at shape strands log k κ n) 0 b in
      let before = kills_whole n c b k in
      ap (λ (ks : List KillData). ks ++ own Dcache ++ own Icache) before
      ∙ (ap (λ (ks : List KillData). kills_below shape (λ i κ. directory_at shape strands log i κ n) (core_of strands c) c.evicted c.op k ++ ks ++ own Icache) (one Dcache)
      ∙ ap (λ (ks : List KillData). kills_below shape (λ i κ. directory_at shape strands log i κ n) (core_of strands c) c.evicted c.op k ++ all Dcache ++ ks) (one Icache))

  -- where a bank shows a line of its own is where the whole directory shows it
  pub slot_whole : (n : ℕ) (c : Commit) (cache : Cache) (line : ℕ) → bank_of shape cache line ≡ c.dest
      → slot_of (layout shape cache) (own_at shape c.dest strands log (core_of strands c) cache n) line ≡ slot_of (layout shape cache) (directory_at shape strands log (core_of strands c) cache n) line
  slot_whole n c cache line of_bank =
      ap (λ (ts : List (Option ℕ)). slot_of (layout shape cache) ts line) ((whole n).part_is c.dest (core_of strands c) cache)
      ∙ slot_part shape c.dest cache (directory_at shape strands log (core_of strands c) cache n) line of_bank
