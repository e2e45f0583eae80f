-- A directory shows lines of RAM alone, so an access to I/O makes no kill.
use Rattle.std.proofs.Common.{◌≡◌, ℕ, zero, suc, ◌+◌, ◌*◌, ◌/◌, ◌%◌, ◌<◌, ◌≤◌, ◌==◌, inl, inr, Bool, true, false, List, [], ◌∷◌, ◌++◌, get_or, Option, Some, None, refl, ap, ◌∙◌, subst, arith}
use Rattle.std.specs.List.{slice_get}
use Rattle.std.proofs.lemmas.Bool.{cases_Bool, ne_eqb}
use Rattle.t1_shape.specs.Shapes.{Shape}
use Rattle.t1_shape.specs.Slots.{Layout, slots_in, first_slot, with_fill}
use Rattle.t1_shape.proofs.Once.{set_read, none_at}
use Rattle.t1_packet.specs.declared.cache.Cache.{Cache}
use Rattle.t1_packet.specs.declared.cache.Cache.TheVariants.{Dcache, Icache}
use Rattle.t1_packet.specs.declared.op.Op.{Op}
use Rattle.t1_packet.specs.declared.op.Op.TheVariants.{Fetch, Load, Store, Swap, Cas}
use Rattle.t1_packet.specs.Data.{KillData}
use Rattle.t1_packet.specs.Ops.{op_addr}
use Rattle.t1_packet.specs.Caches.{layout, width, with_kills, filled_line}
use Rattle.t1_dir.specs.Directory.{no_tags}
use Rattle.t1_event.specs.declared.commit.Commit.{Commit}
use Rattle.t1_event.specs.Log.{core_of}
use Rattle.t1_event.specs.Kills.{is_written, is_doomed, kills_here, kills_below}
use Rattle.t1_event.specs.Shadow.{with_commit, directory_at}
use Rattle.t1_tso.proofs.Once.{left_by_kills}

abbrev pub AllInRam : ℕ → Cache → List (Option ℕ) → Type 0
AllInRam ram cache tags = (slot line : ℕ) → get_or tags slot None ≡ Some line → line * width cache < ram

pub filled_from : (cache : Cache) (op : Op) (line : ℕ) → filled_line cache op ≡ Some line → line * width cache ≤ op_addr op
filled_from Icache (Fetch a v) line e = let q : a / 32 ≡ line = cc (e) in omega (arith, q)
filled_from Dcache (Load a z v) line e = let q : a / 16 ≡ line = cc (e) in omega (arith, q)
filled_from Dcache (Fetch a v) line e = let clash : ◌≡◌ {A = Option ℕ} None (Some line) = e in cc
filled_from Icache (Load a z v) line e = let clash : ◌≡◌ {A = Option ℕ} None (Some line) = e in cc
filled_from cache (Store a z v) line e = let clash : ◌≡◌ {A = Option ℕ} None (Some line) = e in cc
filled_from cache (Swap a z v) line e = let clash : ◌≡◌ {A = Option ℕ} None (Some line) = e in cc
filled_from cache (Cas a z x v) line e = let clash : ◌≡◌ {A = Option ℕ} None (Some line) = e in cc

fill_in_ram : (g : Layout) (ram : ℕ) (cache : Cache) (tags : List (Option ℕ)) (fill way : Option ℕ) → AllInRam ram cache tags
    → ((line v : ℕ) → fill ≡ Some line → way ≡ Some v → line * width cache < ram)
    → AllInRam ram cache (with_fill g fill way (λ (line : ℕ). line) tags)
fill_in_ram g ram cache tags None way all new k l e = all k l e
fill_in_ram g ram cache tags (Some line) None all new k l e = all k l e
fill_in_ram g ram cache tags (Some line) (Some v) all new k l e =
    elim (set_read tags (first_slot g line + v) (Some line) k l e) [
      | inl p ↦ (let q : line ≡ l = cc (p.1) in subst (λ (n : ℕ). n * width cache < ram) q (new line v refl refl))
      | inr p ↦ all k l p.1
    ]

-- only an access to RAM fills
abbrev pub FillsRam : ℕ → List Commit → Type 0
FillsRam ram log = (n : ℕ) (c : Commit) (way : ℕ) → slice_get log n ≡ Some c → c.way ≡ Some way → op_addr c.op < ram

module _ (shape : Shape) (ram strands : ℕ) (log : List Commit) (fills : FillsRam ram log) where
  step_in_ram : (core : ℕ) (cache : Cache) (n : ℕ) → AllInRam ram cache (directory_at shape strands log core cache n)
      → (o : Option Commit) → slice_get log n ≡ o → AllInRam ram cache (with_commit shape strands core cache (directory_at shape strands log core cache n) o)
  step_in_ram core cache n before None is = before
  step_in_ram core cache n before (Some c) is =
      let tags : List (Option ℕ) = directory_at shape strands log core cache n in
      let left : AllInRam ram cache (with_kills shape core cache c.kills tags) = λ k l e. before k l (left_by_kills shape core cache c.kills tags k l e) in
      elim (cases_Bool (core_of strands c == core)) [
        | inl e ↦ rw e (fill_in_ram (layout shape cache) ram cache (with_kills shape core cache c.kills tags) (filled_line cache c.op) c.way left
            (λ line v il iw. let r = fills n c v is iw in let f = filled_from cache c.op line il in omega (arith, r, f)))
        | inr e ↦ rw e left
      ]

  start_in_ram : (cache : Cache) → AllInRam ram cache (no_tags shape cache)
  unfolding no_tags
  start_in_ram cache k l e = absurd (none_at (slots_in (layout shape cache)) k l e)

  pub directory_in_ram : (core : ℕ) (cache : Cache) (n : ℕ) → AllInRam ram cache (directory_at shape strands log core cache n)
  directory_in_ram core cache zero = start_in_ram cache
  directory_in_ram core cache (suc n) = step_in_ram core cache n (directory_in_ram core cache n) (slice_get log n) refl

-- ---- an access above RAM

written_above : (cache : Cache) (line ram : ℕ) (own : Bool) (op : Op) → line * width cache < ram → ram % 65536 ≡ 0 → ram ≤ op_addr op → is_written cache line own op ≡ false
written_above Dcache line ram true (Store a z v) l m le = refl
written_above Dcache line ram false (Store a z v) l m le = ne_eqb (a / 16) line (λ e. omega (arith, e, l, m, le))
written_above Icache line ram own (Store a z v) l m le = ne_eqb (a / 32) line (λ e. omega (arith, e, l, m, le))
written_above Dcache line ram own (Swap a z v) l m le = ne_eqb (a / 16) line (λ e. omega (arith, e, l, m, le))
written_above Icache line ram own (Swap a z v) l m le = ne_eqb (a / 32) line (λ e. omega (arith, e, l, m, le))
written_above cache line ram own (Fetch a v) l m le = refl
written_above cache line ram own (Load a z v) l m le = refl
written_above cache line ram own (Cas a z e v) l m le = refl

none_doomed : (shape : Shape) (ram core : ℕ) (cache : Cache) (own : Bool) (op : Op) (tags : List (Option ℕ)) (from : ℕ) → AllInRam ram cache tags → ram % 65536 ≡ 0 → ram ≤ op_addr op
    → kills_here shape core cache own None op tags from ≡ []
none_doomed shape ram core cache own op [] from all m le = refl
none_doomed shape ram core cache own op (t ∷ ts) from all m le =
    let off : is_doomed cache own None op t ≡ false = by t (all 0) in
    rw off (none_doomed shape ram core cache own op ts (suc from) (λ k l h. all (suc k) l h) m le)
  where
    by : (o : Option ℕ) → ((l : ℕ) → o ≡ Some l → l * width cache < ram) → is_doomed cache own None op o ≡ false
    by None small = refl
    by (Some line) small = written_above cache line ram own op (small line refl) m le

pub none_killed : (shape : Shape) (ram : ℕ) (shown : ℕ → Cache → List (Option ℕ)) (asker : ℕ) (op : Op) (cores : ℕ)
    → ((core : ℕ) (cache : Cache) → AllInRam ram cache (shown core cache)) → ram % 65536 ≡ 0 → ram ≤ op_addr op
    → kills_below shape shown asker None op cores ≡ []
none_killed shape ram shown asker op zero all m le = refl
none_killed shape ram shown asker op (suc k) all m le =
    let a : List KillData = kills_below shape shown asker None op k in
    let x : List KillData = kills_here shape k Dcache (asker == k) None op (shown k Dcache) 0 in
    let y : List KillData = kills_here shape k Icache (asker == k) None op (shown k Icache) 0 in
    let ea : a ≡ [] = none_killed shape ram shown asker op k all m le in
    let ex : x ≡ [] = none_doomed shape ram k Dcache (asker == k) op (shown k Dcache) 0 (all k Dcache) m le in
    let ey : y ≡ [] = none_doomed shape ram k Icache (asker == k) op (shown k Icache) 0 (all k Icache) m le in
    ap (λ (l : List KillData). l ++ x ++ y) ea ∙ (ap (λ (l : List KillData). [] ++ l ++ y) ex ∙ ap (λ (l : List KillData). [] ++ [] ++ l) ey)
