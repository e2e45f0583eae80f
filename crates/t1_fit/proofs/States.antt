-- The banks along the log: of accesses that are served as they are asked, what each bank has come to.
use Rattle.std.proofs.Common.{◌≡◌, ℕ, zero, suc, ◌+◌, ◌%◌, ◌^◌, ◌<◌, ◌≤◌, ◌⊎◌, ◌==◌, ◌||◌, inl, inr, Bool, true, false, cond, List, [], ◌∷◌, ◌++◌, length, set, Option, Some, None, refl, ap, sym, ◌∙◌, subst, arith}
use Rattle.std.specs.List.{slice_get}
use Rattle.std.proofs.lemmas.Bool.{cases_Bool, lt-ltb, eq-eqb, ne_eqb}
use Rattle.std.proofs.lemmas.List.{length-set}
use Rattle.std.proofs.lemmas.List.Elements.{filter-append}
use Rattle.t1_num.specs.Memory.{IsSize}
use Rattle.t1_shape.specs.Shapes.{Shape}
use Rattle.t1_shape.specs.Numbers.{bank_at}
use Rattle.t1_shape.specs.Slots.{Layout, slots_in, first_slot, with_fill}
use Rattle.t1_packet.specs.declared.cache.Cache.{Cache}
use Rattle.t1_packet.specs.declared.cache.Cache.TheVariants.{Dcache, Icache}
use Rattle.t1_packet.specs.declared.op.Op.{Op}
use Rattle.t1_packet.specs.declared.op.Op.TheVariants.{Fetch, Load, Store, Swap, Cas}
use Rattle.t1_packet.specs.Data.{KillData, RequestData}
use Rattle.t1_packet.specs.Ops.{op_addr, op_size, op_dest}
use Rattle.t1_packet.specs.Caches.{layout, is_kill_of, slot_killed, with_kills, filled_line}
use Rattle.t1_dir.specs.Directory.{no_tags}
use Rattle.t1_event.specs.declared.commit.Commit.{Commit}
use Rattle.t1_event.specs.Items.{IsIo}
use Rattle.t1_event.specs.Log.{core_of}
use Rattle.t1_event.specs.Kills.{is_evicted, is_written, is_doomed, kill_at, kills_here, kills_below}
use Rattle.t1_event.specs.Shadow.{with_commit}
use Rattle.std.proofs.lemmas.List.{append-nil}
use Rattle.t1_packet.specs.declared.served.Served.{Served}
use Rattle.t1_event.specs.BankRule.{BankState, is_size, ways_for, is_own_access, fits, is_fit, served_well, refused, served_by, bank_well, bank_with}
use Rattle.t1_packet.specs.Ops.{asked_way}
use Rattle.t1_joint.specs.Start.{Setup}
use Rattle.t1_joint.specs.Parts.{served_at}
use Rattle.t1_joint.specs.CoreRule.{IsSized, IsAsked}
use Rattle.t1_joint.specs.Fit.{serves, destination_with, AreServed}
use Rattle.std.proofs.lemmas.List.{length-replicate}
use Rattle.t1_packet.proofs.Caches.{slots_are, set_below, way_below}
use Rattle.t1_tso.proofs.Facts.{LiesAt, in_ram, in_io}
use Rattle.t1_fit.proofs.Part.{own_with, own_at}
use Rattle.t1_fit.proofs.Directories.{AreRanged, ranged_append}

-- ---- requests

-- a request as some core sends it
pub record IsRight (w : Setup) (r : RequestData) : Type 0 where
  pub core : r.core < w.config.cores
  pub strand : r.strand < w.config.strands
  pub asked : IsAsked w.config.chip w.config.ram r.op

pub asked_sized : (shape : Shape) (ram : ℕ) (op : Op) → IsAsked shape ram op → IsSized (op_addr op) (op_size op)
asked_sized shape ram (Fetch addr way) a = a.0
asked_sized shape ram (Load addr size way) a = a.0
asked_sized shape ram (Store addr size value) a = a.0
asked_sized shape ram (Swap addr size new) a = a.0
asked_sized shape ram (Cas addr size expect new) a = a.0

either : (shape : Shape) (ram addr : ℕ) → ram < 2 ^ 39 → (addr < ram) ⊎ IsIo addr → LiesAt shape ram addr
either shape ram addr small (inl l) = in_ram shape ram addr small l
either shape ram addr small (inr io) = in_io shape ram addr io

pub asked_lies : (shape : Shape) (ram : ℕ) (op : Op) → ram < 2 ^ 39 → IsAsked shape ram op → LiesAt shape ram (op_addr op)
asked_lies shape ram (Fetch addr way) small a = in_ram shape ram addr small a.1
asked_lies shape ram (Load addr size way) small a = either shape ram addr small a.1
asked_lies shape ram (Store addr size value) small a = either shape ram addr small a.1
asked_lies shape ram (Swap addr size new) small a = in_ram shape ram addr small a.1
asked_lies shape ram (Cas addr size expect new) small a = in_ram shape ram addr small a.1

pub asked_ways : (shape : Shape) (ram : ℕ) (op : Op) → IsAsked shape ram op → asked_way op < ways_for shape op
asked_ways shape ram (Fetch addr way) a = a.2
asked_ways shape ram (Load addr size way) a = a.2
asked_ways shape ram (Store addr size value) a = omega arith
asked_ways shape ram (Swap addr size new) a = omega arith
asked_ways shape ram (Cas addr size expect new) a = omega arith

size_true : (size : ℕ) → IsSize size → is_size size ≡ true
size_true size s =
    elim s [
      | inl e ↦ (let P : ℕ → Type 0 = λ n. is_size n ≡ true in subst P (sym e) refl)
      | inr (inl e) ↦ (let P : ℕ → Type 0 = λ n. is_size n ≡ true in subst P (sym e) refl)
      | inr (inr (inl e)) ↦ (let P : ℕ → Type 0 = λ n. is_size n ≡ true in subst P (sym e) refl)
      | inr (inr (inr e)) ↦ (let P : ℕ → Type 0 = λ n. is_size n ≡ true in subst P (sym e) refl)
    ]

pub own_access : (shape : Shape) (ram bank addr size : ℕ) → addr < ram → bank_at shape addr ≡ bank → IsSized addr size → is_own_access shape ram bank addr size ≡ true
unfolding is_own_access
own_access shape ram bank addr size l b s =
    rw (lt-ltb addr ram l, eq-eqb (bank_at shape addr) bank b, size_true size s.size_is, eq-eqb (addr % size) 0 s.aligned) refl

-- such a request of the bank's own is served
pub fits_true : (shape : Shape) (cores ram bank : ℕ) (r : RequestData) → r.core < cores → asked_way r.op < ways_for shape r.op → is_own_access shape ram bank (op_addr r.op) (op_size r.op) ≡ true
    → fits shape cores ram bank r ≡ true
unfolding fits
fits_true shape cores ram bank r c v o = rw (lt-ltb r.core cores c, lt-ltb (asked_way r.op) (ways_for shape r.op) v, o) refl

pub served_well_by : (b : BankState) (r : RequestData) → is_fit b r ≡ true → served_by b r ≡ served_well b r
unfolding served_by
served_well_by b r e = ap (λ (t : Bool). cond t (served_well b r) (refused r)) e

pub bank_well_by : (b : BankState) (r : RequestData) → is_fit b r ≡ true → bank_with b r ≡ bank_well b r
unfolding bank_with
bank_well_by b r e = ap (λ (t : Bool). cond t (bank_well b r) b) e

-- ---- destinations, one access more

abbrev pub after : Shape → ℕ → BankState → List Served → BankState
after shape d b [] = b
after shape d b (a ∷ more) = after shape d (destination_with shape d b a.request) more

pub after_push : (shape : Shape) (d : ℕ) (b : BankState) (xs : List Served) (a : Served) → after shape d b (xs ++ a ∷ []) ≡ destination_with shape d (after shape d b xs) a.request
after_push shape d b [] a = refl
after_push shape d b (x ∷ xs) a = after_push shape d (destination_with shape d b x.request) xs a

pub served_here : (shape : Shape) (d : ℕ) (b : BankState) (xs : List Served) (a : Served) (ys : List Served) → AreServed shape d b (xs ++ a ∷ ys) → a ≡ serves shape d (after shape d b xs) a.request
served_here shape d b [] a ys s = s.0
served_here shape d b (x ∷ xs) a ys s = served_here shape d (destination_with shape d b x.request) xs a ys s.1

pub served_front : (shape : Shape) (d : ℕ) (b : BankState) (xs ys : List Served) → AreServed shape d b (xs ++ ys) → AreServed shape d b xs
served_front shape d b [] ys h = tt
served_front shape d b (x ∷ xs) ys h = (h.0, served_front shape d (destination_with shape d b x.request) xs ys h.1)

pub own_here : (shape : Shape) (d : ℕ) (xs : List Served) (a : Served) → op_dest shape a.request.op ≡ d → served_at shape d (xs ++ a ∷ []) ≡ served_at shape d xs ++ a ∷ []
own_here shape d xs a e =
    filter-append (λ (v : Served). op_dest shape v.request.op == d) xs (a ∷ [])
    ∙ (let t : (op_dest shape a.request.op == d) ≡ true = eq-eqb (op_dest shape a.request.op) d e in ap (λ (b : Bool). served_at shape d xs ++ cond b (a ∷ []) []) t)

pub own_other : (shape : Shape) (d : ℕ) (xs : List Served) (a : Served) → (op_dest shape a.request.op ≡ d → ⊥) → served_at shape d (xs ++ a ∷ []) ≡ served_at shape d xs
own_other shape d xs a ne =
    filter-append (λ (v : Served). op_dest shape v.request.op == d) xs (a ∷ [])
    ∙ (let t : (op_dest shape a.request.op == d) ≡ false = ne_eqb (op_dest shape a.request.op) d ne in
    ap (λ (b : Bool). served_at shape d xs ++ cond b (a ∷ []) []) t ∙ append-nil (served_at shape d xs))

-- ---- kills

-- kills over directories that show the same, for ops that write the same
doomed_same : (cache : Cache) (own : Bool) (evicted : Option ℕ) (op op' : Op) (t : Option ℕ) → ((line : ℕ) → is_written cache line own op ≡ is_written cache line own op')
    → is_doomed cache own evicted op t ≡ is_doomed cache own evicted op' t
doomed_same cache own evicted op op' None f = refl
doomed_same cache own evicted op op' (Some line) f = ap (λ (b : Bool). is_evicted cache line evicted || b) (f line)

here_same : (shape : Shape) (core : ℕ) (cache : Cache) (own : Bool) (evicted : Option ℕ) (op op' : Op) (tags : List (Option ℕ)) (from : ℕ) → ((line : ℕ) → is_written cache line own op ≡ is_written cache line own op')
    → kills_here shape core cache own evicted op tags from ≡ kills_here shape core cache own evicted op' tags from
here_same shape core cache own evicted op op' [] from f = refl
here_same shape core cache own evicted op op' (t ∷ tags) from f =
    let rest = here_same shape core cache own evicted op op' tags (suc from) f in
    ap (λ (b : Bool). cond b (kill_at shape core cache from ∷ kills_here shape core cache own evicted op tags (suc from)) (kills_here shape core cache own evicted op tags (suc from))) (doomed_same cache own evicted op op' t f)
    ∙ ap (λ (ks : List KillData). cond (is_doomed cache own evicted op' t) (kill_at shape core cache from ∷ ks) ks) rest

pub kills_same : (shape : Shape) (shown shown' : ℕ → Cache → List (Option ℕ)) (asker : ℕ) (evicted : Option ℕ) (op op' : Op) (cores k : ℕ) → k ≤ cores
    → ((c : ℕ) (cache : Cache) → c < cores → shown c cache ≡ shown' c cache) → ((cache : Cache) (line : ℕ) (own : Bool) → is_written cache line own op ≡ is_written cache line own op')
    → kills_below shape shown asker evicted op k ≡ kills_below shape shown' asker evicted op' k
kills_same shape shown shown' asker evicted op op' cores zero le same f = refl
kills_same shape shown shown' asker evicted op op' cores (suc k) le same f =
    let here : Cache → List KillData = λ κ. kills_here shape k κ (asker == k) evicted op (shown k κ) 0 in
    let there : Cache → List KillData = λ κ. kills_here shape k κ (asker == k) evicted op' (shown' k κ) 0 in
    let one : (κ : Cache) → here κ ≡ there κ = λ κ.
    ap (λ (ts : List (Option ℕ)). kills_here shape k κ (asker == k) evicted op ts 0) (same k κ (omega (arith, le)))
    ∙ here_same shape k κ (asker == k) evicted op op' (shown' k κ) 0 (λ line. f κ line (asker == k)) in
    let before = kills_same shape shown shown' asker evicted op op' cores k (omega (arith, le)) same f in
    ap (λ (ks : List KillData). ks ++ here Dcache ++ here Icache) before
    ∙ (ap (λ (ks : List KillData). kills_below shape shown' asker evicted op' k ++ ks ++ here Icache) (one Dcache)
    ∙ ap (λ (ks : List KillData). kills_below shape shown' asker evicted op' k ++ there Dcache ++ ks) (one Icache))

-- each kill is of a core and a slot that there are
here_ranged : (shape : Shape) (cores core : ℕ) (cache : Cache) (own : Bool) (evicted : Option ℕ) (op : Op) (tags : List (Option ℕ)) (from : ℕ) → core < cores → from + length tags ≤ 512
    → AreRanged shape cores (kills_here shape core cache own evicted op tags from)
here_ranged shape cores core cache own evicted op [] from lc l = tt
here_ranged shape cores core cache own evicted op (t ∷ tags) from lc l =
    let rest = here_ranged shape cores core cache own evicted op tags (suc from) lc (omega (arith, l)) in
    elim (cases_Bool (is_doomed cache own evicted op t)) [
      | inl e ↦ rw e (record { core = lc; set_is = set_below shape cache from (omega (arith, l)); way_is = way_below shape cache from }, rest)
      | inr e ↦ rw e rest
    ]

pub kills_ranged : (shape : Shape) (shown : ℕ → Cache → List (Option ℕ)) (asker : ℕ) (evicted : Option ℕ) (op : Op) (cores k : ℕ) → k ≤ cores → ((c : ℕ) (cache : Cache) → c < cores → length (shown c cache) ≤ 512)
    → AreRanged shape cores (kills_below shape shown asker evicted op k)
kills_ranged shape shown asker evicted op cores zero le len = tt
kills_ranged shape shown asker evicted op cores (suc k) le len =
    let before = kills_below shape shown asker evicted op k in
    let ds = kills_here shape k Dcache (asker == k) evicted op (shown k Dcache) 0 in
    let is = kills_here shape k Icache (asker == k) evicted op (shown k Icache) 0 in
    ranged_append shape cores (before ++ ds) is
    (ranged_append shape cores before ds (kills_ranged shape shown asker evicted op cores k (omega (arith, le)) len)
    (here_ranged shape cores k Dcache (asker == k) evicted op (shown k Dcache) 0 (omega (arith, le)) (let l = len k Dcache (omega (arith, le)) in omega (arith, l))))
    (here_ranged shape cores k Icache (asker == k) evicted op (shown k Icache) 0 (omega (arith, le)) (let l = len k Icache (omega (arith, le)) in omega (arith, l)))

-- ---- sizes of directories

length-with_kills : (shape : Shape) (core : ℕ) (cache : Cache) (ks : List KillData) (tags : List (Option ℕ)) → length (with_kills shape core cache ks tags) ≡ length tags
length-with_kills shape core cache [] tags = refl
length-with_kills shape core cache (k ∷ ks) tags =
    elim (cases_Bool (is_kill_of shape core cache k)) [
      | inl e ↦ rw e (length-with_kills shape core cache ks (set tags (slot_killed shape k) None) ∙ length-set tags (slot_killed shape k) None)
      | inr e ↦ rw e (length-with_kills shape core cache ks tags)
    ]

length-with_fill : (g : Layout) (line way : Option ℕ) (tags : List (Option ℕ)) → length (with_fill g line way (λ l. l) tags) ≡ length tags
length-with_fill g None way tags = refl
length-with_fill g (Some line) None tags = refl
length-with_fill g (Some line) (Some way) tags = length-set tags (first_slot g line + way) (Some line)

length-with_commit : (shape : Shape) (strands core : ℕ) (cache : Cache) (tags : List (Option ℕ)) (c : Commit) → length (with_commit shape strands core cache tags (Some c)) ≡ length tags
length-with_commit shape strands core cache tags c =
    let left = length-with_kills shape core cache c.kills tags in
    elim (cases_Bool (core_of strands c == core)) [
      | inl e ↦ rw e (length-with_fill (layout shape cache) (filled_line cache c.op) c.way (with_kills shape core cache c.kills tags) ∙ left)
      | inr e ↦ rw e left
    ]

length-no_tags : (shape : Shape) (cache : Cache) → length (no_tags shape cache) ≡ 512
unfolding no_tags
length-no_tags shape cache = length-replicate (slots_in (layout shape cache)) None ∙ slots_are shape cache

pub length-own_at : (shape : Shape) (b strands : ℕ) (log : List Commit) (core : ℕ) (cache : Cache) (n : ℕ) → length (own_at shape b strands log core cache n) ≡ 512
length-own_at shape b strands log core cache zero = length-no_tags shape cache
length-own_at shape b strands log core cache (suc n) = by (slice_get log n) ∙ length-own_at shape b strands log core cache n
  where
    by : (o : Option Commit) → length (own_with shape b strands core cache (own_at shape b strands log core cache n) o) ≡ length (own_at shape b strands log core cache n)
    by None = refl
    by (Some c) = elim (cases_Bool (c.dest == b)) [
      | inl e ↦ rw e (length-with_commit shape strands core cache (own_at shape b strands log core cache n) c)
      | inr e ↦ rw e refl
    ]
