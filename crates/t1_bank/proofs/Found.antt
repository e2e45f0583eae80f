-- The kills over all slots in order are those that look-ups find.
use Rattle.std.proofs.Common.{◌≡◌, ℕ, ◌+◌, ◌*◌, ◌/◌, ◌%◌, ◌≤◌, Bool, true, false, cond, List, [], ◌∷◌, ◌++◌, map, get_or, Option, Some, None, refl, ap, sym, ◌∙◌, subst, inl, inr, ◌⊎◌, arith, zero, suc, mul-suc}
use Rattle.std.proofs.lemmas.Bool.{cases_Bool}
use Rattle.std.proofs.lemmas.Nat.{mul-le}
use Rattle.t1_bank.specs.Copies.{copies_of, copy_at}
use Rattle.t1_dir.specs.Directory.{DirectoryState, tags_at, way_in}
use Rattle.t1_event.specs.Kills.{is_doomed, kill_at, kills_here}
use Rattle.t1_packet.specs.Caches.{layout, width}
use Rattle.t1_packet.specs.Data.{KillData}
use Rattle.t1_packet.specs.declared.cache.Cache.{Cache}
use Rattle.t1_packet.specs.declared.op.Op.{Op}
use Rattle.t1_shape.proofs.Slots.{set_of_slot, slot_only, slot_some}
use Rattle.t1_shape.specs.Shapes.{Shape}
use Rattle.t1_shape.specs.Slots.{IsOnce, Layout, first_slot, slot_of}

-- ---- ascending lists of numbers

abbrev pub In : ℕ → List ℕ → Type 0
In j [] = ⊥
In j (x ∷ xs) = (j ≡ x) ⊎ In j xs

abbrev pub Ascends : ℕ → List ℕ → Type 0
Ascends low [] = Unit {0}
Ascends low (x ∷ xs) = (low ≤ x) × Ascends (suc x) xs

pub above : (low j : ℕ) (xs : List ℕ) → Ascends low xs → In j xs → low ≤ j
above low j [] a i = absurd i
above low j (x ∷ xs) a (inl e) = omega (arith, e, a.0)
above low j (x ∷ xs) a (inr i) = let r = above (suc x) j xs a.1 i in omega (arith, r, a.0)

lower : (low least : ℕ) (xs : List ℕ) → least ≤ low → Ascends low xs → Ascends least xs
lower low least [] l a = tt
lower low least (x ∷ xs) l a = (omega (arith, l, a.0), a.1)

-- two ascending lists with the same members are one
pub same_members : (l m : ℕ) (xs ys : List ℕ) → Ascends l xs → Ascends m ys → ((j : ℕ) → In j xs → In j ys) → ((j : ℕ) → In j ys → In j xs) → xs ≡ ys
same_members l m [] [] a b f g = refl
same_members l m [] (y ∷ ys) a b f g = absurd (g y (inl refl))
same_members l m (x ∷ xs) [] a b f g = absurd (f x (inl refl))
same_members l m (x ∷ xs) (y ∷ ys) a b f g =
    let e : x ≡ y = elim (f x (inl refl)) [
      | inl e ↦ e
      | inr i ↦ elim (g y (inl refl)) [
        | inl e ↦ sym e
        | inr k ↦ let p = above (suc y) x ys b.1 i in let q = above (suc x) y xs a.1 k in absurd (omega (arith, p, q))
      ]
    ] in
    let rest : xs ≡ ys = same_members (suc x) (suc y) xs ys a.1 b.1
    (λ j i. elim (f j (inr i)) [ inl q ↦ let p = above (suc x) j xs a.1 i in absurd (omega (arith, p, q, e)) | inr k ↦ k ])
    (λ j i. elim (g j (inr i)) [ inl q ↦ let p = above (suc y) j ys b.1 i in absurd (omega (arith, p, q, e)) | inr k ↦ k ]) in
    ap (λ (z : ℕ). z ∷ xs) e ∙ ap (λ (zs : List ℕ). y ∷ zs) rest

-- ---- the slots that pass a test

abbrev pub passing : (Option ℕ → Bool) → List (Option ℕ) → ℕ → List ℕ
passing p [] k = []
passing p (t ∷ ts) k = cond (p t) (k ∷ passing p ts (suc k)) (passing p ts (suc k))

pub kills_passing : (shape : Shape) (core : ℕ) (cache : Cache) (own : Bool) (e : Option ℕ) (op : Op) (tags : List (Option ℕ)) (k : ℕ)
    → kills_here shape core cache own e op tags k ≡ map (kill_at shape core cache) (passing (is_doomed cache own e op) tags k)
kills_passing shape core cache own e op [] k = refl
kills_passing shape core cache own e op (t ∷ ts) k =
    elim (cases_Bool (is_doomed cache own e op t)) [
      | inl q ↦ rw q (ap (λ (ks : List KillData). kill_at shape core cache k ∷ ks) (kills_passing shape core cache own e op ts (suc k)))
      | inr q ↦ rw q (kills_passing shape core cache own e op ts (suc k))
    ]

pub passing_ascends : (p : Option ℕ → Bool) (ts : List (Option ℕ)) (k : ℕ) → Ascends k (passing p ts k)
passing_ascends p [] k = tt
passing_ascends p (t ∷ ts) k =
    elim (cases_Bool (p t)) [
      | inl q ↦ rw q (let le : k ≤ k = omega arith in (le, passing_ascends p ts (suc k)))
      | inr q ↦ rw q (lower (suc k) k (passing p ts (suc k)) (omega arith) (passing_ascends p ts (suc k)))
    ]

pub record Passes (p : Option ℕ → Bool) (ts : List (Option ℕ)) (k j : ℕ) : Type 0 where
  pub place : ℕ
  pub at : j ≡ k + place
  pub is : p (get_or ts place None) ≡ true

pub passing_in : (p : Option ℕ → Bool) (ts : List (Option ℕ)) (k j : ℕ) → In j (passing p ts k) → Passes p ts k j
passing_in p [] k j i = absurd i
passing_in p (t ∷ ts) k j i =
    elim (cases_Bool (p t)) [
      | inl q ↦
          let i' : In j (k ∷ passing p ts (suc k)) = rw q at i in
          elim i' [
            | inl e ↦ record { place = 0; at = omega (arith, e); is = q }
            | inr r ↦ let x = passing_in p ts (suc k) j r in record { place = suc x.place; at = (let a = x.at in omega (arith, a)); is = x.is }
          ]
      | inr q ↦
          let i' : In j (passing p ts (suc k)) = rw q at i in
          let x = passing_in p ts (suc k) j i' in record { place = suc x.place; at = (let a = x.at in omega (arith, a)); is = x.is }
    ]

pub in_passing : (p : Option ℕ → Bool) (ts : List (Option ℕ)) (k i : ℕ) → p None ≡ false → p (get_or ts i None) ≡ true → In (k + i) (passing p ts k)
in_passing p [] k i n t = let clash : true ≡ false = sym t ∙ n in cc
in_passing p (t ∷ ts) k zero n q = rw q (inl (omega arith))
in_passing p (t ∷ ts) k (suc i) n q =
    let r : In (suc k + i) (passing p ts (suc k)) = in_passing p ts (suc k) i n q in
    let s : suc k + i ≡ k + suc i = omega arith in
    let r' : In (k + suc i) (passing p ts (suc k)) = subst (λ (j : ℕ). In j (passing p ts (suc k))) s r in
    elim (cases_Bool (p t)) [
      | inl e ↦ rw e (inr r')
      | inr e ↦ rw e r'
    ]

-- ---- the slots that look-ups find

abbrev pub push_some : Option ℕ → List ℕ → List ℕ
push_some None js = js
push_some (Some j) js = j ∷ js

abbrev pub found : Layout → List (Option ℕ) → List ℕ → List ℕ
found g tags [] = []
found g tags (l ∷ ls) = push_some (slot_of g tags l) (found g tags ls)

-- lines whose sets ascend
abbrev pub SetsAscend : Layout → ℕ → List ℕ → Type 0
SetsAscend g low [] = Unit {0}
SetsAscend g low (l ∷ ls) = (low ≤ l % g.sets) × SetsAscend g (suc (l % g.sets)) ls

found_first : (g : Layout) (tags : List (Option ℕ)) (l : ℕ) (js : List ℕ) (low : ℕ) → low ≤ first_slot g l → Ascends (first_slot g l + g.ways) js
    → (o : Option ℕ) → slot_of g tags l ≡ o → Ascends low (push_some o js)
found_first g tags l js low le a None e = lower (first_slot g l + g.ways) low js (omega (arith, le)) a
found_first g tags l js low le a (Some j) e =
    let f = slot_some g tags l j e in
    let p = f.above in
    let q = f.below in
    (omega (arith, le, p), lower (first_slot g l + g.ways) (suc j) js (omega (arith, q)) a)

-- a set further on begins after this one
next_set : (w s t : ℕ) → suc s ≤ t → w * s + w ≤ w * t
next_set w s t l = let p = mul-le w (suc s) w t (let r : w ≤ w = omega arith in r) l in omega (arith, p, mul-suc w s)

found_from : (g : Layout) (tags : List (Option ℕ)) (ls : List ℕ) (low start : ℕ) → start ≤ g.ways * low → SetsAscend g low ls → Ascends start (found g tags ls)
found_from g tags [] low start le a = tt
found_from g tags (l ∷ ls) low start le a =
    let first : start ≤ first_slot g l = (let p = mul-le g.ways low g.ways (l % g.sets) (let r : g.ways ≤ g.ways = omega arith in r) a.0 in omega (arith, le, p)) in
    found_first g tags l (found g tags ls) start first
    (found_from g tags ls (suc (l % g.sets)) (first_slot g l + g.ways) (let n = next_set g.ways (l % g.sets) (suc (l % g.sets)) (let r : suc (l % g.sets) ≤ suc (l % g.sets) = omega arith in r) in n) a.1)
    (slot_of g tags l) refl

pub found_ascends : (g : Layout) (tags : List (Option ℕ)) (ls : List ℕ) → SetsAscend g 0 ls → Ascends 0 (found g tags ls)
found_ascends g tags ls a = found_from g tags ls 0 0 (omega arith) a

pub record IsFound (g : Layout) (tags : List (Option ℕ)) (ls : List ℕ) (j : ℕ) : Type 0 where
  pub line : ℕ
  pub among : In line ls
  pub at : slot_of g tags line ≡ Some j

found_cases : (g : Layout) (tags : List (Option ℕ)) (l : ℕ) (ls : List ℕ) (j : ℕ) → (In j (found g tags ls) → IsFound g tags ls j)
    → (o : Option ℕ) → slot_of g tags l ≡ o → In j (push_some o (found g tags ls)) → IsFound g tags (l ∷ ls) j
found_cases g tags l ls j more None e i = let r = more i in record { line = r.line; among = inr r.among; at = r.at }
found_cases g tags l ls j more (Some k) e (inl q) = record { line = l; among = inl refl; at = e ∙ ap (λ (n : ℕ). Some n) (sym q) }
found_cases g tags l ls j more (Some k) e (inr i) = let r = more i in record { line = r.line; among = inr r.among; at = r.at }

pub found_in : (g : Layout) (tags : List (Option ℕ)) (ls : List ℕ) (j : ℕ) → In j (found g tags ls) → IsFound g tags ls j
found_in g tags [] j i = absurd i
found_in g tags (l ∷ ls) j i = found_cases g tags l ls j (λ r. found_in g tags ls j r) (slot_of g tags l) refl i

push_in : (j : ℕ) (js : List ℕ) (o : Option ℕ) → In j js → In j (push_some o js)
push_in j js None i = i
push_in j js (Some k) i = inr i

pub in_found : (g : Layout) (tags : List (Option ℕ)) (ls : List ℕ) (line j : ℕ) → In line ls → slot_of g tags line ≡ Some j → In j (found g tags ls)
in_found g tags [] line j i e = absurd i
in_found g tags (l ∷ ls) line j (inl q) e =
    let here : slot_of g tags l ≡ Some j = ap (λ (n : ℕ). slot_of g tags n) (sym q) ∙ e in
    subst (λ (o : Option ℕ). In j (push_some o (found g tags ls))) (sym here) (inl refl)
in_found g tags (l ∷ ls) line j (inr i) e = push_in j (found g tags ls) (slot_of g tags l) (in_found g tags ls line j i e)

-- ---- both are the same

-- the test holds of a shown line exactly where it is one of these
pub record Picks (p : Option ℕ → Bool) (tags : List (Option ℕ)) (ls : List ℕ) : Type 0 where
  pub none : p None ≡ false
  pub only : (k l : ℕ) → get_or tags k None ≡ Some l → p (Some l) ≡ true → In l ls
  pub each : (k l : ℕ) → get_or tags k None ≡ Some l → In l ls → p (Some l) ≡ true

pub tag_passes : (p : Option ℕ → Bool) (o : Option ℕ) → p None ≡ false → p o ≡ true → (l : ℕ) × (o ≡ Some l)
tag_passes p None n t = absurd (let clash : true ≡ false = sym t ∙ n in cc)
tag_passes p (Some l) n t = (l, refl)

pub passing_found : (g : Layout) (p : Option ℕ → Bool) (tags : List (Option ℕ)) (ls : List ℕ) → IsOnce g tags → SetsAscend g 0 ls → Picks p tags ls → passing p tags 0 ≡ found g tags ls
passing_found g p tags ls once sets picks =
    same_members 0 0 (passing p tags 0) (found g tags ls) (passing_ascends p tags 0) (found_ascends g tags ls sets) one two
  where
    one : (j : ℕ) → In j (passing p tags 0) → In j (found g tags ls)
    one j i =
        let x = passing_in p tags 0 j i in
        let l = tag_passes p (get_or tags x.place None) picks.none x.is in
        let at : j ≡ x.place = (let a = x.at in omega (arith, a)) in
        let shown : get_or tags j None ≡ Some l.0 = ap (λ (n : ℕ). get_or tags n None) at ∙ l.1 in
        let t : p (Some l.0) ≡ true = ap p (sym l.1) ∙ x.is in
        in_found g tags ls l.0 j (picks.only j l.0 shown t) (slot_only g tags l.0 j once.once (once.own j l.0 shown) shown)

    two : (j : ℕ) → In j (found g tags ls) → In j (passing p tags 0)
    two j i =
        let x = found_in g tags ls j i in
        let f = slot_some g tags x.line j x.at in
        let z : 0 + j ≡ j = omega arith in
        subst (λ (n : ℕ). In n (passing p tags 0)) z (in_passing p tags 0 j picks.none (ap p f.is ∙ picks.each j x.line f.is x.among))

-- ---- as kills

copy_push : (shape : Shape) (core : ℕ) (cache : Cache) (o : Option ℕ) (js : List ℕ) → copy_at shape core cache o ++ map (kill_at shape core cache) js ≡ map (kill_at shape core cache) (push_some o js)
copy_push shape core cache None js = refl
copy_push shape core cache (Some j) js = refl

pub copies_found : (d : DirectoryState) (core : ℕ) (cache : Cache) (addrs : List ℕ)
    → copies_of d core cache addrs ≡ map (kill_at d.shape core cache) (found (layout d.shape cache) (tags_at d core cache) (map (λ (a : ℕ). a / width cache) addrs))
copies_found d core cache [] = refl
copies_found d core cache (a ∷ rest) =
    ap (λ (ks : List KillData). copy_at d.shape core cache (slot_of (layout d.shape cache) (tags_at d core cache) (a / width cache)) ++ ks) (copies_found d core cache rest)
    ∙ copy_push d.shape core cache (slot_of (layout d.shape cache) (tags_at d core cache) (a / width cache)) (found (layout d.shape cache) (tags_at d core cache) (map (λ (x : ℕ). x / width cache) rest))

-- the kills of one core and cache, over the whole directory, are the copies found by look-ups
pub kills_copies : (d : DirectoryState) (core : ℕ) (cache : Cache) (own : Bool) (e : Option ℕ) (op : Op) (addrs : List ℕ) → IsOnce (layout d.shape cache) (tags_at d core cache)
    → SetsAscend (layout d.shape cache) 0 (map (λ (a : ℕ). a / width cache) addrs) → Picks (is_doomed cache own e op) (tags_at d core cache) (map (λ (a : ℕ). a / width cache) addrs)
    → kills_here d.shape core cache own e op (tags_at d core cache) 0 ≡ copies_of d core cache addrs
kills_copies d core cache own e op addrs once sets picks =
    kills_passing d.shape core cache own e op (tags_at d core cache) 0
    ∙ (ap (λ (js : List ℕ). map (kill_at d.shape core cache) js) (passing_found (layout d.shape cache) (is_doomed cache own e op) (tags_at d core cache) (map (λ (a : ℕ). a / width cache) addrs) once sets picks)
    ∙ sym (copies_found d core cache addrs))

abbrev pub one : ℕ → Cache → ℕ → ℕ → List KillData
one core cache sets way = (record { core = core; cache = cache; set = sets; way = way }) ∷ []

-- a look-up that found the line gives its kill
pub copy_from : (shape : Shape) (tags : List (Option ℕ)) (line core : ℕ) (cache : Cache) (sets way : ℕ) (o : Option ℕ) → slot_of (layout shape cache) tags line ≡ o → Some way ≡ way_in (layout shape cache) o → sets ≡ line % (layout shape cache).sets
    → one core cache sets way ≡ copy_at shape core cache o
copy_from shape tags line core cache sets way None e f g = cc
copy_from shape tags line core cache sets way (Some j) e f g =
    let x = slot_some (layout shape cache) tags line j e in
    let w : way ≡ j % (layout shape cache).ways = cc in
    let s : sets ≡ j / (layout shape cache).ways = g ∙ sym (set_of_slot (layout shape cache) (line % (layout shape cache).sets) j x.above x.below) in
    ap (λ (n : ℕ). one core cache n way) s ∙ ap (λ (n : ℕ). one core cache (j / (layout shape cache).ways) n) w
