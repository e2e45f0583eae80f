-- Each call on a request queue keeps its rule.
use Rattle.std.proofs.Common.{◌≡◌, ◌≢◌, ◌==◌, ◌⊎◌, ◌+◌, ◌<◌, ℕ, zero, suc, Bool, true, false, true≢false, List, [], ◌∷◌, ◌++◌, length, set, sym, refl, ap, ◌∙◌, subst, ⊎_elim, append_assoc, inl, inr, arith, if◌then◌else◌}
use mathlib.Core.Option.{Option, some, none, some-ne-none, some-injective}
use lib.ListN.{get_elem?}
use Rattle.std.proofs.lemmas.Bool.{cases_eq, cases_lt}
use Rattle.std.proofs.lemmas.Bool.Decides.{nat_tests}
use Rattle.std.proofs.lemmas.List.{append-nil, length-set}
use Rattle.crossbeam_queue.specs.Fifo.{Pushes, Pops, Forks, Merges, Learns}
use Rattle.crossbeam_queue.proofs.Lists.{at_set}
use Rattle.t1_packet.specs.Data.{RequestData}
use Rattle.t1_ring.specs.declared.rule.Returned.{Returned}
use Rattle.t1_ring.specs.declared.rule.Account.{Account}
use Rattle.t1_ring.specs.Ends.{QueueName}
use Rattle.t1_ring.specs.Queue.{CoreSeatState, DestSeatState, of_core, seats_from, AreFirst}
use Rattle.t1_ring.specs.QueueRule.{taking, pushing, spent, returned, last_back, before_last, PushesOne, TakesOne, Counts, IsCorePass, IsBack, IsAbsent, AreBack, IsDestPass, IsInOrder}

-- ---- tests

if_same : {A : Type 0} (a b : ℕ) (x y : A) → a ≡ b → (if a == b then x else y) ≡ x
if_same a b x y e = let t : (a == b) ≡ true = grind (arith, nat_tests) in ap (λ t. if t then x else y) t

if_other : {A : Type 0} (a b : ℕ) (x y : A) → a ≢ b → (if a == b then x else y) ≡ y
if_other a b x y e = let t : (a == b) ≡ false = grind (arith, nat_tests) in ap (λ t. if t then x else y) t

if_append : {A : Type 0} (b : Bool) (x : A) (l m : List A) → (if b then x ∷ (l ++ m) else (l ++ m)) ≡ (if b then x ∷ l else l) ++ m
if_append true x l m = refl
if_append false x l m = refl

never : {A : Type 0} (b : Bool) → b ≡ false → b ≡ true → A
never b e f = absurd (true≢false (sym f ∙ e))

none_some : (o : Option ℕ) (n : ℕ) → o ≡ none → o ≡ some n → ⊥
none_some o n e f = some-ne-none n (sym f ∙ e)

-- ---- the requests of one core

pub of_append : (core : ℕ) (xs ys : List RequestData) → of_core core (xs ++ ys) ≡ of_core core xs ++ of_core core ys
of_append core [] ys = refl
of_append core (x ∷ xs) ys = ap (λ l. if x.core == core then x ∷ l else l) (of_append core xs ys) ∙ if_append (x.core == core) x (of_core core xs) (of_core core ys)

pub of_more : (core : ℕ) (xs : List RequestData) (x : RequestData) → x.core ≡ core → of_core core (xs ++ x ∷ []) ≡ of_core core xs ++ x ∷ []
of_more core xs x e = of_append core xs (x ∷ []) ∙ ap (λ l. of_core core xs ++ l) (if_same x.core core (x ∷ []) [] e)

pub of_other : (core : ℕ) (xs : List RequestData) (x : RequestData) → x.core ≢ core → of_core core (xs ++ x ∷ []) ≡ of_core core xs
of_other core xs x e = of_append core xs (x ∷ []) ∙ ap (λ l. of_core core xs ++ l) (if_other x.core core (x ∷ []) [] e) ∙ append-nil (of_core core xs)

-- a core of which nothing is there
none_of : (core : ℕ) (xs items : List RequestData) (x : RequestData) → of_core core (xs ++ x ∷ items) ≡ [] → x.core ≢ core
none_of core xs items x e same =
    let here : of_core core xs ++ x ∷ of_core core items ≡ [] =
    ap (λ l. of_core core xs ++ l) (sym (if_same x.core core (x ∷ of_core core items) (of_core core items) same)) ∙ sym (of_append core xs (x ∷ items)) ∙ e in
    not_nil (of_core core xs) x (of_core core items) here
  where
    not_nil : (l : List RequestData) (y : RequestData) (m : List RequestData) → l ++ y ∷ m ≡ [] → ⊥
    not_nil [] y m e = cc
    not_nil (z ∷ l) y m e = cc

-- ---- passes in a row

at_end : (l : List Account) (a b : Account) (j : ℕ) → get_elem? (l ++ a ∷ []) j ≡ some b → (get_elem? l j ≡ some b) ⊎ ((j ≡ length l) × (a ≡ b))
at_end [] a b zero e = inr (refl, cc)
at_end [] a b (suc j) e = absurd (some-ne-none b (sym e))
at_end (x ∷ xs) a b zero e = inl e
at_end (x ∷ xs) a b (suc j) e = ⊎_elim (λ (h : get_elem? xs j ≡ some b). inl h) (λ (h : (j ≡ length xs) × (a ≡ b)). inr (ap suc h.0, h.1)) (at_end xs a b j e)

abbrev All : (ℕ → Account → Type 0) → List Account → Type 0
All F views = (pass : ℕ) (v : Account) → get_elem? views pass ≡ some v → F pass v

all_set : (F : ℕ → Account → Type 0) (views : List Account) (pass : ℕ) (w : Account) → F pass w → ((j : ℕ) (u : Account) → j ≢ pass → get_elem? views j ≡ some u → F j u) → All F (set views pass w)
all_set F views pass w mine others j u e = ⊎_elim (λ (x : (j ≡ pass) × (w ≡ u)). subst (λ (y : ℕ × Account). F y.0 y.1) (λ i. (sym x.0 i, x.1 i)) mine)
    (λ (x : (j ≢ pass) × (get_elem? views j ≡ some u)). others j u x.0 x.1) (at_set views pass j w u e)

abbrev Fits : Counts → ℕ → Account → Type 0
Fits n pass v = IsCorePass n pass v × IsDestPass n pass v

-- ---- a function with one new value

unfoldable upto : {A : Type 0} → (ℕ → A) → ℕ → A → ℕ → A
upto f at x p = if p == at then x else f p

module _ {A : Type 0} where
  upto_here : (f : ℕ → A) (at : ℕ) (x : A) (p : ℕ) → p ≡ at → upto f at x p ≡ x
  unfolding upto
  upto_here f at x p e = if_same p at x (f p) e

  upto_else : (f : ℕ → A) (at : ℕ) (x : A) (p : ℕ) → p ≢ at → upto f at x p ≡ f p
  unfolding upto
  upto_else f at x p e = if_other p at x (f p) e

-- ---- seats that are back

back_still : (n m : Counts) (cores more : ℕ) (seats : List Returned) → ((seat : Returned) → IsBack n cores seat → IsBack m more seat) → AreBack n cores seats → AreBack m more seats
back_still n m cores more [] f h = tt
back_still n m cores more (seat ∷ seats) f h = (f seat h.0, h.1, back_still n m cores more seats f h.2)

-- a core that has a seat is not among them
absent : (n : Counts) (cores core pass : ℕ) (seats : List Returned) → n.seat core ≡ some pass → AreBack n cores seats → IsAbsent core seats
absent n cores core pass [] e h = tt
absent n cores core pass (seat ∷ seats) e h = ((λ same. none_some (n.seat core) pass (ap n.seat (sym same) ∙ h.0.1) e), absent n cores core pass seats e h.2)

-- another core gets its seat again
back_apart : (n m : Counts) (cores core : ℕ) (seats : List Returned) → ((seat : Returned) → seat.core ≢ core → IsBack n cores seat → IsBack m cores seat) → IsAbsent core seats → AreBack n cores seats → AreBack m cores seats
back_apart n m cores core [] f a h = tt
back_apart n m cores core (seat ∷ seats) f a h = (f seat a.0 h.0, h.1, back_apart n m cores core seats f a.1 h.2)

back_first : (n : Counts) (cores : ℕ) (taken items : List RequestData) (seats : List Returned) → taken ≡ n.got → ((core : ℕ) → of_core core (n.got ++ items) ≡ n.pushed core) → AreBack n cores seats
    → AreFirst taken seats
back_first n cores taken items [] e order h = tt
back_first n cores taken items (seat ∷ seats) e order h = (
  (of_core seat.core items, ap (λ l. of_core seat.core l ++ of_core seat.core items) e ∙ sym (of_append seat.core n.got items) ∙ order seat.core ∙ sym h.0.2),
  back_first n cores taken items seats e order h.2,
)

-- ---- the start

abbrev no_counts : Counts
no_counts = record { reader = 0; seat = λ _. none; pushed = λ _. []; got = [] }

pub begins : IsInOrder [] (taking [] 0 [] ∷ [])
begins = record {
  counts = no_counts;
  order = λ core. refl;
  passes = λ pass v e. ⊎_elim (λ (h : get_elem? [] pass ≡ some v). absurd (some-ne-none v (sym h)))
      (λ (h : (pass ≡ 0) × (taking [] 0 [] ≡ v)). (
        (λ s. never false refl (ap (λ (y : Account). y.pushes) h.1 ∙ s)),
        (λ s. (h.0, ap (λ (y : Account). y.taken) (sym h.1), (λ core low. (refl, refl)), subst (λ (y : Account). AreBack no_counts y.cores y.back) h.1 tt)),
      )) (at_end [] (taking [] 0 []) v pass e);
}

-- ---- a push

of_push : (c core : ℕ) (xs items : List RequestData) (x : RequestData) (sent : ℕ → List RequestData) → x.core ≡ core → of_core c (xs ++ items) ≡ sent c
    → of_core c (xs ++ (items ++ x ∷ [])) ≡ upto sent core (sent core ++ x ∷ []) c
of_push c core xs items x sent is h =
    let all : of_core c (xs ++ (items ++ x ∷ [])) ≡ of_core c ((xs ++ items) ++ x ∷ []) = ap (of_core c) (sym (append_assoc xs items (x ∷ []))) in
    elim (cases_eq c core) [
      | inl e ↦ all ∙ of_more c (xs ++ items) x (is ∙ sym e) ∙ ap (λ l. l ++ x ∷ []) h ∙ ap (λ n. sent n ++ x ∷ []) e ∙ sym (upto_here sent core (sent core ++ x ∷ []) c e)
      | inr ne ↦ all ∙ of_other c (xs ++ items) x (λ y. ne (sym y ∙ is)) ∙ h ∙ sym (upto_else sent core (sent core ++ x ∷ []) c ne)
    ]

pub pushes : (n pass : ℕ) (v : Account) (x : RequestData) → v ≡ pushing v.core v.pushed → x.core ≡ v.core → Pushes IsInOrder n pass v x (PushesOne v x)
pushes n pass v x may is items views _ h at =
    let w : Account = pushing v.core (v.pushed ++ x ∷ []) in
    let k = h.counts in
    let mine = (h.passes pass v at).0 (ap (λ (y : Account). y.pushes) may) in
    let pushed : ℕ → List RequestData = upto k.pushed v.core (k.pushed v.core ++ x ∷ []) in
    let now : Counts = record { reader = k.reader; seat = k.seat; pushed = pushed; got = k.got } in
    let same : (p : ℕ) → k.seat p ≡ none → pushed p ≡ k.pushed p = λ p e. upto_else k.pushed v.core (k.pushed v.core ++ x ∷ []) p (λ y. none_some (k.seat p) pass e (ap k.seat y ∙ mine.0)) in
    let dest : (j : ℕ) (u : Account) → IsDestPass k j u → IsDestPass now j u = λ j u f t.
    let g = f t in (
      g.0,
      g.1,
      (λ p low. let q = g.2 p low in (q.0, same p q.0 ∙ q.1)),
      back_still k now u.cores u.cores u.back (λ seat q. (q.0, q.1, q.2 ∙ sym (same seat.core q.1))) g.3,
    ) in (
      w,
      record {
        counts = now;
        order = λ c. of_push c v.core k.got items x k.pushed is (h.order c);
        passes = all_set (Fits now) views pass w
            ((λ _. (mine.0, ap (λ l. l ++ x ∷ []) mine.1 ∙ sym (upto_here k.pushed v.core (k.pushed v.core ++ x ∷ []) v.core refl))), (λ t. never false refl t))
            (λ j u other e. (
              (λ s. let q = (h.passes j u e).0 s in (q.0, q.1 ∙ sym (upto_else k.pushed v.core (k.pushed v.core ++ x ∷ []) u.core (λ y. other (some-injective j pass (sym q.0 ∙ ap k.seat y ∙ mine.0)))))),
              dest j u (h.passes j u e).1,
            ));
      },
      refl,
    )

-- ---- a pop

pub pops : (pass : ℕ) (v : Account) → v ≡ taking v.taken v.cores v.back → Pops IsInOrder pass v (TakesOne v)
pops pass v may x items views h at =
    let w : Account = taking (v.taken ++ x ∷ []) v.cores v.back in
    let k = h.counts in
    let mine = (h.passes pass v at).1 (ap (λ (y : Account). y.takes) may) in
    let now : Counts = record { reader = k.reader; seat = k.seat; pushed = k.pushed; got = k.got ++ x ∷ [] } in
    let low : x.core < v.cores = elim (cases_lt x.core v.cores) [
      | inl l ↦ l
      | inr past ↦ absurd (none_of x.core k.got items x (h.order x.core ∙ (mine.2 x.core past).1) refl)
    ] in (
      w,
      record {
        counts = now;
        order = λ c. ap (of_core c) (append_assoc k.got (x ∷ []) items) ∙ h.order c;
        passes = all_set (Fits now) views pass w
            ((λ s. never false refl s), (λ _. (mine.0, ap (λ l. l ++ x ∷ []) mine.1, mine.2, back_still k now v.cores v.cores v.back (λ seat q. (q.0, q.1, q.2)) mine.3)))
            (λ j u other e. ((h.passes j u e).0, (λ t. absurd (other (((h.passes j u e).1 t).0 ∙ sym mine.0)))));
      },
      (refl, low),
    )

-- ---- a seat for the next core

pub forks : (pass : ℕ) (v : Account) → v ≡ taking v.taken v.cores v.back → Forks IsInOrder pass v (taking v.taken (v.cores + 1) v.back) (pushing v.cores [])
forks pass v may items views h at =
    let l : Account = taking v.taken (v.cores + 1) v.back in
    let r : Account = pushing v.cores [] in
    let vs : List Account = set views pass l in
    let k = h.counts in
    let mine = (h.passes pass v at).1 (ap (λ (y : Account). y.takes) may) in
    let free = mine.2 v.cores (omega arith) in
    let seat : ℕ → Option ℕ = upto k.seat v.cores (some (length views)) in
    let now : Counts = record { reader = k.reader; seat = seat; pushed = k.pushed; got = k.got } in
    let still : (p : ℕ) → p ≢ v.cores → seat p ≡ k.seat p = λ p e. upto_else k.seat v.cores (some (length views)) p e in
    let kept : All (Fits now) vs = all_set (Fits now) views pass l (
      (λ s. never false refl s),
      (λ _. (
        mine.0,
        mine.1,
        (λ p low. let q = mine.2 p (omega (arith, low)) in (still p (omega (arith, low)) ∙ q.0, q.1)),
        back_still k now v.cores (v.cores + 1) v.back (λ y q. let low : y.core < v.cores = q.0 in (omega (arith, low), still y.core (omega (arith, low)) ∙ q.1, q.2)) mine.3,
      )),
    )
    (λ j u other e. (
      (λ s. let q = (h.passes j u e).0 s in (still u.core (λ y. none_some (k.seat v.cores) j free.0 (ap k.seat (sym y) ∙ q.0)) ∙ q.0, q.1)),
      (λ t. absurd (other (((h.passes j u e).1 t).0 ∙ sym mine.0))),
    )) in
    record {
      counts = now;
      order = h.order;
      passes = λ j u e. ⊎_elim (λ (x : get_elem? vs j ≡ some u). kept j u x)
          (λ (x : (j ≡ length vs) × (r ≡ u)). subst (λ (y : Account). Fits now j y) x.1
          ((λ _. (upto_here k.seat v.cores (some (length views)) v.cores refl ∙ ap some (sym (x.0 ∙ length-set views pass l)), sym free.1)), (λ t. never false refl t)))
          (at_end vs r u j e);
    }

-- ---- a seat that is given back

pub merges : (pass : ℕ) (v : Account) (other : ℕ) (u : Account) → v ≡ taking v.taken v.cores v.back → u ≡ pushing u.core u.pushed
    → Merges IsInOrder pass v other u (taking v.taken v.cores (returned u.core u.pushed ∷ v.back)) spent
merges pass v other u a b items views h at two at' =
    let both : Account = taking v.taken v.cores (returned u.core u.pushed ∷ v.back) in
    let vs : List Account = set views pass both in
    let k = h.counts in
    let was : get_elem? views other ≡ some u = ⊎_elim (λ (x : (other ≡ pass) × (both ≡ u)). absurd (two x.0)) (λ (x : (other ≢ pass) × (get_elem? views other ≡ some u)). x.1) (at_set views pass other both u at') in
    let theirs = (h.passes other u was).0 (ap (λ (y : Account). y.pushes) b) in
    let mine = (h.passes pass v at).1 (ap (λ (y : Account). y.takes) a) in
    let seat : ℕ → Option ℕ = upto k.seat u.core none in
    let now : Counts = record { reader = k.reader; seat = seat; pushed = k.pushed; got = k.got } in
    let still : (p : ℕ) → k.seat p ≡ none → seat p ≡ none = λ p e.
    elim (cases_eq p u.core) [
      | inl x ↦ upto_here k.seat u.core none p x
      | inr x ↦ upto_else k.seat u.core none p x ∙ e
    ] in
    let low : u.core < v.cores = elim (cases_lt u.core v.cores) [
      | inl x ↦ x
      | inr x ↦ absurd (none_some (k.seat u.core) other (mine.2 u.core x).0 theirs.0)
    ] in
    let Now : ℕ → Account → Type 0 = λ j y. j ≢ other → Fits now j y in
    let kept : All Now vs = all_set Now views pass both
    (λ _. (
      (λ s. never false refl s),
      (λ _. (
        mine.0,
        mine.1,
        (λ p l. let q = mine.2 p l in (still p q.0, q.1)),
        (
          (low, upto_here k.seat u.core none u.core refl, theirs.1),
          absent k v.cores u.core other v.back theirs.0 mine.3,
          back_still k now v.cores v.cores v.back (λ y q. (q.0, still y.core q.1, q.2)) mine.3,
        ),
      )),
    ))
    (λ j y away e apart. (
      (λ s. let q = (h.passes j y e).0 s in (upto_else k.seat u.core none y.core (λ z. apart (some-injective j other (sym q.0 ∙ ap k.seat z ∙ theirs.0))) ∙ q.0, q.1)),
      (λ t. absurd (away (((h.passes j y e).1 t).0 ∙ sym mine.0))),
    )) in
    record {
      counts = now;
      order = h.order;
      passes = all_set (Fits now) vs other spent ((λ s. never false refl s), (λ s. never false refl s)) (λ j y apart e. kept j y e apart);
    }

-- ---- a seat that is handed out again

pub spares : (pass : ℕ) (v : Account) → Forks IsInOrder pass v v spent
spares pass v items views h at =
    let vs : List Account = set views pass v in
    let kept : All (Fits h.counts) vs = all_set (Fits h.counts) views pass v (h.passes pass v at) (λ j u other e. h.passes j u e) in
    record {
      counts = h.counts;
      order = h.order;
      passes = λ j u e. ⊎_elim (λ (x : get_elem? vs j ≡ some u). kept j u x)
          (λ (x : (j ≡ length vs) × (spent ≡ u)). subst (λ (y : Account). Fits h.counts j y) x.1 ((λ s. never false refl s), (λ t. never false refl t))) (at_end vs spent u j e);
    }

pub agains : (pass : ℕ) (v : Account) (x : Returned) (xs : List Returned) → v ≡ taking v.taken v.cores (x ∷ xs) → Forks IsInOrder pass v (taking v.taken v.cores xs) (pushing x.core x.pushed)
agains pass v x xs may items views h at =
    let l : Account = taking v.taken v.cores xs in
    let r : Account = pushing x.core x.pushed in
    let vs : List Account = set views pass l in
    let k = h.counts in
    let mine = (h.passes pass v at).1 (ap (λ (y : Account). y.takes) may) in
    let all : AreBack k v.cores (x ∷ xs) = subst (λ (ys : List Returned). AreBack k v.cores ys) (ap (λ (y : Account). y.back) may) mine.3 in
    let free = all.0 in
    let seat : ℕ → Option ℕ = upto k.seat x.core (some (length views)) in
    let now : Counts = record { reader = k.reader; seat = seat; pushed = k.pushed; got = k.got } in
    let still : (p : ℕ) → p ≢ x.core → seat p ≡ k.seat p = λ p e. upto_else k.seat x.core (some (length views)) p e in
    let low : x.core < v.cores = free.0 in
    let kept : All (Fits now) vs = all_set (Fits now) views pass l (
      (λ s. never false refl s),
      (λ _. (
        mine.0,
        mine.1,
        (λ p past. let q = mine.2 p past in (still p (omega (arith, low, past)) ∙ q.0, q.1)),
        back_apart k now v.cores x.core xs (λ y apart q. (q.0, still y.core apart ∙ q.1, q.2)) all.1 all.2,
      )),
    )
    (λ j u other e. (
      (λ s. let q = (h.passes j u e).0 s in (still u.core (λ y. none_some (k.seat x.core) j free.1 (ap k.seat (sym y) ∙ q.0)) ∙ q.0, q.1)),
      (λ t. absurd (other (((h.passes j u e).1 t).0 ∙ sym mine.0))),
    )) in
    record {
      counts = now;
      order = h.order;
      passes = λ j u e. ⊎_elim (λ (y : get_elem? vs j ≡ some u). kept j u y)
          (λ (y : (j ≡ length vs) × (r ≡ u)). subst (λ (z : Account). Fits now j z) y.1
          ((λ _. (upto_here k.seat x.core (some (length views)) x.core refl ∙ ap some (sym (y.0 ∙ length-set views pass l)), free.2)), (λ t. never false refl t)))
          (at_end vs r u j e);
    }

pub again_rule : (pass : ℕ) (v : Account) (x : Returned) (xs : List Returned) → v ≡ taking v.taken v.cores (x ∷ xs) → Forks IsInOrder pass v (taking v.taken v.cores (before_last v.back)) (last_back v.back)
again_rule pass v x xs may =
    subst (λ (ys : List Returned). Forks IsInOrder pass v (taking v.taken v.cores (before_last ys)) (last_back ys)) (sym (ap (λ (y : Account). y.back) may)) (agains pass v x xs may)

pub learns : (pass : ℕ) (v : Account) → v ≡ taking v.taken v.cores v.back → Learns IsInOrder pass v (λ items. AreFirst v.taken v.back)
learns pass v a items views h at =
    let mine = (h.passes pass v at).1 (ap (λ (y : Account). y.takes) a) in back_first h.counts v.cores v.taken items v.back mine.1 h.order mine.3

-- ---- what the seats say

pub is_taking : (v : Account) (taken : List RequestData) (cores : ℕ) (back : List Returned) → v ≡ taking taken cores back → v ≡ taking v.taken v.cores v.back
is_taking v taken cores back e = e ∙ ap (λ (y : Account). taking y.taken y.cores y.back) (sym e)

pub is_pushing : (v : Account) (core : ℕ) (pushed : List RequestData) → v ≡ pushing core pushed → v ≡ pushing v.core v.pushed
is_pushing v core pushed e = e ∙ ap (λ (y : Account). pushing y.core y.pushed) (sym e)

abbrev pub one_seat : QueueName → ℕ → List CoreSeatState
one_seat queue core = record { queue = queue; core = core; pushed = [] } ∷ []

pub seats_more : (queue : QueueName) (core n : ℕ) → seats_from queue core (suc n) ≡ seats_from queue core n ++ one_seat queue (core + n)
seats_more queue core zero = ap (one_seat queue) (omega arith)
seats_more queue core (suc n) =
    ap (λ (l : List CoreSeatState). record { queue = queue; core = core; pushed = [] } ∷ l) (seats_more queue (suc core) n ∙ ap (λ (c : ℕ). seats_from queue (suc core) n ++ one_seat queue c) (omega arith))

pub seat_of : (queue q : QueueName) (v : Account) (core n : ℕ) → queue ≡ q → v ≡ pushing core [] → core ≡ n
    → ◌≡◌ {A = CoreSeatState} (record { queue = queue; core = v.core; pushed = v.pushed }) (record { queue = q; core = n; pushed = [] })
seat_of queue q v core n e f g =
    ap (λ (z : QueueName). record { queue = z; core = v.core; pushed = v.pushed }) e ∙ ap (λ (y : Account). record { queue = q; core = y.core; pushed = y.pushed }) f
    ∙ ap (λ (k : ℕ). record { queue = q; core = k; pushed = [] }) g

pub dest_of : (queue q : QueueName) (v : Account) (cores n : ℕ) → queue ≡ q → v ≡ taking [] cores [] → cores ≡ n
    → ◌≡◌ {A = DestSeatState} (record { queue = queue; cores = v.cores; taken = v.taken; back = v.back }) (record { queue = q; cores = n; taken = []; back = [] })
dest_of queue q v cores n e f g =
    ap (λ (z : QueueName). record { queue = z; cores = v.cores; taken = v.taken; back = v.back }) e ∙ ap (λ (y : Account). record { queue = q; cores = y.cores; taken = y.taken; back = y.back }) f
    ∙ ap (λ (k : ℕ). record { queue = q; cores = k; taken = []; back = [] }) g
