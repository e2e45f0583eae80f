-- Names that are added change no value that is there.
use Rattle.std.proofs.Common.{◌≡◌, ℕ, List, [], ◌∷◌, refl, sym, Option, Some, None, Bool, true, false, cond, subst}
use Rattle.std.specs.Prelude.{codes}
use Rattle.std.specs.Str.{bytes_eq}
use Rattle.t1_lex.specs.Tokens.{Lexeme}
use Rattle.t1_lex.specs.declared.token.TokenKind.TheVariants.{Name, Number, Text, Percent, Hash, Punct, LineEnd}
use Rattle.t1_expr.specs.declared.sum.Mode.{Mode}
use Rattle.t1_expr.specs.declared.sum.Mode.TheVariants.{Start, Atom, Paren, More}
use Rattle.t1_expr.specs.declared.sum.Open.{Open}
use Rattle.t1_expr.specs.declared.sum.Sum.{Sum}
use Rattle.t1_expr.specs.Exprs.{Env, Value, sum_of, part_of, is_punct, atom_of, opener_of, atom_added, opened, closed, wants, step_of, ended, sum_from, first_sum, expr_at}

-- a value that is there is the same
abbrev pub Below : Value → Value → Type 0
Below None w = Unit {0}
Below (Some a) w = w ≡ Some a

abbrev pub Extends : Env → Env → Type 0
Extends env next = (q : List ℕ) → Below (env q) (next q)

pub below_refl : (v : Value) → Below v v
below_refl None = tt
below_refl (Some a) = refl

pub below_trans : (u v w : Value) → Below u v → Below v w → Below u w
below_trans None v w p q = tt
below_trans (Some a) None w p q = cc
below_trans (Some a) (Some b) w p q = cc

below_sum : (minus : Bool) (a b c d : Value) → Below a c → Below b d → Below (sum_of minus a b) (sum_of minus c d)
unfolding sum_of
below_sum minus None b c d p q = tt
below_sum minus (Some x) None c d p q = tt
below_sum true (Some x) (Some y) c d p q = rw (p, q) refl
below_sum false (Some x) (Some y) c d p q = rw (p, q) refl

below_part : (low : Bool) (a b : Value) → Below a b → Below (part_of low a) (part_of low b)
unfolding part_of
below_part low None b p = tt
below_part true (Some x) b p = rw p refl
below_part false (Some x) b p = rw p refl

abbrev AreOpen : List Open → List Open → Type 0
AreOpen [] [] = Unit {0}
AreOpen (o ∷ os) (p ∷ ps) = (o.minus ≡ p.minus) × (o.low ≡ p.low) × Below o.sum p.sum × AreOpen os ps
AreOpen _ _ = ⊥

record AreSums (s t : Sum) : Type 0 where
  mode : s.mode ≡ t.mode
  outer : AreOpen s.outer t.outer
  sum : Below s.sum t.sum
  minus : s.minus ≡ t.minus

-- both are None, or both are there and related
abbrev pub Both : {A B : Type 0} → (A → B → Type 0) → Option A → Option B → Type 0
Both R None None = Unit {0}
Both R (Some a) (Some b) = R a b
Both R _ _ = ⊥

both_if : {A B : Type 0} (R : A → B → Type 0) (t : Bool) (x y : Option A) (u v : Option B) → Both R x u → Both R y v → Both R (cond t x y) (cond t u v)
both_if R true x y u v p q = p
both_if R false x y u v p q = q

both_atoms : (env next : Env) (here : ℕ) (w : Lexeme) → Extends env next → Both Below (atom_of env here w) (atom_of next here w)
unfolding atom_of
both_atoms env next here (Name, bs) e = both_if Below (bytes_eq bs (codes ".")) (Some (Some here)) (Some (env bs)) (Some (Some here)) (Some (next bs)) refl (e bs)
both_atoms env next here (Number n, bs) e = refl
both_atoms env next here (Text, bs) e = tt
both_atoms env next here (Percent, bs) e = tt
both_atoms env next here (Hash, bs) e = tt
both_atoms env next here (Punct b, bs) e = tt
both_atoms env next here (LineEnd, bs) e = tt

both_added : (s t : Sum) (a b : Option Value) → AreSums s t → Both Below a b → Both AreSums (atom_added s a) (atom_added t b)
unfolding atom_added
both_added s t None None r e = tt
both_added s t (Some v) (Some w) r e = record { mode = refl; outer = r.outer; sum = rw r.minus (below_sum t.minus s.sum v t.sum w r.sum e); minus = refl }
both_added s t None (Some w) r e = absurd e
both_added s t (Some v) None r e = absurd e

both_opened : (s t : Sum) (o : Option Bool) (a b : Option Value) → AreSums s t → Both Below a b → Both AreSums (opened s o a) (opened t o b)
unfolding opened
both_opened s t None a b r e = both_added s t a b r e
both_opened s t (Some low) a b r e = record { mode = refl; outer = (r.minus, refl, r.sum, r.outer); sum = refl; minus = refl }

both_closed : (os ps : List Open) (a b : Value) → AreOpen os ps → Below a b → Both AreSums (closed os a) (closed ps b)
unfolding closed
both_closed [] [] a b r e = tt
both_closed [] (p ∷ ps) a b r e = absurd r
both_closed (o ∷ os) [] a b r e = absurd r
both_closed (o ∷ os) (p ∷ ps) a b r e = record {
  mode = refl;
  outer = r.3;
  sum = rw (r.0, r.1) (below_sum p.minus o.sum (part_of p.low a) p.sum (part_of p.low b) r.2 (below_part p.low a b e));
  minus = refl;
}

both_wants : (s t : Sum) (minus : Bool) → AreSums s t → AreSums (wants s minus) (wants t minus)
both_wants s t minus r = record { mode = refl; outer = r.outer; sum = r.sum; minus = refl }

both_steps : (env next : Env) (here : ℕ) (m : Mode) (s t : Sum) (w : Lexeme) → Extends env next → AreSums s t → Both AreSums (step_of env here m s w) (step_of next here m t w)
unfolding step_of
both_steps env next here Start s t w e r =
    both_if AreSums (is_punct 45 w) (Some (wants s true)) (opened s (opener_of w) (atom_of env here w)) (Some (wants t true)) (opened t (opener_of w) (atom_of next here w))
    (both_wants s t true r) (both_opened s t (opener_of w) _ _ r (both_atoms env next here w e))
both_steps env next here Atom s t w e r = both_opened s t (opener_of w) _ _ r (both_atoms env next here w e)
both_steps env next here Paren s t w e r =
    both_if AreSums (is_punct 40 w) (Some (record { mode = Start; outer = s.outer; sum = s.sum; minus = s.minus })) None (Some (record { mode = Start; outer = t.outer; sum = t.sum; minus = t.minus })) None
    (record { mode = refl; outer = r.outer; sum = r.sum; minus = r.minus }) tt
both_steps env next here More s t w e r =
    both_if AreSums (is_punct 43 w) (Some (wants s false)) _ (Some (wants t false)) _ (both_wants s t false r)
    (both_if AreSums (is_punct 45 w) (Some (wants s true)) _ (Some (wants t true)) _ (both_wants s t true r)
    (both_if AreSums (is_punct 41 w) (closed s.outer s.sum) None (closed t.outer t.sum) None (both_closed s.outer t.outer s.sum t.sum r.outer r.sum) tt))

-- a value and what stands behind it
abbrev pub AreRead : Value × List Lexeme → Value × List Lexeme → Type 0
AreRead p q = Below p.0 q.0 × (p.1 ≡ q.1)

both_ended : (m : Mode) (os ps : List Open) (a b : Value) (ws : List Lexeme) → AreOpen os ps → Below a b → Both AreRead (ended m os a ws) (ended m ps b ws)
unfolding ended
both_ended More [] [] a b ws r e = (e, refl)
both_ended More [] (p ∷ ps) a b ws r e = absurd r
both_ended More (o ∷ os) [] a b ws r e = absurd r
both_ended More (o ∷ os) (p ∷ ps) a b ws r e = tt
both_ended Start os ps a b ws r e = tt
both_ended Atom os ps a b ws r e = tt
both_ended Paren os ps a b ws r e = tt

same_ended : (s t : Sum) (ws : List Lexeme) → AreSums s t → Both AreRead (ended s.mode s.outer s.sum ws) (ended t.mode t.outer t.sum ws)
same_ended s t ws r = rw r.mode (both_ended t.mode s.outer t.outer s.sum t.sum ws r.outer r.sum)

abbrev goes : Env → ℕ → Sum → Lexeme → List Lexeme → Option Sum → Option (Value × List Lexeme)
goes env here s w ws a = elim a [
  | None ↦ ended s.mode s.outer s.sum (w ∷ ws)
  | Some n ↦ sum_from env here n ws
]

abbrev SumsAreRead : Env → Env → ℕ → List Lexeme → Type 0
SumsAreRead env next here ws = (s t : Sum) → AreSums s t → Both AreRead (sum_from env here s ws) (sum_from next here t ws)

both_goes : (env next : Env) (here : ℕ) (s t : Sum) (w : Lexeme) (ws : List Lexeme) (a b : Option Sum) → SumsAreRead env next here ws → AreSums s t → Both AreSums a b
    → Both AreRead (goes env here s w ws a) (goes next here t w ws b)
both_goes env next here s t w ws None None go r q = same_ended s t (w ∷ ws) r
both_goes env next here s t w ws (Some u) (Some v) go r q = go u v q
both_goes env next here s t w ws None (Some v) go r q = absurd q
both_goes env next here s t w ws (Some u) None go r q = absurd q

both_sums : (env next : Env) (here : ℕ) (ws : List Lexeme) → Extends env next → SumsAreRead env next here ws
unfolding sum_from
both_sums env next here [] e s t r = same_ended s t [] r
both_sums env next here (w ∷ ws) e s t r = both_goes env next here s t w ws _ _ (both_sums env next here ws e) r (subst (λ (m : Mode). Both AreSums (step_of env here m s w) (step_of next here t.mode t w)) (sym r.mode) (both_steps env next here t.mode s t w e r))

-- an expr is there for both, with the same behind it
pub both_exprs : (env next : Env) (here : ℕ) (ws : List Lexeme) → Extends env next → Both AreRead (expr_at env here ws) (expr_at next here ws)
unfolding expr_at
both_exprs env next here ws e = both_sums env next here ws e first_sum first_sum (record { mode = refl; outer = tt; sum = refl; minus = refl })
