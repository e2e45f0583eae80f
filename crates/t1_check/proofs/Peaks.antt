-- The greatest position of a write of a byte.
use Rattle.std.proofs.Common.{◌≡◌, ℕ, zero, suc, ◌+◌, ◌<◌, ◌≤◌, max, Bool, true, false, cond, refl, ap, subst, inl, inr, arith, leb, ltb}
use Rattle.std.proofs.lemmas.Bool.{cases_eq, cases_lt, leb-true, ltb-true, le-leb, lt-ltb, and_parts}
use Rattle.t1_event.specs.declared.item.Item.{Item}
use Rattle.t1_event.specs.Kinds.{is_changing, IsChanging}
use Rattle.t1_event.specs.Items.{Covers}
use Rattle.t1_check.specs.Latest.{covers}
use Rattle.t1_check.specs.Sources.{writes_byte, peak}

peak_go : (h p : ℕ) (b : Bool) → h ≤ cond b (max h p) h
peak_go h p true = omega arith
peak_go h p false = omega arith

pub peak_up : (item : ℕ → Item) (position : ℕ → ℕ) (n a j : ℕ) → j < n → writes_byte (item j) a ≡ true → position j ≤ peak item position n a
unfolding peak
peak_up item position zero a j l w = absurd (omega (arith, l))
peak_up item position (suc n) a j l w =
    elim (cases_eq j n) [
      | inl e ↦
          let t : writes_byte (item n) a ≡ true = subst (λ (m : ℕ). writes_byte (item m) a ≡ true) e w in
          let q : position j ≡ position n = ap position e in
          rw t (omega (arith, q))
      | inr e ↦
          let before = peak_up item position n a j (omega (arith, l, e)) w in
          let more = peak_go (peak item position n a) (position n) (writes_byte (item n) a) in
          omega (arith, before, more)
    ]

pub record IsPeak (item : ℕ → Item) (position : ℕ → ℕ) (n a v : ℕ) : Type 0 where
  pub j : ℕ
  pub below : j < n
  pub writes : writes_byte (item j) a ≡ true
  pub is : position j ≡ v

peak_step : (item : ℕ → Item) (position : ℕ → ℕ) (n a : ℕ) (b : Bool) → writes_byte (item n) a ≡ b → (0 < peak item position n a → IsPeak item position n a (peak item position n a))
    → 0 < cond b (max (peak item position n a) (position n)) (peak item position n a) → IsPeak item position (suc n) a (cond b (max (peak item position n a) (position n)) (peak item position n a))
peak_step item position n a false e before l = let r = before l in record { j = r.j; below = omega (arith, r.below); writes = r.writes; is = r.is }
peak_step item position n a true e before l =
    elim (cases_lt (peak item position n a) (position n)) [
      | inl lt ↦ record { j = n; below = omega arith; writes = e; is = omega (arith, lt) }
      | inr le ↦ let r = before (omega (arith, le, l)) in record { j = r.j; below = omega (arith, r.below); writes = r.writes; is = omega (arith, r.is, le) }
    ]

pub peak_down : (item : ℕ → Item) (position : ℕ → ℕ) (n a : ℕ) → 0 < peak item position n a → IsPeak item position n a (peak item position n a)
unfolding peak
peak_down item position zero a l = absurd (omega (arith, l))
peak_down item position (suc n) a l = peak_step item position n a (writes_byte (item n) a) refl (peak_down item position n a) l

pub peak_none : (item : ℕ → Item) (position : ℕ → ℕ) (a : ℕ) → peak item position 0 a ≡ 0
unfolding peak
peak_none item position a = refl

pub peak_more : (item : ℕ → Item) (position : ℕ → ℕ) (n a : ℕ) → peak item position (n + 1) a ≡ cond (writes_byte (item n) a) (max (peak item position n a) (position n)) (peak item position n a)
unfolding peak
peak_more item position n a = ap (λ (m : ℕ). peak item position m a) (let e : n + 1 ≡ suc n = omega arith in e)

pub writes_true : (x : Item) (a : ℕ) → IsChanging x.kind → Covers x a → writes_byte x a ≡ true
writes_true x a c p = rw (c, le-leb x.addr a p.0, lt-ltb a (x.addr + x.size) p.1) refl

pub true_writes : (x : Item) (a : ℕ) → writes_byte x a ≡ true → IsChanging x.kind × Covers x a
true_writes x a e =
    let p = and_parts (is_changing x.kind) (covers x.addr x.size a) e in
    let q = and_parts (leb x.addr a) (ltb a (x.addr + x.size)) p.1 in
    (p.0, (leb-true x.addr a q.0, ltb-true a (x.addr + x.size) q.1))
