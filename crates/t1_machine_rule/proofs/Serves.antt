-- What a destination serves, and what it comes to by that.
use Rattle.t1_shape.specs.Numbers.{banks}
use Rattle.t1_shape.specs.Shapes.{Shape}
use Rattle.std.proofs.Common.{◌≡◌, ℕ, zero, suc, ◌-◌, ◌<◌, ◌≤◌, ◌==◌, nat_lt, Bool, true, false, cond, List, [], ◌∷◌, ◌++◌, length, take, replicate, Option, Some, None, refl, ap, sym, ◌∙◌, subst, inl, inr, arith, length-append}
use Rattle.std.specs.List.{slice_get}
use Rattle.std.proofs.lemmas.Bool.{cases_Bool, lt-ltb, le-ltb, eq-eqb}
use Rattle.std.proofs.lemmas.List.{length-replicate, length-take}
use Rattle.t1_packet.specs.declared.op.Op.{Op}
use Rattle.t1_packet.specs.declared.op.Op.TheVariants.{Fetch, Load, Store, Swap, Cas}
use Rattle.t1_packet.specs.declared.served.Served.{Served}
use Rattle.t1_packet.specs.Data.{RequestData}
use Rattle.t1_packet.specs.Ops.{op_dest}
use Rattle.t1_l2.specs.Array.{ArrayState}
use Rattle.t1_event.specs.BankRule.{BankState, is_fit, fill_bytes, refused, served_by, bank_with, bank_after}
use Rattle.t1_joint.specs.Parts.{requests_of, served_at}
use Rattle.t1_joint.specs.Fit.{serves, destination_with, AreServed}
use Rattle.t1_fit.proofs.States.{after}

-- ---- one access

-- what is served is what was asked
pub serves_request : (chip : Shape) (d : ℕ) (b : BankState) (r : RequestData) → (serves chip d b r).request ≡ r
unfolding served_by
serves_request chip d b r =
    elim (cases_Bool (nat_lt d (banks chip))) [
      | inl e ↦ rw e (elim (cases_Bool (is_fit b r)) [ inl f ↦ rw f refl | inr f ↦ rw f refl ])
      | inr e ↦ rw e refl
    ]

-- a reply's line has at most 32 bytes
filled_short : (xs : List ℕ) (n : ℕ) → n ≤ 32 → length (take n xs ++ replicate (32 - n) 0) ≤ 32
filled_short xs n l =
    let a = length-append (take n xs) (replicate (32 - n) 0) in
    let b = length-take n xs in
    let c = length-replicate {A = ℕ} (32 - n) 0 in
    omega (arith, a, b, c, l)

fill_short : (a : ArrayState) (o : Op) → length (fill_bytes a o) ≤ 32
fill_short a (Fetch addr way) = filled_short _ 32 (omega arith)
fill_short a (Load addr size way) = filled_short _ 16 (omega arith)
fill_short a (Store addr size value) = omega arith
fill_short a (Swap addr size new) = omega arith
fill_short a (Cas addr size expect new) = omega arith

pub line_short : (chip : Shape) (d : ℕ) (b : BankState) (r : RequestData) → length (serves chip d b r).line ≤ 32
unfolding served_by
line_short chip d b r =
    elim (cases_Bool (nat_lt d (banks chip))) [
      | inl e ↦ rw e (elim (cases_Bool (is_fit b r)) [ inl f ↦ rw f (fill_short b.array r.op) | inr f ↦ rw f (omega arith) ])
      | inr e ↦ rw e (omega arith)
    ]

-- ---- accesses, one after another

pub served_push : (chip : Shape) (d : ℕ) (b : BankState) (xs : List Served) (a : Served) → AreServed chip d b xs → a ≡ serves chip d (after chip d b xs) a.request → AreServed chip d b (xs ++ a ∷ [])
served_push chip d b [] a s is = (is, tt)
served_push chip d b (x ∷ xs) a s is = (s.0, served_push chip d (destination_with chip d b x.request) xs a s.1 is)

-- each is what was served in the state before it
pub served_is : (chip : Shape) (d : ℕ) (b : BankState) (xs : List Served) (k : ℕ) (a : Served) → AreServed chip d b xs → slice_get xs k ≡ Some a → a ≡ serves chip d (after chip d b (take k xs)) a.request
served_is chip d b [] k a s e = let clash : ◌≡◌ {A = Option Served} None (Some a) = e in cc
served_is chip d b (x ∷ xs) zero a s e = let same : x ≡ a = cc (e) in subst (λ (y : Served). y ≡ serves chip d b y.request) same s.0
served_is chip d b (x ∷ xs) (suc k) a s e = served_is chip d (destination_with chip d b x.request) xs k a s.1 e

pub served_short : (chip : Shape) (d : ℕ) (b : BankState) (xs : List Served) (k : ℕ) (a : Served) → AreServed chip d b xs → slice_get xs k ≡ Some a → length a.line ≤ 32
served_short chip d b xs k a s e = subst (λ (y : Served). length y.line ≤ 32) (sym (served_is chip d b xs k a s e)) (line_short chip d (after chip d b (take k xs)) a.request)

-- a bank comes to what its requests make of it
pub after_is : (chip : Shape) (d : ℕ) (b : BankState) (xs : List Served) → d < banks chip → after chip d b xs ≡ bank_after b (requests_of xs)
after_is chip d b [] l = refl
after_is chip d b (x ∷ xs) l =
    let one : destination_with chip d b x.request ≡ bank_with b x.request = ap (λ (t : Bool). cond t (bank_with b x.request) b) (lt-ltb d (banks chip) l) in
    ap (λ (y : BankState). after chip d y xs) one ∙ after_is chip d (bank_with b x.request) xs l

pub bank_push : (b : BankState) (rs : List RequestData) (r : RequestData) → bank_after b (rs ++ r ∷ []) ≡ bank_with (bank_after b rs) r
bank_push b [] r = refl
bank_push b (q ∷ rs) r = bank_push (bank_with b q) rs r

-- the bridge serves all alike
pub bridge_serves : (chip : Shape) (d : ℕ) (b c : BankState) (r : RequestData) → banks chip ≤ d → serves chip d b r ≡ serves chip d c r
bridge_serves chip d b c r l =
    let f : nat_lt d (banks chip) ≡ false = le-ltb d (banks chip) l in
    ap (λ (t : Bool). cond t (served_by b r) (refused r)) f ∙ sym (ap (λ (t : Bool). cond t (served_by c r) (refused r)) f)

-- ---- those of one destination

pub own_in : (chip : Shape) (d : ℕ) (xs : List Served) (i : ℕ) (a : Served) → slice_get xs i ≡ Some a → op_dest chip a.request.op ≡ d → (k : ℕ) × (slice_get (served_at chip d xs) k ≡ Some a)
own_in chip d [] i a e f = let clash : ◌≡◌ {A = Option Served} None (Some a) = e in cc
own_in chip d (x ∷ xs) zero a e f =
    let same : x ≡ a = cc (e) in
    let t : (op_dest chip x.request.op == d) ≡ true = eq-eqb (op_dest chip x.request.op) d (ap (λ (v : Served). op_dest chip v.request.op) same ∙ f) in
    rw t (0, ap (λ (v : Served). Some v) same)
own_in chip d (x ∷ xs) (suc i) a e f =
    let more = own_in chip d xs i a e f in
    elim (cases_Bool (op_dest chip x.request.op == d)) [
      | inl t ↦ rw t (suc more.0, more.1)
      | inr t ↦ rw t more
    ]
