-- The kills and the fills of a packet, as the definitions of caches by packets have them.
use Rattle.t1_shape.specs.Shapes.{Shape}
use Rattle.std.proofs.Common.{◌≡◌, ◌<◌, ℕ, ◌*◌, ◌^◌, ◌==◌, nat_lt, true, List, [], ◌∷◌, take, set, Option, Some, None, refl, ap, sym, ◌∙◌, inl, inr, if◌then◌else◌}
use Rattle.std.proofs.lemmas.Bool.{cases_Bool, eq-eqb, lt-ltb}
use Rattle.t1_shape.specs.Slots.{Line}
use Rattle.t1_space.specs.Places.{is_io}
use Rattle.t1_packet.specs.declared.cache.Cache.{Cache}
use Rattle.t1_packet.specs.declared.cache.Cache.TheVariants.{Dcache, Icache}
use Rattle.t1_packet.specs.Caches.{layout, is_kill_of, slot_killed, with_kills, with_answer, pointers_with_answer}
use Rattle.t1_packet.specs.declared.op.Op.{Op}
use Rattle.t1_packet.specs.declared.op.Op.TheVariants as op
use Rattle.t1_packet.specs.Data.{KillData, ReplyData}
use Rattle.t1_packet.specs.Ops.{op_size}
use Rattle.t1_l1.specs.Cache.{filled, emptied, updated}
use Rattle.t1_joint.specs.Proper.{IsReplyWay}
use Rattle.t1_core.specs.Steps.{CoreState}
use Rattle.t1_core.specs.Takes.{killed_by, killed, same_op, fits, is_way_for, accepts, fill_with}
use Rattle.t1_core_rule.specs.Fitting.{cache_with}

-- a core with these slots and pointers
abbrev pub with_caches : (chip : Shape) → CoreState → List (Option Line) → List ℕ → List (Option Line) → List ℕ → CoreState
with_caches chip c sd pd si pi = record c { dcache = cache_with chip Dcache sd pd; icache = cache_with chip Icache si pi }

abbrev after_kill : (chip : Shape) → ℕ → Cache → KillData → List (Option Line) → List (Option Line)
after_kill chip core cache kill slots = if is_kill_of chip core cache kill then set slots (slot_killed chip kill) None else slots

kill_one : (c : CoreState) (sd : List (Option Line)) (pd : List ℕ) (si : List (Option Line)) (pi : List ℕ) (k : ℕ) (cache : Cache) (at way : ℕ)
    → let kill : KillData = record { core = k; cache = cache; set = at; way = way } in
    killed_by (with_caches c.chip c sd pd si pi) kill ≡ with_caches c.chip c (after_kill c.chip c.number Dcache kill sd) pd (after_kill c.chip c.number Icache kill si) pi
unfolding emptied
kill_one c sd pd si pi k Dcache at way =
    elim (cases_Bool (k == c.number)) [
      | inl e ↦ elim (cases_Bool (nat_lt at (layout c.chip Dcache).sets)) [
        | inl f ↦ elim (cases_Bool (nat_lt way (layout c.chip Dcache).ways)) [ inl g ↦ rw (e, f, g) refl | inr g ↦ rw (e, f, g) refl ]
        | inr f ↦ rw (e, f) refl
      ]
      | inr e ↦ rw e refl
    ]
kill_one c sd pd si pi k Icache at way =
    elim (cases_Bool (k == c.number)) [
      | inl e ↦ elim (cases_Bool (nat_lt at (layout c.chip Icache).sets)) [
        | inl f ↦ elim (cases_Bool (nat_lt way (layout c.chip Icache).ways)) [ inl g ↦ rw (e, f, g) refl | inr g ↦ rw (e, f, g) refl ]
        | inr f ↦ rw (e, f) refl
      ]
      | inr e ↦ rw e refl
    ]

pub killed_is : (c : CoreState) (sd : List (Option Line)) (pd : List ℕ) (si : List (Option Line)) (pi : List ℕ) (kills : List KillData)
    → killed (with_caches c.chip c sd pd si pi) kills ≡ with_caches c.chip c (with_kills c.chip c.number Dcache kills sd) pd (with_kills c.chip c.number Icache kills si) pi
unfolding killed
killed_is c sd pd si pi [] = refl
killed_is c sd pd si pi (kill ∷ kills) =
    ap (λ (d : CoreState). killed d kills) (kill_one c sd pd si pi kill.core kill.cache kill.set kill.way)
    ∙ killed_is c (after_kill c.chip c.number Dcache kill sd) pd (after_kill c.chip c.number Icache kill si) pi kills

-- ---- fills

-- the fill of the instruction cache, by a line of 32 bytes
pub fetch_fill : (chip : Shape) (si : List (Option Line)) (pi : List ℕ) (addr asked : ℕ) (way : Option ℕ) (line : List ℕ) → take 32 line ≡ line
    → fill_with (cache_with chip Icache si pi) addr way line
    ≡ cache_with chip Icache (with_answer chip Icache (op.Fetch addr asked) way line si) (pointers_with_answer chip Icache (op.Fetch addr asked) way pi)
unfolding filled
fetch_fill chip si pi addr asked None line e = refl
fetch_fill chip si pi addr asked (Some way) line e = rw e refl

pub load_fill : (chip : Shape) (sd : List (Option Line)) (pd : List ℕ) (addr size asked : ℕ) (way : Option ℕ) (line : List ℕ)
    → fill_with (cache_with chip Dcache sd pd) addr way (take 16 line)
    ≡ cache_with chip Dcache (with_answer chip Dcache (op.Load addr size asked) way line sd) (pointers_with_answer chip Dcache (op.Load addr size asked) way pd)
unfolding filled
load_fill chip sd pd addr size asked None line = refl
load_fill chip sd pd addr size asked (Some way) line = refl

pub store_fill : (chip : Shape) (sd : List (Option Line)) (pd : List ℕ) (addr size value : ℕ) (way : Option ℕ) (line : List ℕ)
    → updated (cache_with chip Dcache sd pd) addr size value
    ≡ cache_with chip Dcache (with_answer chip Dcache (op.Store addr size value) way line sd) (pointers_with_answer chip Dcache (op.Store addr size value) way pd)
unfolding updated
store_fill chip sd pd addr size value way line = refl

-- ---- a proper reply to what is out is accepted

same_op_self : (o : Op) → same_op o o ≡ true
same_op_self (op.Fetch a w) = rw (eq-eqb a a refl, eq-eqb w w refl) refl
same_op_self (op.Load a z w) = rw (eq-eqb a a refl, eq-eqb z z refl, eq-eqb w w refl) refl
same_op_self (op.Store a z v) = rw (eq-eqb a a refl, eq-eqb z z refl, eq-eqb v v refl) refl
same_op_self (op.Swap a z v) = rw (eq-eqb a a refl, eq-eqb z z refl, eq-eqb v v refl) refl
same_op_self (op.Cas a z e v) = rw (eq-eqb a a refl, eq-eqb z z refl, eq-eqb e e refl, eq-eqb v v refl) refl

fits_true : (value size : ℕ) → value < 2 ^ (8 * size) → fits value size ≡ true
fits_true value size l = lt-ltb value (2 ^ (8 * size)) l

way_true : (chip : Shape) (sd si : List (Option Line)) (pd pi : List ℕ) (o : Op) (way : Option ℕ) → IsReplyWay chip o way → is_way_for (cache_with chip Dcache sd pd) (cache_with chip Icache si pi) o way ≡ true
way_true chip sd si pd pi (op.Fetch a w) None r = refl
way_true chip sd si pd pi (op.Fetch a w) (Some way) r = lt-ltb way (layout chip Icache).ways r
way_true chip sd si pd pi (op.Load a z w) None r = elim (cases_Bool (is_io a)) [ inl e ↦ rw e refl | inr e ↦ rw e refl ]
way_true chip sd si pd pi (op.Load a z w) (Some way) r =
    elim (cases_Bool (is_io a)) [
      | inl e ↦ absurd (let clash : ◌≡◌ {A = Option ℕ} (Some way) None = r.1 e in cc)
      | inr e ↦ rw e (lt-ltb way (layout chip Dcache).ways r.0)
    ]
way_true chip sd si pd pi (op.Store a z v) way r = rw r refl
way_true chip sd si pd pi (op.Swap a z v) way r = rw r refl
way_true chip sd si pd pi (op.Cas a z e v) way r = rw r refl

pub accepted : (chip : Shape) (sd si : List (Option Line)) (pd pi : List ℕ) (r : ReplyData) (k : ℕ) (o : Op) → o ≡ r.op → k ≡ r.item → IsReplyWay chip r.op r.way → r.old < 2 ^ (8 * op_size r.op)
    → accepts (cache_with chip Dcache sd pd) (cache_with chip Icache si pi) r k o ≡ true
accepted chip sd si pd pi r k o e f way old =
    let one : same_op o r.op ≡ true = ap (λ (p : Op). same_op p r.op) e ∙ same_op_self r.op in
    let two : (r.item == k) ≡ true = eq-eqb r.item k (sym f) in
    rw (one, two, way_true chip sd si pd pi r.op r.way way, fits_true r.old (op_size r.op) old) refl
