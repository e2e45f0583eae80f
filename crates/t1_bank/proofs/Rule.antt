-- The parts of the rule in the forms that proofs go by.
use Rattle.std.proofs.Common.{◌≡◌, ℕ, ◌/◌, ◌==◌, ◌&&◌, Bool, List, [], ◌∷◌, get_or, set, Option, Some, None, refl, ap, ◌∙◌, inl, inr}
use Rattle.std.specs.Prelude.{if◌then◌else◌}
use Rattle.std.proofs.lemmas.Bool.{cases_Bool}
use Rattle.t1_bank.specs.Writes.{wrote}
use Rattle.t1_dir.specs.Directory.{DirectoryState, filled_by, tags_at, without_kills}
use Rattle.t1_event.specs.BankRule.{BankState, array_after, bank_well, kills_of, old_of}
use Rattle.t1_event.specs.Kills.{effect, fill_way, kills_below}
use Rattle.t1_l2.specs.Array.{ArrayState, ensured}
use Rattle.t1_packet.specs.Caches.{same_cache, slot_killed}
use Rattle.t1_packet.specs.Data.{KillData, RequestData}
use Rattle.t1_packet.specs.Ops.{op_addr, op_size}
use Rattle.t1_packet.specs.declared.cache.Cache.{Cache}
use Rattle.t1_packet.specs.declared.op.Op.{Op}
use Rattle.t1_packet.specs.declared.op.Op.TheVariants.{Cas, Fetch, Load, Store, Swap}
use Rattle.t1_shape.proofs.Once.{left_by}
use Rattle.t1_shape.specs.Numbers.{l2_line}
use Rattle.t1_shape.specs.Shapes.{Shape}
use Rattle.t1_shape.specs.Slots.{IsOnce, Layout}

-- the directory's own kills and ways
abbrev pub kills_in : DirectoryState → ℕ → Option ℕ → Op → ℕ → List KillData
kills_in d own evicted op cores = kills_below d.shape (tags_at d) own evicted op cores

abbrev pub way_for_fill : DirectoryState → ℕ → Op → Option ℕ
way_for_fill d core op = fill_way d.shape (tags_at d) core op

-- ---- kills, where each is of a set and a way that there are

abbrev pub is_of : ℕ → Cache → KillData → Bool
is_of core cache k = (k.core == core) && same_cache k.cache cache

abbrev pub cleared : {A : Type 0} → Shape → ℕ → Cache → List KillData → List (Option A) → List (Option A)
cleared shape core cache [] slots = slots
cleared shape core cache (k ∷ ks) slots = cleared shape core cache ks (if is_of core cache k then set slots (slot_killed shape k) None else slots)

-- what is left after kills stood there before
pub cleared_left : {A : Type 0} (shape : Shape) (core : ℕ) (cache : Cache) (ks : List KillData) (slots : List (Option A)) (k : ℕ) (l : A)
    → get_or (cleared shape core cache ks slots) k None ≡ Some l → get_or slots k None ≡ Some l
cleared_left shape core cache [] slots k l e = e
cleared_left {A} shape core cache (y ∷ ys) slots k l e =
    elim (cases_Bool (is_of core cache y)) [
      | inl t ↦
          let e' : get_or (cleared shape core cache ys (set slots (slot_killed shape y) None)) k None ≡ Some l = rw t at e in
          left_by slots (slot_killed shape y) k l (cleared_left shape core cache ys (set slots (slot_killed shape y) None) k l e')
      | inr t ↦
          let e' : get_or (cleared shape core cache ys slots) k None ≡ Some l = rw t at e in
          cleared_left shape core cache ys slots k l e'
    ]

pub once_cleared : (shape : Shape) (g : Layout) (core : ℕ) (cache : Cache) (ks : List KillData) (tags : List (Option ℕ)) → IsOnce g tags → IsOnce g (cleared shape core cache ks tags)
once_cleared shape g core cache ks tags o = record {
  own = λ k l e. o.own k l (cleared_left shape core cache ks tags k l e);
  once = λ i k l e f. o.once i k l (cleared_left shape core cache ks tags i l e) (cleared_left shape core cache ks tags k l f);
}

-- ---- writes into the array

pub array_wrote : (a : ArrayState) (op : Op) → array_after a op ≡ wrote (ensured a (l2_line (op_addr op))) op
array_wrote a (Fetch addr way) = refl
array_wrote a (Load addr size way) = refl
array_wrote a (Store addr size value) = refl
array_wrote a (Swap addr size new) = refl
array_wrote a (Cas addr size expect new) = refl

-- ---- what an access does, once its old value is known

pub effect_addr : (op : Op) (old : ℕ) → op_addr (effect op old) ≡ op_addr op
effect_addr (Fetch addr way) old = refl
effect_addr (Load addr size way) old = refl
effect_addr (Store addr size value) old = refl
effect_addr (Swap addr size new) old = refl
effect_addr (Cas addr size expect new) old = elim (cases_Bool (old == expect)) [ inl t ↦ rw t refl | inr t ↦ rw t refl ]

pub effect_size : (op : Op) (old : ℕ) → op_size (effect op old) ≡ op_size op
effect_size (Fetch addr way) old = refl
effect_size (Load addr size way) old = refl
effect_size (Store addr size value) old = refl
effect_size (Swap addr size new) old = refl
effect_size (Cas addr size expect new) old = elim (cases_Bool (old == expect)) [ inl t ↦ rw t refl | inr t ↦ rw t refl ]

-- the state after an access that is served: the line is made present, and then written
abbrev pub bank_wrote : BankState → RequestData → BankState
bank_wrote b r = record b {
  directory = filled_by (without_kills b.directory (kills_of b r)) r.core r.op (way_for_fill b.directory r.core r.op);
  array = wrote (ensured b.array (op_addr r.op / 64)) (effect r.op (old_of b r));
}

pub well_is : (b : BankState) (r : RequestData) → bank_well b r ≡ bank_wrote b r
well_is b r =
    let e : array_after b.array (effect r.op (old_of b r)) ≡ wrote (ensured b.array (op_addr r.op / 64)) (effect r.op (old_of b r)) =
    array_wrote b.array (effect r.op (old_of b r))
    ∙ ap (λ (addr : ℕ). wrote (ensured b.array (addr / 64)) (effect r.op (old_of b r))) (effect_addr r.op (old_of b r)) in
    ap (λ (a : ArrayState). record b { directory = filled_by (without_kills b.directory (kills_of b r)) r.core r.op (way_for_fill b.directory r.core r.op); array = a }) e
