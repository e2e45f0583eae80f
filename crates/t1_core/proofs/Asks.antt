-- What needs a ring does not move by itself.
use Rattle.std.proofs.Common.{◌≡◌, ℕ, Bool, true, false, Option, Some, None, refl, sym, subst, if◌then◌else◌}
use Rattle.t1_packet.specs.declared.op.Op.{Op}
use Rattle.t1_packet.specs.Ops.{op_dest}
use Rattle.t1_l1.specs.Cache.{CacheState, read_of}
use Rattle.t1_core.specs.declared.asker.Asker.{Asker}
use Rattle.t1_core.specs.declared.phase.Phase.{Phase}
use Rattle.t1_core.specs.declared.plan.Plan.{Plan}
use Rattle.t1_core.specs.declared.plan.Plan.TheVariants as plan
use Rattle.t1_core.specs.declared.quick.Quick.{Quick}
use Rattle.t1_core.specs.declared.quick.Quick.TheVariants as quick
use Rattle.t1_core.specs.declared.answers.Did.{Did}
use Rattle.t1_core.specs.declared.answers.Did.TheVariants as did
use Rattle.t1_core.specs.Threads.{ThreadState}
use Rattle.t1_core.specs.Steps.{ThreadActed, has_room, asked, asked_fetch, asked_data, exec_begin, exec_look, exec_plan}
use Rattle.t1_core.specs.Quick.{IsWait, IsHeld, IsQuick}

held_if : (b : Bool) (y z : ThreadActed) → IsHeld y.did → IsHeld z.did → IsHeld (if b then y else z).did
held_if true y z p q = p
held_if false y z p q = q

asked_held : (x : Asker) (t : ThreadState) (o : Op) (p : Phase) → IsHeld (asked x t o p).did
unfolding asked
asked_held x t o p = held_if (has_room x.room (op_dest x.chip o)) _ _ tt tt

fetch_held : (x : Asker) (icache : CacheState) (t : ThreadState) → IsHeld (asked_fetch x icache t).did
unfolding asked_fetch
fetch_held x icache t = asked_held x t _ _

data_held : (x : Asker) (dcache : CacheState) (t : ThreadState) (addr : ℕ) → IsHeld (asked_data x dcache t addr).did
unfolding asked_data
data_held x dcache t addr = asked_held x t _ _

-- a fetch that misses
pub begin_held : (x : Asker) (icache : CacheState) (t : ThreadState) (o : Option ℕ) (b : Bool) → o ≡ None → b ≡ true → read_of icache t.strand.pc 4 ≡ None
    → IsHeld (exec_begin x icache t o b).did
begin_held x icache t (Some n) b e f miss = let clash : ◌≡◌ {A = Option ℕ} (Some n) None = e in cc
begin_held x icache t None false e f miss = let clash : false ≡ true = f in cc
begin_held x icache t None true e f miss = rw miss (fetch_held x icache t)

-- a load from I/O, an atomic
pub send_held : (x : Asker) (dcache : CacheState) (t : ThreadState) (p : Plan) (addr : ℕ) → p ≡ plan.Send addr → IsHeld (exec_plan x dcache t p).did
send_held x dcache t p addr e = subst (λ (q : Plan). IsHeld (exec_plan x dcache t q).did) (sym e) (data_held x dcache t addr)

missed : (x : Asker) (dcache : CacheState) (t : ThreadState) (addr size : ℕ) (h : Option ℕ) → h ≡ None → IsHeld (exec_look x dcache t addr size h).did
missed x dcache t addr size None e = data_held x dcache t addr
missed x dcache t addr size (Some v) e = let clash : ◌≡◌ {A = Option ℕ} (Some v) None = e in cc

-- a load that misses
pub look_held : (x : Asker) (dcache : CacheState) (t : ThreadState) (p : Plan) (addr size : ℕ) → p ≡ plan.Look addr size → read_of dcache addr size ≡ None
    → IsHeld (exec_plan x dcache t p).did
look_held x dcache t p addr size e miss =
    subst (λ (q : Plan). IsHeld (exec_plan x dcache t q).did) (sym e) (missed x dcache t addr size (read_of dcache addr size) miss)

pub asks_only : {A : Type 0} (after acted : A) (d : Did) → IsHeld d → IsQuick after acted d quick.Asks
asks_only after acted d h = record {
  moved = λ e. let clash : quick.Asks ≡ quick.Moved = e in cc;
  waits = λ e. let clash : quick.Asks ≡ quick.Waits = e in cc;
  asks = λ e. h;
}

-- what moves was moved by the quick step
pub quick_moved : (q : Quick) (d : Did) → d ≡ did.Moved → (q ≡ quick.Waits → IsWait d) → (q ≡ quick.Asks → IsHeld d) → q ≡ quick.Moved
quick_moved quick.Moved d e w h = refl
quick_moved quick.Waits d e w h = absurd (subst IsWait e (w refl))
quick_moved quick.Asks d e w h = absurd (subst IsHeld e (h refl))
