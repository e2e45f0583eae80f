-- The log of admitted accesses, and the plain forms of their ops.
use Rattle.std.proofs.Common.{◌≡◌, ℕ, zero, suc, ◌==◌, inl, inr, Bool, List, [], ◌∷◌, Option, Some, None, refl, ap}
use Rattle.std.specs.List.{slice_get}
use Rattle.std.proofs.lemmas.Bool.{cases_Bool}
use Rattle.t1_shape.specs.Shapes.{Shape}
use Rattle.t1_shape.specs.Slots.{Line}
use Rattle.t1_packet.specs.declared.cache.Cache.{Cache}
use Rattle.t1_packet.specs.declared.cache.Cache.TheVariants.{Dcache, Icache}
use Rattle.t1_packet.specs.declared.op.Op.{Op}
use Rattle.t1_packet.specs.declared.op.Op.TheVariants.{Fetch, Load, Store, Swap, Cas}
use Rattle.t1_packet.specs.Ops.{op_addr, op_size, op_dest}
use Rattle.t1_packet.specs.Caches.{layout, filled_line, with_answer}
use Rattle.t1_event.specs.declared.commit.Commit.{Commit}
use Rattle.t1_event.specs.Kills.{is_written}
use Rattle.t1_event.specs.Posts.{reply_line}
use Rattle.t1_packet.specs.declared.served.Served.{Served}
use Rattle.t1_packet.specs.Caches.{pointers_with_answer}
use Rattle.t1_event.specs.Log.{plain_op, kept_old, commit_of}
use Rattle.t1_event.specs.BankRule.{array_after}
use Rattle.t1_event.specs.Kills.{effect}
use Rattle.t1_l2.specs.Array.{ArrayState}
use Rattle.t1_shape.specs.Slots.{pointers_with_fill}
use Rattle.t1_joint.specs.Start.{Setup}
use Rattle.t1_joint.specs.Fit.{log_of}

-- ---- records

-- the record of an access that was admitted
abbrev pub record_of : Setup → Served → Commit
record_of w a = commit_of w.config.strands (op_dest w.config.chip a.request.op) a

pub log_at : (w : Setup) (all : List Served) (n : ℕ) (a : Served) → slice_get all n ≡ Some a → slice_get (log_of w all) n ≡ Some (record_of w a)
log_at w [] n a e = let clash : ◌≡◌ {A = Option Served} None (Some a) = e in cc
log_at w (b ∷ all) zero a e = let q : b ≡ a = cc (e) in ap (λ (v : Served). Some (record_of w v)) q
log_at w (b ∷ all) (suc n) a e = log_at w all n a e

pub at_log : (w : Setup) (all : List Served) (n : ℕ) (c : Commit) → slice_get (log_of w all) n ≡ Some c → (a : Served) × (slice_get all n ≡ Some a) × (c ≡ record_of w a)
at_log w [] n c e = let clash : ◌≡◌ {A = Option Commit} None (Some c) = e in cc
at_log w (b ∷ all) zero c e = (b, refl, (let q : c ≡ record_of w b = cc (e) in q))
at_log w (b ∷ all) (suc n) c e = at_log w all n c e

pub log_past : (w : Setup) (all : List Served) (n : ℕ) → slice_get all n ≡ None → slice_get (log_of w all) n ≡ None
log_past w [] n e = refl
log_past w (b ∷ all) zero e = let clash : ◌≡◌ {A = Option Served} (Some b) None = e in cc
log_past w (b ∷ all) (suc n) e = log_past w all n e

-- ---- plain forms

pub plain_addr : (op : Op) (old : ℕ) (way : Option ℕ) → op_addr (plain_op op old way) ≡ op_addr op
plain_addr (Fetch a v) old way = refl
plain_addr (Load a z v) old way = refl
plain_addr (Store a z v) old way = refl
plain_addr (Swap a z n) old way = refl
plain_addr (Cas a z e n) old way = elim (cases_Bool (old == e)) [ inl f ↦ rw f refl | inr f ↦ rw f refl ]

pub plain_size : (op : Op) (old : ℕ) (way : Option ℕ) → op_size (plain_op op old way) ≡ op_size op
plain_size (Fetch a v) old way = refl
plain_size (Load a z v) old way = refl
plain_size (Store a z v) old way = refl
plain_size (Swap a z n) old way = refl
plain_size (Cas a z e n) old way = elim (cases_Bool (old == e)) [ inl f ↦ rw f refl | inr f ↦ rw f refl ]

pub plain_filled : (cache : Cache) (op : Op) (old : ℕ) (way : Option ℕ) → filled_line cache (plain_op op old way) ≡ filled_line cache op
plain_filled Dcache (Fetch a v) old way = refl
plain_filled Icache (Fetch a v) old way = refl
plain_filled Dcache (Load a z v) old way = refl
plain_filled Icache (Load a z v) old way = refl
plain_filled cache (Store a z v) old way = refl
plain_filled cache (Swap a z n) old way = refl
plain_filled cache (Cas a z e n) old way = elim (cases_Bool (old == e)) [ inl f ↦ rw f refl | inr f ↦ rw f refl ]

pub plain_kept : (op : Op) (old : ℕ) (way : Option ℕ) (value : ℕ) → kept_old (plain_op op old way) value ≡ kept_old op value
plain_kept (Fetch a v) old way value = refl
plain_kept (Load a z v) old way value = refl
plain_kept (Store a z v) old way value = refl
plain_kept (Swap a z n) old way value = refl
plain_kept (Cas a z e n) old way value = elim (cases_Bool (old == e)) [ inl f ↦ rw f refl | inr f ↦ rw f refl ]

-- a reply does the same with the plain form
pub plain_line : (m : List ℕ) (op : Op) (old : ℕ) (way : Option ℕ) → reply_line m (plain_op op old way) way ≡ reply_line m op way
plain_line m (Fetch a v) old None = refl
plain_line m (Fetch a v) old (Some k) = refl
plain_line m (Load a z v) old None = refl
plain_line m (Load a z v) old (Some k) = refl
plain_line m (Store a z v) old way = refl
plain_line m (Swap a z n) old way = refl
plain_line m (Cas a z e n) old way = elim (cases_Bool (old == e)) [ inl f ↦ rw f refl | inr f ↦ rw f refl ]

pub plain_answer : (shape : Shape) (cache : Cache) (op : Op) (old : ℕ) (way : Option ℕ) (line : List ℕ) (slots : List (Option Line))
    → with_answer shape cache (plain_op op old way) way line slots ≡ with_answer shape cache op way line slots
plain_answer shape Dcache (Fetch a v) old way line slots = refl
plain_answer shape Icache (Fetch a v) old way line slots = refl
plain_answer shape Dcache (Load a z v) old way line slots = refl
plain_answer shape Icache (Load a z v) old way line slots = refl
plain_answer shape Dcache (Store a z v) old way line slots = refl
plain_answer shape Icache (Store a z v) old way line slots = refl
plain_answer shape cache (Swap a z n) old way line slots = refl
plain_answer shape cache (Cas a z e n) old way line slots = elim (cases_Bool (old == e)) [ inl f ↦ rw f refl | inr f ↦ rw f refl ]

pub plain_pointers : (shape : Shape) (cache : Cache) (op : Op) (old : ℕ) (way : Option ℕ) (pointers : List ℕ)
    → pointers_with_answer shape cache (plain_op op old way) way pointers ≡ pointers_with_answer shape cache op way pointers
plain_pointers shape cache op old way pointers = ap (λ (l : Option ℕ). pointers_with_fill (layout shape cache) l way pointers) (plain_filled cache op old way)

-- what it does in the L2 and what it kills are those of its effect
pub plain_after : (a : ArrayState) (op : Op) (old : ℕ) (way : Option ℕ) → array_after a (plain_op op old way) ≡ array_after a (effect op old)
plain_after a (Fetch addr v) old way = refl
plain_after a (Load addr z v) old way = refl
plain_after a (Store addr z v) old way = refl
plain_after a (Swap addr z n) old way = refl
plain_after a (Cas addr z e n) old way = elim (cases_Bool (old == e)) [ inl f ↦ rw f refl | inr f ↦ rw f refl ]

pub plain_written : (cache : Cache) (line : ℕ) (own : Bool) (op : Op) (old : ℕ) (way : Option ℕ) → is_written cache line own (plain_op op old way) ≡ is_written cache line own (effect op old)
plain_written cache line own (Fetch addr v) old way = refl
plain_written cache line own (Load addr z v) old way = refl
plain_written cache line own (Store addr z v) old way = refl
plain_written cache line own (Swap addr z n) old way = refl
plain_written cache line own (Cas addr z e n) old way = elim (cases_Bool (old == e)) [ inl f ↦ rw f refl | inr f ↦ rw f refl ]
