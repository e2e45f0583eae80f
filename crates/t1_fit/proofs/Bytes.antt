-- Memory is bytes, and so is each line that an access carries.
use Rattle.std.proofs.Common.{ℕ, zero, suc, ◌+◌, ◌*◌, ◌/◌, ◌≤◌, inl, inr, List, [], ◌∷◌, ◌++◌, length, take, drop, replicate, Option, Some, None, arith}
use Rattle.std.specs.List.{slice_get}
use Rattle.std.proofs.lemmas.Bool.{cases_lt}
use Rattle.std.proofs.lemmas.List.{get_or-take, get_or-drop, get_or_past}
use Rattle.t1_packet.specs.declared.op.Op.{Op}
use Rattle.t1_packet.specs.declared.op.Op.TheVariants.{Fetch, Load, Store, Swap, Cas}
use Rattle.t1_event.specs.declared.commit.Commit.{Commit}
use Rattle.t1_event.specs.Log.{written, written_by, memory_at}
use Rattle.t1_event.specs.Posts.{reply_line}
use Rattle.t1_num.specs.MemoryLaws.{AreBytes}
use Rattle.t1_num.proofs.MemoryLaws.{bytes_stay}

bytes_written : (m : List ℕ) (op : Op) → AreBytes m → AreBytes (written m op)
bytes_written m (Store a z v) bytes = bytes_stay m a z v bytes
bytes_written m (Swap a z v) bytes = bytes_stay m a z v bytes
bytes_written m (Fetch a v) bytes = bytes
bytes_written m (Load a z v) bytes = bytes
bytes_written m (Cas a z e v) bytes = bytes

written_bytes : (m : List ℕ) (o : Option Commit) → AreBytes m → AreBytes (written_by m o)
written_bytes m None bytes = bytes
written_bytes m (Some c) bytes = bytes_written m c.op bytes

pub memory_bytes : (image : List ℕ) (log : List Commit) (n : ℕ) → AreBytes image → AreBytes (memory_at image log n)
memory_bytes image log zero bytes = bytes
memory_bytes image log (suc n) bytes = written_bytes (memory_at image log n) (slice_get log n) (memory_bytes image log n bytes)

bytes_take : (k : ℕ) (m : List ℕ) → AreBytes m → AreBytes (take k m)
bytes_take k m bytes i =
    elim (cases_lt i k) [
      | inl l ↦ (let q = get_or-take k m i 0 l in let b = bytes i in omega (arith, q, b))
      | inr l ↦ (let q = get_or_past (take k m) i 0 (let t = length_of k m in omega (arith, l, t)) in omega (arith, q))
    ]
  where
    length_of : (k : ℕ) (m : List ℕ) → length (take k m) ≤ k
    length_of zero m = omega arith
    length_of (suc k) [] = omega arith
    length_of (suc k) (x ∷ xs) = let r = length_of k xs in omega (arith, r)

bytes_drop : (k : ℕ) (m : List ℕ) → AreBytes m → AreBytes (drop k m)
bytes_drop k m bytes i = let q = get_or-drop k m i 0 in let b = bytes (k + i) in omega (arith, q, b)

bytes_zeros : (n : ℕ) → AreBytes (replicate n 0)
bytes_zeros zero i = omega arith
bytes_zeros (suc n) zero = omega arith
bytes_zeros (suc n) (suc i) = bytes_zeros n i

bytes_append : (xs ys : List ℕ) → AreBytes xs → AreBytes ys → AreBytes (xs ++ ys)
bytes_append [] ys a b i = b i
bytes_append (x ∷ xs) ys a b zero = a 0
bytes_append (x ∷ xs) ys a b (suc i) = bytes_append xs ys (λ k. a (suc k)) b i

pub line_bytes : (m : List ℕ) (op : Op) (way : Option ℕ) → AreBytes m → AreBytes (reply_line m op way)
line_bytes m (Fetch a v) (Some w) bytes = bytes_take 32 (drop (a / 32 * 32) m) (bytes_drop (a / 32 * 32) m bytes)
line_bytes m (Load a z v) (Some w) bytes = bytes_append (take 16 (drop (a / 16 * 16) m)) (replicate 16 0) (bytes_take 16 (drop (a / 16 * 16) m) (bytes_drop (a / 16 * 16) m bytes)) (bytes_zeros 16)
line_bytes m (Fetch a v) None bytes = bytes_zeros 32
line_bytes m (Load a z v) None bytes = bytes_zeros 32
line_bytes m (Store a z v) way bytes = bytes_zeros 32
line_bytes m (Swap a z v) way bytes = bytes_zeros 32
line_bytes m (Cas a z e v) way bytes = bytes_zeros 32
