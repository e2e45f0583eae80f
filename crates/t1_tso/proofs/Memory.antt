-- Bytes of memory: what the last commit that covers a byte left there.
use Rattle.std.proofs.Common.{◌≡◌, ℕ, zero, suc, ◌+◌, ◌-◌, ◌<◌, ◌≤◌, ◌⊎◌, inl, inr, List, length, get_or, Option, Some, None, refl, sym, ◌∙◌, subst, arith}
use Rattle.std.specs.List.{slice_get}
use Rattle.std.proofs.lemmas.Bool.{cases_lt, cases_eq}
use Rattle.t1_num.specs.Memory.{byte_of}
use Rattle.t1_num.proofs.MemoryLaws.{length-with_number_at, outside, inside}
use Rattle.t1_packet.specs.declared.op.Op.{Op}
use Rattle.t1_packet.specs.declared.op.Op.TheVariants.{Fetch, Load, Store, Swap, Cas}
use Rattle.t1_event.specs.declared.commit.Commit.{Commit}
use Rattle.t1_event.specs.Log.{written, written_by, memory_at}

-- ---- one access

abbrev pub OpCovers : Op → ℕ → Type 0
OpCovers (Store addr size value) a = (addr ≤ a) × (a < addr + size)
OpCovers (Swap addr size new) a = (addr ≤ a) × (a < addr + size)
OpCovers (Fetch addr way) a = ⊥
OpCovers (Load addr size way) a = ⊥
OpCovers (Cas addr size expect new) a = ⊥

abbrev pub op_byte : Op → ℕ → ℕ
op_byte (Store addr size value) a = byte_of value size (a - addr)
op_byte (Swap addr size new) a = byte_of new size (a - addr)
op_byte (Fetch addr way) a = 0
op_byte (Load addr size way) a = 0
op_byte (Cas addr size expect new) a = 0

within_cases : (addr size a : ℕ) → ((addr ≤ a) × (a < addr + size)) ⊎ (((addr ≤ a) × (a < addr + size)) → ⊥)
within_cases addr size a =
    elim (cases_lt a addr) [
      | inl l ↦ inr (λ p. omega (arith, p))
      | inr l ↦ elim (cases_lt a (addr + size)) [ inl r ↦ inl (l, r) | inr r ↦ inr (λ p. omega (arith, p)) ]
    ]

pub covers_cases : (op : Op) (a : ℕ) → OpCovers op a ⊎ (OpCovers op a → ⊥)
covers_cases (Store addr size value) a = within_cases addr size a
covers_cases (Swap addr size new) a = within_cases addr size a
covers_cases (Fetch addr way) a = inr (λ p. p)
covers_cases (Load addr size way) a = inr (λ p. p)
covers_cases (Cas addr size expect new) a = inr (λ p. p)

apart : (addr size a : ℕ) → (((addr ≤ a) × (a < addr + size)) → ⊥) → (a < addr) ⊎ (addr + size ≤ a)
apart addr size a off =
    elim (cases_lt a addr) [
      | inl l ↦ inl l
      | inr l ↦ elim (cases_lt a (addr + size)) [ inl r ↦ absurd (off (l, r)) | inr r ↦ inr r ]
    ]

pub length_written : (m : List ℕ) (op : Op) → length (written m op) ≡ length m
length_written m (Store addr size value) = length-with_number_at m addr size value
length_written m (Swap addr size new) = length-with_number_at m addr size new
length_written m (Fetch addr way) = refl
length_written m (Load addr size way) = refl
length_written m (Cas addr size expect new) = refl

pub written_same : (m : List ℕ) (op : Op) (a : ℕ) → (OpCovers op a → ⊥) → get_or (written m op) a 0 ≡ get_or m a 0
written_same m (Store addr size value) a off = outside m addr size value a (apart addr size a off)
written_same m (Swap addr size new) a off = outside m addr size new a (apart addr size a off)
written_same m (Fetch addr way) a off = refl
written_same m (Load addr size way) a off = refl
written_same m (Cas addr size expect new) a off = refl

pub written_here : (m : List ℕ) (op : Op) (a : ℕ) → OpCovers op a → a < length m → get_or (written m op) a 0 ≡ op_byte op a
written_here m (Store addr size value) a p w = inside m addr size value a p.0 p.1 w
written_here m (Swap addr size new) a p w = inside m addr size new a p.0 p.1 w
written_here m (Fetch addr way) a p w = absurd p
written_here m (Load addr size way) a p w = absurd p
written_here m (Cas addr size expect new) a p w = absurd p

-- ---- the log

length_written_by : (m : List ℕ) (o : Option Commit) → length (written_by m o) ≡ length m
length_written_by m None = refl
length_written_by m (Some c) = length_written m c.op

pub length-memory_at : (image : List ℕ) (log : List Commit) (n : ℕ) → length (memory_at image log n) ≡ length image
length-memory_at image log zero = refl
length-memory_at image log (suc n) = length_written_by (memory_at image log n) (slice_get log n) ∙ length-memory_at image log n

-- no commit below n covers byte a
abbrev pub NoneBelow : List Commit → ℕ → ℕ → Type 0
NoneBelow log n a = (k : ℕ) (c : Commit) → k < n → slice_get log k ≡ Some c → OpCovers c.op a → ⊥

-- commit `index` is the last below n that covers byte a
pub record LastBelow (log : List Commit) (n a : ℕ) : Type 0 where
  pub index : ℕ
  pub commit : Commit
  pub below : index < n
  pub is : slice_get log index ≡ Some commit
  pub covers : OpCovers commit.op a
  pub last : (k : ℕ) (c : Commit) → index < k → k < n → slice_get log k ≡ Some c → OpCovers c.op a → ⊥

abbrev pub MemoryByte : List ℕ → List Commit → ℕ → ℕ → ℕ → Type 0
MemoryByte image log n a value =
    ((l : LastBelow log n a) × (value ≡ op_byte l.commit.op a)) ⊎ (NoneBelow log n a × (value ≡ get_or image a 0))

-- the next commit does not cover the byte
keep : (image : List ℕ) (log : List Commit) (n a value : ℕ) → ((c : Commit) → slice_get log n ≡ Some c → OpCovers c.op a → ⊥)
    → MemoryByte image log n a value → MemoryByte image log (suc n) a value
keep image log n a value off (inl (l, e)) =
    inl (
      record {
        index = l.index;
        commit = l.commit;
        below = omega (arith, l.below);
        is = l.is;
        covers = l.covers;
        last = λ k c above below is covers. elim (cases_eq k n) [
          | inl same ↦ off c (subst (λ (i : ℕ). slice_get log i ≡ Some c) same is) covers
          | inr apart ↦ let b : k < n = omega (arith, below, apart) in l.last k c above b is covers
        ];
      },
      e,
    )
keep image log n a value off (inr (none, e)) =
    inr (
      λ k c below is covers. elim (cases_eq k n) [
        | inl same ↦ off c (subst (λ (i : ℕ). slice_get log i ≡ Some c) same is) covers
        | inr apart ↦ let b : k < n = omega (arith, below, apart) in none k c b is covers
      ],
      e,
    )

mem_byte_step : (image : List ℕ) (log : List Commit) (n a : ℕ) → a < length image → MemoryByte image log n a (get_or (memory_at image log n) a 0)
    → (o : Option Commit) → slice_get log n ≡ o → MemoryByte image log (suc n) a (get_or (written_by (memory_at image log n) o) a 0)
mem_byte_step image log n a within before None is =
    keep image log n a (get_or (memory_at image log n) a 0) (λ c e. absurd (let clash : ◌≡◌ {A = Option Commit} None (Some c) = sym is ∙ e in cc)) before
mem_byte_step image log n a within before (Some c) is =
    elim (covers_cases c.op a) [
      | inl covers ↦ inl (
        record {
          index = n;
          commit = c;
          below = omega arith;
          is = is;
          covers = covers;
          last = λ k d above below. absurd (omega (arith, above, below));
        },
        written_here (memory_at image log n) c.op a covers (omega (arith, length-memory_at image log n)),
      )
      | inr off ↦
          let same : get_or (written (memory_at image log n) c.op) a 0 ≡ get_or (memory_at image log n) a 0 = written_same (memory_at image log n) c.op a off in
          let P : ℕ → Type 0 = λ v. MemoryByte image log (suc n) a v in
          subst P (sym same) (keep image log n a (get_or (memory_at image log n) a 0)
          (λ d e covers. off (let same' : Some d ≡ Some c = sym e ∙ is in let eq : d ≡ c = cc in subst (λ (r : Commit). OpCovers r.op a) eq covers)) before)
    ]

-- a byte of memory after n commits: that of the last commit that covers it, else the image's
pub memory_byte : (image : List ℕ) (log : List Commit) (n a : ℕ) → a < length image → MemoryByte image log n a (get_or (memory_at image log n) a 0)
memory_byte image log zero a within = inr (λ k c below. absurd (omega (arith, below)), refl)
memory_byte image log (suc n) a within = mem_byte_step image log n a within (memory_byte image log n a within) (slice_get log n) refl
