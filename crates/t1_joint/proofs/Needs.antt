-- The shape of what an instruction asks of memory: an access that takes no trap has a size, is aligned,
-- and lies in RAM or, but for an atomic, in I/O space.
use Rattle.std.proofs.Common.{◌≡◌, ℕ, ◌+◌, ◌/◌, ◌%◌, ◌^◌, ◌<◌, ◌≤◌, ◌⊎◌, ◌==◌, ◌&&◌, not, nat_lt, inl, inr, Bool, true, false, if◌then◌else◌, List, [], ◌∷◌, ◌++◌, Option, Some, None, refl, ap, sym, ◌∙◌, subst, arith}
use Rattle.std.proofs.lemmas.Bool.{cases_Bool, ltb-true, eqb-true, and_parts, not-false}
use Rattle.t1_num.specs.Memory.{IsSize}
use Rattle.t1_insn.specs.declared.instruction.Insn.{Insn}
use Rattle.t1_insn.specs.declared.instruction.Insn.TheVariants.{WriteAsr, Flush, Membar, Stbar, Load, Store, Ldstub}
use Rattle.t1_insn.specs.declared.instruction.Insn.TheVariants as insn
use Rattle.t1_insn.specs.declared.operation.LoadKind.{LoadKind}
use Rattle.t1_insn.specs.declared.operation.LoadKind.TheVariants as load
use Rattle.t1_insn.specs.declared.operation.StoreKind.{StoreKind}
use Rattle.t1_insn.specs.declared.operation.StoreKind.TheVariants as store
use Rattle.t1_state.specs.declared.strand.Strand.{Strand}
use Rattle.t1_state.specs.Registers.{reg_of}
use Rattle.t1_space.specs.declared.places.Touch.{Touch}
use Rattle.t1_space.specs.declared.places.Touch.TheVariants as touch
use Rattle.t1_space.specs.declared.places.Place.{Place}
use Rattle.t1_space.specs.declared.places.Place.TheVariants.{Ram, Io, Scratch, Trap}
use Rattle.t1_space.specs.Spaces.{is_listed, is_restricted, is_no_fault, is_scratchpad, is_little}
use Rattle.t1_space.specs.Places.{is_load, is_atomic, is_aligned, is_scratchpad_access, is_io, data_access_exception, data_access_error, mem_address_not_aligned, privileged_action, place_of}
use Rattle.t1_exec.specs.declared.need.Need.{Need}
use Rattle.t1_exec.specs.declared.need.Need.TheVariants as need
use Rattle.t1_exec.specs.Operands.{xor_of, address_of}
use Rattle.t1_exec.specs.Spaces.{is_privileged, space_of, cas_space, is_implicit}
use Rattle.t1_exec.specs.Values.{load_size, store_size, cas_size, is_whole_load, is_whole_store, stored_of}
use Rattle.t1_exec.specs.Accesses.{access_of}
use Rattle.t1_exec.specs.Traps.{traps_of, first_of, illegal_trap, privilege_trap, level_trap, floating_trap, window_trap, operation_trap, jump_trap, access_trap, place_trap}
use Rattle.t1_exec.specs.Needs.{need_of, asked_of, atomic_of, asked_in, or_need}
use Rattle.t1_event.specs.Items.{IsIo}

-- ---- the shape of a need

pub record IsAligned (addr size : ℕ) : Type 0 where
  pub size_is : IsSize size
  pub aligned : addr % size ≡ 0

abbrev pub IsShapedNeed : ℕ → Need → Type 0
IsShapedNeed ram need.Plain = Unit {0}
IsShapedNeed ram (need.Load addr size) = IsAligned addr size × ((addr + size ≤ ram) ⊎ IsIo addr)
IsShapedNeed ram (need.Store addr size value) = IsAligned addr size × ((addr + size ≤ ram) ⊎ IsIo addr)
IsShapedNeed ram (need.Atomic addr size op) = IsAligned addr size × (addr + size ≤ ram)
IsShapedNeed ram (need.Membar mask) = Unit {0}
IsShapedNeed ram need.Flush = Unit {0}
IsShapedNeed ram need.Halt = Unit {0}
IsShapedNeed ram (need.Trap number) = Unit {0}

-- ---- places

-- the tests of a place, by which no trap is taken: it is aligned, and of the scratchpad, RAM or I/O space
abbrev pub tests : Bool → Bool → Bool → Bool → Bool → Bool → ℕ → Bool → Bool → Bool → Place
tests off restricted unlisted no_fault bad_pad pad n ram io_atomic io =
    if off then Trap mem_address_not_aligned
    else if restricted then Trap privileged_action
    else if unlisted then Trap data_access_exception
    else if no_fault then Trap data_access_exception
    else if bad_pad then Trap data_access_exception
    else if pad then Scratch n
    else if ram then Ram
    else if io_atomic then Trap data_access_exception
    else if io then Io
    else Trap data_access_error

pub record IsNamed (off pad ram io_atomic io : Bool) : Type 0 where
  pub aligned : off ≡ false
  pub where_is : (pad ≡ true) ⊎ ((ram ≡ true) ⊎ ((io_atomic ≡ false) × (io ≡ true)))

named_by : (a b c d e f : Bool) (n : ℕ) (g h k : Bool) → place_trap (tests a b c d e f n g h k) ≡ None → IsNamed a f g h k
named_by true b c d e f n g h k t = cc
named_by false true c d e f n g h k t = cc
named_by false false true d e f n g h k t = cc
named_by false false false true e f n g h k t = cc
named_by false false false false true f n g h k t = cc
named_by false false false false false true n g h k t = record { aligned = refl; where_is = inl refl }
named_by false false false false false false n true h k t = record { aligned = refl; where_is = inr (inl refl) }
named_by false false false false false false n false true k t = cc
named_by false false false false false false n false false true t = record { aligned = refl; where_is = inr (inr (refl, refl)) }
named_by false false false false false false n false false false t = cc

io_bits : (addr : ℕ) → is_io addr ≡ true → IsIo addr
io_bits addr e =
    let p = and_parts (addr / 2 ^ 39 % 2 == 1) (addr / 2 ^ 40 == 0) e in
    let a = eqb-true (addr / 2 ^ 39 % 2) 1 p.0 in
    let b = eqb-true (addr / 2 ^ 40) 0 p.1 in
    (omega (arith, a, b), omega (arith, a, b))

-- an aligned access that begins in RAM ends there
pub fits_in : (addr size ram : ℕ) → IsSize size → addr % size ≡ 0 → ram % 65536 ≡ 0 → addr < ram → addr + size ≤ ram
fits_in addr size ram s al blocks l =
    elim s [
      | inl e ↦ omega (arith, e, l)
      | inr (inl e) ↦ let al' : addr % 2 ≡ 0 = subst (λ (n : ℕ). addr % n ≡ 0) e al in omega (arith, e, al', blocks, l)
      | inr (inr (inl e)) ↦ let al' : addr % 4 ≡ 0 = subst (λ (n : ℕ). addr % n ≡ 0) e al in omega (arith, e, al', blocks, l)
      | inr (inr (inr e)) ↦ let al' : addr % 8 ≡ 0 = subst (λ (n : ℕ). addr % n ≡ 0) e al in omega (arith, e, al', blocks, l)
    ]

module _ (ram : ℕ) (blocks : ram % 65536 ≡ 0) where
  -- what an access that takes no trap names
  pub record Lies (asi addr : ℕ) (touch : Touch) (size : ℕ) : Type 0 where
    pub aligned : addr % size ≡ 0
    pub where_is : (is_scratchpad asi ≡ true) ⊎ ((addr < ram) ⊎ ((is_atomic touch ≡ false) × IsIo addr))

  lies : (asi : ℕ) (implicit : Bool) (addr : ℕ) (touch : Touch) (size : ℕ) (whole privileged : Bool)
      → place_trap (place_of asi implicit addr touch size whole privileged ram) ≡ None → Lies asi addr touch size
  unfolding place_of
  lies asi implicit addr touch size whole privileged t =
      let n = named_by (not (is_aligned addr size)) (not implicit && is_restricted asi && not privileged) (not (is_listed asi)) (is_no_fault asi && not (is_load touch))
      (is_scratchpad asi && not (is_scratchpad_access addr whole)) (is_scratchpad asi) (addr / 8) (nat_lt addr ram) (is_io addr && is_atomic touch) (is_io addr) t in
      record {
        aligned = eqb-true (addr % size) 0 (not-false (is_aligned addr size) n.aligned);
        where_is = elim n.where_is [
          | inl e ↦ inl e
          | inr (inl e) ↦ inr (inl (ltb-true addr ram e))
          | inr (inr p) ↦
              let off : is_atomic touch ≡ false = sym (ap (λ (b : Bool). b && is_atomic touch) p.1) ∙ p.0 in
              inr (inr (off, io_bits addr p.1))
        ];
      }

  -- a load or store: the scratchpad asks nothing
  asked_lies : (asi addr : ℕ) (touch : Touch) (size : ℕ) (asked : Need) → IsSize size → Lies asi addr touch size
      → ((IsAligned addr size × ((addr + size ≤ ram) ⊎ IsIo addr)) → IsShapedNeed ram asked) → IsShapedNeed ram (asked_in asi asked)
  asked_lies asi addr touch size asked s l f =
      elim (cases_Bool (is_scratchpad asi)) [
        | inl e ↦ rw e tt
        | inr e ↦ rw e (f (
          record { size_is = s; aligned = l.aligned },
          elim l.where_is [
            | inl p ↦ let clash : true ≡ false = sym p ∙ e in cc
            | inr (inl below) ↦ inl (fits_in addr size ram s l.aligned blocks below)
            | inr (inr io) ↦ inr io.1
          ],
        ))
      ]

  -- an atomic is no access to the scratchpad, nor to I/O space
  atomic_lies : (asi addr size : ℕ) → IsSize size → is_scratchpad_access addr false ≡ false
      → (implicit privileged : Bool) → place_trap (place_of asi implicit addr touch.Atomic size false privileged ram) ≡ None
      → IsAligned addr size × (addr + size ≤ ram)
  unfolding place_of
  atomic_lies asi addr size s none implicit privileged t =
      let l = lies asi implicit addr touch.Atomic size false privileged t in (
        record { size_is = s; aligned = l.aligned },
        elim l.where_is [
          | inl e ↦ absurd (pad (not (is_aligned addr size)) (not implicit && is_restricted asi && not privileged) (not (is_listed asi)) (is_no_fault asi && not (is_load touch.Atomic)) (is_scratchpad asi) e t)
          | inr (inl below) ↦ fits_in addr size ram s l.aligned blocks below
          | inr (inr io) ↦ let clash : true ≡ false = io.0 in cc
        ],
      )
    where
      pad : (a b c d f : Bool) → f ≡ true → place_trap (tests a b c d (f && true) f (addr / 8) (nat_lt addr ram) (is_io addr && true) (is_io addr)) ≡ None → ⊥
      pad true b c d f e t = cc
      pad false true c d f e t = cc
      pad false false true d f e t = cc
      pad false false false true f e t = cc
      pad false false false false true e t = cc
      pad false false false false false e t = cc

  load_sizes : (k : LoadKind) → IsSize (load_size k)
  load_sizes load.Ub = inl refl
  load_sizes load.Sb = inl refl
  load_sizes load.Uh = inr (inl refl)
  load_sizes load.Sh = inr (inl refl)
  load_sizes load.Uw = inr (inr (inl refl))
  load_sizes load.Sw = inr (inr (inl refl))
  load_sizes load.X = inr (inr (inr refl))
  load_sizes load.Tw = inr (inr (inr refl))

  store_sizes : (k : StoreKind) → IsSize (store_size k)
  store_sizes store.B = inl refl
  store_sizes store.H = inr (inl refl)
  store_sizes store.W = inr (inr (inl refl))
  store_sizes store.X = inr (inr (inr refl))
  store_sizes store.Tw = inr (inr (inr refl))

  cas_sizes : (wide : Bool) → IsSize (cas_size wide)
  cas_sizes true = inr (inr (inr refl))
  cas_sizes false = inr (inr (inl refl))

  halt_shaped : (b : Bool) → IsShapedNeed ram (if b then need.Halt else need.Plain)
  halt_shaped true = tt
  halt_shaped false = tt

  -- what an instruction asks whose access takes no trap
  asked_shaped : (s : Strand) (i : Insn) → access_trap s i ram ≡ None → IsShapedNeed ram (asked_of s i)
  unfolding asked_of atomic_of access_of access_trap
  asked_shaped s (Load kind rd rs1 mem) t =
      asked_lies (space_of s mem) (address_of s rs1 mem) touch.Load (load_size kind) (need.Load (address_of s rs1 mem) (load_size kind)) (load_sizes kind)
      (lies (space_of s mem) (is_implicit mem) (address_of s rs1 mem) touch.Load (load_size kind) (is_whole_load kind) (is_privileged s) t) (λ p. p)
  asked_shaped s (Store kind rd rs1 mem) t =
      asked_lies (space_of s mem) (address_of s rs1 mem) touch.Store (store_size kind)
      (need.Store (address_of s rs1 mem) (store_size kind) (stored_of s kind rd (is_little (space_of s mem)))) (store_sizes kind)
      (lies (space_of s mem) (is_implicit mem) (address_of s rs1 mem) touch.Store (store_size kind) (is_whole_store kind) (is_privileged s) t) (λ p. p)
  asked_shaped s (Ldstub rd rs1 mem) t = atomic_lies (space_of s mem) (address_of s rs1 mem) 1 (inl refl) refl (is_implicit mem) (is_privileged s) t
  asked_shaped s (insn.Swap rd rs1 mem) t = atomic_lies (space_of s mem) (address_of s rs1 mem) 4 (inr (inr (inl refl))) refl (is_implicit mem) (is_privileged s) t
  asked_shaped s (insn.Cas wide rd rs1 rs2 asi) t = atomic_lies (cas_space s asi) (reg_of s rs1) (cas_size wide) (cas_sizes wide) refl false (is_privileged s) t
  asked_shaped s (Membar mask) t = tt
  asked_shaped s Stbar t = tt
  asked_shaped s (Flush rs1 src) t = tt
  asked_shaped s (WriteAsr asr rs1 src) t = halt_shaped ((asr == 0x1a) && (xor_of s rs1 src % 2 == 0))
  asked_shaped s _ t = tt

  by_trap : (o : Option ℕ) (asked : Need) → (o ≡ None → IsShapedNeed ram asked) → IsShapedNeed ram (or_need o asked)
  by_trap (Some number) asked f = tt
  by_trap None asked f = f refl

  last_none : (traps : List (Option ℕ)) (o : Option ℕ) → first_of (traps ++ o ∷ []) ≡ None → o ≡ None
  last_none [] None e = refl
  last_none [] (Some number) e = cc
  last_none (None ∷ traps) o e = last_none traps o e
  last_none (Some number ∷ traps) o e = cc

  -- what an instruction needs
  pub need_shaped : (s : Strand) (i : Insn) → IsShapedNeed ram (need_of s i ram)
  unfolding need_of
  need_shaped s i =
      let before : List (Option ℕ) = illegal_trap s i ∷ privilege_trap s i ∷ level_trap s i ∷ floating_trap i ∷ window_trap s i ∷ operation_trap s i ∷ jump_trap s i ∷ [] in
      by_trap (first_of (traps_of s i ram)) (asked_of s i) (λ e. asked_shaped s i (last_none before (access_trap s i ram) e))
