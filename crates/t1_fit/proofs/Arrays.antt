-- The L2 arrays by a log: what they hold are lines of memory, and lines of their own bank.
use Rattle.std.proofs.Common.{◌≡◌, ℕ, zero, suc, ◌+◌, ◌*◌, ◌/◌, ◌%◌, ◌^◌, ◌<◌, ◌≤◌, ◌⊎◌, ◌==◌, inl, inr, true, false, List, [], ◌∷◌, ◌++◌, length, get_or, set, take, drop, Option, Some, None, refl, ap, sym, ◌∙◌, subst, arith, length-append}
use Rattle.std.specs.List.{slice_get}
use Rattle.std.proofs.lemmas.Bool.{cases_eq, cases_order, eq-eqb, ne_eqb}
use Rattle.std.proofs.lemmas.List.{take-take, length-set, get_or-take, get_or-drop, get_or-set_same, get_or-set_other}
use Rattle.t1_num.specs.Memory.{IsSize, number_at, with_number_at}
use Rattle.t1_shape.specs.Shapes.{Shape}
use Rattle.t1_num.specs.declared.chip.ChipKind.TheVariants.{T1, T2}
use Rattle.t1_shape.specs.Numbers.{banks, io_bridge, l2_line, bank_at}
use Rattle.t1_shape.proofs.Once.{set_read, none_at}
use Rattle.t1_packet.specs.declared.op.Op.{Op}
use Rattle.t1_packet.specs.declared.op.Op.TheVariants.{Fetch, Load, Store, Swap, Cas}
use Rattle.t1_packet.specs.Ops.{op_addr, op_size}
use Rattle.t1_event.specs.declared.commit.Commit.{Commit}
use Rattle.t1_event.specs.Items.{IsIo}
use Rattle.t1_event.specs.Log.{written, written_by, memory_at}
use Rattle.std.proofs.lemmas.List.{drop-drop}
use Rattle.t1_event.specs.BankRule.{array_after}
use Rattle.t1_event.specs.Shadow.{array_with, present_at}
use Rattle.t1_l2.specs.Array.{ArrayState, slot_in, ensured, ensured_by, evicted_for, evicted_by, address_of, victim_slot, place_of as place_in, line_at, read_at, written_at, line_of_bank, lines_of_bank}
use Rattle.t1_shape.specs.Numbers.{place_in_bank, l2_ways}
use Rattle.std.proofs.lemmas.List.{get_or-append-add, get_or_append_left}
use Rattle.t1_shape.proofs.Numbers.{line_base, line_fits, ram_splits, place_within}
use Rattle.t1_tso.proofs.Lines.{put_in_line, put_off_line}

-- ---- lines and banks

-- the lines of a bank by their places
pub line_split : (shape : Shape) (i d : ℕ) → d < banks shape → ((banks shape * i + d) / banks shape ≡ i) × ((banks shape * i + d) % banks shape ≡ d)
line_split T1 i d l = (omega (arith, l), omega (arith, l))
line_split T2 i d l = (omega (arith, l), omega (arith, l))

off_block : (addr size line : ℕ) → addr % 64 + size ≤ 64 → (l2_line addr ≡ line → ⊥) → (addr + size ≤ 64 * line) ⊎ (64 * line + 64 ≤ addr)
off_block addr size line within ne =
    elim (cases_order (addr / 64) line) [
      | inl same ↦ absurd (ne same)
      | inr (inl less) ↦ inl (omega arith)
      | inr (inr more) ↦ inr (omega arith)
    ]

-- an access of a size that there is lies in one 64-byte line
pub one_block : (addr size : ℕ) → IsSize size → addr % size ≡ 0 → addr % 64 + size ≤ 64
one_block addr size s al =
    elim s [
      | inl e ↦ omega (arith, e)
      | inr (inl e) ↦ let al' : addr % 2 ≡ 0 = subst (λ (n : ℕ). addr % n ≡ 0) e al in omega (arith, e, al')
      | inr (inr (inl e)) ↦ let al' : addr % 4 ≡ 0 = subst (λ (n : ℕ). addr % n ≡ 0) e al in omega (arith, e, al')
      | inr (inr (inr e)) ↦ let al' : addr % 8 ≡ 0 = subst (λ (n : ℕ). addr % n ≡ 0) e al in omega (arith, e, al')
    ]

-- ---- what an access keeps of an array

ensured_shape : (a : ArrayState) (line : ℕ) (o : Option ℕ) → (ensured_by a line o).shape ≡ a.shape
ensured_shape a line None = refl
ensured_shape a line (Some slot) = refl

ensured_bank : (a : ArrayState) (line : ℕ) (o : Option ℕ) → (ensured_by a line o).bank ≡ a.bank
ensured_bank a line None = refl
ensured_bank a line (Some slot) = refl

ensured_memory : (a : ArrayState) (line : ℕ) (o : Option ℕ) → (ensured_by a line o).memory ≡ a.memory
ensured_memory a line None = refl
ensured_memory a line (Some slot) = refl

after_shape : (a : ArrayState) (op : Op) → (array_after a op).shape ≡ a.shape
after_shape a (Fetch addr way) = ensured_shape a (l2_line addr) (slot_in a (l2_line addr))
after_shape a (Load addr size way) = ensured_shape a (l2_line addr) (slot_in a (l2_line addr))
after_shape a (Store addr size value) = ensured_shape a (l2_line addr) (slot_in a (l2_line addr))
after_shape a (Swap addr size new) = ensured_shape a (l2_line addr) (slot_in a (l2_line addr))
after_shape a (Cas addr size expect new) = ensured_shape a (l2_line addr) (slot_in a (l2_line addr))

after_bank : (a : ArrayState) (op : Op) → (array_after a op).bank ≡ a.bank
after_bank a (Fetch addr way) = ensured_bank a (l2_line addr) (slot_in a (l2_line addr))
after_bank a (Load addr size way) = ensured_bank a (l2_line addr) (slot_in a (l2_line addr))
after_bank a (Store addr size value) = ensured_bank a (l2_line addr) (slot_in a (l2_line addr))
after_bank a (Swap addr size new) = ensured_bank a (l2_line addr) (slot_in a (l2_line addr))
after_bank a (Cas addr size expect new) = ensured_bank a (l2_line addr) (slot_in a (l2_line addr))

-- ---- tags

abbrev pub AllOf : Shape → ℕ → List (Option ℕ) → Type 0
AllOf shape d tags = (k line : ℕ) → get_or tags k None ≡ Some line → line % banks shape ≡ d

of_ensured : (shape : Shape) (d : ℕ) (a : ArrayState) (line : ℕ) → AllOf shape d a.tags → line % banks shape ≡ d → (o : Option ℕ) → AllOf shape d (ensured_by a line o).tags
of_ensured shape d a line all e (Some slot) = all
of_ensured shape d a line all e None = λ k l is.
    elim (set_read a.tags (victim_slot a line) (Some line) k l is) [
      | inl p ↦ (let q : line ≡ l = cc (p.1) in subst (λ (n : ℕ). n % banks shape ≡ d) q e)
      | inr p ↦ all k l p.1
    ]

of_after : (shape : Shape) (d : ℕ) (a : ArrayState) (op : Op) → AllOf shape d a.tags → l2_line (op_addr op) % banks shape ≡ d → AllOf shape d (array_after a op).tags
of_after shape d a (Fetch addr way) all e = of_ensured shape d a (l2_line addr) all e (slot_in a (l2_line addr))
of_after shape d a (Load addr size way) all e = of_ensured shape d a (l2_line addr) all e (slot_in a (l2_line addr))
of_after shape d a (Store addr size value) all e = of_ensured shape d a (l2_line addr) all e (slot_in a (l2_line addr))
of_after shape d a (Swap addr size new) all e = of_ensured shape d a (l2_line addr) all e (slot_in a (l2_line addr))
of_after shape d a (Cas addr size expect new) all e = of_ensured shape d a (l2_line addr) all e (slot_in a (l2_line addr))

-- a line that is evicted is of the bank
pub evicted_of_bank : (shape : Shape) (d : ℕ) (a : ArrayState) (line e : ℕ) → AllOf shape d a.tags → evicted_for a line ≡ Some e → l2_line e % banks shape ≡ d
evicted_of_bank shape d a line e all is = go (slot_in a line) is
  where
    by : (o : Option ℕ) → get_or a.tags (victim_slot a line) None ≡ o → address_of o ≡ Some e → l2_line e % banks shape ≡ d
    by None g f = let clash : ◌≡◌ {A = Option ℕ} None (Some e) = f in cc
    by (Some l) g f =
        let q : l * 64 ≡ e = cc (f) in
        let r : l2_line e ≡ l = omega (arith, q) in
        ap (λ (n : ℕ). n % banks shape) r ∙ all (victim_slot a line) l g

    go : (o : Option ℕ) → evicted_by a line o ≡ Some e → l2_line e % banks shape ≡ d
    go (Some slot) f = let clash : ◌≡◌ {A = Option ℕ} None (Some e) = f in cc
    go None f = by (get_or a.tags (victim_slot a line) None) refl f

-- ---- memory

pub record HasLines (shape : Shape) (d : ℕ) (a : ArrayState) (m : List ℕ) (count : ℕ) : Type 0 where
  pub size : length a.memory ≡ count
  pub lines : (i : ℕ) → i < count → get_or a.memory i [] ≡ take 64 (drop (64 * (banks shape * i + d)) m)

-- a write elsewhere
pub lines_off : (shape : Shape) (d : ℕ) (a : ArrayState) (m : List ℕ) (count addr size value : ℕ) → HasLines shape d a m count → addr % 64 + size ≤ 64
    → ((i : ℕ) → i < count → l2_line addr ≡ banks shape * i + d → ⊥) → HasLines shape d a (with_number_at m addr size value) count
lines_off shape d a m count addr size value h within off = record {
  size = h.size;
  lines = λ i l. h.lines i l ∙ sym (put_off_line 64 m (64 * (banks shape * i + d)) addr size value (off_block addr size (banks shape * i + d) within (off i l)));
}

-- a write of the bank's own
lines_on : (shape : Shape) (d : ℕ) (a : ArrayState) (m : List ℕ) (count addr size value : ℕ) → d < banks shape → a.shape ≡ shape → HasLines shape d a m count → addr % 64 + size ≤ 64
    → l2_line addr % banks shape ≡ d → place_in_bank shape (l2_line addr) < count → HasLines shape d (written_at a addr size value) (with_number_at m addr size value) count
lines_on shape d a m count addr size value ld s h within of place =
    let p : ℕ = place_in_bank shape (l2_line addr) in
    let base : ℕ = 64 * (banks shape * p + d) in
    let placed : place_in a (l2_line addr) ≡ p = ap (λ (v : Shape). place_in_bank v (l2_line addr)) s in
    let new : List ℕ = with_number_at (line_at a addr) (addr % 64) size value in
    let mem_is : (written_at a addr size value).memory ≡ set a.memory p new = ap (λ (k : ℕ). set a.memory k new) placed in
    let addr_is : addr ≡ base + addr % 64 = line_base shape addr p d of refl in
    let line_is : line_at a addr ≡ take 64 (drop base m) = ap (λ (k : ℕ). get_or a.memory k []) placed ∙ h.lines p place in
    record {
      size = ap (λ (l : List (List ℕ)). length l) mem_is ∙ (length-set a.memory p new ∙ h.size);
      lines = λ i l.
          ap (λ (ls : List (List ℕ)). get_or ls i []) mem_is
          ∙ elim (cases_eq i p) [
            | inl same ↦
                ap (λ (k : ℕ). get_or (set a.memory p new) k []) same
                ∙ (get_or-set_same a.memory p new [] (omega (arith, place, h.size))
                ∙ (ap (λ (ls : List ℕ). with_number_at ls (addr % 64) size value) line_is
                ∙ (sym (put_in_line 64 m base (addr % 64) size value)
                ∙ (ap (λ (k : ℕ). take 64 (drop base (with_number_at m k size value))) (sym addr_is)
                ∙ ap (λ (k : ℕ). take 64 (drop (64 * (banks shape * k + d)) (with_number_at m addr size value))) (sym same)))))
            | inr apart ↦
                get_or-set_other a.memory p i new [] apart
                ∙ (h.lines i l
                ∙ sym (put_off_line 64 m (64 * (banks shape * i + d)) addr size value
                (off_block addr size (banks shape * i + d) within (λ e. apart (sym (line_split shape i d ld).0 ∙ (ap (λ (k : ℕ). k / banks shape) (sym e)))))))
          ];
    }

pub lines_moved : (shape : Shape) (d : ℕ) (a b : ArrayState) (m : List ℕ) (count : ℕ) → b.memory ≡ a.memory → HasLines shape d a m count → HasLines shape d b m count
lines_moved shape d a b m count e h = record {
  size = ap (λ (l : List (List ℕ)). length l) e ∙ h.size;
  lines = λ i l. ap (λ (ls : List (List ℕ)). get_or ls i []) e ∙ h.lines i l;
}

lines_after : (shape : Shape) (d : ℕ) (a : ArrayState) (m : List ℕ) (count : ℕ) (op : Op) → d < banks shape → a.shape ≡ shape → HasLines shape d a m count → op_addr op % 64 + op_size op ≤ 64
    → l2_line (op_addr op) % banks shape ≡ d → place_in_bank shape (l2_line (op_addr op)) < count → HasLines shape d (array_after a op) (written m op) count
lines_after shape d a m count (Fetch addr way) ld s h within of place = lines_moved shape d a (ensured a (l2_line addr)) m count (ensured_memory a (l2_line addr) (slot_in a (l2_line addr))) h
lines_after shape d a m count (Load addr size way) ld s h within of place = lines_moved shape d a (ensured a (l2_line addr)) m count (ensured_memory a (l2_line addr) (slot_in a (l2_line addr))) h
lines_after shape d a m count (Cas addr size expect new) ld s h within of place = lines_moved shape d a (ensured a (l2_line addr)) m count (ensured_memory a (l2_line addr) (slot_in a (l2_line addr))) h
lines_after shape d a m count (Store addr size value) ld s h within of place =
    lines_on shape d (ensured a (l2_line addr)) m count addr size value ld (ensured_shape a (l2_line addr) (slot_in a (l2_line addr)) ∙ s)
    (lines_moved shape d a (ensured a (l2_line addr)) m count (ensured_memory a (l2_line addr) (slot_in a (l2_line addr))) h) within of place
lines_after shape d a m count (Swap addr size new) ld s h within of place =
    lines_on shape d (ensured a (l2_line addr)) m count addr size new ld (ensured_shape a (l2_line addr) (slot_in a (l2_line addr)) ∙ s)
    (lines_moved shape d a (ensured a (l2_line addr)) m count (ensured_memory a (l2_line addr) (slot_in a (l2_line addr))) h) within of place

lines_apart : (shape : Shape) (d : ℕ) (a : ArrayState) (m : List ℕ) (count : ℕ) (op : Op) → HasLines shape d a m count → op_addr op % 64 + op_size op ≤ 64
    → ((i : ℕ) → i < count → l2_line (op_addr op) ≡ banks shape * i + d → ⊥) → HasLines shape d a (written m op) count
lines_apart shape d a m count (Fetch addr way) h within off = h
lines_apart shape d a m count (Load addr size way) h within off = h
lines_apart shape d a m count (Cas addr size expect new) h within off = h
lines_apart shape d a m count (Store addr size value) h within off = lines_off shape d a m count addr size value h within off
lines_apart shape d a m count (Swap addr size new) h within off = lines_off shape d a m count addr size new h within off

-- ---- by a log

-- what a commit of the log is: an access within a line, of its bank's RAM or of I/O
pub record IsLogged (shape : Shape) (ram : ℕ) (c : Commit) : Type 0 where
  pub within : op_addr c.op % 64 + op_size c.op ≤ 64
  pub where_is : ((op_addr c.op < ram) × (c.dest ≡ bank_at shape (op_addr c.op))) ⊎ (IsIo (op_addr c.op) × (c.dest ≡ io_bridge shape))

pub record IsArrayAt (shape : Shape) (d : ℕ) (a : ArrayState) (m : List ℕ) (count : ℕ) : Type 0 where
  pub shape_is : a.shape ≡ shape
  pub bank_is : a.bank ≡ d
  pub of : AllOf shape d a.tags
  pub lines : HasLines shape d a m count

start_lines : (shape : Shape) (d : ℕ) (ram : List ℕ) (n : ℕ) → (length (lines_of_bank shape d ram n) ≡ n)
    × ((i : ℕ) → i < n → get_or (lines_of_bank shape d ram n) i [] ≡ line_of_bank shape d ram i)
start_lines shape d ram zero = (refl, λ i l. absurd (omega (arith, l)))
start_lines shape d ram (suc n) =
    let r = start_lines shape d ram n in
    let before : List (List ℕ) = lines_of_bank shape d ram n in
    let size : length (before ++ line_of_bank shape d ram n ∷ []) ≡ suc n = omega (arith, length-append before (line_of_bank shape d ram n ∷ []), r.0) in (
      size,
      λ i l. elim (cases_eq i n) [
        | inl same ↦
            let e : i ≡ length before + 0 = omega (arith, same, r.0) in
            ap (λ (k : ℕ). get_or (before ++ line_of_bank shape d ram n ∷ []) k []) e
            ∙ (get_or-append-add before (line_of_bank shape d ram n ∷ []) 0 [] ∙ ap (λ (k : ℕ). line_of_bank shape d ram k) (sym same))
        | inr apart ↦ get_or_append_left before (line_of_bank shape d ram n ∷ []) [] i (omega (arith, l, apart, r.0)) ∙ r.1 i (omega (arith, l, apart))
      ],
    )

module _ (shape : Shape) (sets : ℕ) (image : List ℕ) (log : List Commit) (blocks : length image % 65536 ≡ 0) (small : length image < 2 ^ 39)
    (logged : (n : ℕ) (c : Commit) → slice_get log n ≡ Some c → IsLogged shape (length image) c) where
  abbrev pub lines_each : ℕ
  lines_each = length image / 64 / banks shape

  array_step : (d n : ℕ) → d < banks shape → IsArrayAt shape d (present_at shape sets image log d n) (memory_at image log n) lines_each
      → (o : Option Commit) → slice_get log n ≡ o
      → IsArrayAt shape d (array_with d (present_at shape sets image log d n) o) (written_by (memory_at image log n) o) lines_each
  array_step d n ld h None is = h
  array_step d n ld h (Some c) is =
      let a : ArrayState = present_at shape sets image log d n in
      let g = logged n c is in
      elim (cases_eq c.dest d) [
        | inl same ↦
            let t : (c.dest == d) ≡ true = eq-eqb c.dest d same in
            elim g.where_is [
              | inl p ↦
                  let of : l2_line (op_addr c.op) % banks shape ≡ d = sym p.1 ∙ same in
                  let place : place_in_bank shape (l2_line (op_addr c.op)) < lines_each =
                  place_within shape (op_addr c.op) lines_each (let e = ram_splits shape (length image) blocks in omega (arith, e, p.0)) in
                  rw t (record {
                    shape_is = after_shape a c.op ∙ h.shape_is;
                    bank_is = after_bank a c.op ∙ h.bank_is;
                    of = of_after shape d a c.op h.of of;
                    lines = lines_after shape d a (memory_at image log n) lines_each c.op ld h.shape_is h.lines g.within of place;
                  })
              | inr p ↦ absurd (let q = p.1 in omega (arith, q, same, ld))
            ]
        | inr apart ↦
            let f : (c.dest == d) ≡ false = ne_eqb c.dest d apart in
            let off : (i : ℕ) → i < lines_each → l2_line (op_addr c.op) ≡ banks shape * i + d → ⊥ = λ i l e.
            elim g.where_is [
              | inl p ↦ apart (p.1 ∙ (ap (λ (k : ℕ). k % banks shape) e ∙ (line_split shape i d ld).1))
              | inr p ↦ (let fits = line_fits shape (length image) d i blocks ld l in let low = p.0.0 in omega (arith, fits, low, e, small))
            ] in
            rw f (record {
              shape_is = h.shape_is;
              bank_is = h.bank_is;
              of = h.of;
              lines = lines_apart shape d a (memory_at image log n) lines_each c.op h.lines g.within off;
            })
      ]

  -- each bank's array, after any number of commits
  pub array_at : (d n : ℕ) → d < banks shape → IsArrayAt shape d (present_at shape sets image log d n) (memory_at image log n) lines_each
  array_at d zero ld =
      let r = start_lines shape d image lines_each in
      record {
        shape_is = refl;
        bank_is = refl;
        of = λ k l e. absurd (none_at (l2_ways shape * sets) k l e);
        lines = record { size = r.0; lines = r.1 };
      }
  array_at d (suc n) ld = array_step d n ld (array_at d n ld) (slice_get log n) refl

-- ---- what is read of an array

-- a number within a line is that of memory
number_shifted : (m : List ℕ) (base off n : ℕ) → off + n ≤ 64 → number_at (take 64 (drop base m)) off n ≡ number_at m (base + off) n
unfolding number_at
number_shifted m base off zero l = refl
number_shifted m base off (suc n) l =
    let front : number_at (take 64 (drop base m)) off n ≡ number_at m (base + off) n = number_shifted m base off n (omega (arith, l)) in
    let last : get_or (take 64 (drop base m)) (off + n) 0 ≡ get_or m (base + off + n) 0 =
    get_or-take 64 (drop base m) (off + n) 0 (omega (arith, l)) ∙ (get_or-drop base m (off + n) 0 ∙ ap (λ (i : ℕ). get_or m i 0) (let e : base + (off + n) ≡ base + off + n = omega arith in e)) in
    ap (λ (x : ℕ). x * 256 + get_or (take 64 (drop base m)) (off + n) 0) front ∙ ap (λ (x : ℕ). number_at m (base + off) n * 256 + x) last

line_of_memory : (shape : Shape) (d : ℕ) (a : ArrayState) (m : List ℕ) (count addr : ℕ) → IsArrayAt shape d a m count → bank_at shape addr ≡ d → place_in_bank shape (l2_line addr) < count
    → (base : ℕ) × (addr ≡ base + addr % 64) × (line_at a addr ≡ take 64 (drop base m))
line_of_memory shape d a m count addr h of place =
    let p : ℕ = place_in_bank shape (l2_line addr) in
    (64 * (banks shape * p + d), line_base shape addr p d of refl, ap (λ (v : Shape). get_or a.memory (place_in_bank v (l2_line addr)) []) h.shape_is ∙ h.lines.lines p place)

pub number_read : (shape : Shape) (d : ℕ) (a : ArrayState) (m : List ℕ) (count addr size : ℕ) → IsArrayAt shape d a m count → bank_at shape addr ≡ d → place_in_bank shape (l2_line addr) < count
    → addr % 64 + size ≤ 64 → read_at a addr size ≡ number_at m addr size
number_read shape d a m count addr size h of place within =
    let l = line_of_memory shape d a m count addr h of place in
    ap (λ (ls : List ℕ). number_at ls (addr % 64) size) l.2 ∙ (number_shifted m l.0 (addr % 64) size within ∙ ap (λ (k : ℕ). number_at m k size) (sym l.1))

take_inner : (a o b : ℕ) (xs : List ℕ) → o + a ≤ b → take a (drop o (take b xs)) ≡ take a (drop o xs)
take_inner a zero b xs l = take-take a b xs (omega (arith, l))
take_inner a (suc o) zero xs l = absurd (omega (arith, l))
take_inner a (suc o) (suc b) [] l = refl
take_inner a (suc o) (suc b) (x ∷ xs) l = take_inner a o b xs (omega (arith, l))

-- so many bytes within a line are those of memory
pub bytes_read : (shape : Shape) (d : ℕ) (a : ArrayState) (m : List ℕ) (count addr size : ℕ) → IsArrayAt shape d a m count → bank_at shape addr ≡ d → place_in_bank shape (l2_line addr) < count
    → addr % 64 + size ≤ 64 → take size (drop (addr % 64) (line_at a addr)) ≡ take size (drop addr m)
bytes_read shape d a m count addr size h of place within =
    let l = line_of_memory shape d a m count addr h of place in
    ap (λ (ls : List ℕ). take size (drop (addr % 64) ls)) l.2
    ∙ (take_inner size (addr % 64) 64 (drop l.0 m) within
    ∙ (ap (λ (ls : List ℕ). take size ls) (drop-drop (addr % 64) l.0 m)
    ∙ ap (λ (k : ℕ). take size (drop k m)) (sym l.1)))
