-- The bank's lines are those of one flat memory.
use Rattle.std.proofs.Common.{◌≡◌, ℕ, ◌+◌, ◌*◌, ◌/◌, ◌%◌, ◌<◌, ◌≤◌, ◌⊎◌, List, [], ◌∷◌, ◌++◌, length, get_or, set, take, drop, replicate, Option, Some, None, refl, ap, sym, ◌∙◌, subst, inl, inr, arith, zero, suc}
use Rattle.std.proofs.lemmas.List.{length-set, get_or-set_same, get_or-set_other, ext_get_or, get_or_append_left, get_or_push, get_or-take, get_or-drop, take-take, drop-drop}
use Rattle.std.proofs.lemmas.Bool.{cases_order, cases_eq, cases_Bool, cond_both}
use Rattle.t1_bank.proofs.Lines.{put_in_line, put_off_line}
use Rattle.t1_bank.proofs.Rule.{bank_wrote, effect_addr, effect_size, way_for_fill, well_is}
use Rattle.t1_bank.specs.FlatMemory.{flat_after, flat_with}
use Rattle.t1_bank.specs.Laws.{IsAlike}
use Rattle.t1_bank.specs.Sound.{IsSound, Mirrors}
use Rattle.t1_bank.specs.Writes.{wrote}
use Rattle.t1_dir.specs.Directory.{DirectoryState, without_kills}
use Rattle.t1_event.specs.BankRule.{BankState, bank_after, bank_well, bank_with, fill_bytes, is_fit, kills_of, old_of}
use Rattle.t1_event.specs.Kills.{effect}
use Rattle.t1_event.specs.Log.{written}
use Rattle.t1_event.specs.Posts.{reply_line}
use Rattle.t1_l2.proofs.Kept.{length-lines_of_bank}
use Rattle.t1_l2.specs.Array.{ArrayState, ensured, ensured_by, line_at, line_of_bank, lines_of_bank, slot_in}
use Rattle.t1_num.proofs.MemoryLaws.{length-with_number_at}
use Rattle.t1_num.specs.Memory.{number_at, with_number_at}
use Rattle.t1_packet.specs.Data.{RequestData}
use Rattle.t1_packet.specs.Ops.{op_addr, op_size}
use Rattle.t1_packet.specs.declared.op.Op.{Op}
use Rattle.t1_packet.specs.declared.op.Op.TheVariants.{Cas, Fetch, Load, Store, Swap}
use Rattle.t1_shape.proofs.Numbers.{line_after, line_base, line_before}
use Rattle.t1_shape.specs.Numbers.{banks}
use Rattle.t1_shape.specs.Shapes.{Shape}
use Rattle.t1_bank.proofs.DirTags.{shape_cleared, shape_filled}
use Rattle.t1_bank.proofs.Fit.{IsFit, fit, mine, one_line}
use Rattle.t1_bank.proofs.Steps.{sound_step}
use Rattle.t1_bank.proofs.Lines.{put_in_line, put_off_line}

pub lines_get : (shape : Shape) (b : ℕ) (m : List ℕ) (n i : ℕ) → i < n → get_or (lines_of_bank shape b m n) i [] ≡ line_of_bank shape b m i
lines_get shape b m zero i l = absurd (omega (arith, l))
lines_get shape b m (suc n) i l =
    elim (cases_eq i n) [
      | inl e ↦ get_or_push (lines_of_bank shape b m n) (line_of_bank shape b m n) [] i (length-lines_of_bank shape b m n ∙ sym e) ∙ ap (λ (k : ℕ). line_of_bank shape b m k) (sym e)
      | inr ne ↦
          get_or_append_left (lines_of_bank shape b m n) (line_of_bank shape b m n ∷ []) [] i (let e = length-lines_of_bank shape b m n in omega (arith, l, ne, e))
          ∙ lines_get shape b m n i (omega (arith, l, ne))
    ]

-- a number in a line is that number in memory
number_line : (m : List ℕ) (base off size : ℕ) → off + size ≤ 64 → number_at (take 64 (drop base m)) off size ≡ number_at m (base + off) size
unfolding number_at
number_line m base off zero l = refl
number_line m base off (suc n) l =
    let before = number_line m base off n (omega (arith, l)) in
    let e : get_or (take 64 (drop base m)) (off + n) 0 ≡ get_or m (base + off + n) 0 =
    get_or-take 64 (drop base m) (off + n) 0 (omega (arith, l)) ∙ (get_or-drop base m (off + n) 0 ∙ ap (λ (i : ℕ). get_or m i 0) (let q : base + (off + n) ≡ base + off + n = omega arith in q)) in
    ap (λ (x : ℕ). x * 256 + get_or (take 64 (drop base m)) (off + n) 0) before
    ∙ ap (λ (x : ℕ). number_at m (base + off) n * 256 + x) e

-- a part of a line is that part of memory
part_line : (m : List ℕ) (base off size : ℕ) → off + size ≤ 64 → take size (drop off (take 64 (drop base m))) ≡ take size (drop (base + off) m)
part_line m base off size l = go 64 off (drop base m) l ∙ ap (λ (xs : List ℕ). take size xs) (drop-drop off base m)
  where
    go : (w o : ℕ) (xs : List ℕ) → o + size ≤ w → take size (drop o (take w xs)) ≡ take size (drop o xs)
    go w zero xs g = take-take size w xs (omega (arith, g))
    go zero (suc o) xs g = absurd (omega (arith, g))
    go (suc w) (suc o) [] g = refl
    go (suc w) (suc o) (x ∷ xs) g = go w o xs (omega (arith, g))

-- a write into one line
lines_put : (shape : Shape) (b : ℕ) (m : List ℕ) (n addr size v : ℕ) → addr / 64 % banks shape ≡ b → addr % 64 + size ≤ 64 → 0 < size
    → set (lines_of_bank shape b m n) (addr / 64 / banks shape) (with_number_at (get_or (lines_of_bank shape b m n) (addr / 64 / banks shape) []) (addr % 64) size v) ≡ lines_of_bank shape b (with_number_at m addr size v) n
lines_put shape b m n addr size v bank one some =
    ext_get_or [] left right (length-set (lines_of_bank shape b m n) (addr / 64 / banks shape) new ∙ (length-lines_of_bank shape b m n ∙ sym (length-lines_of_bank shape b (with_number_at m addr size v) n))) each
  where
    new : List ℕ
    new = with_number_at (get_or (lines_of_bank shape b m n) (addr / 64 / banks shape) []) (addr % 64) size v

    left : List (List ℕ)
    left = set (lines_of_bank shape b m n) (addr / 64 / banks shape) new

    right : List (List ℕ)
    right = lines_of_bank shape b (with_number_at m addr size v) n

    each : (i : ℕ) → i < length left → get_or left i [] ≡ get_or right i []
    each i l =
        let count = length-lines_of_bank shape b m n in
        let keep = length-set (lines_of_bank shape b m n) (addr / 64 / banks shape) new in
        let low : i < n = omega (arith, l, count, keep) in
        elim (cases_eq i (addr / 64 / banks shape)) [
          | inl e ↦
              let base : addr ≡ 64 * (banks shape * i + b) + addr % 64 = line_base shape addr i b bank (sym e) in
              ap (λ (k : ℕ). get_or left k []) e
              ∙ (get_or-set_same (lines_of_bank shape b m n) (addr / 64 / banks shape) new [] (omega (arith, low, count, e))
              ∙ (ap (λ (k : ℕ). with_number_at (get_or (lines_of_bank shape b m n) k []) (addr % 64) size v) (sym e)
              ∙ (ap (λ (xs : List ℕ). with_number_at xs (addr % 64) size v) (lines_get shape b m n i low)
              ∙ (sym (put_in_line 64 m (64 * (banks shape * i + b)) (addr % 64) size v)
              ∙ (ap (λ (k : ℕ). take 64 (drop (64 * (banks shape * i + b)) (with_number_at m k size v))) (sym base)
              ∙ sym (lines_get shape b (with_number_at m addr size v) n i low))))))
          | inr ne ↦
              let out : (addr + size ≤ 64 * (banks shape * i + b)) ⊎ (64 * (banks shape * i + b) + 64 ≤ addr) = elim (cases_order i (addr / 64 / banks shape)) [
                | inl e ↦ absurd (ne e)
                | inr (inl less) ↦ inr (line_before shape addr i b bank less)
                | inr (inr more) ↦ inl (line_after shape addr i b size bank more one)
              ] in
              get_or-set_other (lines_of_bank shape b m n) (addr / 64 / banks shape) i new [] ne
              ∙ (lines_get shape b m n i low
              ∙ (sym (put_off_line 64 m (64 * (banks shape * i + b)) addr size v out)
              ∙ sym (lines_get shape b (with_number_at m addr size v) n i low)))
        ]

-- ---- a bank and a flat memory

-- the line of a fill as memory has it
abbrev flat_line : List ℕ → Op → List ℕ
flat_line m (Fetch addr way) = take 32 (drop (addr / 32 * 32) m)
flat_line m (Load addr size way) = take 16 (drop (addr / 16 * 16) m) ++ replicate 16 0
flat_line m (Store addr size value) = replicate 32 0
flat_line m (Swap addr size new) = replicate 32 0
flat_line m (Cas addr size expect new) = replicate 32 0

flat_reply : (m : List ℕ) (d : DirectoryState) (core : ℕ) (op : Op) → flat_line m op ≡ reply_line m op (way_for_fill d core op)
flat_reply m d core (Fetch addr way) = refl
flat_reply m d core (Load addr size way) = refl
flat_reply m d core (Store addr size value) = refl
flat_reply m d core (Swap addr size new) = refl
flat_reply m d core (Cas addr size expect new) = refl

pub no_reply : (m : List ℕ) (op : Op) → replicate 32 0 ≡ reply_line m op None
no_reply m (Fetch addr way) = refl
no_reply m (Load addr size way) = refl
no_reply m (Store addr size value) = refl
no_reply m (Swap addr size new) = refl
no_reply m (Cas addr size expect new) = refl

-- the bytes of an access lie in one line of 64
one_fits : (b : BankState) (r : RequestData) → IsFit b r → op_addr r.op % 64 + op_size r.op ≤ 64
one_fits b r f = let l = one_line (op_addr r.op) (op_size r.op) f.size f.aligned in omega (arith, l)

module _ (b : BankState) (m : List ℕ) (s : IsSound b) (is : Mirrors b m) (r : RequestData) (f : IsFit b r) where
  at_bank : op_addr r.op / 64 % banks b.array.shape ≡ b.array.bank
  at_bank = (mine b r s f).bank

  line_is : line_at b.array (op_addr r.op) ≡ line_of_bank b.array.shape b.array.bank m (op_addr r.op / 64 / banks b.array.shape)
  line_is =
      ap (λ (ls : List (List ℕ)). get_or ls (op_addr r.op / 64 / banks b.array.shape) []) is.lines
      ∙ lines_get b.array.shape b.array.bank m (length b.array.memory) (op_addr r.op / 64 / banks b.array.shape) (mine b r s f).within

  pub old_flat : old_of b r ≡ number_at m (op_addr r.op) (op_size r.op)
  old_flat =
      let addr : ℕ = op_addr r.op in
      let base : 64 * (banks b.array.shape * (addr / 64 / banks b.array.shape) + b.array.bank) + addr % 64 ≡ addr = sym (line_base b.array.shape addr (addr / 64 / banks b.array.shape) b.array.bank at_bank refl) in
      ap (λ (l : List ℕ). number_at l (addr % 64) (op_size r.op)) line_is
      ∙ (number_line m (64 * (banks b.array.shape * (addr / 64 / banks b.array.shape) + b.array.bank)) (addr % 64) (op_size r.op) (one_fits b r f)
      ∙ ap (λ (k : ℕ). number_at m k (op_size r.op)) base)

  pub bytes_flat : (w addr : ℕ) → op_addr r.op ≡ addr → 64 % w ≡ 0 → (addr / w * w) / 64 ≡ addr / 64 → (addr / w * w) % 64 + w ≤ 64
      → take w (drop ((addr / w * w) % 64) (line_at b.array (addr / w * w))) ≡ take w (drop (addr / w * w) m)
  bytes_flat w addr at even line room =
      let same : (addr / w * w) / 64 / banks b.array.shape ≡ addr / 64 / banks b.array.shape = ap (λ (n : ℕ). n / banks b.array.shape) line in
      let k : (addr / w * w) / 64 % banks b.array.shape ≡ b.array.bank = ap (λ (n : ℕ). n % banks b.array.shape) (line ∙ ap (λ (n : ℕ). n / 64) (sym at)) ∙ at_bank in
      let base : 64 * (banks b.array.shape * (addr / 64 / banks b.array.shape) + b.array.bank) + (addr / w * w) % 64 ≡ addr / w * w =
      sym (line_base b.array.shape (addr / w * w) (addr / 64 / banks b.array.shape) b.array.bank k same) in
      ap (λ (i : ℕ). take w (drop ((addr / w * w) % 64) (get_or b.array.memory i []))) same
      ∙ (ap (λ (i : ℕ). take w (drop ((addr / w * w) % 64) (get_or b.array.memory (i / 64 / banks b.array.shape) []))) (sym at)
      ∙ (ap (λ (l : List ℕ). take w (drop ((addr / w * w) % 64) l)) line_is
      ∙ (ap (λ (i : ℕ). take w (drop ((addr / w * w) % 64) (line_of_bank b.array.shape b.array.bank m (i / 64 / banks b.array.shape)))) at
      ∙ (part_line m (64 * (banks b.array.shape * (addr / 64 / banks b.array.shape) + b.array.bank)) ((addr / w * w) % 64) w room
      ∙ ap (λ (i : ℕ). take w (drop i m)) base))))

  fill_cases : (op : Op) → r.op ≡ op → fill_bytes b.array op ≡ flat_line m op
  fill_cases (Fetch addr way) e =
      bytes_end (take 32 (drop ((addr / 32 * 32) % 64) (line_at b.array (addr / 32 * 32))))
      ∙ bytes_flat 32 addr (ap op_addr e) refl (omega arith) (omega arith)
    where
      bytes_end : (l : List ℕ) → l ++ [] ≡ l
      bytes_end [] = refl
      bytes_end (x ∷ xs) = ap (λ (ys : List ℕ). x ∷ ys) (bytes_end xs)
  fill_cases (Load addr size way) e =
      ap (λ (l : List ℕ). l ++ replicate 16 0) (bytes_flat 16 addr (ap op_addr e) refl (omega arith) (omega arith))
  fill_cases (Store addr size value) e = refl
  fill_cases (Swap addr size new) e = refl
  fill_cases (Cas addr size expect new) e = refl

  pub fill_flat : fill_bytes b.array r.op ≡ reply_line m r.op (way_for_fill b.directory r.core r.op)
  fill_flat = fill_cases r.op refl ∙ flat_reply m b.directory r.core r.op

  put_flat : (addr size v : ℕ) → addr ≡ op_addr r.op → size ≡ op_size r.op
      → set b.array.memory (addr / 64 / banks b.array.shape) (with_number_at (get_or b.array.memory (addr / 64 / banks b.array.shape) []) (addr % 64) size v) ≡ lines_of_bank b.array.shape b.array.bank (with_number_at m addr size v) (length b.array.memory)
  put_flat addr size v e g =
      ap (λ (ls : List (List ℕ)). set ls (addr / 64 / banks b.array.shape) (with_number_at (get_or ls (addr / 64 / banks b.array.shape) []) (addr % 64) size v)) is.lines
      ∙ lines_put b.array.shape b.array.bank m (length b.array.memory) addr size v (ap (λ (n : ℕ). n / 64 % banks b.array.shape) e ∙ at_bank) (let o = one_fits b r f in omega (arith, o, e, g)) (positive f.size)
    where
      positive : (op_size r.op ≡ 1) ⊎ ((op_size r.op ≡ 2) ⊎ ((op_size r.op ≡ 4) ⊎ (op_size r.op ≡ 8))) → 0 < size
      positive (inl q) = omega (arith, q, g)
      positive (inr (inl q)) = omega (arith, q, g)
      positive (inr (inr (inl q))) = omega (arith, q, g)
      positive (inr (inr (inr q))) = omega (arith, q, g)

  wrote_flat : (op : Op) → op_addr op ≡ op_addr r.op → op_size op ≡ op_size r.op → (wrote b.array op).memory ≡ lines_of_bank b.array.shape b.array.bank (written m op) (length b.array.memory)
  wrote_flat (Fetch addr way) e g = is.lines
  wrote_flat (Load addr size way) e g = is.lines
  wrote_flat (Cas addr size expect new) e g = is.lines
  wrote_flat (Store addr size value) e g = put_flat addr size value e g
  wrote_flat (Swap addr size new) e g = put_flat addr size new e g

-- ---- a step

mem_wrote : (a : ArrayState) (line : ℕ) (op : Op) → (wrote (ensured a line) op).memory ≡ (wrote a op).memory
mem_wrote a line op = go (slot_in a line) op
  where
    go : (o : Option ℕ) (op : Op) → (wrote (ensured_by a line o) op).memory ≡ (wrote a op).memory
    go None (Fetch addr way) = refl
    go None (Load addr size way) = refl
    go None (Store addr size value) = refl
    go None (Swap addr size new) = refl
    go None (Cas addr size expect new) = refl
    go (Some j) op = refl

shape_wrote : (a : ArrayState) (line : ℕ) (op : Op) → (wrote (ensured a line) op).shape ≡ a.shape
shape_wrote a line op = go (slot_in a line) op
  where
    go : (o : Option ℕ) (op : Op) → (wrote (ensured_by a line o) op).shape ≡ a.shape
    go None (Fetch addr way) = refl
    go None (Load addr size way) = refl
    go None (Store addr size value) = refl
    go None (Swap addr size new) = refl
    go None (Cas addr size expect new) = refl
    go (Some j) (Fetch addr way) = refl
    go (Some j) (Load addr size way) = refl
    go (Some j) (Store addr size value) = refl
    go (Some j) (Swap addr size new) = refl
    go (Some j) (Cas addr size expect new) = refl

bank_of_wrote : (a : ArrayState) (line : ℕ) (op : Op) → (wrote (ensured a line) op).bank ≡ a.bank
bank_of_wrote a line op = go (slot_in a line) op
  where
    go : (o : Option ℕ) (op : Op) → (wrote (ensured_by a line o) op).bank ≡ a.bank
    go None (Fetch addr way) = refl
    go None (Load addr size way) = refl
    go None (Store addr size value) = refl
    go None (Swap addr size new) = refl
    go None (Cas addr size expect new) = refl
    go (Some j) (Fetch addr way) = refl
    go (Some j) (Load addr size way) = refl
    go (Some j) (Store addr size value) = refl
    go (Some j) (Swap addr size new) = refl
    go (Some j) (Cas addr size expect new) = refl

length_written : (m : List ℕ) (op : Op) → length (written m op) ≡ length m
length_written m (Fetch addr way) = refl
length_written m (Load addr size way) = refl
length_written m (Store addr size value) = length-with_number_at m addr size value
length_written m (Swap addr size new) = length-with_number_at m addr size new
length_written m (Cas addr size expect new) = refl

pub alike_step : (b : BankState) (r : RequestData) → IsAlike (bank_with b r) b
unfolding bank_with
alike_step b r =
    cond_both (is_fit b r) (bank_well b r) b (λ (c : BankState). IsAlike c b)
    (λ t. subst (λ (c : BankState). IsAlike c b) (sym (well_is b r)) (record {
      cores = refl;
      ram = refl;
      bank = bank_of_wrote b.array (op_addr r.op / 64) (effect r.op (old_of b r));
      shape = shape_wrote b.array (op_addr r.op / 64) (effect r.op (old_of b r));
      directory = shape_filled (without_kills b.directory (kills_of b r)) r.core r.op (way_for_fill b.directory r.core r.op) ∙ shape_cleared (kills_of b r) b.directory;
    }))
    (λ t. record { cores = refl; ram = refl; bank = refl; shape = refl; directory = refl })

module _ (b : BankState) (m : List ℕ) (s : IsSound b) (is : Mirrors b m) (r : RequestData) where
  mirrors_wrote : IsFit b r → Mirrors (bank_wrote b r) (written m (effect r.op (number_at m (op_addr r.op) (op_size r.op))))
  mirrors_wrote f =
      let done : Op = effect r.op (old_of b r) in
      let same : done ≡ effect r.op (number_at m (op_addr r.op) (op_size r.op)) = ap (λ (n : ℕ). effect r.op n) (old_flat b m s is r f) in
      let mem : (bank_wrote b r).array.memory ≡ lines_of_bank b.array.shape b.array.bank (written m done) (length b.array.memory) =
      mem_wrote b.array (op_addr r.op / 64) done ∙ wrote_flat b m s is r f done (effect_addr r.op (old_of b r)) (effect_size r.op (old_of b r)) in
      let count : length b.array.memory ≡ length (bank_wrote b r).array.memory =
      sym (ap (λ (ls : List (List ℕ)). length ls) mem ∙ length-lines_of_bank b.array.shape b.array.bank (written m done) (length b.array.memory)) in
      subst (λ (o : Op). Mirrors (bank_wrote b r) (written m o)) same
      (record {
        size = length_written m done ∙ is.size;
        lines =
            mem ∙ (ap (λ (q : Shape). lines_of_bank q b.array.bank (written m done) (length b.array.memory)) (sym (shape_wrote b.array (op_addr r.op / 64) done))
            ∙ (ap (λ (k : ℕ). lines_of_bank (bank_wrote b r).array.shape k (written m done) (length b.array.memory)) (sym (bank_of_wrote b.array (op_addr r.op / 64) done))
            ∙ ap (λ (n : ℕ). lines_of_bank (bank_wrote b r).array.shape (bank_wrote b r).array.bank (written m done) n) count));
      })

  mirrors_well : IsFit b r → Mirrors (bank_well b r) (written m (effect r.op (number_at m (op_addr r.op) (op_size r.op))))
  mirrors_well f = subst (λ (c : BankState). Mirrors c (written m (effect r.op (number_at m (op_addr r.op) (op_size r.op))))) (sym (well_is b r)) (mirrors_wrote f)

  pub mirrors_step : Mirrors (bank_with b r) (flat_with b.array.shape b.cores b.ram b.array.bank m r)
  unfolding bank_with
  mirrors_step =
      elim (cases_Bool (is_fit b r)) [
        | inl t ↦ rw t (mirrors_well (fit b r t))
        | inr t ↦ rw t is
      ]

-- ---- all requests

pub record After (b c : BankState) (m : List ℕ) : Type 0 where
  pub sound : IsSound c
  pub mirrors : Mirrors c m
  pub alike : IsAlike c b

pub after_all : (rs : List RequestData) (b : BankState) (m : List ℕ) → IsSound b → Mirrors b m → After b (bank_after b rs) (flat_after b.array.shape b.cores b.ram b.array.bank m rs)
after_all [] b m s is = record { sound = s; mirrors = is; alike = record { cores = refl; ram = refl; bank = refl; shape = refl; directory = refl } }
after_all (r ∷ rs) b m s is =
    let c : BankState = bank_with b r in
    let k : List ℕ = flat_with b.array.shape b.cores b.ram b.array.bank m r in
    let like = alike_step b r in
    let rest = after_all rs c k (sound_step b r s) (mirrors_step b m s is r) in
    let same : flat_after c.array.shape c.cores c.ram c.array.bank k rs ≡ flat_after b.array.shape b.cores b.ram b.array.bank k rs =
    ap (λ (q : Shape). flat_after q c.cores c.ram c.array.bank k rs) like.shape
    ∙ (ap (λ (n : ℕ). flat_after b.array.shape n c.ram c.array.bank k rs) like.cores
    ∙ (ap (λ (n : ℕ). flat_after b.array.shape b.cores n c.array.bank k rs) like.ram
    ∙ ap (λ (n : ℕ). flat_after b.array.shape b.cores b.ram n k rs) like.bank)) in
    record {
      sound = rest.sound;
      mirrors = subst (λ (x : List ℕ). Mirrors (bank_after c rs) x) same rest.mirrors;
      alike = record {
        cores = rest.alike.cores ∙ like.cores;
        ram = rest.alike.ram ∙ like.ram;
        bank = rest.alike.bank ∙ like.bank;
        shape = rest.alike.shape ∙ like.shape;
        directory = rest.alike.directory ∙ like.directory;
      };
    }
