-- Behind the lines of the head.
use Rattle.std.proofs.Common.{◌≡◌, ℕ, zero, suc, ◌+◌, ◌*◌, ◌-◌, ◌%◌, ◌^◌, ◌<◌, ◌≤◌, ◌⊎◌, ◌&&◌, true, false, leb, ltb, eqb, List, [], ◌∷◌, ◌++◌, length, drop, get_or, IsTrue, refl, sym, ap, ◌∙◌, append_assoc, append-nil, inl, inr, arith}
use Rattle.std.proofs.lemmas.Bool.{cases_Bool, cases_lt, and_parts, leb-true, eqb-true, eq-eqb, le-leb, lt-ltb}
use Rattle.std.proofs.Math.Nat.{mul-le-mul}
use Rattle.t1_num.specs.MemoryLaws.{AreBytes}
use Rattle.t1_event.specs.declared.report.Config.{Config}
use Rattle.t1_log.specs.Lines.{is_first, config_line_of, entry_line_of}
use Rattle.t1_log.specs.Log.{version_line, item_line_of, trace_lines_of, commit_line_of, console_lines_of}
use Rattle.t1_log.specs.Texts.{lines_from, blocks_from, is_blank, image_lines_of, head_lines_of, order_lines_of}
use Rattle.t1_take.specs.Limits.{is_ram, is_in_limits}
use Rattle.t1_take.specs.Taken.{Reads}
use Rattle.t1_take.specs.Image.{IsBlockAt, IsWritten}
use Rattle.t1_take.proofs.HeadTexts.{numbers_small}
use Rattle.t1_take.proofs.ListTexts.{all_none}
use Rattle.t1_take.proofs.ImageTexts.{IsImageSoFar, image_end}
use Rattle.t1_read.specs.Faults.{IsNewBlock}
use Rattle.t1_read.specs.Standing.{Stands, so_far, IsHead}

-- ---- the text so far

abbrev behind_head : List ℕ
behind_head = lines_from trace_lines_of 0 [] ++ (lines_from (item_line_of 0) 0 [] ++ (lines_from commit_line_of 0 [] ++ (order_lines_of [] ++ console_lines_of [])))

nothing_behind : behind_head ≡ []
unfolding lines_from blocks_from
nothing_behind = refl

head_is : (config : Config) (entry : ℕ) (ram rest : List ℕ)
    → (version_line ++ (config_line_of config ++ entry_line_of entry)) ++ (image_lines_of ram ++ rest) ≡ head_lines_of version_line config (record { entry = entry; ram = ram }) ++ rest
unfolding head_lines_of
head_is config entry ram rest =
    let v : List ℕ = version_line in
    let c : List ℕ = config_line_of config in
    let e : List ℕ = entry_line_of entry in
    let i : List ℕ = image_lines_of ram in
    let left : (v ++ (c ++ e)) ++ (i ++ rest) ≡ v ++ (c ++ (e ++ (i ++ rest))) = append_assoc v (c ++ e) (i ++ rest) ∙ ap (λ (t : List ℕ). v ++ t) (append_assoc c e (i ++ rest)) in
    let right : (v ++ (c ++ (e ++ i))) ++ rest ≡ v ++ (c ++ (e ++ (i ++ rest))) =
    append_assoc v (c ++ (e ++ i)) rest ∙ ap (λ (t : List ℕ). v ++ t) (append_assoc c (e ++ i) rest ∙ ap (λ (t : List ℕ). c ++ t) (append_assoc e i rest)) in
    left ∙ sym right

pub some_strand : (config : Config) → IsTrue (is_in_limits config) → 0 < config.cores * config.strands
some_strand config w =
    let limits = and_parts _ _ (and_parts _ _ w).1 in
    let cores : 1 ≤ config.cores = leb-true _ _ (and_parts _ _ limits.0).0 in
    let strands : 1 ≤ config.strands = leb-true _ _ (and_parts _ _ (and_parts _ _ limits.1).0).0 in
    mul-le-mul cores strands

pub small_ram : (config : Config) → IsTrue (is_in_limits config) → config.ram ≤ 2 ^ 40
small_ram config w = (let numbers = numbers_small config w in let ram = numbers.ram in omega (arith, ram))

pub whole_ram : (config : Config) → IsTrue (is_in_limits config) → config.ram % 32 ≡ 0
whole_ram config w =
    let limits = and_parts (leb 1 config.cores && leb config.cores 8) _ (and_parts (is_first config) _ w).1 in
    let strands = and_parts (leb 1 config.strands && leb config.strands 4) _ limits.1 in
    let rest = and_parts (is_ram config.ram) _ strands.1 in
    let ram = and_parts (leb 65536 config.ram) _ rest.0 in
    let steps : config.ram % 65536 ≡ 0 = eqb-true (config.ram % 65536) 0 (and_parts (leb config.ram 268435456) _ ram.1).1 in
    omega (arith, steps)

pub head_stands : (text : List ℕ) (a b : ℕ) (config : Config) (entry : ℕ) (ram : List ℕ) → IsHead text a config entry → length ram ≡ config.ram → AreBytes ram → Reads text a b (image_lines_of ram)
    → Stands text b (so_far config (record { entry = entry; ram = ram }) [] [] [] [] [])
head_stands text a b config entry ram h size bytes r = record {
  good = record {
    limits = h.limits;
    entry = h.digits;
    image = size;
    bytes = bytes;
    traces = all_none _ [] refl;
    items_are = all_none _ [] refl;
    log = λ index commit e. cc;
    order = all_none _ [] refl;
    console = λ i. none_byte i;
    turn = inl (some_strand config h.limits, (refl, refl, refl));
  };
  reads = h.reads
      ∙ (ap (λ (t : List ℕ). (version_line ++ (config_line_of config ++ entry_line_of entry)) ++ t) r
      ∙ (head_is config entry ram (drop b text)
      ∙ ap (λ (t : List ℕ). t ++ drop b text)
      (sym (append-nil (head_lines_of version_line config (record { entry = entry; ram = ram })))
      ∙ ap (λ (t : List ℕ). head_lines_of version_line config (record { entry = entry; ram = ram }) ++ t) (sym nothing_behind))));
}
  where
    none_byte : (i : ℕ) → get_or {A = ℕ} [] i 0 < 256
    none_byte zero = omega arith
    none_byte (suc i) = omega arith

-- behind the blocks that were read
pub image_stands : (text : List ℕ) (a b : ℕ) (config : Config) (entry : ℕ) (ram : List ℕ) (least : ℕ) → length ram ≡ config.ram → IsHead text a config entry → AreBytes ram → IsImageSoFar text a b ram least
    → Stands text b (so_far config (record { entry = entry; ram = ram }) [] [] [] [] [])
image_stands text a b config entry ram least size h bytes so =
    head_stands text a b config entry ram h size bytes (image_end text a b ram least (ap (λ (n : ℕ). n % 32) size ∙ whole_ram config h.limits) so)

-- ---- blocks ascend

-- the least address that is left is that behind a byte that is no zero, of the block before it
abbrev pub IsTight : List ℕ → ℕ → Type 0
IsTight ram least = (least ≡ 0) ⊎ ((at : ℕ) × (least ≤ at + 32) × (get_or ram at 0 ≡ 0 → ⊥))

some_byte : (block : List ℕ) → is_blank block ≡ false → (at : ℕ) × (at < length block) × (get_or block at 0 ≡ 0 → ⊥)
some_byte [] e = cc
some_byte (byte ∷ bytes) e =
    elim (cases_Bool (eqb byte 0)) [
      | inl z ↦ (
          let more : is_blank bytes ≡ false = rw z at e in
          let found = some_byte bytes more in
          (suc found.0, (let l = found.1 in omega (arith, l)), found.2)
          )
      | inr z ↦ (0, omega arith, λ n. (let t = eq-eqb byte 0 n in let bad : true ≡ false = sym t ∙ z in cc))
    ]

pub tight_more : (text : List ℕ) (mid end least addr : ℕ) (old new : List ℕ) → IsWritten text mid end least old new addr → IsTight new (addr + 32)
tight_more text mid end least addr old new w =
    let found = some_byte w.block w.some in
    let low : leb addr (addr + found.0) ≡ true = le-leb addr (addr + found.0) (omega arith) in
    let high : ltb (addr + found.0) (addr + 32) ≡ true = (let l = found.1 in lt-ltb (addr + found.0) (addr + 32) (omega (arith, l, w.count))) in
    let at : addr + found.0 - addr ≡ found.0 = omega arith in
    let here : get_or new (addr + found.0) 0 ≡ get_or w.block found.0 0 = w.bytes (addr + found.0) ∙ (rw (low, high) (ap (λ (n : ℕ). get_or w.block n 0) at)) in
    inr (addr + found.0, omega arith, λ z. found.2 (sym here ∙ z))

pub new_block : (ram : List ℕ) (least addr : ℕ) (block : List ℕ) → least % 32 ≡ 0 → IsTight ram least → length ram ≤ 2 ^ 40 → IsNewBlock ram addr block → IsBlockAt least (length ram) addr block
new_block ram least addr block whole tight small n = record {
  count = n.count;
  are_bytes = n.are_bytes;
  some = n.some;
  place = n.aligned;
  above = elim (cases_lt addr least) [
    | inl below ↦ elim tight [
      | inl none ↦ omega (arith, none)
      | inr (at, near, other) ↦ absurd (other (n.ascends at (omega (arith, near, below, whole, n.aligned))))
    ]
    | inr above ↦ above
  ];
  within = n.within;
  digits = (let l = n.within in omega (arith, l, small));
}
