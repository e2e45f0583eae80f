-- What is known of the machine that the words ask for, and of words one after another.
use Rattle.std.proofs.Common.{◌≡◌, ℕ, suc, ◌+◌, ◌*◌, ◌%◌, ◌<◌, ◌≤◌, ◌==◌, ◌&&◌, ◌||◌, inl, inr, nat_le, Bool, true, List, ◌∷◌, length, drop, map, get_or, Option, Some, None, Result, Ok, Err, ◌^◌, refl, ap, sym, ◌∙◌, subst, arith}
use Rattle.std.proofs.lemmas.Bool.{cases_Bool, and_parts, or_cases, leb-true, eqb-true}
use Rattle.std.proofs.Math.ListN.{drop_of_length-le}
use Rattle.std.proofs.Math.Seq.{drop-cons}
use Rattle.std.specs.Prelude.{IfOk}
use Rattle.t1_num.specs.declared.chip.ChipKind.{ChipKind}
use Rattle.t1_num.specs.declared.chip.ChipKind.TheVariants.{T1}
use Rattle.t1_shape.specs.Numbers.{most_strands, most_l2_sets}
use Rattle.t1_elf.specs.declared.object.Image.{Image}
use Rattle.t1_elf.specs.declared.object.Object.{Object}
use Rattle.t1_elf.specs.Images.{image_of}
use Rattle.t1_elf.specs.Parsed.{KeepsTo}
use Rattle.t1_event.specs.declared.report.Config.{Config}
use Rattle.t1_log.specs.Lines.{is_first}
use Rattle.t1_log.proofs.Firsts.{first_is}
use Rattle.t1_machine.specs.Start.{IsRunnable, setup_of}
use Rattle.t1_cli.specs.declared.command.Reading.{Reading}
use Rattle.t1_cli.specs.Words.{config_in_limits, read_next, ended, options_after}
use Rattle.t1_take.specs.Limits.{is_set_count, is_in_limits}

-- ---- limits

abbrev IsFew : ℕ → Type 0
IsFew n = (0 < n) × (n ≤ 1024)

-- a number that is this one, or that is within bounds by what comes later
or_few : (n k : ℕ) (later : Bool) → IsFew k → (later ≡ true → IsFew n) → ((n == k) || later) ≡ true → IsFew n
or_few n k later few rest h = elim (or_cases (n == k) later h) [
  | inl is ↦ subst (λ (m : ℕ). IsFew m) (sym (eqb-true n k is)) few
  | inr more ↦ rest more
]

few_sets : (n : ℕ) → is_set_count n ≡ true → IsFew n
unfolding is_set_count
few_sets n =
    or_few n 1 _ (omega arith, omega arith) (or_few n 2 _ (omega arith, omega arith) (or_few n 4 _ (omega arith, omega arith)
    (or_few n 8 _ (omega arith, omega arith) (or_few n 16 _ (omega arith, omega arith) (or_few n 32 _ (omega arith, omega arith)
    (or_few n 64 _ (omega arith, omega arith) (or_few n 128 _ (omega arith, omega arith) (or_few n 256 _ (omega arith, omega arith)
    (or_few n 512 _ (omega arith, omega arith) (λ h. subst (λ (m : ℕ). IsFew m) (sym (eqb-true n 1024 h)) (omega arith, omega arith)))))))))))

-- the limits, one by one
pub record AreLimits (config : Config) : Type 0 where
  pub first : is_first config ≡ true
  pub some_cores : 1 ≤ config.cores
  pub few_cores : config.cores ≤ 8
  pub some_strands : 1 ≤ config.strands
  pub few_strands : config.strands ≤ 4
  pub blocks : config.ram % 65536 ≡ 0
  pub few_bytes : config.ram ≤ 268435456
  pub some_sets : 0 < config.sets
  pub few_sets : config.sets ≤ 1024
  pub some_units : 1 ≤ config.budget
  pub low_budget : config.budget ≤ 1000000
  pub few_units : config.budget * (config.cores * config.strands) ≤ 1000000

pub limits_of : (config : Config) → is_in_limits config ≡ true → AreLimits config
limits_of config h =
    let cores : Bool = nat_le 1 config.cores && nat_le config.cores 8 in
    let strands : Bool = nat_le 1 config.strands && nat_le config.strands 4 in
    let low : Bool = nat_le 65536 config.ram in
    let most : Bool = nat_le config.ram 268435456 in
    let blocks : Bool = config.ram % 65536 == 0 in
    let sets : Bool = is_set_count config.sets in
    let some : Bool = nat_le 1 config.budget in
    let few : Bool = nat_le config.budget 1000000 in
    let all : Bool = nat_le (config.budget * (config.cores * config.strands)) 1000000 in
    let whole = and_parts (is_first config) (cores && (strands && ((low && (most && blocks)) && (sets && (some && (few && all)))))) h in
    let a = and_parts cores (strands && ((low && (most && blocks)) && (sets && (some && (few && all))))) whole.1 in
    let core = and_parts (nat_le 1 config.cores) (nat_le config.cores 8) a.0 in
    let b = and_parts strands ((low && (most && blocks)) && (sets && (some && (few && all)))) a.1 in
    let strand = and_parts (nat_le 1 config.strands) (nat_le config.strands 4) b.0 in
    let c = and_parts (low && (most && blocks)) (sets && (some && (few && all))) b.1 in
    let d = and_parts low (most && blocks) c.0 in
    let e = and_parts most blocks d.1 in
    let f = and_parts sets (some && (few && all)) c.1 in
    let g = and_parts some (few && all) f.1 in
    let k = and_parts few all g.1 in
    let counts = few_sets config.sets f.0 in
    record {
      first = whole.0;
      some_cores = leb-true 1 config.cores core.0;
      few_cores = leb-true config.cores 8 core.1;
      some_strands = leb-true 1 config.strands strand.0;
      few_strands = leb-true config.strands 4 strand.1;
      blocks = eqb-true (config.ram % 65536) 0 e.1;
      few_bytes = leb-true config.ram 268435456 e.0;
      some_sets = counts.0;
      few_sets = counts.1;
      some_units = leb-true 1 config.budget g.0;
      low_budget = leb-true config.budget 1000000 k.0;
      few_units = leb-true (config.budget * (config.cores * config.strands)) 1000000 k.1;
    }

-- other numbers make no machine
pub no_machine : (config : Config) → (is_in_limits config ≡ true → ⊥) → ◌≡◌ {A = Option Config} None (config_in_limits config)
no_machine config out =
    elim (cases_Bool (is_in_limits config)) [
      | inl h ↦ absurd (out h)
      | inr h ↦ rw h refl
    ]

-- a machine within the limits, with an image of its RAM and an aligned entry, can be run
pub runnable : (config : Config) (image : Image) → is_in_limits config ≡ true → length image.ram ≡ config.ram → image.entry % 4 ≡ 0
    → IsRunnable (setup_of config image)
runnable config image h size entry =
    let l = limits_of config h in
    let first : config.chip ≡ T1 = (first_is config l.first).chip in
    record {
      some_cores = l.some_cores;
      few_cores = l.few_cores;
      some_strands = l.some_strands;
      few_strands = subst (λ (chip : ChipKind). config.strands ≤ most_strands chip) (sym first) l.few_strands;
      blocks = l.blocks;
      few_bytes = l.few_bytes;
      some_sets = l.some_sets;
      few_sets = subst (λ (chip : ChipKind). config.sets ≤ most_l2_sets chip) (sym first) l.few_sets;
      some_units = l.some_units;
      few_units = l.few_units;
      image = size;
      entry = entry;
    }

-- the image of an object that keeps to the RAM can be run, and its entry is low
pub record CanRun {E : Type 0} (config : Config) (r : Result Image E) : Type 0 where
  pub runnable : IfOk r (λ image. IsRunnable (setup_of config image))
  pub entry : IfOk r (λ image. image.entry < 2 ^ 40)

pub can_run : {E : Type 0} (config : Config) (object : Object) (r : Result Image E) → is_in_limits config ≡ true → KeepsTo config.ram object
    → IfOk r (λ image. image ≡ image_of object config.ram) → IfOk r (λ image. length image.ram ≡ config.ram) → CanRun config r
can_run config object (Ok image) limits keeps is size =
    let can = runnable config image limits size (ap (λ (i : Image). i.entry % 4) is ∙ keeps.aligned) in
    let low = ap (λ (i : Image). i.entry) is in
    record { runnable = can; entry = omega (arith, low, keeps.entry, can.few_bytes) }
can_run config object (Err error) limits keeps is size = record { runnable = tt; entry = tt }

-- ---- words one after another

pub words_next : {A : Type 0} (f : A → List ℕ) (words : List A) (i : ℕ) (word : A) → i < length words → word ≡ get_or words i word
    → map f (drop i words) ≡ f word ∷ map f (drop (i + 1) words)
words_next f words i word less is =
    let next : suc i ≡ i + 1 = omega arith in
    ap (map f) (drop-cons words i word less ∙ ap (λ w. w ∷ drop (suc i) words) (sym is) ∙ ap (λ k. word ∷ drop k words) next)

-- one word more is read
pub options_next : {A : Type 0} (f : A → List ℕ) (words : List A) (i : ℕ) (word : A) (reading : Reading) (read : Option Reading)
    → i < length words → word ≡ get_or words i word → read ≡ read_next reading (f word)
    → options_after read (map f (drop (i + 1) words)) ≡ options_after (Some reading) (map f (drop i words))
unfolding options_after
options_next f words i word reading read less is came =
    ap (λ r. options_after r (map f (drop (i + 1) words))) came
    ∙ ap (options_after (Some reading)) (sym (words_next f words i word less is))

-- no word is left
pub options_done : {A : Type 0} (f : A → List ℕ) (words : List A) (i : ℕ) (reading : Reading) → length words ≤ i
    → options_after (Some reading) (map f (drop i words)) ≡ ended reading.given reading.waiting
unfolding options_after
options_done f words i reading past = ap (λ ws. options_after (Some reading) (map f ws)) (drop_of_length-le words past)

pub no_options : (words : List (List ℕ)) → options_after None words ≡ None
unfolding options_after
no_options words = refl
