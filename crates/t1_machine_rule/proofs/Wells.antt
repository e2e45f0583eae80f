-- The accesses that a machine's destinations served are lawful: few kills, and an evicted line of RAM.
use Rattle.t1_num.specs.declared.chip.ChipKind.TheVariants.{T1, T2}
use Rattle.t1_shape.specs.Shapes.{Shape}
use Rattle.std.proofs.Common.{◌≡◌, ℕ, ◌*◌, ◌/◌, ◌%◌, ◌<◌, ◌≤◌, ◌==◌, nat_lt, Bool, true, false, cond, List, length, take, Option, Some, None, ap, sym, ◌∙◌, subst, inl, inr, arith}
use Rattle.std.specs.List.{slice_get, filter}
use Rattle.std.proofs.lemmas.Bool.{cases_lt, lt-ltb, le-ltb}
use Rattle.t1_shape.specs.Numbers.{banks}
use Rattle.t1_packet.specs.declared.served.Served.{Served}
use Rattle.t1_packet.specs.Data.{KillData, RequestData}
use Rattle.t1_packet.specs.Ops.{op_addr}
use Rattle.t1_event.specs.declared.report.Config.{Config}
use Rattle.t1_event.specs.BankRule.{BankState, is_fit, served_well, evicted_of, refused, served_by, bank_after}
use Rattle.t1_bank.specs.Sound.{IsSound}
use Rattle.t1_bank.specs.Laws.{IsStart}
use Rattle.t1_bank.proofs.Agree.{evicted_line}
use Rattle.t1_bank.proofs.Lawful.{started, sound_is_lawful}
use Rattle.t1_elf.specs.declared.object.Image.{Image}
use Rattle.t1_joint.specs.Start.{Setup}
use Rattle.t1_joint.specs.Parts.{requests_of}
use Rattle.t1_joint.specs.Fit.{destination_start, serves, AreServed}
use Rattle.t1_fit.proofs.States.{after}
use Rattle.t1_machine.specs.Start.{IsRunnable, setup_of}
use Rattle.t1_machine_rule.proofs.Serves.{served_is, after_is}

-- what is few of an access, and where the line lies that it evicted
pub record IsLawfulAccess (cores ram : ℕ) (a : Served) : Type 0 where
  pub few : (core : ℕ) → length (filter (λ (k : KillData). k.core == core) a.kills) ≤ 8
  pub kills : length a.kills ≤ 6 * cores
  pub evicted : (addr : ℕ) → a.evicted ≡ Some addr → addr < ram

refused_lawful : (cores ram : ℕ) (r : RequestData) → IsLawfulAccess cores ram (refused r)
refused_lawful cores ram r = record {
  few = λ core. omega arith;
  kills = omega arith;
  evicted = λ addr e. absurd (let clash : ◌≡◌ {A = Option ℕ} None (Some addr) = e in cc);
}

below_ram : (chip : Shape) (line n ram addr : ℕ) → line / banks chip < n → ram ≡ 64 * (banks chip * n) → addr ≡ line * 64 → addr < ram
below_ram T1 line n ram addr l whole at = omega (arith, l, whole, at)
below_ram T2 line n ram addr l whole at = omega (arith, l, whole, at)

bank_lawful : (chip : Shape) (b : BankState) (r : RequestData) → IsSound b → b.array.shape ≡ chip → IsLawfulAccess b.cores b.ram (served_by b r)
unfolding served_by
bank_lawful chip b r s t =
    let few = (sound_is_lawful b s).few in
    record {
      few = λ core. (let l = few.six r core in omega (arith, l));
      kills = few.all r;
      evicted = λ addr. by (is_fit b r) addr;
    }
  where
    low : (addr : ℕ) → evicted_of b r ≡ Some addr → addr < b.ram
    low addr e =
        let x = evicted_line b.array (op_addr r.op / 64) addr e in
        let at = x.at in
        below_ram b.array.shape x.line (length b.array.memory) b.ram addr (s.array.within x.there.0 x.line x.there.1) s.whole at

    by : (f : Bool) (addr : ℕ) → (cond f (served_well b r) (refused r)).evicted ≡ Some addr → addr < b.ram
    by true addr e = low addr e
    by false addr e = let clash : ◌≡◌ {A = Option ℕ} None (Some addr) = e in cc

module _ (config : Config) (image : Image) (runs : IsRunnable (setup_of config image)) where
  abbrev w : Setup
  w = setup_of config image

  start_is : (d : ℕ) → d < banks config.chip → IsStart config.chip d config.cores config.sets image.ram
  start_is d l = record {
    bank_is = l;
    few = runs.few_cores;
    some = runs.some_sets;
    many = runs.few_sets;
    even = ap (λ (n : ℕ). n % 65536) runs.image ∙ runs.blocks;
    small = (let e = runs.image in let l = runs.few_bytes in omega (arith, e, l));
  }

  -- each access that a destination served
  pub access_lawful : (d : ℕ) (xs : List Served) (k : ℕ) (a : Served) → AreServed config.chip d (destination_start w d) xs → slice_get xs k ≡ Some a → IsLawfulAccess config.cores config.ram a
  access_lawful d xs k a s e =
      let start : BankState = destination_start w d in
      let before : BankState = after config.chip d start (take k xs) in
      let is : a ≡ serves config.chip d before a.request = served_is config.chip d start xs k a s e in
      subst (λ (v : Served). IsLawfulAccess config.cores config.ram v) (sym is)
      (elim (cases_lt d (banks config.chip)) [
        | inl l ↦
            let t : nat_lt d (banks config.chip) ≡ true = lt-ltb d (banks config.chip) l in
            let rs : List RequestData = requests_of (take k xs) in
            let x = started config.chip d config.cores config.sets image.ram rs (start_is d l) in
            let b : BankState = bank_after start rs in
            let law : IsLawfulAccess b.cores b.ram (served_by b a.request) = bank_lawful config.chip b a.request x.sound x.alike.shape in
            let cores : IsLawfulAccess config.cores b.ram (served_by b a.request) = subst (λ (n : ℕ). IsLawfulAccess n b.ram (served_by b a.request)) x.alike.cores law in
            let ram : IsLawfulAccess config.cores config.ram (served_by b a.request) = subst (λ (n : ℕ). IsLawfulAccess config.cores n (served_by b a.request)) (x.alike.ram ∙ runs.image) cores in
            let same : served_by b a.request ≡ serves config.chip d before a.request =
            ap (λ (c : BankState). served_by c a.request) (sym (after_is config.chip d start (take k xs) l))
            ∙ sym (ap (λ (v : Bool). cond v (served_by before a.request) (refused a.request)) t) in
            subst (λ (v : Served). IsLawfulAccess config.cores config.ram v) same ram
        | inr l ↦
            let f : nat_lt d (banks config.chip) ≡ false = le-ltb d (banks config.chip) l in
            subst (λ (v : Served). IsLawfulAccess config.cores config.ram v) (sym (ap (λ (v : Bool). cond v (served_by before a.request) (refused a.request)) f)) (refused_lawful config.cores config.ram a.request)
      ])
