-- The machines that version 1 can name are of one chip and one mode.
use Rattle.std.proofs.Common.{◌≡◌, Bool, true, false, not, refl, sym}
use Rattle.std.proofs.lemmas.Bool.{and_parts}
use Rattle.t1_num.specs.declared.chip.ChipKind.{ChipKind}
use Rattle.t1_num.specs.declared.chip.ChipKind.TheVariants.{T1, T2}
use Rattle.t1_event.specs.declared.report.Config.{Config}
use Rattle.t1_log.specs.Lines.{is_t1, is_first}

t1_alone : (chip : ChipKind) → is_t1 chip ≡ true → chip ≡ T1
t1_alone T1 e = refl
t1_alone T2 e = absurd (let bad : true ≡ false = sym e in cc)

without : (hyper : Bool) → not hyper ≡ true → hyper ≡ false
without false e = refl
without true e = absurd (let bad : true ≡ false = sym e in cc)

-- which they are
pub record IsOfFirst (config : Config) : Type 0 where
  pub chip : config.chip ≡ T1
  pub hyper : config.hyper ≡ false

pub first_is : (config : Config) → is_first config ≡ true → IsOfFirst config
first_is config e = (let both = and_parts _ _ e in record { chip = t1_alone config.chip both.0; hyper = without config.hyper both.1 })
