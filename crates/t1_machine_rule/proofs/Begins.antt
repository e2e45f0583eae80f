-- The start of the machine keeps what each slot keeps.
use Rattle.t1_shape.specs.Numbers.{banks}
use Rattle.std.proofs.Common.{◌≡◌, ℕ, zero, suc, ◌+◌, ◌*◌, ◌<◌, List, [], ◌++◌, get_or, replicate, Option, Some, None, refl, ap, sym, ◌∙◌, subst, arith}
use Rattle.std.specs.List.{slice_get}
use Rattle.std.proofs.lemmas.List.{length-replicate}
use Rattle.t1_packet.specs.declared.packet.Packet.{Packet}
use Rattle.t1_packet.specs.declared.served.Served.{Served}
use Rattle.t1_packet.specs.Data.{RequestData}
use Rattle.t1_event.specs.declared.report.Config.{Config}
use Rattle.t1_event.specs.BankRule.{BankState, bank_after}
use Rattle.t1_elf.specs.declared.object.Image.{Image}
use Rattle.t1_joint.specs.Start.{Setup}
use Rattle.t1_joint.specs.Parts.{requests_of, asked_by}
use Rattle.t1_joint.specs.Fit.{destination_start, AreServed}
use Rattle.t1_core.specs.Steps.{CoreState}
use Rattle.t1_core.specs.Start.{new_core}
use Rattle.t1_core_rule.specs.Histories.{after_calls}
use Rattle.t1_machine.specs.Machine.{ring_of}
use Rattle.t1_machine.specs.Start.{IsRunnable, setup_of, cores_from, banks_from, machine_start}
use Rattle.t1_machine.proofs.Starts.{cores_length, banks_length, zeros}
use Rattle.t1_machine_rule.specs.Kept.{Kept}
use Rattle.t1_machine_rule.proofs.Lists.{or_replicate}

core_first : (config : Config) (entry k n i : ℕ) (core : CoreState) → slice_get (cores_from config entry k n) i ≡ Some core → core ≡ new_core config (k + i) entry
unfolding cores_from
core_first config entry k zero i core e = let clash : ◌≡◌ {A = Option CoreState} None (Some core) = e in cc
core_first config entry k (suc n) zero core e =
    let q : new_core config k entry ≡ core = cc (e) in sym q ∙ ap (λ (j : ℕ). new_core config j entry) (let z : k ≡ k + 0 = omega arith in z)
core_first config entry k (suc n) (suc i) core e =
    core_first config entry (k + 1) n i core e ∙ ap (λ (j : ℕ). new_core config j entry) (let z : k + 1 + i ≡ k + suc i = omega arith in z)

bank_first : (w : Setup) (k n i : ℕ) (b : BankState) → i < n → get_or (banks_from w k n) i b ≡ destination_start w (k + i)
unfolding banks_from
bank_first w k zero i b l = absurd (omega (arith, l))
bank_first w k (suc n) zero b l = ap (λ (j : ℕ). destination_start w j) (let z : k ≡ k + 0 = omega arith in z)
bank_first w k (suc n) (suc i) b l =
    bank_first w (k + 1) n i b (omega (arith, l)) ∙ ap (λ (j : ℕ). destination_start w j) (let z : k + 1 + i ≡ k + suc i = omega arith in z)

pub kept_start : (config : Config) (image : Image) → IsRunnable (setup_of config image) → Kept (setup_of config image) (machine_start (setup_of config image))
unfolding machine_start after_calls
kept_start config image runs =
    let w : Setup = setup_of config image in
    let cores = cores_length config image.entry 0 config.cores in
    let none : (d : ℕ) → ◌≡◌ {A = List Served} (get_or (replicate 9 []) d []) [] = λ d. or_replicate 9 [] d in
    record {
      parts = record {
        cores = cores;
        shaped = record {
          some = (let l = runs.some_cores in omega (arith, l, cores));
          few = (let l = runs.few_cores in omega (arith, l, cores));
          all_requests = (let l = length-replicate {A = List RequestData} (9 * config.cores) [] in omega (arith, l, cores));
          all_served = length-replicate {A = List Served} 9 [];
          all_replies = (let l = length-replicate {A = List Packet} config.cores [] in omega (arith, l, cores));
          all_banks = banks_length w 0 (banks config.chip);
          all_tried = length-replicate {A = ℕ} 9 0;
        };
        tried = λ d. (let z = zeros 9 d in let l = runs.some_cores in omega (arith, z, l));
        posted = refl;
        strands = refl;
        chip = refl;
      };
      calls = λ c. [];
      admitted = [];
      log = refl;
      seen = λ n a e. absurd (let clash : ◌≡◌ {A = Option Served} None (Some a) = e in cc);
      cores = λ c core e. core_first config image.entry 0 config.cores c core e ∙ ap (λ (j : ℕ). new_core config j image.entry) (let z : 0 + c ≡ c = omega arith in z);
      whole = λ c. tt;
      absent = λ c l. refl;
      requests = λ c d ld.
          ap (λ (l : List Served). requests_of (asked_by c l) ++ ring_of (replicate (9 * config.cores) []) c d) (none d) ∙ or_replicate (9 * config.cores) [] (9 * c + d);
      replies = λ c l. or_replicate config.cores [] c;
      served = λ d ld. subst (λ (l : List Served). AreServed config.chip d (destination_start w d) l) (sym (none d)) tt;
      banks = λ d ld.
          bank_first w 0 (banks config.chip) d _ ld
          ∙ (ap (λ (j : ℕ). destination_start w j) (let z : 0 + d ≡ d = omega arith in z)
          ∙ ap (λ (l : List Served). bank_after (destination_start w d) (requests_of l)) (sym (none d)));
    }
