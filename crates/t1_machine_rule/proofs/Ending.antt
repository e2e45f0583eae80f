-- A machine whose cores are over: its traces and log are a joint history, which can be listed by keys.
use Rattle.t1_shape.proofs.Numbers.{strands_are}
use Rattle.std.proofs.Common.{◌≡◌, ℕ, zero, suc, ◌*◌, ◌<◌, ◌≤◌, Bool, true, List, [], ◌∷◌, length, get_or, Some, refl, ap, ◌∙◌, subst, arith}
use Rattle.std.specs.Prelude.{All}
use Rattle.std.specs.List.{slice_get, count_by}
use Rattle.std.proofs.lemmas.List.{length-map}
use Rattle.std.proofs.lemmas.List.Sums.{count_by-le-length, sum_by-le}
use Rattle.std.proofs.lemmas.Nat.{mul-le}
use Rattle.t1_num.specs.MemoryLaws.{AreBytes}
use Rattle.t1_state.specs.Registers.{with_reg, blank_of, start_of}
use Rattle.t1_event.specs.declared.report.Config.{Config}
use Rattle.t1_event.specs.declared.item.Item.{Item}
use Rattle.t1_event.specs.declared.trace.Trace.{Trace}
use Rattle.t1_event.specs.Kinds.{is_access}
use Rattle.t1_event.specs.Items.{items_of}
use Rattle.t1_elf.specs.declared.object.Image.{Image}
use Rattle.t1_joint.specs.Start.{Setup, start_in, bounds_in}
use Rattle.t1_joint.specs.JointHistory.{IsJointHistory}
use Rattle.t1_tso.proofs.Histories.{log_is_covered}
use Rattle.t1_fit.proofs.History.{fitting_parts_are_history}
use Rattle.t1_order.specs.Orderable.{AreShort, accesses_in}
use Rattle.t1_order.proofs.Joint.{joint_are_orderable}
use Rattle.t1_bound.proofs.Units.{reg_units}
use Rattle.t1_core.specs.Steps.{CoreState}
use Rattle.t1_core.specs.Ends.{finished_of}
use Rattle.t1_machine.specs.Machine.{MachineState}
use Rattle.t1_machine.specs.Start.{IsRunnable, setup_of, most_commits}
use Rattle.t1_machine_rule.specs.Kept.{Kept}
use Rattle.t1_machine_rule.specs.Parts.{traces_in}
use Rattle.t1_machine_rule.specs.Ends.{IsOver, Ends}
use Rattle.t1_machine_rule.proofs.Lengths.{trace_few}
use Rattle.t1_machine_rule.proofs.Fits.{parts, setup, fits}
use Rattle.t1_machine_rule.proofs.Overs.{traces_are, over_parts}

-- a strand begins with no unit
pub start_units : (number count entry : ℕ) (hyper : Bool) → (start_of number count entry hyper).units ≡ 0
unfolding start_of blank_of
start_units number count entry hyper = reg_units (with_reg (blank_of entry hyper) 8 number) 9 count ∙ reg_units (blank_of entry hyper) 8 number

-- a list of each trace, by its number
trace_there : (traces : List Trace) (k : ℕ) (P : List Item → Type 0) → P [] → ((t : Trace) → slice_get traces k ≡ Some t → P t.items) → P (get_or (items_of traces) k [])
trace_there [] k P none some = none
trace_there (t ∷ traces) zero P none some = some t refl
trace_there (t ∷ traces) (suc k) P none some = trace_there traces k P none some

module _ (config : Config) (image : Image) (runs : IsRunnable (setup_of config image)) (bytes : AreBytes image.ram) (m : MachineState) (g : Kept (setup_of config image) m)
    (short : length m.xbar.log ≤ 4294967295) (done : (c : ℕ) (core : CoreState) → slice_get m.cores c ≡ Some core → finished_of core ≡ true) where
  abbrev w : Setup
  w = setup_of config image

  pub history : IsJointHistory w (traces_in m.cores) m.xbar.log
  history =
      subst (λ (traces : List Trace). IsJointHistory w traces m.xbar.log) (traces_are config image runs bytes m g short)
      (fitting_parts_are_history w (parts config image runs bytes m g short) (setup config image runs bytes m g short) (fits config image runs bytes m g short) (over_parts config image runs bytes m g short done))

  -- each trace has two items at most for each unit of the budget
  pub items_few : (strand : ℕ) (trace : Trace) → slice_get (traces_in m.cores) strand ≡ Some trace → length trace.items ≤ 2 * config.budget
  items_few strand trace e =
      trace_few (bounds_in config) (start_in config image.entry strand) trace (start_units strand (config.cores * config.strands) image.entry config.hyper) (history.table strand trace e).follows

  -- a budget, where there is a strand
  pub budget_small : config.budget ≤ 1000000
  budget_small =
      let one : 1 ≤ config.cores * config.strands = mul-le 1 1 config.cores config.strands (let l = runs.some_cores in omega (arith, l)) (let l = runs.some_strands in omega (arith, l)) in
      let most : config.budget * 1 ≤ config.budget * (config.cores * config.strands) = mul-le config.budget 1 config.budget (config.cores * config.strands) (omega arith) one in
      let l = runs.few_units in
      omega (arith, most, l)

  list_few : (strand : ℕ) → length (get_or (items_of (traces_in m.cores)) strand []) ≤ 2 * config.budget
  list_few strand = trace_there (traces_in m.cores) strand (λ xs. length xs ≤ 2 * config.budget) (omega arith) (items_few strand)

  pub traces_short : AreShort (items_of (traces_in m.cores))
  traces_short strand = (let a = list_few strand in let b = budget_small in omega (arith, a, b))

  pub count_is : length (traces_in m.cores) ≡ config.cores * config.strands
  count_is = history.all_strands

  pub count_few : length (traces_in m.cores) ≤ 64
  count_few = (let e = count_is in let few : config.strands ≤ 8 = (let l = runs.few_strands in omega (arith, l, (strands_are config.chip).1)) in let l = mul-le config.cores config.strands 8 8 runs.few_cores few in omega (arith, e, l))

  pub accesses_few : accesses_in (items_of (traces_in m.cores)) ≤ most_commits config
  accesses_few =
      let xs : List (List Item) = items_of (traces_in m.cores) in
      let each : All (λ (items : List Item). count_by (λ (item : Item). is_access item.kind) items ≤ 2 * config.budget) xs = λ k d within.
      (let l = list_few k in let c = count_by-le-length (λ (item : Item). is_access item.kind) (get_or xs k []) in
      subst (λ (items : List Item). count_by (λ (item : Item). is_access item.kind) items ≤ 2 * config.budget) (default xs k d within) (omega (arith, l, c))) in
      let sum : accesses_in xs ≤ length xs * (2 * config.budget) = sum_by-le (λ (items : List Item). count_by (λ (item : Item). is_access item.kind) items) (2 * config.budget) xs each in
      let size : length xs ≡ config.cores * config.strands = length-map (traces_in m.cores) (λ (t : Trace). t.items) ∙ count_is in
      let all : length xs * (2 * config.budget) ≡ config.cores * (config.strands * (2 * config.budget)) = ap (λ (n : ℕ). n * (2 * config.budget)) size ∙ grind arith in
      omega (arith, sum, all)
    where
      default : (xs : List (List Item)) (k : ℕ) (d : List Item) → k < length xs → get_or xs k [] ≡ get_or xs k d
      default [] k d l = absurd (omega (arith, l))
      default (x ∷ xs) zero d l = refl
      default (x ∷ xs) (suc k) d l = default xs k d (omega (arith, l))

  pub ends : IsOver w m → Ends w m
  ends over =
      let few : length (items_of (traces_in m.cores)) ≤ 64 = (let e = length-map (traces_in m.cores) (λ (t : Trace). t.items) in let l = count_few in omega (arith, e, l)) in
      record {
        over = over;
        history = history;
        covered = (log_is_covered w (traces_in m.cores) m.xbar.log history).0;
        lines = (log_is_covered w (traces_in m.cores) m.xbar.log history).1;
        few = (let l = count_few in omega (arith, l));
        short = traces_short;
        orderable = joint_are_orderable w (traces_in m.cores) m.xbar.log history few traces_short;
        room = accesses_few;
      }
