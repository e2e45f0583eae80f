-- The report of a machine whose cores are over has a text.
use Rattle.std.proofs.Common.{◌≡◌, ℕ, zero, suc, ◌*◌, ◌^◌, ◌<◌, ◌≤◌, true, List, [], ◌∷◌, length, get_or, Option, Some, None, refl, ap, sym, ◌∙◌, subst, inl, inr, arith}
use Rattle.std.specs.Prelude.{All}
use Rattle.std.specs.List.{slice_get}
use Rattle.std.proofs.lemmas.Option.{slice_get-get_or}
use Rattle.t1_num.specs.Memory.{IsSize}
use Rattle.t1_num.specs.MemoryLaws.{AreBytes}
use Rattle.t1_packet.specs.declared.served.Served.{Served}
use Rattle.t1_packet.specs.Ops.{op_dest}
use Rattle.t1_event.specs.declared.report.Config.{Config}
use Rattle.t1_event.specs.declared.report.Place.{Place}
use Rattle.t1_event.specs.declared.item.Item.{Item}
use Rattle.t1_event.specs.declared.item.ItemKind.{ItemKind}
use Rattle.t1_event.specs.declared.item.ItemKind.TheVariants as kind
use Rattle.t1_event.specs.declared.trace.Trace.{Trace}
use Rattle.t1_event.specs.declared.trace.Ending.{Ending}
use Rattle.t1_event.specs.declared.trace.Ending.TheVariants as ending
use Rattle.t1_event.specs.declared.commit.Commit.{Commit}
use Rattle.t1_event.specs.Kinds.{IsAccess}
use Rattle.t1_event.specs.Items.{items_of}
use Rattle.t1_event.specs.Order.{Act}
use Rattle.t1_event.specs.Printable.{FitsDigits, HasText, HasEnded, IsPrintableTrace, IsEvictedAddress, IsPrintableCommit, IsPrintableReport}
use Rattle.t1_elf.specs.declared.object.Image.{Image}
use Rattle.t1_joint.specs.Start.{Setup, start_in, bounds_in}
use Rattle.t1_joint.specs.Shaped.{IsShaped, LiesRightly}
use Rattle.t1_joint.proofs.Shapes.{items_shaped}
use Rattle.t1_joint.specs.Parts.{served_at}
use Rattle.t1_fit.proofs.Lists.{slice_front}
use Rattle.t1_fit.proofs.Logs.{at_log}
use Rattle.t1_core.specs.Steps.{CoreState}
use Rattle.t1_core.specs.Ends.{finished_of}
use Rattle.t1_machine.specs.Machine.{MachineState}
use Rattle.t1_machine.specs.Start.{IsRunnable, setup_of}
use Rattle.t1_machine_rule.specs.Kept.{ever_served, Kept}
use Rattle.t1_machine_rule.specs.Parts.{traces_in}
use Rattle.t1_machine_rule.specs.Ends.{report_of}
use Rattle.t1_machine_rule.proofs.Texts.{IsSmallEnding, trace_numbers, trace_ending}
use Rattle.t1_machine_rule.proofs.Barriers.{AreBare, history_bare}
use Rattle.t1_machine_rule.proofs.Rings.{dest_small}
use Rattle.t1_machine_rule.proofs.Serves.{own_in}
use Rattle.t1_machine_rule.proofs.Wells.{access_lawful}
use Rattle.t1_machine_rule.proofs.Overs.{trace_from}
use Rattle.t1_machine_rule.proofs.Ending.{history, items_few, budget_small, count_is, count_few}

all_from : {A : Type 0} (P : A → Type 0) (xs : List A) → ((k : ℕ) (x : A) → slice_get xs k ≡ Some x → P x) → All P xs
all_from P xs f k d l = f k (get_or xs k d) (slice_get-get_or xs k d l)

size_some : (size : ℕ) → IsSize size → (1 ≤ size) × (size ≤ 8)
size_some size (inl e) = (omega (arith, e), omega (arith, e))
size_some size (inr (inl e)) = (omega (arith, e), omega (arith, e))
size_some size (inr (inr (inl e))) = (omega (arith, e), omega (arith, e))
size_some size (inr (inr (inr e))) = (omega (arith, e), omega (arith, e))

lies_low : (ram : ℕ) (x : Item) (k : ItemKind) → ram ≤ 2 ^ 28 → IsAccess k → LiesRightly ram x k → x.addr < 2 ^ 40
lies_low ram x kind.Fetch small a l = (let b = l.1 in omega (arith, b, small))
lies_low ram x kind.Load small a l = elim l [ inl b ↦ omega (arith, b, small) | inr io ↦ io.1 ]
lies_low ram x kind.Store small a l = elim l [ inl b ↦ omega (arith, b, small) | inr io ↦ io.1 ]
lies_low ram x (kind.Atomic wrote) small a l = omega (arith, l, small)
lies_low ram x kind.Membar small a l = cc
lies_low ram x kind.Flush small a l = cc

-- so many bytes are twice as many digits
digits : (size value : ℕ) → value < 2 ^ (8 * size) → FitsDigits (2 * size) value
digits size value l = let e : 8 * size ≡ 4 * (2 * size) = omega arith in subst (λ (n : ℕ). value < 2 ^ n) e l

ended_text : (e : Ending) → IsSmallEnding e → HasEnded (Some e)
ended_text ending.Halted l = tt
ended_text ending.Spent l = tt
ended_text (ending.Fault number) l = omega (arith, l)

module _ (config : Config) (image : Image) (runs : IsRunnable (setup_of config image)) (bytes : AreBytes image.ram) (m : MachineState) (g : Kept (setup_of config image) m)
    (short : length m.xbar.log ≤ 4294967295) (done : (c : ℕ) (core : CoreState) → slice_get m.cores c ≡ Some core → finished_of core ≡ true) where
  abbrev w : Setup
  w = setup_of config image

  -- a trace that stands in the list is a list of items there
  act : (traces : List Trace) (s : ℕ) (trace : Trace) (k : ℕ) (x : Item) → slice_get traces s ≡ Some trace → slice_get trace.items k ≡ Some x → slice_get (get_or (items_of traces) s []) k ≡ Some x
  act [] s trace k x e h = let clash : ◌≡◌ {A = Option Trace} None (Some trace) = e in cc
  act (t ∷ traces) zero trace k x e h = let same : t ≡ trace = cc (e) in subst (λ (v : Trace). slice_get v.items k ≡ Some x) (sym same) h
  act (t ∷ traces) (suc s) trace k x e h = act traces s trace k x e h

  item_text : (s : ℕ) (trace : Trace) (k : ℕ) (x : Item) → slice_get (traces_in m.cores) s ≡ Some trace → slice_get trace.items k ≡ Some x → HasText x
  item_text s trace k x is has =
      let j = history config image runs bytes m g short done in
      let f = (j.table s trace is).follows in
      let shaped : IsAccess x.kind → IsShaped config.ram x = λ a. items_shaped (bounds_in config) (start_in config image.entry s) trace k x runs.blocks f has a in
      let numbers = trace_numbers (bounds_in config) (start_in config image.entry s) trace k x f has in
      let at : Act (items_of (traces_in m.cores)) = record { strand = s; number = k; item = x; stands = act (traces_in m.cores) s trace k x is has } in
      let from = trace_from m.cores s trace is in
      let bare : AreBare from.core = subst (λ (c : CoreState). AreBare c) (sym (g.cores from.c from.core from.is)) (history_bare w from.c (g.calls from.c)) in
      record {
        addr = λ a. lies_low config.ram x x.kind runs.few_bytes a (shaped a).lies;
        some = λ a. (size_some x.size (shaped a).size).0;
        size = λ a. (size_some x.size (shaped a).size).1;
        got = λ read. digits x.size x.got (numbers.got read);
        put = λ changes. digits x.size x.put (numbers.put changes);
        placed = λ a. j.naming.placed at a;
        unplaced = λ none. (bare from.strand from.thread from.has).items k x (subst (λ (v : Trace). slice_get v.items k ≡ Some x) (sym from.trace_is) has) none;
      }

  trace_text : (s : ℕ) (trace : Trace) → slice_get (traces_in m.cores) s ≡ Some trace → IsPrintableTrace trace
  trace_text s trace is =
      let h = (history config image runs bytes m g short done).table s trace is in
      record {
        items = all_from HasText trace.items (λ k x has. item_text s trace k x is has);
        count = (let a = items_few config image runs bytes m g short done s trace is in let b = budget_small config image runs bytes m g short done in omega (arith, a, b));
        ended = subst (λ (o : Option Ending). HasEnded o) (sym h.ended) (ended_text h.ending (trace_ending (bounds_in config) (start_in config image.entry s) trace h.ending h.follows h.ended));
      }

  evicted_text : (o : Option ℕ) → ((addr : ℕ) → o ≡ Some addr → addr < config.ram) → IsEvictedAddress o
  evicted_text None f = tt
  evicted_text (Some addr) f = (let l = f addr refl in let small = runs.few_bytes in omega (arith, l, small))

  commit_text : (n : ℕ) (c : Commit) → slice_get m.xbar.log n ≡ Some c → IsPrintableCommit c
  commit_text n c is =
      let at = at_log w g.admitted n c (ap (λ (log : List Commit). slice_get log n) (sym g.log) ∙ is) in
      let a : Served = at.0 in
      let d : ℕ = op_dest config.chip a.request.op in
      let own = own_in config.chip d g.admitted n a at.1 refl in
      let law = access_lawful config image runs d (ever_served config.chip g.admitted m.served d) own.0 a (g.served d (dest_small config.chip a.request.op))
      (slice_front (served_at config.chip d g.admitted) (get_or m.served d []) own.0 a own.1) in
      record {
        evicted = subst (λ (v : Commit). IsEvictedAddress v.evicted) (sym at.2) (evicted_text a.evicted law.evicted);
        kills = subst (λ (v : Commit). length v.kills ≤ 64) (sym at.2) (let k = law.kills in let few = runs.few_cores in omega (arith, k, few));
      }

  pub report_text : (order : List Place) → FitsDigits 10 image.entry → IsPrintableReport (report_of w m order)
  report_text order entry = record {
    entry = entry;
    blocks = (let e = runs.image in let b = runs.blocks in omega (arith, e, b));
    image = (let e = runs.image in let l = runs.few_bytes in omega (arith, e, l));
    traces = all_from IsPrintableTrace (traces_in m.cores) (λ s trace is. trace_text s trace is);
    number = count_is config image runs bytes m g short done;
    strands = (let l = count_few config image runs bytes m g short done in omega (arith, l));
    log = all_from IsPrintableCommit m.xbar.log (λ n c is. commit_text n c is);
    commits = omega (arith, short);
  }
