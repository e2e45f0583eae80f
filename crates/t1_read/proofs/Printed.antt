-- Well-formed reports have a text.
use Rattle.std.proofs.Common.{◌≡◌, ℕ, ◌*◌, ◌%◌, ◌^◌, ◌<◌, ◌≤◌, Bool, true, get_or, Option, Some, None, subst, inl, inr, arith}
use Rattle.std.proofs.Math.Nat.{mul-le-mul}
use Rattle.std.proofs.lemmas.Bool.{cases_Bool, and_parts, leb-true, eqb-true}
use Rattle.std.proofs.lemmas.Option.{slice_get-get_or}
use Rattle.t1_num.specs.Memory.{IsSize}
use Rattle.t1_event.specs.declared.item.Item.{Item}
use Rattle.t1_event.specs.declared.item.ItemKind.{ItemKind}
use Rattle.t1_event.specs.declared.item.ItemKind.TheVariants.{Fetch, Load, Store, Atomic, Membar, Flush}
use Rattle.t1_event.specs.declared.item.How.{How}
use Rattle.t1_event.specs.declared.item.How.TheVariants as how
use Rattle.t1_event.specs.declared.trace.Ending.{Ending}
use Rattle.t1_event.specs.declared.trace.Ending.TheVariants.{Halted, Fault, Spent}
use Rattle.t1_event.specs.declared.report.Report.{Report}
use Rattle.t1_event.specs.Kinds.{is_access, IsAccess}
use Rattle.t1_event.specs.Times.{IsPlaced}
use Rattle.t1_event.specs.Printable.{HasText, HasEnded, IsEvictedAddress, IsPrintableReport}
use Rattle.t1_log.specs.Log.{HasLog}
use Rattle.t1_take.specs.Items.{IsReached, IsValueOf, IsPlaceOf, IsGoodItem, IsGoodEnd}
use Rattle.t1_take.specs.WellFormed.{IsGoodEvicted, IsWellFormed}
use Rattle.t1_take.proofs.ItemsFound.{size_of}

reached_fits : (ram addr : ℕ) (k : ItemKind) → ram ≤ 2 ^ 40 → IsAccess k → IsReached ram k addr → addr < 2 ^ 40
reached_fits ram addr Fetch m a r = omega (arith, m, r)
reached_fits ram addr (Atomic w) m a r = omega (arith, m, r)
reached_fits ram addr Load m a (inl r) = omega (arith, m, r)
reached_fits ram addr Load m a (inr r) = r.1
reached_fits ram addr Store m a (inl r) = omega (arith, m, r)
reached_fits ram addr Store m a (inr r) = r.1
reached_fits ram addr Membar m a r = cc
reached_fits ram addr Flush m a r = cc

size_fits : (size : ℕ) → IsSize size → (1 ≤ size) × (size ≤ 8)
size_fits size (inl e) = (omega (arith, e), omega (arith, e))
size_fits size (inr (inl e)) = (omega (arith, e), omega (arith, e))
size_fits size (inr (inr (inl e))) = (omega (arith, e), omega (arith, e))
size_fits size (inr (inr (inr e))) = (omega (arith, e), omega (arith, e))

is_placed : (h : How) → IsPlaceOf true h → IsPlaced h
is_placed how.Unplaced p = absurd p
is_placed (how.Forward time) p = tt
is_placed (how.Hit time) p = tt
is_placed (how.Commit index seen) p = tt

pub item_has_text : (ram : ℕ) (item : Item) → ram ≤ 2 ^ 40 → IsGoodItem ram item → HasText item
item_has_text ram item most good = record {
  addr = λ a. reached_fits ram item.addr item.kind most a good.reached;
  some = λ a. (size_fits item.size (size_of item.kind item.size a good.size)).0;
  size = λ a. (size_fits item.size (size_of item.kind item.size a good.size)).1;
  got = λ r. subst (λ (b : Bool). IsValueOf b item.size item.got) r good.got;
  put = λ w. subst (λ (b : Bool). IsValueOf b item.size item.put) w good.put;
  placed = λ a. is_placed item.how (subst (λ (b : Bool). IsPlaceOf b item.how) a good.place);
  unplaced = λ n. elim (cases_Bool (is_access item.kind)) [
    | inl a ↦ absurd (n a)
    | inr b ↦ subst (λ (c : Bool). IsPlaceOf c item.how) b good.place
  ];
}

has_ended : (e : Option Ending) → IsGoodEnd e → HasEnded e
has_ended None g = absurd g
has_ended (Some Halted) g = tt
has_ended (Some Spent) g = tt
has_ended (Some (Fault number)) g = omega (arith, g)

evicted_fits : (e : Option ℕ) → IsGoodEvicted e → IsEvictedAddress e
evicted_fits None g = tt
evicted_fits (Some addr) g = g

pub is_printable : (report : Report) → IsWellFormed report → IsPrintableReport report
is_printable report w =
    let limits = and_parts _ _ (and_parts _ _ w.limits).1 in
    let cores : report.config.cores ≤ 8 = leb-true _ _ (and_parts _ _ limits.0).1 in
    let rest = and_parts _ _ limits.1 in
    let strands : report.config.strands ≤ 4 = leb-true _ _ (and_parts _ _ rest.0).1 in
    let count : report.config.cores * report.config.strands ≤ 8 * 4 = mul-le-mul cores strands in
    let memory = and_parts _ _ (and_parts _ _ (and_parts _ _ rest.1).0).1 in
    let most : report.config.ram ≤ 268435456 = leb-true _ _ memory.0 in
    let pages : report.config.ram % 65536 ≡ 0 = eqb-true _ _ memory.1 in
    record {
      entry = w.entry;
      blocks = omega (arith, w.image, pages);
      image = omega (arith, w.image, most);
      traces = λ k d l. (
          let good = w.traces k d l in
          record {
            items = λ n item m. item_has_text report.config.ram _ (omega (arith, most)) (good.items n item m);
            count = good.count;
            ended = has_ended _ good.ended;
          }
          );
      number = w.number;
      strands = omega (arith, w.number, count);
      log = λ k d l. (
          let good = w.log k (get_or report.log k d) (slice_get-get_or report.log k d l) in
          record { evicted = evicted_fits _ good.evicted; kills = good.few }
          );
      commits = w.commits;
    }

pub has_log : (report : Report) → IsWellFormed report → HasLog report
has_log report w = record { printable = is_printable report w; first = (and_parts _ _ w.limits).0 }
