-- Two reports of one text, part by part.
use Rattle.std.proofs.Common.{◌≡◌, ℕ, ◌*◌, ◌^◌, ◌<◌, List, ◌++◌, length, drop, All, codes, refl, sym, ap, subst, ◌∙◌, arith}
use Rattle.t1_event.specs.declared.item.Item.{Item}
use Rattle.t1_event.specs.declared.report.Config.{Config}
use Rattle.t1_event.specs.declared.report.Place.{Place}
use Rattle.t1_event.specs.declared.report.Report.{Report}
use Rattle.t1_event.specs.declared.trace.Trace.{Trace}
use Rattle.t1_event.specs.Items.{items_of}
use Rattle.t1_event.specs.Printable.{FitsDigits}
use Rattle.t1_log.specs.Lines.{config_line_of, entry_line_of, place_line_of, end_line}
use Rattle.t1_log.specs.Texts.{image_lines_of}
use Rattle.t1_log.specs.Log.{version_line, trace_lines_of, commit_line_of, text_of}
use Rattle.t1_read.specs.Exact.{NextIsNot, HasBytes}
use Rattle.t1_take.specs.Items.{IsGoodTrace}
use Rattle.t1_take.specs.WellFormed.{AreGoodCommits, IsNamed, IsGoodPlace, IsWellFormed}
use Rattle.t1_take.proofs.HeadTexts.{CanBeNamed, numbers_small}
use Rattle.t1_read.proofs.Printed.{is_printable}
use Rattle.t1_take.proofs.Leaving.{place_first, commit_first}
use Rattle.t1_read.proofs.ReportsFound.{after_order, after_log, after_traces, after_image, text_parts, after_console_next, after_order_next, after_log_next, after_image_next, ram_small, named_all}
use Rattle.t1_read.proofs.Whole.{head_parts}
use Rattle.t1_one_text.proofs.Fields.{same_front, number_cut, digits_cut}
use Rattle.t1_one_text.proofs.Lists.{each_all, each_numbered, each_both, lists_cut, counted_cut}
use Rattle.t1_one_text.proofs.Strands.{traces_cut}
use Rattle.t1_one_text.proofs.Commits.{IsCommit, commits_cut, order_cut}
use Rattle.t1_one_text.proofs.Images.{images_cut}
use Rattle.t1_one_text.proofs.Bytes.{console_cut}

-- ---- the machine and the entry

abbrev after_entry : Report → List ℕ
after_entry report = image_lines_of report.image.ram ++ after_image report

abbrev after_config : Report → List ℕ
after_config report = entry_line_of report.image.entry ++ after_entry report

abbrev after_version : Report → List ℕ
after_version report = config_line_of report.config ++ after_config report

parts_of : (report : Report) → text_of report ≡ version_line ++ after_version report
parts_of report = text_parts report ∙ head_parts report.config report.image (after_image report)

pub config_cut : (a b : Config) (x y : List ℕ) → CanBeNamed a → CanBeNamed b → config_line_of a ++ x ≡ config_line_of b ++ y → (a ≡ b) × (x ≡ y)
unfolding config_line_of
config_cut a b x y f g e =
    let wide : (n : ℕ) → n < 2 ^ 32 → n < 2 ^ 64 = λ n l. omega (arith, l) in
    let cores = number_cut a.cores b.cores _ _ x y (wide a.cores f.cores) (wide b.cores g.cores) refl refl (ap (drop 13) e) in
    let strands = number_cut a.strands b.strands _ _ x y (wide a.strands f.strands) (wide b.strands g.strands) refl refl (ap (drop 9) cores.1) in
    let ram = number_cut a.ram b.ram _ _ x y (wide a.ram f.ram) (wide b.ram g.ram) refl refl (ap (drop 5) strands.1) in
    let sets = number_cut a.sets b.sets _ _ x y (wide a.sets f.sets) (wide b.sets g.sets) refl refl (ap (drop 6) ram.1) in
    let budget = number_cut a.budget b.budget (codes "\n") (codes "\n") x y (wide a.budget f.budget) (wide b.budget g.budget) refl refl (ap (drop 8) sets.1) in
    (λ i. record { chip = (f.first.chip ∙ sym g.first.chip) i; hyper = (f.first.hyper ∙ sym g.first.hyper) i; cores = cores.0 i; strands = strands.0 i; ram = ram.0 i; sets = sets.0 i; budget = budget.0 i }, ap (drop 1) budget.1)

pub entry_cut : (a b : ℕ) (x y : List ℕ) → FitsDigits 10 a → FitsDigits 10 b → entry_line_of a ++ x ≡ entry_line_of b ++ y → (a ≡ b) × (x ≡ y)
unfolding entry_line_of
entry_cut a b x y l m e = (let cut = digits_cut 10 a b (codes "\n") (codes "\n") x y l m (ap (drop 6) e) in (cut.0, ap (drop 1) cut.1))

-- ---- part by part

pub record SameHead (one other : Report) : Type 0 where
  pub config : one.config ≡ other.config
  pub image : one.image ≡ other.image
  pub rest : after_image one ≡ after_image other

heads_same : (one other : Report) → IsWellFormed one → HasBytes one → IsWellFormed other → HasBytes other → text_of one ≡ text_of other → SameHead one other
heads_same one other w b v c e =
    let versions = same_front version_line (after_version one) (after_version other) (sym (parts_of one) ∙ (e ∙ parts_of other)) in
    let config = config_cut one.config other.config (after_config one) (after_config other) (numbers_small one.config w.limits) (numbers_small other.config v.limits) versions in
    let entry = entry_cut one.image.entry other.image.entry (after_entry one) (after_entry other) w.entry v.entry config.1 in
    let printable = is_printable one w in
    let length_is : length one.image.ram ≡ length other.image.ram = w.image ∙ (ap (λ (k : Config). k.ram) config.0 ∙ sym v.image) in
    let image = images_cut one.image.ram other.image.ram (after_image one) (after_image other) length_is printable.blocks printable.image b.image c.image
    (after_image_next one w) (after_image_next other v) entry.1 in
    record { config = config.0; image = λ i. record { entry = entry.0 i; ram = image.0 i }; rest = image.1 }

pub record SameTraces (one other : Report) : Type 0 where
  pub traces : one.traces ≡ other.traces
  pub rest : after_traces one ≡ after_traces other

traces_same : (one other : Report) → IsWellFormed one → IsWellFormed other → SameHead one other → SameTraces one other
traces_same one other w v h =
    let ram : ℕ = one.config.ram in
    let number : length one.traces ≡ length other.traces = w.number ∙ (ap (λ (k : Config). k.cores * k.strands) h.config ∙ sym v.number) in
    let others = subst (λ (k : ℕ). All (IsGoodTrace k) other.traces) (ap (λ (k : Config). k.ram) (sym h.config)) v.traces in
    let cut = counted_cut trace_lines_of (λ (k : ℕ) (t : Trace). IsGoodTrace ram t) (traces_cut ram (ram_small one w)) 0 one.traces other.traces (after_traces one) (after_traces other)
    (each_all (IsGoodTrace ram) 0 one.traces w.traces) (each_all (IsGoodTrace ram) 0 other.traces others) number h.rest in
    record { traces = cut.0; rest = cut.1 }

pub record SameLog (one other : Report) : Type 0 where
  pub log : one.log ≡ other.log
  pub rest : after_log one ≡ after_log other

log_same : (one other : Report) → IsWellFormed one → IsWellFormed other → SameHead one other → SameTraces one other → SameLog one other
log_same one other w v h t =
    let cores : ℕ = one.config.cores in
    let traces : List (List Item) = items_of one.traces in
    let others = subst (λ (k : ℕ). AreGoodCommits k traces other.log) (ap (λ (k : Config). k.cores) (sym h.config))
    (subst (λ (ts : List (List Item)). AreGoodCommits other.config.cores ts other.log) (ap items_of (sym t.traces)) v.log) in
    let cut = lists_cut commit_line_of (IsCommit cores traces) (NextIsNot 99) (commits_cut cores traces (numbers_small one.config w.limits).cores) (λ n commit x s. s.other (commit_first n commit x)) 0 one.log other.log
    (after_log one) (after_log other)
    (each_both _ _ 0 one.log (each_numbered _ one.log w.log) (each_all IsNamed 0 one.log (named_all one w)))
    (each_both _ _ 0 other.log (each_numbered _ other.log others) (each_all IsNamed 0 other.log (named_all other v)))
    (after_log_next one) (after_log_next other) t.rest in
    record { log = cut.0; rest = cut.1 }

pub record SameOrder (one other : Report) : Type 0 where
  pub order : one.order ≡ other.order
  pub rest : after_order one ≡ after_order other

order_same : (one other : Report) → IsWellFormed one → IsWellFormed other → SameHead one other → SameLog one other → SameOrder one other
order_same one other w v h l =
    let strands : ℕ = one.config.cores * one.config.strands in
    let number = w.number in
    let most = (is_printable one w).strands in
    let few : strands < 2 ^ 32 = omega (arith, number, most) in
    let others = subst (λ (k : Config). All (IsGoodPlace (k.cores * k.strands)) other.order) (sym h.config) v.order in
    let cut = lists_cut (λ (n : ℕ) (place : Place). place_line_of place) (λ (n : ℕ) (place : Place). IsGoodPlace strands place) (NextIsNot 111) (order_cut strands few)
    (λ n place x s. s.other (place_first place x)) 0 one.order other.order (after_order one) (after_order other)
    (each_all (IsGoodPlace strands) 0 one.order w.order) (each_all (IsGoodPlace strands) 0 other.order others) (after_order_next one) (after_order_next other) l.rest in
    record { order = cut.0; rest = cut.1 }

pub one_report : (one other : Report) → IsWellFormed one → HasBytes one → IsWellFormed other → HasBytes other → text_of one ≡ text_of other → one ≡ other
one_report one other w b v c e =
    let head = heads_same one other w b v c e in
    let traces = traces_same one other w v head in
    let log = log_same one other w v head traces in
    let order = order_same one other w v head log in
    let console = console_cut one.console other.console end_line end_line b.console c.console after_console_next after_console_next order.rest in
    λ i. record { config = head.config i; image = head.image i; traces = traces.traces i; log = log.log i; order = order.order i; console = console i }
