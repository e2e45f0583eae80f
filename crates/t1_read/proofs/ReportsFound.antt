-- The log of a report that stands in a text, part by part.
use Rattle.std.proofs.Common.{◌≡◌, ℕ, zero, suc, ◌+◌, ◌*◌, ◌^◌, ◌<◌, ◌≤◌, List, [], ◌∷◌, ◌++◌, length, get_or, Option, Some, None, refl, sym, ap, subst, ◌∙◌, append_assoc, arith}
use Rattle.std.specs.Prelude.{All, IsTrue}
use Rattle.std.specs.List.{slice_get}
use Rattle.std.proofs.lemmas.Bool.{and_parts, leb-true}
use Rattle.std.proofs.lemmas.Option.{slice_get_within, slice_get-get_or}
use Rattle.std.proofs.Math.Nat.{mul-le-mul}
use Rattle.t1_event.specs.declared.item.Item.{Item}
use Rattle.t1_event.specs.declared.trace.Trace.{Trace}
use Rattle.t1_event.specs.declared.report.Config.{Config}
use Rattle.t1_event.specs.declared.commit.Commit.{Commit}
use Rattle.t1_event.specs.declared.report.Report.{Report}
use Rattle.t1_event.specs.Items.{items_of}
use Rattle.t1_log.specs.Lines.{place_line_of, ending_line_of, end_line}
use Rattle.t1_log.specs.Texts.{lines_from, head_lines_of, order_lines_of}
use Rattle.t1_log.specs.Log.{version_line, item_line_of, trace_lines_of, commit_line_of, console_line_of, console_lines_of, text_of}
use Rattle.t1_take.specs.Items.{IsGoodTrace}
use Rattle.t1_read.specs.Exact.{NextIsNot}
use Rattle.t1_read.specs.Standing.{IsGoodHead, IsGoodTail}
use Rattle.t1_take.specs.Limits.{is_in_limits}
use Rattle.t1_take.specs.WellFormed.{AreGoodCommits, IsNamed, IsWellFormed}
use Rattle.t1_take.proofs.Leaving.{place_some, place_first, item_some, item_first}
use Rattle.t1_read.proofs.StrandsFound.{has_ended, trace_is, end_some, end_first}
use Rattle.t1_take.proofs.HeadTexts.{numbers_small}

-- ---- what follows each part

abbrev pub after_order : Report → List ℕ
after_order report = console_lines_of report.console ++ end_line

abbrev pub after_log : Report → List ℕ
after_log report = order_lines_of report.order ++ after_order report

abbrev pub after_traces : Report → List ℕ
after_traces report = lines_from commit_line_of 0 report.log ++ after_log report

abbrev pub after_image : Report → List ℕ
after_image report = lines_from trace_lines_of 0 report.traces ++ after_traces report

pub text_parts : (report : Report) → text_of report ≡ head_lines_of version_line report.config report.image ++ after_image report
unfolding text_of
text_parts report = refl

-- ---- how it begins

lines_next : {A : Type 0} (line : ℕ → A → List ℕ) (byte n : ℕ) (all : List A) (rest : List ℕ) → ((k : ℕ) (x : A) (r : List ℕ) → NextIsNot byte (line k x ++ r)) → NextIsNot byte rest
    → NextIsNot byte (lines_from line n all ++ rest)
unfolding lines_from
lines_next line byte n [] rest each after = after
lines_next line byte n (x ∷ xs) rest each after =
    subst (λ (t : List ℕ). NextIsNot byte t) (sym (append_assoc (line n x) (lines_from line (n + 1) xs) rest)) (each n x (lines_from line (n + 1) xs ++ rest))

front_next : (byte first : ℕ) (piece rest : List ℕ) → 0 < length piece → get_or (piece ++ rest) 0 0 ≡ first → (first ≡ byte → ⊥) → NextIsNot byte (piece ++ rest)
front_next byte first [] rest some f other = absurd (omega (arith, some))
front_next byte first (x ∷ piece) rest some f other = record { some = omega arith; other = λ e. other (sym f ∙ e) }

end_next : (byte : ℕ) → (101 ≡ byte → ⊥) → NextIsNot byte end_line
end_next byte other = record { some = omega arith; other = other }

console_at : (n : ℕ) (bytes rest : List ℕ) → get_or (console_line_of n bytes ++ rest) 0 0 ≡ 107
unfolding console_line_of
console_at n bytes rest = refl

console_long : (n : ℕ) (bytes : List ℕ) → 0 < length (console_line_of n bytes)
unfolding console_line_of
console_long n bytes = omega arith

pub after_console_next : NextIsNot 107 end_line
after_console_next = end_next 107 (λ e. omega (arith, e))

order_next : (byte : ℕ) (report : Report) → (101 ≡ byte → ⊥) → (107 ≡ byte → ⊥) → NextIsNot byte (after_order report)
order_next byte report p q =
    lines_next console_line_of byte 0 _ end_line (λ n x r. front_next byte 107 (console_line_of n x) r (console_long n x) (console_at n x r) q) (end_next byte p)

pub after_order_next : (report : Report) → NextIsNot 111 (after_order report)
after_order_next report = order_next 111 report (λ e. omega (arith, e)) (λ e. omega (arith, e))

log_next : (byte : ℕ) (report : Report) → (101 ≡ byte → ⊥) → (107 ≡ byte → ⊥) → (111 ≡ byte → ⊥) → NextIsNot byte (after_log report)
log_next byte report p q o =
    lines_next (λ number place. place_line_of place) byte 0 report.order (after_order report) (λ n x r. front_next byte 111 (place_line_of x) r (place_some x) (place_first x r) o) (order_next byte report p q)

pub after_log_next : (report : Report) → NextIsNot 99 (after_log report)
after_log_next report = log_next 99 report (λ e. omega (arith, e)) (λ e. omega (arith, e)) (λ e. omega (arith, e))

first_next : (t : Trace) (ts : List Trace) (ram : ℕ) (rest : List ℕ) → IsGoodTrace ram t → NextIsNot 109 (lines_from trace_lines_of 0 (t ∷ ts) ++ rest)
unfolding lines_from
first_next t ts ram rest good =
    let end = has_ended t.ending good.ended in
    let more : List ℕ = lines_from trace_lines_of (0 + 1) ts in
    let last : List ℕ = ending_line_of 0 end.ending t.units t.pc in
    let items : List ℕ = lines_from (item_line_of 0) 0 t.items in
    let is : (items ++ last) ++ (more ++ rest) ≡ (trace_lines_of 0 t ++ more) ++ rest =
    ap (λ (x : List ℕ). x ++ (more ++ rest)) (sym (trace_is 0 t end.ending end.is)) ∙ sym (append_assoc (trace_lines_of 0 t) more rest) in
    subst (λ (x : List ℕ). NextIsNot 109 x) (sym (append_assoc items last (more ++ rest)) ∙ is)
    (lines_next (item_line_of 0) 109 0 t.items (last ++ (more ++ rest)) (λ n x r. front_next 109 105 (item_line_of 0 n x) r (item_some 0 n x) (item_first 0 n x r) (λ e. omega (arith, e)))
    (front_next 109 101 last (more ++ rest) (end_some 0 end.ending t.units t.pc) (end_first 0 end.ending t.units t.pc (more ++ rest)) (λ e. omega (arith, e))))

pub traces_next : (traces : List Trace) (ram : ℕ) (rest : List ℕ) → All (IsGoodTrace ram) traces → 0 < length traces → NextIsNot 109 (lines_from trace_lines_of 0 traces ++ rest)
traces_next [] ram rest good some = absurd (omega (arith, some))
traces_next (t ∷ ts) ram rest good some = first_next t ts ram rest (good 0 t (omega arith))

pub after_image_next : (report : Report) → IsWellFormed report → NextIsNot 109 (after_image report)
after_image_next report w =
    let limits = and_parts _ _ (and_parts _ _ w.limits).1 in
    let cores : 1 ≤ report.config.cores = leb-true _ _ (and_parts _ _ limits.0).0 in
    let strands : 1 ≤ report.config.strands = leb-true _ _ (and_parts _ _ (and_parts _ _ limits.1).0).0 in
    let some : 1 * 1 ≤ report.config.cores * report.config.strands = mul-le-mul cores strands in
    let number = w.number in
    traces_next report.traces report.config.ram (after_traces report) w.traces (omega (arith, number, some))

-- ---- numbers

pub ram_small : (report : Report) → IsWellFormed report → report.config.ram ≤ 2 ^ 40
ram_small report w = (let numbers = numbers_small report.config w.limits in let ram = numbers.ram in omega (arith, ram))

-- an item that stands in the lists of the traces stands in one of them
there : (traces : List Trace) (s k : ℕ) (x : Item) → slice_get (get_or (items_of traces) s []) k ≡ Some x → (trace : Trace) × (slice_get traces s ≡ Some trace) × (slice_get trace.items k ≡ Some x)
there [] zero k x e = let clash : ◌≡◌ {A = Option Item} None (Some x) = e in cc
there [] (suc s) k x e = let clash : ◌≡◌ {A = Option Item} None (Some x) = e in cc
there (t ∷ traces) zero k x e = (t, refl, e)
there (t ∷ traces) (suc s) k x e = there traces s k x e

at_of : {A : Type 0} (P : A → Type 0) (xs : List A) (k : ℕ) (x : A) → All P xs → slice_get xs k ≡ Some x → P x
at_of P [] k x a e = let clash : ◌≡◌ {A = Option _} None (Some x) = e in cc
at_of P (y ∷ xs) zero x a e = let same : y ≡ x = cc (e) in subst P same (a 0 x (omega arith))
at_of P (y ∷ xs) (suc k) x a e = at_of P xs k x (λ j d l. a (suc j) d (omega (arith, l))) e

-- commits name items of traces, of which there are few
pub named_in : (config : Config) (traces : List Trace) (log : List Commit) → IsTrue (is_in_limits config) → length traces ≡ config.cores * config.strands → All (IsGoodTrace config.ram) traces
    → AreGoodCommits config.cores (items_of traces) log → All IsNamed log
named_in config traces log within number all names k d l =
    let good = names k (get_or log k d) (slice_get-get_or log k d l) in
    let at = there traces _ _ good.item good.names in
    let strand = slice_get_within traces _ at.0 at.1 in
    let item = slice_get_within at.0.items _ good.item at.2 in
    let few = (at_of (IsGoodTrace config.ram) traces _ at.0 all at.1).count in
    let limits = and_parts _ _ (and_parts _ _ within).1 in
    let cores : config.cores ≤ 8 = leb-true _ _ (and_parts _ _ limits.0).1 in
    let strands : config.strands ≤ 4 = leb-true _ _ (and_parts _ _ (and_parts _ _ limits.1).0).1 in
    let most : config.cores * config.strands ≤ 8 * 4 = mul-le-mul cores strands in
    record { strand = omega (arith, strand, number, most); item = omega (arith, item, few) }

pub named_all : (report : Report) → IsWellFormed report → All IsNamed report.log
named_all report w = named_in report.config report.traces report.log w.limits w.number w.traces w.log

-- ---- what a report that was found asks of its parts

pub head_good : (report : Report) → IsWellFormed report → IsGoodHead report.config report.image
head_good report w = record { limits = w.limits; entry = w.entry; size = w.image }

pub record AreStrandsOf (report : Report) (config : Config) : Type 0 where
  pub room : config.ram ≤ 2 ^ 40
  pub good : All (IsGoodTrace config.ram) report.traces
  pub number : length report.traces ≡ config.cores * config.strands

pub strands_good : (report : Report) (config : Config) → IsWellFormed report → config ≡ report.config → AreStrandsOf report config
strands_good report config w e =
    subst (AreStrandsOf report) (sym e) (record { room = ram_small report w; good = w.traces; number = w.number })

pub tail_good : (report : Report) (config : Config) (traces : List Trace) → IsWellFormed report → config ≡ report.config → traces ≡ report.traces → IsGoodTail config traces report.log report.order
tail_good report config traces w e f =
    subst (λ (k : Config). IsGoodTail k traces report.log report.order) (sym e)
    (subst (λ (ts : List Trace). IsGoodTail report.config ts report.log report.order) (sym f) (record { log_is = w.log; order_is = w.order }))
