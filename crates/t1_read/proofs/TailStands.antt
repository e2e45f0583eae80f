-- Where the reader of a log stands behind the commits, behind the memory order and behind the console.
use Rattle.std.proofs.Common.{◌≡◌, ℕ, zero, suc, ◌*◌, ◌%◌, ◌<◌, ◌≤◌, ◌++◌, List, [], ◌∷◌, length, drop, get_or, slice_index, All, refl, sym, ap, subst, ◌∙◌, append_assoc, append-nil, inr, arith}
use Rattle.std.proofs.lemmas.List.{length-append}
use Rattle.t1_num.specs.MemoryLaws.{AreBytes}
use Rattle.t1_elf.specs.declared.object.Image.{Image}
use Rattle.t1_event.specs.declared.trace.Trace.{Trace}
use Rattle.t1_event.specs.declared.commit.Commit.{Commit}
use Rattle.t1_event.specs.declared.report.Config.{Config}
use Rattle.t1_event.specs.declared.report.Place.{Place}
use Rattle.t1_event.specs.Items.{items_of}
use Rattle.t1_log.specs.Log.{version_line, item_line_of, trace_lines_of, commit_line_of, console_lines_of}
use Rattle.t1_log.specs.Texts.{lines_from, blocks_from, head_lines_of, order_lines_of}
use Rattle.t1_line_forms.specs.declared.line.Line.TheVariants as line
use Rattle.t1_take.specs.Taken.{Reads}
use Rattle.t1_take.specs.WellFormed.{AreGoodCommits, IsGoodPlace}
use Rattle.t1_take.proofs.Leaving.{peeked}
use Rattle.t1_read.specs.Faults.{text_so_far}
use Rattle.t1_read.specs.Standing.{Stands, IsPast, so_far, HasStrands, HasCommits, HasOrder, HasConsole}

-- ---- texts

-- a piece that was read is one of the lines so far
further : (text before piece after : List ℕ) (a b : ℕ) → text ≡ before ++ drop a text → Reads text a b piece → after ≡ before ++ piece → text ≡ after ++ drop b text
further text before piece after a b e r is = e ∙ (ap (λ (t : List ℕ). before ++ t) r ∙ (sym (append_assoc before piece (drop b text)) ∙ ap (λ (t : List ℕ). t ++ drop b text) (sym is)))

nested : (h t i x y : List ℕ) → (h ++ (t ++ (i ++ x))) ++ y ≡ h ++ (t ++ (i ++ (x ++ y)))
nested h t i x y = append_assoc h (t ++ (i ++ x)) y ∙ ap (λ (z : List ℕ). h ++ z) (append_assoc t (i ++ x) y ∙ ap (λ (z : List ℕ). t ++ z) (append_assoc i x y))

-- the lines so far, and behind those of the strands these
abbrev with_tail : Config → Image → List Trace → List ℕ → List ℕ
with_tail config image traces tail =
    head_lines_of version_line config image ++ (lines_from trace_lines_of 0 traces ++ (lines_from (item_line_of (length traces)) 0 [] ++ tail))

-- one piece more behind those of the strands
longer_tail : (config : Config) (image : Image) (traces : List Trace) (tail piece all : List ℕ) → all ≡ tail ++ piece → with_tail config image traces all ≡ with_tail config image traces tail ++ piece
longer_tail config image traces tail piece all e =
    ap (with_tail config image traces) e
    ∙ sym (nested (head_lines_of version_line config image) (lines_from trace_lines_of 0 traces) (lines_from (item_line_of (length traces)) 0 []) tail piece)

log_text : (config : Config) (image : Image) (traces : List Trace) (log : List Commit)
    → text_so_far (so_far config image traces [] log [] []) ≡ text_so_far (so_far config image traces [] [] [] []) ++ lines_from commit_line_of 0 log
unfolding lines_from blocks_from
log_text config image traces log =
    let lines : List ℕ = lines_from commit_line_of 0 log in
    longer_tail config image traces [] lines (lines ++ []) (append-nil lines)

order_text : (config : Config) (image : Image) (traces : List Trace) (log : List Commit) (order : List Place)
    → text_so_far (so_far config image traces [] log order []) ≡ text_so_far (so_far config image traces [] log [] []) ++ order_lines_of order
unfolding lines_from blocks_from
order_text config image traces log order =
    let lines : List ℕ = lines_from commit_line_of 0 log in
    let places : List ℕ = order_lines_of order in
    longer_tail config image traces (lines ++ []) places (lines ++ (places ++ []))
    (ap (λ (t : List ℕ). lines ++ t) (append-nil places) ∙ ap (λ (t : List ℕ). t ++ places) (sym (append-nil lines)))

console_text : (config : Config) (image : Image) (traces : List Trace) (log : List Commit) (order : List Place) (console : List ℕ)
    → text_so_far (so_far config image traces [] log order console) ≡ text_so_far (so_far config image traces [] log order []) ++ console_lines_of console
unfolding lines_from blocks_from
console_text config image traces log order console =
    let lines : List ℕ = lines_from commit_line_of 0 log in
    let places : List ℕ = order_lines_of order in
    let runs : List ℕ = console_lines_of console in
    longer_tail config image traces (lines ++ (places ++ [])) runs (lines ++ (places ++ runs))
    (ap (λ (t : List ℕ). lines ++ (t ++ runs)) (sym (append-nil places)) ∙ sym (append_assoc lines (places ++ []) runs))

-- ---- places

pub log_stands : (text : List ℕ) (a b cores : ℕ) (config : Config) (image : Image) (traces : List Trace) (log : List Commit)
    → HasStrands text a config image traces → cores ≡ config.cores → AreGoodCommits cores (items_of traces) log → Reads text a b (lines_from commit_line_of 0 log) → Stands text b (so_far config image traces [] log [] [])
log_stands text a b cores config image traces log h e good r =
    let so = h.stands.good in
    let log_is : AreGoodCommits config.cores (items_of traces) log = subst (λ (n : ℕ). AreGoodCommits n (items_of traces) log) e good in
    record {
      good = record { limits = so.limits; entry = so.entry; image = so.image; bytes = so.bytes; traces = so.traces; items_are = so.items_are; log = log_is; order = so.order; console = so.console; turn = inr (h.all, refl) };
      reads = further text _ _ _ a b h.stands.reads r (log_text config image traces log);
    }

pub order_stands : (text : List ℕ) (a b strands : ℕ) (config : Config) (image : Image) (traces : List Trace) (log : List Commit) (order : List Place)
    → HasCommits text a config image traces log → strands ≡ config.cores * config.strands → All (IsGoodPlace strands) order → Reads text a b (order_lines_of order) → Stands text b (so_far config image traces [] log order [])
order_stands text a b strands config image traces log order h e good r =
    let so = h.stands.good in
    let order_is : All (IsGoodPlace (config.cores * config.strands)) order = subst (λ (n : ℕ). All (IsGoodPlace n) order) e good in
    record {
      good = record { limits = so.limits; entry = so.entry; image = so.image; bytes = so.bytes; traces = so.traces; items_are = so.items_are; log = so.log; order = order_is; console = so.console; turn = inr (h.all, refl) };
      reads = further text _ _ _ a b h.stands.reads r (order_text config image traces log order);
    }

pub console_stands : (text : List ℕ) (a b : ℕ) (config : Config) (image : Image) (traces : List Trace) (log : List Commit) (order : List Place) (console : List ℕ)
    → HasOrder text a config image traces log order → AreBytes console → Reads text a b (console_lines_of console) → Stands text b (so_far config image traces [] log order console)
console_stands text a b config image traces log order console h bytes r =
    let so = h.stands.good in
    record {
      good = record { limits = so.limits; entry = so.entry; image = so.image; bytes = so.bytes; traces = so.traces; items_are = so.items_are; log = so.log; order = so.order; console = bytes; turn = inr (h.all, refl) };
      reads = further text _ _ _ a b h.stands.reads r (console_text config image traces log order console);
    }

-- ---- what does not stand next

-- where nothing was read, the same byte stands next
same_next : (text : List ℕ) (a b : ℕ) → drop a text ≡ drop b text → get_or text a 0 ≡ get_or text b 0
same_next text a b e = peeked text a (drop b text) e ∙ sym (peeked text b (drop b text) refl)

same_order : (text : List ℕ) (a b : ℕ) (order : List Place) → Reads text a b (order_lines_of order) → order ≡ [] → get_or text a 0 ≡ get_or text b 0
unfolding lines_from
same_order text a b order r e = same_next text a b (r ∙ ap (λ (xs : List Place). order_lines_of xs ++ drop b text) e)

same_console : (text : List ℕ) (a b : ℕ) (console : List ℕ) → Reads text a b (console_lines_of console) → console ≡ [] → get_or text a 0 ≡ get_or text b 0
unfolding lines_from blocks_from
same_console text a b console r e = same_next text a b (r ∙ ap (λ (xs : List ℕ). console_lines_of xs ++ drop b text) e)

-- no commit stands behind a place of the order, nor where none was read
pub order_past : (text : List ℕ) (a b : ℕ) (config : Config) (image : Image) (traces : List Trace) (log : List Commit) (order : List Place)
    → HasCommits text a config image traces log → Reads text a b (order_lines_of order) → IsPast text b (so_far config image traces [] log order []) 99
order_past text a b config image traces log order h r line.Config f l byte = absurd f
order_past text a b config image traces log order h r line.Entry f l byte = absurd f
order_past text a b config image traces log order h r line.Block f l byte = absurd (omega (arith, l))
order_past text a b config image traces log order h r (line.Item strand number) f l byte = absurd (omega (arith, l))
order_past text a b config image traces log order h r (line.End strand) f l byte = absurd (omega (arith, l))
order_past text a b config image traces log order h r (line.Commit index) f l byte = h.past (line.Commit index) (f.0, f.1, refl, refl) refl (same_order text a b order r f.2 ∙ byte)
order_past text a b config image traces log order h r line.Order f l byte = absurd (omega (arith, l))
order_past text a b config image traces log order h r line.Console f l byte = absurd (omega (arith, l))
order_past text a b config image traces log order h r line.Last f l byte = absurd (omega (arith, l))

-- neither a commit nor a place of the order stands behind the console, nor where none was read
pub console_past_log : (text : List ℕ) (a b : ℕ) (config : Config) (image : Image) (traces : List Trace) (log : List Commit) (order : List Place) (console : List ℕ)
    → HasOrder text a config image traces log order → Reads text a b (console_lines_of console) → IsPast text b (so_far config image traces [] log order console) 99
console_past_log text a b config image traces log order console h r line.Config f l byte = absurd f
console_past_log text a b config image traces log order console h r line.Entry f l byte = absurd f
console_past_log text a b config image traces log order console h r line.Block f l byte = absurd (omega (arith, l))
console_past_log text a b config image traces log order console h r (line.Item strand number) f l byte = absurd (omega (arith, l))
console_past_log text a b config image traces log order console h r (line.End strand) f l byte = absurd (omega (arith, l))
console_past_log text a b config image traces log order console h r (line.Commit index) f l byte =
    h.past_log (line.Commit index) (f.0, f.1, f.2, refl) refl (same_console text a b console r f.3 ∙ byte)
console_past_log text a b config image traces log order console h r line.Order f l byte = absurd (omega (arith, l))
console_past_log text a b config image traces log order console h r line.Console f l byte = absurd (omega (arith, l))
console_past_log text a b config image traces log order console h r line.Last f l byte = absurd (omega (arith, l))

pub console_past_order : (text : List ℕ) (a b : ℕ) (config : Config) (image : Image) (traces : List Trace) (log : List Commit) (order : List Place) (console : List ℕ)
    → HasOrder text a config image traces log order → Reads text a b (console_lines_of console) → IsPast text b (so_far config image traces [] log order console) 111
console_past_order text a b config image traces log order console h r line.Config f l byte = absurd f
console_past_order text a b config image traces log order console h r line.Entry f l byte = absurd f
console_past_order text a b config image traces log order console h r line.Block f l byte = absurd (omega (arith, l))
console_past_order text a b config image traces log order console h r (line.Item strand number) f l byte = absurd (omega (arith, l))
console_past_order text a b config image traces log order console h r (line.End strand) f l byte = absurd (omega (arith, l))
console_past_order text a b config image traces log order console h r (line.Commit index) f l byte = absurd (omega (arith, l))
console_past_order text a b config image traces log order console h r line.Order f l byte = h.past line.Order (f.0, refl) refl (same_console text a b console r f.1 ∙ byte)
console_past_order text a b config image traces log order console h r line.Console f l byte = absurd (omega (arith, l))
console_past_order text a b config image traces log order console h r line.Last f l byte = absurd (omega (arith, l))

-- no bytes stand behind a short line of the console
pub short_past : (text : List ℕ) (at : ℕ) (config : Config) (image : Image) (traces : List Trace) (log : List Commit) (order : List Place) (console : List ℕ)
    → 1 ≤ length console % 32 → IsPast text at (so_far config image traces [] log order console) 107
short_past text at config image traces log order console short line.Config f l byte = absurd f
short_past text at config image traces log order console short line.Entry f l byte = absurd f
short_past text at config image traces log order console short line.Block f l byte = absurd (omega (arith, l))
short_past text at config image traces log order console short (line.Item strand number) f l byte = absurd (omega (arith, l))
short_past text at config image traces log order console short (line.End strand) f l byte = absurd (omega (arith, l))
short_past text at config image traces log order console short (line.Commit index) f l byte = absurd (omega (arith, l))
short_past text at config image traces log order console short line.Order f l byte = absurd (omega (arith, l))
short_past text at config image traces log order console short line.Console f l byte = absurd (let whole = f.1 in omega (arith, whole, short))
short_past text at config image traces log order console short line.Last f l byte = absurd (omega (arith, l))

-- ---- parts

pub log_leads : (text : List ℕ) (a b cores : ℕ) (config : Config) (image : Image) (traces : List Trace) (log : List Commit)
    → HasStrands text a config image traces → cores ≡ config.cores → AreGoodCommits cores (items_of traces) log → Reads text a b (lines_from commit_line_of 0 log) → (get_or text b 0 ≡ 99 → ⊥)
    → HasCommits text b config image traces log
log_leads text a b cores config image traces log h e good r other = record {
  stands = log_stands text a b cores config image traces log h e good r;
  all = h.all;
  past = λ kind f l byte. other byte;
}

pub order_leads : (text : List ℕ) (a b strands : ℕ) (config : Config) (image : Image) (traces : List Trace) (log : List Commit) (order : List Place)
    → HasCommits text a config image traces log → strands ≡ config.cores * config.strands → All (IsGoodPlace strands) order → Reads text a b (order_lines_of order) → (get_or text b 0 ≡ 111 → ⊥)
    → HasOrder text b config image traces log order
order_leads text a b strands config image traces log order h e good r other = record {
  stands = order_stands text a b strands config image traces log order h e good r;
  all = h.all;
  past_log = order_past text a b config image traces log order h r;
  past = λ kind f l byte. other byte;
}

pub console_leads : (text : List ℕ) (a b : ℕ) (config : Config) (image : Image) (traces : List Trace) (log : List Commit) (order : List Place) (console : List ℕ)
    → HasOrder text a config image traces log order → AreBytes console → Reads text a b (console_lines_of console) → IsPast text b (so_far config image traces [] log order console) 107
    → HasConsole text b config image traces log order console
console_leads text a b config image traces log order console h bytes r past = record {
  stands = console_stands text a b config image traces log order console h bytes r;
  all = h.all;
  past_log = console_past_log text a b config image traces log order console h r;
  past_order = console_past_order text a b config image traces log order console h r;
  past = past;
}

-- ---- bytes of the console

bytes_none : (i : ℕ) → slice_index [] i < 256
bytes_none zero = omega arith
bytes_none (suc i) = omega arith

pub no_bytes_are : (xs : List ℕ) → xs ≡ [] → AreBytes xs
no_bytes_are xs e = subst AreBytes (sym e) bytes_none

both_are : (xs ys : List ℕ) → AreBytes xs → AreBytes ys → AreBytes (xs ++ ys)
both_are [] ys a b i = b i
both_are (x ∷ xs) ys a b zero = a 0
both_are (x ∷ xs) ys a b (suc i) = both_are xs ys (λ k. a (suc k)) b i

pub more_bytes_are : (xs ys longer : List ℕ) → AreBytes xs → AreBytes ys → longer ≡ xs ++ ys → AreBytes longer
more_bytes_are xs ys longer a b e = subst AreBytes (sym e) (both_are xs ys a b)

-- a line that is not full ends the console
pub short_more : (bytes bs longer : List ℕ) (count : ℕ) → length bytes % 32 ≡ 0 → 1 ≤ length bs → length bs ≤ 32 → longer ≡ bytes ++ bs → count ≡ length bs → (count ≡ 32 → ⊥) → 1 ≤ length longer % 32
short_more bytes bs longer count whole some few is n other = omega (arith, ap length is ∙ length-append bytes bs, n, other, whole, some, few)
