-- Strands that were read stand, and a line of theirs that was refused is the first line at fault.
use Rattle.std.proofs.Common.{◌≡◌, ◌∙◌, ℕ, ◌+◌, ◌*◌, ◌^◌, ◌<◌, ◌≤◌, List, [], ◌∷◌, ◌++◌, length, drop, get_or, All, Some, refl, sym, ap, subst, append_assoc, append-nil, inl, inr, arith}
use Rattle.std.proofs.lemmas.Bool.{cases_lt}
use Rattle.std.proofs.lemmas.List.{length-append}
use Rattle.std.proofs.lemmas.List.Elements.{All-push}
use Rattle.std.proofs.lemmas.Option.{none-some}
use Rattle.t1_elf.specs.declared.object.Image.{Image}
use Rattle.t1_event.specs.declared.item.Item.{Item}
use Rattle.t1_event.specs.declared.trace.Trace.{Trace}
use Rattle.t1_event.specs.declared.trace.Ending.{Ending}
use Rattle.t1_event.specs.declared.report.Config.{Config}
use Rattle.t1_event.specs.declared.report.Report.{Report}
use Rattle.t1_log.specs.Lines.{ending_line_of}
use Rattle.t1_log.specs.Log.{version_line, item_line_of, trace_lines_of}
use Rattle.t1_log.specs.Texts.{lines_from, blocks_from, head_lines_of}
use Rattle.t1_line_forms.specs.declared.line.Line.{Line}
use Rattle.t1_line_forms.specs.declared.line.Line.TheVariants as line
use Rattle.t1_line_forms.specs.Forms.{letter}
use Rattle.t1_take.specs.Taken.{Reads}
use Rattle.t1_take.specs.Items.{IsGoodItem, IsGoodEnd, IsGoodTrace}
use Rattle.t1_take.proofs.HeadTexts.{numbers_small}
use Rattle.t1_take.proofs.ListTexts.{lines_last}
use Rattle.t1_take.proofs.Leaving.{peeked}
use Rattle.t1_read.specs.declared.error.LogError.{LogError}
use Rattle.t1_read.specs.Faults.{Within, text_so_far, IsInRange, IsOpen, MayFollow, NamesFault}
use Rattle.t1_read.specs.Standing.{so_far, Stands, IsPast, IsJudged, HasTraces, HasItems}
use Rattle.t1_read.proofs.Judging.{named, by_letter, at_end}

-- ---- the lines so far

abbrev report_of : Config → Image → List Trace → Report
report_of config image traces = record { config = config; image = image; traces = traces; log = []; order = []; console = [] }

-- the lines before the items of a strand
abbrev front_of : Config → Image → List Trace → List ℕ
front_of config image traces = head_lines_of version_line config image ++ lines_from trace_lines_of 0 traces

traces_text : (config : Config) (image : Image) (traces : List Trace) → text_so_far (so_far config image traces [] [] [] []) ≡ front_of config image traces
unfolding lines_from blocks_from
traces_text config image traces = ap (λ (t : List ℕ). head_lines_of version_line config image ++ t) (append-nil (lines_from trace_lines_of 0 traces))

items_text : (config : Config) (image : Image) (traces : List Trace) (items : List Item)
    → text_so_far (so_far config image traces items [] [] []) ≡ front_of config image traces ++ lines_from (item_line_of (length traces)) 0 items
unfolding lines_from blocks_from
items_text config image traces items =
    let head : List ℕ = head_lines_of version_line config image in
    let strands : List ℕ = lines_from trace_lines_of 0 traces in
    let own : List ℕ = lines_from (item_line_of (length traces)) 0 items in
    ap (λ (t : List ℕ). head ++ (strands ++ t)) (append-nil own) ∙ sym (append_assoc head strands own)

-- the lines of one strand more
more_text : (config : Config) (image : Image) (traces : List Trace) (trace : Trace)
    → front_of config image traces ++ trace_lines_of (length traces) trace ≡ text_so_far (so_far config image (traces ++ trace ∷ []) [] [] [] [])
more_text config image traces trace =
    let head : List ℕ = head_lines_of version_line config image in
    let strands : List ℕ = lines_from trace_lines_of 0 traces in
    let at : 0 + length traces ≡ length traces = omega arith in
    let last : lines_from trace_lines_of 0 (traces ++ trace ∷ []) ≡ strands ++ trace_lines_of (length traces) trace = lines_last trace_lines_of 0 traces trace ∙ ap (λ (n : ℕ). strands ++ trace_lines_of n trace) at in
    append_assoc head strands (trace_lines_of (length traces) trace)
    ∙ (ap (λ (t : List ℕ). head ++ t) (sym last) ∙ sym (traces_text config image (traces ++ trace ∷ [])))

-- what stands before a place, and what a text reads from there on
joined : (text front piece whole so : List ℕ) (a b : ℕ) → text ≡ so ++ drop a text → so ≡ front → Reads text a b piece → front ++ piece ≡ whole → text ≡ whole ++ drop b text
joined text front piece whole so a b s f r w =
    s ∙ (ap (λ (t : List ℕ). t ++ drop a text) f ∙ (ap (λ (t : List ℕ). front ++ t) r ∙ (sym (append_assoc front piece (drop b text)) ∙ ap (λ (t : List ℕ). t ++ drop b text) w)))

items_stand : (text : List ℕ) (a b : ℕ) (config : Config) (image : Image) (traces : List Trace) (items : List Item) → Stands text a (so_far config image traces [] [] [] []) → IsOpen config traces
    → All (IsGoodItem config.ram) items → Reads text a b (lines_from (item_line_of (length traces)) 0 items) → Stands text b (so_far config image traces items [] [] [])
items_stand text a b config image traces items s o all r =
    let g : IsInRange (report_of config image traces) [] = s.good in
    record {
      good = record {
        limits = g.limits;
        entry = g.entry;
        image = g.image;
        bytes = g.bytes;
        traces = g.traces;
        items_are = all;
        log = g.log;
        order = g.order;
        console = g.console;
        turn = inl (o, (refl, refl, refl));
      };
      reads = joined text (front_of config image traces) (lines_from (item_line_of (length traces)) 0 items) _ _ a b s.reads (traces_text config image traces) r (sym (items_text config image traces items));
    }

trace_stands : (text : List ℕ) (a b : ℕ) (config : Config) (image : Image) (traces : List Trace) (trace : Trace) → Stands text a (so_far config image traces [] [] [] []) → IsOpen config traces
    → IsGoodTrace config.ram trace → Reads text a b (trace_lines_of (length traces) trace) → Stands text b (so_far config image (traces ++ trace ∷ []) [] [] [] [])
trace_stands text a b config image traces trace s o good r =
    let g : IsInRange (report_of config image traces) [] = s.good in
    let n = length-append traces (trace ∷ []) in
    record {
      good = record {
        limits = g.limits;
        entry = g.entry;
        image = g.image;
        bytes = g.bytes;
        traces = All-push (IsGoodTrace config.ram) traces trace g.traces good;
        items_are = g.items_are;
        log = λ index commit e. absurd (none-some commit e);
        order = g.order;
        console = g.console;
        turn = elim (cases_lt (length (traces ++ trace ∷ [])) (config.cores * config.strands)) [
          | inl less ↦ inl (less, (refl, refl, refl))
          | inr all ↦ inr (omega (arith, n, o, all), refl)
        ];
      };
      reads = joined text (front_of config image traces) (trace_lines_of (length traces) trace) _ _ a b s.reads (traces_text config image traces) r (more_text config image traces trace);
    }

-- ---- what stands next

-- only a block begins with an m, and it stands before all items and ends
only_block : (report : Report) (items : List Item) (kind : Line) → MayFollow (Within report items) kind → letter kind ≡ 109 → MayFollow (Within report items) line.Block
only_block report items line.Config f e = absurd (omega (arith, e))
only_block report items line.Entry f e = absurd (omega (arith, e))
only_block report items line.Block f e = f
only_block report items (line.Item strand number) f e = absurd (omega (arith, e))
only_block report items (line.End strand) f e = absurd (omega (arith, e))
only_block report items (line.Commit index) f e = absurd (omega (arith, e))
only_block report items line.Order f e = absurd (omega (arith, e))
only_block report items line.Console f e = absurd (omega (arith, e))
only_block report items line.Last f e = absurd (omega (arith, e))

-- where no item stands, the place is the same
same_next : (text : List ℕ) (a b strand : ℕ) (items : List Item) → items ≡ [] → Reads text a b (lines_from (item_line_of strand) 0 items) → get_or text a 0 ≡ get_or text b 0
unfolding lines_from
same_next text a b strand items none r =
    let same : drop a text ≡ drop b text = r ∙ ap (λ (xs : List Item). lines_from (item_line_of strand) 0 xs ++ drop b text) none in
    peeked text a (drop b text) same ∙ sym (peeked text b (drop b text) refl)

items_past : (text : List ℕ) (a b : ℕ) (config : Config) (image : Image) (traces : List Trace) (items : List Item) → IsPast text a (so_far config image traces [] [] [] []) 109
    → Reads text a b (lines_from (item_line_of (length traces)) 0 items) → IsPast text b (so_far config image traces items [] [] []) 109
items_past text a b config image traces items p r kind f l e =
    let block = only_block (report_of config image traces) items kind f l in
    p line.Block (block.0, block.1, refl) refl (same_next text a b (length traces) items block.2 r ∙ e)

-- ---- items

-- between two places stand items of the strand whose end is the next to be read, for a machine of so much RAM
pub record IsAmong (text : List ℕ) (a b : ℕ) (config : Config) (image : Image) (traces : List Trace) (items : List Item) (strand ram : ℕ) : Type 0 where
  pub before : HasTraces text a config image traces
  pub is_open : IsOpen config traces
  pub strand_is : strand ≡ length traces
  pub ram_is : ram ≡ config.ram
  pub good : All (IsGoodItem ram) items
  pub reads : Reads text a b (lines_from (item_line_of strand) 0 items)

among_stands : (text : List ℕ) (a b : ℕ) (config : Config) (image : Image) (traces : List Trace) (items : List Item) (strand ram : ℕ) → IsAmong text a b config image traces items strand ram
    → Stands text b (so_far config image traces items [] [] [])
among_stands text a b config image traces items strand ram m =
    items_stand text a b config image traces items m.before.stands m.is_open (subst (λ (n : ℕ). All (IsGoodItem n) items) m.ram_is m.good)
    (subst (λ (n : ℕ). Reads text a b (lines_from (item_line_of n) 0 items)) m.strand_is m.reads)

pub has_items : (text : List ℕ) (a b : ℕ) (config : Config) (image : Image) (traces : List Trace) (items : List Item) (strand ram : ℕ) → IsAmong text a b config image traces items strand ram
    → (get_or text b 0 ≡ 105 → ⊥) → HasItems text b config image traces items
has_items text a b config image traces items strand ram m other = record {
  stands = among_stands text a b config image traces items strand ram m;
  past_image = items_past text a b config image traces items m.before.past (subst (λ (n : ℕ). Reads text a b (lines_from (item_line_of n) 0 items)) m.strand_is m.reads);
  past = λ kind f l e. other e;
}

pub item_fault : (text : List ℕ) (a b : ℕ) (config : Config) (image : Image) (traces : List Trace) (items : List Item) (strand ram number : ℕ) (error : LogError)
    → IsAmong text a b config image traces items strand ram → number ≡ length items → get_or text b 0 ≡ 105
    → ((item : Item) (rest : List ℕ) → ram ≤ 2 ^ 40 → IsGoodItem ram item → drop b text ≡ item_line_of strand number item ++ rest → ⊥) → IsJudged text b (line.Item strand number) error → NamesFault text error
item_fault text a b config image traces items strand ram number error m count first none judged =
    let so = among_stands text a b config image traces items strand ram m in
    let g : IsInRange (report_of config image traces) items = so.good in
    let numbers = numbers_small config g.limits in
    let most = numbers.ram in
    let small : ram ≤ 2 ^ 40 = omega (arith, most, m.ram_is) in
    named text b (so_far config image traces items [] [] []) (line.Item strand number) error so
    (by_letter text b (report_of config image traces) items (line.Item strand number) (m.is_open, m.strand_is, count) first
    (λ one rest good e. none good.0 rest small (subst (λ (n : ℕ). IsGoodItem n good.0) (sym m.ram_is) good.1) (e ∙ ap (λ (t : List ℕ). t ++ rest) good.2)))
    judged

-- ---- the end of a strand

pub end_fault : (text : List ℕ) (at : ℕ) (config : Config) (image : Image) (traces : List Trace) (items : List Item) (strand : ℕ) (error : LogError)
    → HasItems text at config image traces items → IsOpen config traces → strand ≡ length traces
    → ((ending : Ending) (units pc : ℕ) (rest : List ℕ) → IsGoodEnd (Some ending) → units < 2 ^ 32 → pc < 2 ^ 64 → drop at text ≡ ending_line_of strand ending units pc ++ rest → ⊥)
    → IsJudged text at (line.End strand) error → NamesFault text error
end_fault text at config image traces items strand error h o strand_is none judged =
    named text at (so_far config image traces items [] [] []) (line.End strand) error h.stands
    (at_end text at (report_of config image traces) items strand (o, strand_is) h.past_image h.past
    (λ one rest good e. none good.0 good.1 good.2 rest good.3 good.4 good.5 (e ∙ ap (λ (t : List ℕ). t ++ rest) good.6)))
    judged

pub has_trace : (text : List ℕ) (a b : ℕ) (config : Config) (image : Image) (traces : List Trace) (trace : Trace) (strand ram : ℕ) → HasTraces text a config image traces → IsOpen config traces
    → strand ≡ length traces → ram ≡ config.ram → IsGoodTrace ram trace → Reads text a b (trace_lines_of strand trace) → HasTraces text b config image (traces ++ trace ∷ [])
has_trace text a b config image traces trace strand ram h o strand_is ram_is good r = record {
  stands = trace_stands text a b config image traces trace h.stands o (subst (λ (n : ℕ). IsGoodTrace n trace) ram_is good) (subst (λ (n : ℕ). Reads text a b (trace_lines_of n trace)) strand_is r);
  past = λ kind f l e. (
      let block = only_block (report_of config image (traces ++ trace ∷ [])) [] kind f l in
      let none = ap length block.1 in
      omega (arith, none, length-append traces (trace ∷ []))
      );
}
