-- Good lines that were read from one text are one, or a good line stands next behind the fewer.
use Rattle.std.proofs.Common.{◌≡◌, ℕ, ◌+◌, ◌*◌, ◌%◌, List, [], ◌∷◌, ◌++◌, length, get_or, All, IsTrue, refl, sym, ap, subst, ◌∙◌, append_assoc, arith}
use Rattle.t1_elf.specs.declared.object.Image.{Image}
use Rattle.t1_event.specs.declared.item.Item.{Item}
use Rattle.t1_event.specs.declared.trace.Trace.{Trace}
use Rattle.t1_event.specs.declared.report.Config.{Config}
use Rattle.t1_event.specs.declared.report.Report.{Report}
use Rattle.t1_event.specs.Printable.{FitsDigits}
use Rattle.t1_log.specs.Lines.{config_line_of, entry_line_of, block_line_of}
use Rattle.t1_log.specs.Log.{version_line, item_line_of, trace_lines_of, commit_line_of, console_lines_of}
use Rattle.t1_log.specs.Texts.{lines_from, image_lines_of, head_lines_of, order_lines_of}
use Rattle.t1_line_forms.specs.declared.line.Line.TheVariants as line
use Rattle.t1_take.specs.Items.{IsGoodTrace}
use Rattle.t1_take.specs.Limits.{is_in_limits}
use Rattle.t1_take.proofs.HeadTexts.{numbers_small}
use Rattle.t1_take.proofs.Leaving.{item_first}
use Rattle.t1_read.specs.Faults.{SoFar, AtConfig, AtEntry, Within, text_so_far, IsOpen, IsInRange, IsGoodSoFar}
use Rattle.t1_read.specs.Standing.{so_far}
use Rattle.t1_read.proofs.HeadStands.{small_ram, whole_ram, some_strand}
use Rattle.t1_read.proofs.ImageFound.{block_first}
use Rattle.t1_read.proofs.ReportsFound.{traces_next}
use Rattle.t1_read.proofs.Whole.{head_parts}
use Rattle.t1_one_text.proofs.Fields.{same_front}
use Rattle.t1_one_text.proofs.Reports.{config_cut, entry_cut}
use Rattle.t1_one_fault.proofs.Images.{IsBlockNext, ImagesCompared, SameImage, LongerImage, ShorterImage, images_compared}
use Rattle.t1_one_fault.proofs.Next.{IsGoodNext, Parted, One, FirstGoes, OtherGoes}
use Rattle.t1_one_fault.proofs.Tails.{tail_of, tail_none, report_of}
use Rattle.t1_one_fault.proofs.Strands.{items_of_next, items_empty, none_open, traces_part}

-- ---- blocks

-- what is behind the image
abbrev pub behind : Report → List Item → List ℕ → List ℕ
behind report items x = lines_from trace_lines_of 0 report.traces ++ items_of_next report.traces items (tail_of report.log report.order report.console x)

no_traces : (traces : List Trace) (ram : ℕ) (rest : List ℕ) → All (IsGoodTrace ram) traces → get_or (lines_from trace_lines_of 0 traces ++ rest) 0 0 ≡ 109 → traces ≡ []
no_traces [] ram rest all e = refl
no_traces (t ∷ ts) ram rest all e = absurd ((traces_next (t ∷ ts) ram rest all (omega arith)).other e)

no_items : (strand : ℕ) (items : List Item) (rest : List ℕ) → get_or (lines_from (item_line_of strand) 0 items ++ rest) 0 0 ≡ 109 → items ≡ []
unfolding lines_from
no_items strand [] rest e = refl
no_items strand (item ∷ items) rest e = absurd (
    let more : List ℕ = lines_from (item_line_of strand) (0 + 1) items in
    let first = sym (item_first strand 0 item (more ++ rest)) ∙ (ap (λ (t : List ℕ). get_or t 0 0) (sym (append_assoc (item_line_of strand 0 item) more rest)) ∙ e) in
    omega (arith, first)
    )

traces_empty : (traces : List Trace) (rest : List ℕ) → traces ≡ [] → lines_from trace_lines_of 0 traces ++ rest ≡ rest
unfolding lines_from
traces_empty traces rest e = ap (λ (ts : List Trace). lines_from trace_lines_of 0 ts ++ rest) e

block_next : (report : Report) (items : List Item) (x : List ℕ) → IsInRange report items → IsBlockNext 0 report.image.ram (behind report items x) → IsGoodNext (Within report items) x
block_next report items x f n =
    let tail : List ℕ = tail_of report.log report.order report.console x in
    let first : get_or (behind report items x) 0 0 ≡ 109 = ap (λ (t : List ℕ). get_or t 0 0) n.rest_is ∙ block_first (32 * n.number) n.block n.more in
    let none = no_traces report.traces report.config.ram (items_of_next report.traces items tail) f.traces first in
    let front = traces_empty report.traces (items_of_next report.traces items tail) none in
    let empty = no_items (length report.traces) items tail (ap (λ (t : List ℕ). get_or t 0 0) (sym front) ∙ first) in
    let some = some_strand report.config f.limits in
    let count = ap (λ (ts : List Trace). length ts) none in
    let open_is : IsOpen report.config report.traces = omega (arith, some, count) in
    let rest = front ∙ (items_empty report.traces items tail empty ∙ tail_none report.log report.order report.console x (none_open report.config report.image report.traces items report.log report.order report.console open_is f)) in
    let high = n.high in
    record {
      kind = line.Block;
      follows = (open_is, none, empty);
      other = refl;
      text = block_line_of (32 * n.number) n.block;
      more = n.more;
      good = (
        32 * n.number,
        n.block,
        record {
          count = n.count;
          are_bytes = n.bytes;
          some = n.some;
          aligned = omega arith;
          within = omega (arith, high);
          ascends = λ at l. n.zeros at (omega (arith, l));
        },
        refl,
      );
      rest_is = sym rest ∙ n.rest_is;
    }

-- ---- the head

pub deep : (h t i l o c x : List ℕ) → (h ++ (t ++ (i ++ (l ++ (o ++ c))))) ++ x ≡ h ++ (t ++ (i ++ (l ++ (o ++ (c ++ x)))))
deep h t i l o c x = simp append_assoc

abbrev pub behind_config : Report → List Item → List ℕ → List ℕ
behind_config report items x = entry_line_of report.image.entry ++ (image_lines_of report.image.ram ++ behind report items x)

pub within_text : (report : Report) (items : List Item) (x : List ℕ) → text_so_far (Within report items) ++ x ≡ version_line ++ (config_line_of report.config ++ behind_config report items x)
within_text report items x =
    deep (head_lines_of version_line report.config report.image) (lines_from trace_lines_of 0 report.traces) (lines_from (item_line_of (length report.traces)) 0 items)
    (lines_from commit_line_of 0 report.log) (order_lines_of report.order) (console_lines_of report.console) x
    ∙ head_parts report.config report.image (behind report items x)

pub entry_text : (config : Config) (x : List ℕ) → text_so_far (AtEntry config) ++ x ≡ version_line ++ (config_line_of config ++ x)
entry_text config x = append_assoc version_line (config_line_of config) x

config_next : (config : Config) (x more : List ℕ) → IsTrue (is_in_limits config) → x ≡ config_line_of config ++ more → IsGoodNext AtConfig x
config_next config x more limits e = record { kind = line.Config; follows = tt; other = refl; text = config_line_of config; more = more; good = (config, limits, refl); rest_is = e }

entry_next : (config : Config) (entry : ℕ) (x more : List ℕ) → FitsDigits 10 entry → x ≡ entry_line_of entry ++ more → IsGoodNext (AtEntry config) x
entry_next config entry x more fits e = record { kind = line.Entry; follows = tt; other = refl; text = entry_line_of entry; more = more; good = (entry, fits, refl); rest_is = e }

-- ---- behind the entry

-- reports of one machine, whose memories begin at one entry
images_part : (one other : Report) (i j : List Item) (x y : List ℕ) → IsInRange one i → IsInRange other j → one.config ≡ other.config → one.image.entry ≡ other.image.entry
    → image_lines_of one.image.ram ++ behind one i x ≡ image_lines_of other.image.ram ++ behind other j y → Parted (Within one i) (Within other j) x y
images_part one other i j x y f g config entry e =
    by (images_compared one.image.ram other.image.ram (behind one i x) (behind other j y) (f.image ∙ (ap (λ (k : Config). k.ram) config ∙ sym g.image))
    (ap (λ (n : ℕ). n % 32) f.image ∙ whole_ram one.config f.limits) (let room = small_ram one.config f.limits in let size = f.image in omega (arith, room, size)) f.bytes g.bytes e)
  where
    by : ImagesCompared 0 one.image.ram other.image.ram (behind one i x) (behind other j y) → Parted (Within one i) (Within other j) x y
    by (SameImage ram rest) =
        let image : one.image ≡ other.image = λ k. record { entry = entry k; ram = ram k } in
        subst (λ (machine : Config). IsInRange (report_of machine other.image other.traces other.log other.order other.console) j → Parted (Within one i) (so_far machine other.image other.traces j other.log other.order other.console) x y) config
        (subst (λ (memory : Image). IsInRange (report_of one.config memory other.traces other.log other.order other.console) j → Parted (Within one i) (so_far one.config memory other.traces j other.log other.order other.console) x y) image
        (λ h. traces_part one.config one.image one.traces other.traces i j one.log other.log one.order other.order one.console other.console x y f h rest))
        g
    by (LongerImage n) = FirstGoes (block_next one i x f n)
    by (ShorterImage n) = OtherGoes (block_next other j y g n)

reports_part : (one other : Report) (i j : List Item) (x y : List ℕ) → IsInRange one i → IsInRange other j → text_so_far (Within one i) ++ x ≡ text_so_far (Within other j) ++ y → Parted (Within one i) (Within other j) x y
reports_part one other i j x y f g e =
    let front = same_front version_line (config_line_of one.config ++ behind_config one i x) (config_line_of other.config ++ behind_config other j y) (sym (within_text one i x) ∙ (e ∙ within_text other j y)) in
    let config = config_cut one.config other.config (behind_config one i x) (behind_config other j y) (numbers_small one.config f.limits) (numbers_small other.config g.limits) front in
    let entry = entry_cut one.image.entry other.image.entry (image_lines_of one.image.ram ++ behind one i x) (image_lines_of other.image.ram ++ behind other j y) f.entry g.entry config.1 in
    images_part one other i j x y f g config.0 entry.0 entry.1

-- ---- all

config_entry : (config : Config) (x y : List ℕ) → IsTrue (is_in_limits config) → version_line ++ x ≡ text_so_far (AtEntry config) ++ y → IsGoodNext AtConfig x
config_entry config x y limits e = config_next config x y limits (same_front version_line x (config_line_of config ++ y) (e ∙ entry_text config y))

config_within : (report : Report) (items : List Item) (x y : List ℕ) → IsInRange report items → version_line ++ x ≡ text_so_far (Within report items) ++ y → IsGoodNext AtConfig x
config_within report items x y f e =
    config_next report.config x (behind_config report items y) f.limits (same_front version_line x (config_line_of report.config ++ behind_config report items y) (e ∙ within_text report items y))

entry_within : (config : Config) (report : Report) (items : List Item) (x y : List ℕ) → IsTrue (is_in_limits config) → IsInRange report items → text_so_far (AtEntry config) ++ x ≡ text_so_far (Within report items) ++ y
    → IsGoodNext (AtEntry config) x
entry_within config report items x y limits f e =
    let front = same_front version_line (config_line_of config ++ x) (config_line_of report.config ++ behind_config report items y) (sym (entry_text config x) ∙ (e ∙ within_text report items y)) in
    let cut = config_cut config report.config x (behind_config report items y) (numbers_small config limits) (numbers_small report.config f.limits) front in
    entry_next config report.image.entry x (image_lines_of report.image.ram ++ behind report items y) f.entry cut.1

entries_part : (one other : Config) (x y : List ℕ) → IsTrue (is_in_limits one) → IsTrue (is_in_limits other) → text_so_far (AtEntry one) ++ x ≡ text_so_far (AtEntry other) ++ y → Parted (AtEntry one) (AtEntry other) x y
entries_part one other x y f g e =
    let front = same_front version_line (config_line_of one ++ x) (config_line_of other ++ y) (sym (entry_text one x) ∙ (e ∙ entry_text other y)) in
    let cut = config_cut one other x y (numbers_small one f) (numbers_small other g) front in
    One (ap (λ (k : Config). AtEntry k) cut.0) cut.1

pub parted : (so other : SoFar) (x y : List ℕ) → IsGoodSoFar so → IsGoodSoFar other → text_so_far so ++ x ≡ text_so_far other ++ y → Parted so other x y
parted AtConfig AtConfig x y f g e = One refl (same_front version_line x y e)
parted AtConfig (AtEntry config) x y f g e = FirstGoes (config_entry config x y g e)
parted AtConfig (Within report items) x y f g e = FirstGoes (config_within report items x y g e)
parted (AtEntry config) AtConfig x y f g e = OtherGoes (config_entry config y x f (sym e))
parted (AtEntry config) (AtEntry other) x y f g e = entries_part config other x y f g e
parted (AtEntry config) (Within report items) x y f g e = FirstGoes (entry_within config report items x y f g e)
parted (Within report items) AtConfig x y f g e = OtherGoes (config_within report items y x f (sym e))
parted (Within report items) (AtEntry config) x y f g e = OtherGoes (entry_within config report items y x g f (sym e))
parted (Within report items) (Within other others) x y f g e = reports_part report other items others x y f g e
