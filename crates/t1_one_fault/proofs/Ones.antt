-- The first line at fault of a text is one, and a log has none.
use Rattle.std.proofs.Common.{◌≡◌, ℕ, ◌⊎◌, List, [], ◌++◌, length, codes, refl, sym, ap, subst, ◌∙◌, inl, inr, arith}
use Rattle.std.proofs.lemmas.List.{length-append}
use Rattle.t1_event.specs.declared.report.Report.{Report}
use Rattle.t1_log.specs.Lines.{config_line_of, end_line}
use Rattle.t1_log.specs.Log.{version_line, item_line_of, trace_lines_of, commit_line_of, console_lines_of, text_of}
use Rattle.t1_log.specs.Texts.{lines_from, head_lines_of, order_lines_of}
use Rattle.t1_line_forms.specs.declared.line.Line.{Line}
use Rattle.t1_line_forms.specs.declared.line.Line.TheVariants as line
use Rattle.t1_line_forms.specs.Forms.{HasForm}
use Rattle.t1_take.specs.WellFormed.{IsWellFormed}
use Rattle.t1_take.proofs.ListTexts.{all_none}
use Rattle.t1_read.specs.declared.error.LogKind.{LogKind}
use Rattle.t1_read.specs.declared.error.LogKind.TheVariants.{Syntax, Range}
use Rattle.t1_read.specs.declared.error.LogError.{LogError}
use Rattle.t1_read.specs.Exact.{HasBytes}
use Rattle.t1_read.specs.Faults.{SoFar, AtConfig, AtEntry, Within, text_so_far, IsGoodSoFar, IsInRange, MayFollow, feeds, IsOfOtherVersion, IsFaultOf}
use Rattle.t1_one_fault.proofs.Firsts.{first_cut, whole_line}
use Rattle.t1_one_fault.proofs.Next.{Parted, One, FirstGoes, OtherGoes}
use Rattle.t1_one_fault.proofs.Parts.{deep, behind_config, within_text, entry_text, parted}
use Rattle.t1_one_fault.proofs.Faults.{IsRefused, Ended, Further, IsAt, Refused, Over, IsFault, Other, NoneWhole, At, fault_of, next_no_last, next_not_at, refused_no_last, refused_not_over}

-- ---- the version line

pub record HasVersion (text : List ℕ) : Type 0 where
  pub more : List ℕ
  pub is : text ≡ version_line ++ more

has_version : (so : SoFar) (rest : List ℕ) → HasVersion (text_so_far so ++ rest)
has_version AtConfig rest = record { more = rest; is = refl }
has_version (AtEntry config) rest = record { more = config_line_of config ++ rest; is = entry_text config rest }
has_version (Within report items) rest = record { more = config_line_of report.config ++ behind_config report items rest; is = within_text report items rest }

not_other : (text : List ℕ) (number : ℕ) (so : SoFar) (rest : List ℕ) → text ≡ text_so_far so ++ rest → IsOfOtherVersion text number → ⊥
not_other text number so rest reads f =
    let v = has_version so rest in
    let same : f.first ≡ codes "t1log 1" = (first_cut f.first (codes "t1log 1") f.after v.more f.begins.one refl (sym f.begins.is ∙ (reads ∙ v.is))).0 in
    f.other (ap (λ (t : List ℕ). t ++ codes "\n") same)

not_none : (text : List ℕ) (so : SoFar) (rest : List ℕ) → text ≡ text_so_far so ++ rest → feeds text ≡ 0 → ⊥
not_none text so rest reads none = (let v = has_version so rest in whole_line text (codes "t1log 1") v.more none (reads ∙ v.is))

-- ---- two faults of one text

pub record SameFault (n m : ℕ) (k h : LogKind) : Type 0 where
  pub number : n ≡ m
  pub kind : k ≡ h

refused_same : (so : SoFar) (rest : List ℕ) (k h : LogKind) → IsRefused so rest k → IsRefused so rest h → k ≡ h
refused_same so rest k h a b = by a.kind_is b.kind_is
  where
    same : a.first ≡ b.first
    same = (first_cut a.first b.first a.after b.after a.begins.one b.begins.one (sym a.begins.is ∙ b.begins.is)).0

    by : ((k ≡ Syntax) × ((other : Line) → MayFollow so other → HasForm other a.first → ⊥)) ⊎ ((k ≡ Range) × ((other : Line) × MayFollow so other × HasForm other a.first))
        → ((h ≡ Syntax) × ((other : Line) → MayFollow so other → HasForm other b.first → ⊥)) ⊎ ((h ≡ Range) × ((other : Line) × MayFollow so other × HasForm other b.first)) → k ≡ h
    by (inl p) (inl q) = p.0 ∙ sym q.0
    by (inr p) (inr q) = p.0 ∙ sym q.0
    by (inl p) (inr q) = absurd (p.1 q.1.0 q.1.1 (subst (HasForm q.1.0) (sym same) q.1.2))
    by (inr p) (inl q) = absurd (q.1 p.1.0 p.1.1 (subst (HasForm p.1.0) same p.1.2))

same_at : (text : List ℕ) (n m : ℕ) (k h : LogKind) (so : SoFar) (rest : List ℕ) → IsAt text n k so rest → IsAt text m h so rest → SameFault n m k h
same_at text n m k h so rest (Refused a p) (Refused b q) = record { number = p ∙ sym q; kind = refused_same so rest k h a b }
same_at text n m k h so rest (Refused a p) (Over b c q) = absurd (refused_not_over so rest k a b)
same_at text n m k h so rest (Over a c p) (Refused b q) = absurd (refused_not_over so rest h b a)
same_at text n m k h so rest (Over a c p) (Over b d q) = record { number = p ∙ sym q; kind = c ∙ sym d }

both_at : (text : List ℕ) (n m : ℕ) (k h : LogKind) (so other : SoFar) (x y : List ℕ) → IsGoodSoFar so → IsGoodSoFar other → IsAt text n k so x → IsAt text m h other y → Parted so other x y → SameFault n m k h
both_at text n m k h so other x y f g a b (One same rest) =
    same_at text n m k h so x a (subst (λ (s : SoFar). IsAt text m h s x) (sym same) (subst (λ (t : List ℕ). IsAt text m h other t) (sym rest) b))
both_at text n m k h so other x y f g a b (FirstGoes next) = absurd (next_not_at text n k so x f next a)
both_at text n m k h so other x y f g a b (OtherGoes next) = absurd (next_not_at text m h other y g next b)

same_fault : (text : List ℕ) (n m : ℕ) (k h : LogKind) → IsFault text n k → IsFault text m h → SameFault n m k h
same_fault text n m k h (Other a p) (Other b q) = record { number = a.number_is ∙ sym b.number_is; kind = p ∙ sym q }
same_fault text n m k h (Other a p) (NoneWhole none q e) = absurd (whole_line text a.first a.after none a.begins.is)
same_fault text n m k h (Other a p) (At so rest good reads b) = absurd (not_other text n so rest reads a)
same_fault text n m k h (NoneWhole none p e) (Other b q) = absurd (whole_line text b.first b.after none b.begins.is)
same_fault text n m k h (NoneWhole none p e) (NoneWhole nothing q d) = record { number = e ∙ sym d; kind = p ∙ sym q }
same_fault text n m k h (NoneWhole none p e) (At so rest good reads b) = absurd (not_none text so rest reads none)
same_fault text n m k h (At so rest good reads a) (Other b q) = absurd (not_other text m so rest reads b)
same_fault text n m k h (At so rest good reads a) (NoneWhole none q e) = absurd (not_none text so rest reads none)
same_fault text n m k h (At so x good reads a) (At other y well says b) = both_at text n m k h so other x y good well a b (parted so other x y good well (sym reads ∙ says))

pub one_fault : (text : List ℕ) (a b : LogError) → IsFaultOf text a.line a.kind → IsFaultOf text b.line b.kind → a ≡ b
one_fault text a b f g =
    let same = same_fault text a.line b.line a.kind b.kind (fault_of text a.line a.kind f) (fault_of text b.line b.kind g) in
    λ i. record { line = same.number i; kind = same.kind i }

-- ---- a log

log_reads : (report : Report) → text_of report ≡ text_so_far (Within report []) ++ end_line
unfolding text_of lines_from
log_reads report =
    sym (deep (head_lines_of version_line report.config report.image) (lines_from trace_lines_of 0 report.traces) (lines_from (item_line_of (length report.traces)) 0 [])
    (lines_from commit_line_of 0 report.log) (order_lines_of report.order) (console_lines_of report.console) end_line)

log_good : (report : Report) → IsWellFormed report → HasBytes report → IsInRange report []
log_good report w b = record {
  limits = w.limits;
  entry = w.entry;
  image = w.image;
  bytes = b.image;
  traces = w.traces;
  items_are = all_none _ [] refl;
  log = w.log;
  order = w.order;
  console = b.console;
  turn = inr (w.number, refl);
}

-- neither is the last line of a log refused, nor is it over before or behind it
not_at_last : (text : List ℕ) (number : ℕ) (kind : LogKind) (so : SoFar) → MayFollow so line.Last → IsAt text number kind so end_line → ⊥
not_at_last text number kind so last (Refused refused n) = refused_no_last so end_line [] kind refused last refl
not_at_last text number kind so last (Over (Ended none) k n) = whole_line end_line (codes "end") [] none refl
not_at_last text number kind so last (Over (Further more follows some e) k n) = (let longer = ap (λ (t : List ℕ). length t) e ∙ length-append end_line more in omega (arith, longer, some))

not_parted : (text : List ℕ) (number : ℕ) (kind : LogKind) (so log : SoFar) (rest : List ℕ) → IsGoodSoFar so → IsGoodSoFar log → MayFollow log line.Last → IsAt text number kind so rest → Parted so log rest end_line → ⊥
not_parted text number kind so log rest f g last a (One same e) =
    not_at_last text number kind log last (subst (λ (s : SoFar). IsAt text number kind s end_line) same (subst (λ (t : List ℕ). IsAt text number kind so t) e a))
not_parted text number kind so log rest f g last a (FirstGoes next) = next_not_at text number kind so rest f next a
not_parted text number kind so log rest f g last a (OtherGoes next) = next_no_last log end_line [] g next last refl

no_fault_at : (text : List ℕ) (number : ℕ) (kind : LogKind) (log : SoFar) → IsGoodSoFar log → MayFollow log line.Last → text ≡ text_so_far log ++ end_line → IsFault text number kind → ⊥
no_fault_at text number kind log good last is (Other f k) = not_other text number log end_line is f
no_fault_at text number kind log good last is (NoneWhole none k n) = not_none text log end_line is none
no_fault_at text number kind log good last is (At so rest f reads a) = not_parted text number kind so log rest f good last a (parted so log rest end_line f good (sym reads ∙ is))

pub no_fault : (report : Report) (error : LogError) → IsWellFormed report → HasBytes report → IsFaultOf (text_of report) error.line error.kind → ⊥
no_fault report error w b f =
    no_fault_at (text_of report) error.line error.kind (Within report []) (log_good report w b) w.number (log_reads report) (fault_of (text_of report) error.line error.kind f)
