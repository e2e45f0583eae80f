-- Where the first line at fault of a text stands.
use Rattle.std.proofs.Common.{◌≡◌, ℕ, suc, ◌<◌, ◌⊎◌, true, false, List, ◌∷◌, ◌++◌, length, get_or, codes, refl, sym, ap, subst, ◌∙◌, append_assoc, inl, inr, arith}
use Rattle.std.proofs.lemmas.List.{append_cancel_right}
use Rattle.t1_log.specs.Lines.{end_line}
use Rattle.t1_line_forms.specs.declared.line.Line.{Line}
use Rattle.t1_line_forms.specs.declared.line.Line.TheVariants as line
use Rattle.t1_line_forms.specs.Forms.{HasForm, letter}
use Rattle.t1_line_forms.proofs.Lines.{begins_with}
use Rattle.t1_read.specs.declared.error.LogKind.{LogKind}
use Rattle.t1_read.specs.declared.error.LogKind.TheVariants.{Version, Syntax, Range, Unended, OutOfMemory}
use Rattle.t1_read.specs.Faults.{SoFar, AtConfig, AtEntry, Within, text_so_far, IsGoodSoFar, MayFollow, IsGoodLine, feeds, BeginsWith, IsOfOtherVersion, EndsElsewhere, NoLine, Cut, GoesOn, IsFaultOf}
use Rattle.t1_one_fault.proofs.Firsts.{first_cut, whole_line}
use Rattle.t1_one_fault.proofs.Lines.{form_feeds, IsLine, good_line}
use Rattle.t1_one_fault.proofs.Next.{is_last, IsGoodNext}

-- the first line of this text is refused behind these good lines
pub record IsRefused (so : SoFar) (rest : List ℕ) (kind : LogKind) : Type 0 where
  pub first : List ℕ
  pub after : List ℕ
  pub begins : BeginsWith rest first after
  pub bad : (other : Line) → MayFollow so other → IsGoodLine so other (first ++ codes "\n") → ⊥
  pub kind_is : ((kind ≡ Syntax) × ((other : Line) → MayFollow so other → HasForm other first → ⊥)) ⊎ ((kind ≡ Range) × ((other : Line) × MayFollow so other × HasForm other first))

-- no whole line is left, or something behind the last line
pub data IsOver (so : SoFar) (rest : List ℕ) : Type 0 where
  Ended : feeds rest ≡ 0 → IsOver so rest
  Further : (more : List ℕ) → MayFollow so line.Last → 0 < length more → rest ≡ end_line ++ more → IsOver so rest

pub data IsAt (text : List ℕ) (number : ℕ) (kind : LogKind) (so : SoFar) (rest : List ℕ) : Type 0 where
  Refused : IsRefused so rest kind → number ≡ suc (feeds (text_so_far so)) → IsAt text number kind so rest
  Over : IsOver so rest → kind ≡ Unended → number ≡ feeds text → IsAt text number kind so rest

pub data IsFault (text : List ℕ) (number : ℕ) (kind : LogKind) : Type 0 where
  Other : IsOfOtherVersion text number → kind ≡ Version → IsFault text number kind
  NoneWhole : feeds text ≡ 0 → kind ≡ Unended → number ≡ feeds text → IsFault text number kind
  At : (so : SoFar) (rest : List ℕ) → IsGoodSoFar so → text ≡ text_so_far so ++ rest → IsAt text number kind so rest → IsFault text number kind

-- a good line has a form of its kind
formless_bad : (so : SoFar) (first : List ℕ) → IsGoodSoFar so → ((other : Line) → MayFollow so other → HasForm other first → ⊥) → (other : Line) → MayFollow so other → IsGoodLine so other (first ++ codes "\n") → ⊥
formless_bad so first good formless other follows g =
    let l = good_line so other (first ++ codes "\n") good follows g in
    formless other follows (subst (HasForm other) (sym (append_cancel_right first l.first (codes "\n") l.is)) l.form)

ends_at : (text : List ℕ) (number : ℕ) → EndsElsewhere text → number ≡ feeds text → IsFault text number Unended
ends_at text number (NoLine none) n = NoneWhole none refl n
ends_at text number (Cut so rest good reads none) n = At so rest good reads (Over (Ended none) refl n)
ends_at text number (GoesOn so rest good follows reads some) n = At so (end_line ++ rest) good reads (Over (Further rest follows some refl) refl n)

pub fault_of : (text : List ℕ) (number : ℕ) (kind : LogKind) → IsFaultOf text number kind → IsFault text number kind
fault_of text number Version f = Other f refl
fault_of text number Syntax f = At f.so f.next.rest f.next.good f.next.reads (Refused (record {
  first = f.first;
  after = f.after;
  begins = f.next.begins;
  bad = formless_bad f.so f.first f.next.good f.formless;
  kind_is = inl (refl, f.formless);
}) f.number_is)
fault_of text number Range f = At f.so f.next.rest f.next.good f.next.reads (Refused (record {
  first = f.first;
  after = f.after;
  begins = f.next.begins;
  bad = f.bad;
  kind_is = inr (refl, (f.kind, f.follows, f.form));
}) f.number_is)
fault_of text number Unended f = ends_at text number f.0 f.1
fault_of text number OutOfMemory f = absurd f

-- ---- the last line

-- no other kind that may follow there begins as it does
last_only : (so : SoFar) (kind : Line) → MayFollow so line.Last → MayFollow so kind → letter kind ≡ 101 → is_last kind ≡ true
last_only AtConfig kind last f e = absurd last
last_only (AtEntry config) kind last f e = absurd last
last_only (Within report items) line.Config last f e = absurd f
last_only (Within report items) line.Entry last f e = absurd f
last_only (Within report items) line.Block last f e = absurd (omega (arith, e))
last_only (Within report items) (line.Item strand number) last f e = absurd (omega (arith, e))
last_only (Within report items) (line.End strand) last f e = absurd (omega (arith, last, f.0))
last_only (Within report items) (line.Commit index) last f e = absurd (omega (arith, e))
last_only (Within report items) line.Order last f e = absurd (omega (arith, e))
last_only (Within report items) line.Console last f e = absurd (omega (arith, e))
last_only (Within report items) line.Last last f e = refl

last_good : (so : SoFar) → MayFollow so line.Last → IsGoodLine so line.Last end_line
last_good AtConfig last = absurd last
last_good (AtEntry config) last = absurd last
last_good (Within report items) last = refl

-- ---- a good line stands next, or the last

-- a good line that stands next, and its line feed
pub record IsNextLine (so : SoFar) (rest : List ℕ) (next : IsGoodNext so rest) : Type 0 where
  pub is_line : IsLine next.kind next.text
  pub reads : rest ≡ is_line.first ++ 10 ∷ next.more

next_line : (so : SoFar) (rest : List ℕ) (next : IsGoodNext so rest) → IsGoodSoFar so → IsNextLine so rest next
next_line so rest next good =
    let l = good_line so next.kind next.text good next.follows next.good in
    record { is_line = l; reads = next.rest_is ∙ (ap (λ (t : List ℕ). t ++ next.more) l.is ∙ append_assoc l.first (codes "\n") next.more) }

pub next_no_last : (so : SoFar) (rest more : List ℕ) → IsGoodSoFar so → IsGoodNext so rest → MayFollow so line.Last → rest ≡ end_line ++ more → ⊥
next_no_last so rest more good next last e =
    let n = next_line so rest next good in
    let l = n.is_line in
    let same : l.first ≡ codes "end" = (first_cut l.first (codes "end") next.more more (form_feeds next.kind l.first l.form) refl (sym n.reads ∙ e)).0 in
    let first : letter next.kind ≡ 101 = sym (begins_with next.kind l.first l.form) ∙ ap (λ (t : List ℕ). get_or t 0 0) same in
    let bad : true ≡ false = sym (last_only so next.kind last next.follows first) ∙ next.other in
    cc

next_no_fault : (so : SoFar) (rest : List ℕ) (kind : LogKind) → IsGoodSoFar so → IsGoodNext so rest → IsRefused so rest kind → ⊥
next_no_fault so rest kind good next refused =
    let n = next_line so rest next good in
    let l = n.is_line in
    let same : l.first ≡ refused.first = (first_cut l.first refused.first next.more refused.after (form_feeds next.kind l.first l.form) refused.begins.one (sym n.reads ∙ refused.begins.is)).0 in
    refused.bad next.kind next.follows (subst (λ (t : List ℕ). IsGoodLine so next.kind t) (l.is ∙ ap (λ (t : List ℕ). t ++ codes "\n") same) next.good)

next_not_over : (so : SoFar) (rest : List ℕ) → IsGoodSoFar so → IsGoodNext so rest → IsOver so rest → ⊥
next_not_over so rest good next (Ended none) = (let n = next_line so rest next good in whole_line rest n.is_line.first next.more none n.reads)
next_not_over so rest good next (Further more last some e) = next_no_last so rest more good next last e

pub next_not_at : (text : List ℕ) (number : ℕ) (kind : LogKind) (so : SoFar) (rest : List ℕ) → IsGoodSoFar so → IsGoodNext so rest → IsAt text number kind so rest → ⊥
next_not_at text number kind so rest good next (Refused refused n) = next_no_fault so rest kind good next refused
next_not_at text number kind so rest good next (Over over k n) = next_not_over so rest good next over

pub refused_no_last : (so : SoFar) (rest more : List ℕ) (kind : LogKind) → IsRefused so rest kind → MayFollow so line.Last → rest ≡ end_line ++ more → ⊥
refused_no_last so rest more kind refused last e =
    let same : codes "end" ≡ refused.first = (first_cut (codes "end") refused.first more refused.after refl refused.begins.one (sym e ∙ refused.begins.is)).0 in
    refused.bad line.Last last (subst (λ (t : List ℕ). IsGoodLine so line.Last (t ++ codes "\n")) same (last_good so last))

pub refused_not_over : (so : SoFar) (rest : List ℕ) (kind : LogKind) → IsRefused so rest kind → IsOver so rest → ⊥
refused_not_over so rest kind refused (Ended none) = whole_line rest refused.first refused.after none refused.begins.is
refused_not_over so rest kind refused (Further more last some e) = refused_no_last so rest more kind refused last e
