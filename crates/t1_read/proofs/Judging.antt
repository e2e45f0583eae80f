-- A line that was refused is the first line at fault.
use Rattle.std.proofs.Common.{◌≡◌, ℕ, suc, ◌+◌, ◌*◌, eqb, ltb, if◌then◌else◌, List, [], ◌∷◌, ◌++◌, length, take, drop, get_or, codes, refl, sym, ap, subst, ◌∙◌, append_assoc, inl, arith}
use Rattle.std.proofs.lemmas.Bool.{lt-ltb, le-ltb}
use Rattle.std.proofs.lemmas.List.{append_cancel_right, take-append-drop}
use Rattle.t1_event.specs.declared.item.Item.{Item}
use Rattle.t1_event.specs.declared.report.Config.{Config}
use Rattle.t1_event.specs.declared.report.Report.{Report}
use Rattle.t1_log.specs.Lines.{config_line_of, entry_line_of, block_line_of, ending_line_of, place_line_of}
use Rattle.t1_log.specs.Log.{item_line_of, commit_head_of, commit_line_of, console_line_of}
use Rattle.t1_line_forms.specs.declared.line.Line.{Line}
use Rattle.t1_line_forms.specs.declared.line.Line.TheVariants as line
use Rattle.t1_line_forms.specs.Forms.{HasForm, letter}
use Rattle.t1_line_forms.proofs.Lines.{begins_with}
use Rattle.t1_take.proofs.Leaving.{peeked}
use Rattle.t1_read.specs.declared.error.LogKind.{LogKind}
use Rattle.t1_read.specs.declared.error.LogKind.TheVariants.{Version, Syntax, Range, Unended, OutOfMemory}
use Rattle.t1_read.specs.declared.error.LogError.{LogError}
use Rattle.t1_read.specs.Faults.{SoFar, AtConfig, AtEntry, Within, text_so_far, IsClosed, MayFollow, IsGoodLine, feeds, Cut, IsFaultOf, NamesFault}
use Rattle.t1_read.specs.Standing.{Stands, IsPast, IsKindOfFault, IsJudged, Ends, Refused}

-- the lines so far are the text before the place
front_is : (text : List ℕ) (at : ℕ) (so : SoFar) → Stands text at so → take at text ≡ text_so_far so
front_is text at so s = append_cancel_right (take at text) (text_so_far so) (drop at text) (take-append-drop at text ∙ s.reads)

-- ---- letters

letter_some : (kind : Line) → letter kind ≡ 0 → ⊥
letter_some line.Config e = omega (arith, e)
letter_some line.Entry e = omega (arith, e)
letter_some line.Block e = omega (arith, e)
letter_some (line.Item strand number) e = omega (arith, e)
letter_some (line.End strand) e = omega (arith, e)
letter_some (line.Commit index) e = omega (arith, e)
letter_some line.Order e = omega (arith, e)
letter_some line.Console e = omega (arith, e)
letter_some line.Last e = omega (arith, e)

first_byte : (kind : Line) (front rest : List ℕ) → get_or front 0 0 ≡ letter kind → get_or (front ++ rest) 0 0 ≡ letter kind
first_byte kind [] rest e = absurd (letter_some kind (sym e))
first_byte kind (byte ∷ front) rest e = e

-- ---- the one kind that a line can be of

pub record IsOnly (text : List ℕ) (at : ℕ) (so : SoFar) (kind : Line) : Type 0 where
  pub follows : MayFollow so kind
  pub begins : (other : Line) (one : List ℕ) → MayFollow so other → IsGoodLine so other one → get_or one 0 0 ≡ letter other
  pub only : (other : Line) → MayFollow so other → letter other ≡ get_or text at 0 → other ≡ kind
  pub bad : (one rest : List ℕ) → IsGoodLine so kind one → drop at text ≡ one ++ rest → ⊥

pub named : (text : List ℕ) (at : ℕ) (so : SoFar) (kind : Line) (error : LogError) → Stands text at so → IsOnly text at so kind → IsJudged text at kind error → NamesFault text error
named text at so kind error s o (Ends none e n) = inl (subst (IsFaultOf text error.line) (sym e) (Cut so (drop at text) s.good s.reads none, n))
named text at so kind error s o (Refused first after b n r) = inl (by error.kind r)
  where
    feed : first ++ 10 ∷ after ≡ (first ++ codes "\n") ++ after
    feed = sym (append_assoc first (codes "\n") after)

    number : error.line ≡ suc (feeds (text_so_far so))
    number = (let e : feeds (take at text) + 1 ≡ suc (feeds (take at text)) = omega arith in n ∙ (e ∙ ap (λ (t : List ℕ). suc (feeds t)) (front_is text at so s)))

    of_form : (other : Line) → MayFollow so other → HasForm other first → other ≡ kind
    of_form other f h = o.only other f (sym (peeked text at (first ++ 10 ∷ after) b.is ∙ first_byte other first (10 ∷ after) (begins_with other first h)))

    of_good : (other : Line) → MayFollow so other → IsGoodLine so other (first ++ codes "\n") → other ≡ kind
    of_good other f g =
        o.only other f (sym (peeked text at ((first ++ codes "\n") ++ after) (b.is ∙ feed) ∙ first_byte other (first ++ codes "\n") after (o.begins other (first ++ codes "\n") f g)))

    by : (k : LogKind) → IsKindOfFault kind first k → IsFaultOf text error.line k
    by Syntax none = record {
      so = so;
      first = first;
      after = after;
      next = record { good = s.good; rest = drop at text; reads = s.reads; begins = b };
      formless = λ other f h. none (subst (λ (k : Line). HasForm k first) (of_form other f h) h);
      number_is = number;
    }
    by Range form = record {
      so = so;
      first = first;
      after = after;
      next = record { good = s.good; rest = drop at text; reads = s.reads; begins = b };
      kind = kind;
      follows = o.follows;
      form = form;
      bad = λ other f g. o.bad (first ++ codes "\n") after (subst (λ (k : Line). IsGoodLine so k (first ++ codes "\n")) (of_good other f g) g) (b.is ∙ feed);
      number_is = number;
    }
    by Version r = absurd r
    by Unended r = absurd r
    by OutOfMemory r = absurd r

-- ---- behind the version and behind the machine

only_config : (other : Line) → MayFollow AtConfig other → other ≡ line.Config
only_config line.Config f = refl
only_config line.Entry f = absurd f
only_config line.Block f = absurd f
only_config (line.Item strand number) f = absurd f
only_config (line.End strand) f = absurd f
only_config (line.Commit index) f = absurd f
only_config line.Order f = absurd f
only_config line.Console f = absurd f
only_config line.Last f = absurd f

only_entry : (config : Config) (other : Line) → MayFollow (AtEntry config) other → other ≡ line.Entry
only_entry config line.Config f = absurd f
only_entry config line.Entry f = refl
only_entry config line.Block f = absurd f
only_entry config (line.Item strand number) f = absurd f
only_entry config (line.End strand) f = absurd f
only_entry config (line.Commit index) f = absurd f
only_entry config line.Order f = absurd f
only_entry config line.Console f = absurd f
only_entry config line.Last f = absurd f

config_letter : (text : List ℕ) → IsGoodLine AtConfig line.Config text → get_or text 0 0 ≡ 99
unfolding config_line_of
config_letter text g = ap (λ (t : List ℕ). get_or t 0 0) g.2

entry_letter : (config : Config) (text : List ℕ) → IsGoodLine (AtEntry config) line.Entry text → get_or text 0 0 ≡ 101
unfolding entry_line_of
entry_letter config text g = ap (λ (t : List ℕ). get_or t 0 0) g.2

pub at_config : (text : List ℕ) (at : ℕ) → ((one rest : List ℕ) → IsGoodLine AtConfig line.Config one → drop at text ≡ one ++ rest → ⊥) → IsOnly text at AtConfig line.Config
at_config text at bad = record {
  follows = tt;
  begins = λ other one f g. (
      let e = only_config other f in
      subst (λ (k : Line). get_or one 0 0 ≡ letter k) (sym e) (config_letter one (subst (λ (k : Line). IsGoodLine AtConfig k one) e g))
      );
  only = λ other f e. only_config other f;
  bad = bad;
}

pub at_entry : (text : List ℕ) (at : ℕ) (config : Config) → ((one rest : List ℕ) → IsGoodLine (AtEntry config) line.Entry one → drop at text ≡ one ++ rest → ⊥) → IsOnly text at (AtEntry config) line.Entry
at_entry text at config bad = record {
  follows = tt;
  begins = λ other one f g. (
      let e = only_entry config other f in
      subst (λ (k : Line). get_or one 0 0 ≡ letter k) (sym e) (entry_letter config one (subst (λ (k : Line). IsGoodLine (AtEntry config) k one) e g))
      );
  only = λ other f e. only_entry config other f;
  bad = bad;
}

-- ---- behind the entry

good_letter : (report : Report) (items : List Item) (other : Line) (text : List ℕ) → MayFollow (Within report items) other → IsGoodLine (Within report items) other text → get_or text 0 0 ≡ letter other
unfolding block_line_of item_line_of ending_line_of commit_line_of commit_head_of place_line_of console_line_of
good_letter report items line.Config text f g = absurd f
good_letter report items line.Entry text f g = absurd f
good_letter report items line.Block text f g = ap (λ (t : List ℕ). get_or t 0 0) g.3
good_letter report items (line.Item strand number) text f g = ap (λ (t : List ℕ). get_or t 0 0) g.2
good_letter report items (line.End strand) text f g = ap (λ (t : List ℕ). get_or t 0 0) g.6
good_letter report items (line.Commit index) text f g = ap (λ (t : List ℕ). get_or t 0 0) g.3
good_letter report items line.Order text f g = ap (λ (t : List ℕ). get_or t 0 0) g.2
good_letter report items line.Console text f g = ap (λ (t : List ℕ). get_or t 0 0) g.4
good_letter report items line.Last text f g = ap (λ (t : List ℕ). get_or t 0 0) g

-- the kind of line that may follow and begins with this letter
abbrev kind_at : Report → List Item → ℕ → Line
kind_at report items byte =
    if eqb byte 109 then line.Block else
    if eqb byte 105 then line.Item (length report.traces) (length items) else
    if eqb byte 101 then (if ltb (length report.traces) (report.config.cores * report.config.strands) then line.End (length report.traces) else line.Last) else
    if eqb byte 99 then line.Commit (length report.log) else
    if eqb byte 111 then line.Order else
    line.Console

kind_is : (report : Report) (items : List Item) (other : Line) → MayFollow (Within report items) other → other ≡ kind_at report items (letter other)
kind_is report items line.Config f = absurd f
kind_is report items line.Entry f = absurd f
kind_is report items line.Block f = refl
kind_is report items (line.Item strand number) f = ap (λ (n : ℕ). line.Item n number) f.1 ∙ ap (λ (n : ℕ). line.Item (length report.traces) n) f.2
kind_is report items (line.End strand) f = rw (lt-ltb (length report.traces) (report.config.cores * report.config.strands) f.0) (ap (λ (n : ℕ). line.End n) f.1)
kind_is report items (line.Commit index) f = ap (λ (n : ℕ). line.Commit n) f.1
kind_is report items line.Order f = refl
kind_is report items line.Console f = refl
kind_is report items line.Last f = rw (le-ltb (length report.traces) (report.config.cores * report.config.strands) (omega (arith, f))) refl

-- a line that begins as lines of this kind do
pub by_letter : (text : List ℕ) (at : ℕ) (report : Report) (items : List Item) (kind : Line) → MayFollow (Within report items) kind → get_or text at 0 ≡ letter kind
    → ((one rest : List ℕ) → IsGoodLine (Within report items) kind one → drop at text ≡ one ++ rest → ⊥) → IsOnly text at (Within report items) kind
by_letter text at report items kind f b bad = record {
  follows = f;
  begins = good_letter report items;
  only = λ other g e. kind_is report items other g ∙ (ap (kind_at report items) (e ∙ b) ∙ sym (kind_is report items kind f));
  bad = bad;
}

-- the end of a strand, where neither a block nor an item stands next
only_end : (text : List ℕ) (at : ℕ) (report : Report) (items : List Item) (strand : ℕ) → MayFollow (Within report items) (line.End strand) → IsPast text at (Within report items) 109 → IsPast text at (Within report items) 105
    → (other : Line) → MayFollow (Within report items) other → letter other ≡ get_or text at 0 → other ≡ line.End strand
only_end text at report items strand f m i line.Config g e = absurd g
only_end text at report items strand f m i line.Entry g e = absurd g
only_end text at report items strand f m i line.Block g e = absurd (m line.Block g refl (sym e))
only_end text at report items strand f m i (line.Item s n) g e = absurd (i (line.Item s n) g refl (sym e))
only_end text at report items strand f m i (line.End s) g e = ap (λ (n : ℕ). line.End n) (g.1 ∙ sym f.1)
only_end text at report items strand f m i (line.Commit index) g e = absurd (omega (arith, f.0, g.0))
only_end text at report items strand f m i line.Order g e = absurd (omega (arith, f.0, g.0))
only_end text at report items strand f m i line.Console g e = absurd (omega (arith, f.0, g.0))
only_end text at report items strand f m i line.Last g e = absurd (omega (arith, f.0, g))

pub at_end : (text : List ℕ) (at : ℕ) (report : Report) (items : List Item) (strand : ℕ) → MayFollow (Within report items) (line.End strand) → IsPast text at (Within report items) 109 → IsPast text at (Within report items) 105
    → ((one rest : List ℕ) → IsGoodLine (Within report items) (line.End strand) one → drop at text ≡ one ++ rest → ⊥) → IsOnly text at (Within report items) (line.End strand)
at_end text at report items strand f m i bad = record { follows = f; begins = good_letter report items; only = only_end text at report items strand f m i; bad = bad }

-- the last line, where no commit, no place of the order and no bytes stand next
only_last : (text : List ℕ) (at : ℕ) (report : Report) (items : List Item) → IsClosed report.config report.traces → IsPast text at (Within report items) 99 → IsPast text at (Within report items) 111 → IsPast text at (Within report items) 107
    → (other : Line) → MayFollow (Within report items) other → letter other ≡ get_or text at 0 → other ≡ line.Last
only_last text at report items f c o k line.Config g e = absurd g
only_last text at report items f c o k line.Entry g e = absurd g
only_last text at report items f c o k line.Block g e = absurd (omega (arith, f, g.0))
only_last text at report items f c o k (line.Item s n) g e = absurd (omega (arith, f, g.0))
only_last text at report items f c o k (line.End s) g e = absurd (omega (arith, f, g.0))
only_last text at report items f c o k (line.Commit index) g e = absurd (c (line.Commit index) g refl (sym e))
only_last text at report items f c o k line.Order g e = absurd (o line.Order g refl (sym e))
only_last text at report items f c o k line.Console g e = absurd (k line.Console g refl (sym e))
only_last text at report items f c o k line.Last g e = refl

pub at_last : (text : List ℕ) (at : ℕ) (report : Report) (items : List Item) → IsClosed report.config report.traces → IsPast text at (Within report items) 99 → IsPast text at (Within report items) 111 → IsPast text at (Within report items) 107
    → ((one rest : List ℕ) → IsGoodLine (Within report items) line.Last one → drop at text ≡ one ++ rest → ⊥) → IsOnly text at (Within report items) line.Last
at_last text at report items f c o k bad = record { follows = f; begins = good_letter report items; only = only_last text at report items f c o k; bad = bad }
