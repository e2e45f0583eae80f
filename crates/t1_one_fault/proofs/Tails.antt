-- Where the commits, the memory orders and the consoles of one text part.
use Rattle.std.proofs.Common.{◌≡◌, ℕ, ◌+◌, ◌*◌, ◌^◌, ◌<◌, List, [], ◌∷◌, ◌++◌, get_or, All, refl, sym, ap, subst, ◌∙◌, append_assoc, arith}
use Rattle.t1_num.specs.MemoryLaws.{AreBytes}
use Rattle.t1_elf.specs.declared.object.Image.{Image}
use Rattle.t1_event.specs.declared.item.Item.{Item}
use Rattle.t1_event.specs.declared.trace.Trace.{Trace}
use Rattle.t1_event.specs.declared.commit.Commit.{Commit}
use Rattle.t1_event.specs.declared.report.Config.{Config}
use Rattle.t1_event.specs.declared.report.Place.{Place}
use Rattle.t1_event.specs.declared.report.Report.{Report}
use Rattle.t1_event.specs.Items.{items_of}
use Rattle.t1_log.specs.Lines.{place_line_of}
use Rattle.t1_log.specs.Log.{commit_line_of, console_line_of, console_lines_of}
use Rattle.t1_log.specs.Texts.{lines_from, blocks_from, order_lines_of}
use Rattle.t1_line_forms.specs.declared.line.Line.TheVariants as line
use Rattle.t1_take.specs.WellFormed.{IsNamed, IsGoodPlace}
use Rattle.t1_take.proofs.HeadTexts.{numbers_small}
use Rattle.t1_take.proofs.Leaving.{place_first, commit_first}
use Rattle.t1_read.specs.Faults.{IsClosed, IsInRange}
use Rattle.t1_read.specs.Standing.{so_far}
use Rattle.t1_read.proofs.ConsoleFound.{console_first}
use Rattle.t1_read.proofs.ReportsFound.{named_in}
use Rattle.t1_one_text.proofs.Lists.{Each, each_all, each_numbered, each_both}
use Rattle.t1_one_text.proofs.Commits.{IsCommit, commits_cut, order_cut}
use Rattle.t1_one_fault.proofs.Lists.{GoesOn, ListsCompared, Same, Longer, Shorter, compared}
use Rattle.t1_one_fault.proofs.Consoles.{AreBytesNext, ConsolesCompared, SameConsole, LongerConsole, ShorterConsole, consoles_compared, front_is, none_is}
use Rattle.t1_one_fault.proofs.Lines.{few_strands}
use Rattle.t1_one_fault.proofs.Next.{IsGoodNext, Parted, One, FirstGoes, OtherGoes}

-- commits, a memory order and a console, and what follows
abbrev pub tail_of : List Commit → List Place → List ℕ → List ℕ → List ℕ
tail_of log order console x = lines_from commit_line_of 0 log ++ (order_lines_of order ++ (console_lines_of console ++ x))

-- none of them
abbrev pub AreNone : List Commit → List Place → List ℕ → Type 0
AreNone log order console = (log ≡ []) × (order ≡ []) × (console ≡ [])

pub tail_none : (log : List Commit) (order : List Place) (console x : List ℕ) → AreNone log order console → tail_of log order console x ≡ x
unfolding lines_from blocks_from
tail_none log order console x none = (
    let l = none.0 in
    let o = none.1 in
    let c = none.2 in
    λ i. tail_of (l i) (o i) (c i) x
    )

-- ---- how they begin

console_none : (byte : ℕ) (console x : List ℕ) → (107 ≡ byte → ⊥) → get_or (console_lines_of console ++ x) 0 0 ≡ byte → console ≡ []
console_none byte [] x other e = refl
console_none byte (b ∷ bs) x other e =
    absurd (other (sym (ap (λ (t : List ℕ). get_or t 0 0) (front_is (b ∷ bs) x (omega arith)) ∙ console_first _ _) ∙ e))

order_none : (byte : ℕ) (order : List Place) (x : List ℕ) → (111 ≡ byte → ⊥) → get_or (order_lines_of order ++ x) 0 0 ≡ byte → order ≡ []
unfolding lines_from
order_none byte [] x other e = refl
order_none byte (p ∷ ps) x other e =
    absurd (other (sym (ap (λ (t : List ℕ). get_or t 0 0) (append_assoc (place_line_of p) (lines_from (λ number place. place_line_of place) (0 + 1) ps) x) ∙ place_first p _) ∙ e))

order_empty : (order : List Place) (x : List ℕ) → order ≡ [] → order_lines_of order ++ x ≡ x
unfolding lines_from
order_empty order x e = ap (λ (ps : List Place). order_lines_of ps ++ x) e

console_empty : (console x : List ℕ) → console ≡ [] → console_lines_of console ++ x ≡ x
console_empty console x e = ap (λ (bs : List ℕ). console_lines_of bs ++ x) e ∙ none_is x

-- ---- consoles

console_next : (config : Config) (image : Image) (traces : List Trace) (items : List Item) (log : List Commit) (order : List Place) (c d x : List ℕ) → IsClosed config traces
    → AreBytesNext c d x → IsGoodNext (so_far config image traces items log order c) x
console_next config image traces items log order c d x closed n = record {
  kind = line.Console;
  follows = (closed, n.whole);
  other = refl;
  text = console_line_of 0 n.bytes;
  more = n.more;
  good = (n.bytes, n.some, n.few, n.are_bytes, refl);
  rest_is = n.rest_is;
}

consoles_part : (config : Config) (image : Image) (traces : List Trace) (items : List Item) (log : List Commit) (order : List Place) (c d x y : List ℕ) → IsClosed config traces → AreBytes c → AreBytes d
    → console_lines_of c ++ x ≡ console_lines_of d ++ y → Parted (so_far config image traces items log order c) (so_far config image traces items log order d) x y
consoles_part config image traces items log order c d x y closed a b e = by (consoles_compared c d x y a b e)
  where
    by : ConsolesCompared c d x y → Parted (so_far config image traces items log order c) (so_far config image traces items log order d) x y
    by (SameConsole f g) = One (ap (λ (k : List ℕ). so_far config image traces items log order k) f) g
    by (LongerConsole n) = FirstGoes (console_next config image traces items log order c d x closed n)
    by (ShorterConsole n) = OtherGoes (console_next config image traces items log order d c y closed n)

-- ---- memory orders

abbrev PlaceAt : ℕ → ℕ → Place → Type 0
PlaceAt strands n place = IsGoodPlace strands place

abbrev place_at : ℕ → Place → List ℕ
place_at n place = place_line_of place

place_next : (config : Config) (image : Image) (traces : List Trace) (items : List Item) (log : List Commit) (o p : List Place) (c x y : List ℕ) → IsClosed config traces
    → GoesOn place_at (PlaceAt (config.cores * config.strands)) 0 o p (console_lines_of c ++ x) y → IsGoodNext (so_far config image traces items log o c) x
place_next config image traces items log o p c x y closed g =
    let rest : List ℕ = lines_from place_at (g.number + 1) g.more ++ y in
    let none : c ≡ [] = console_none 111 c x (λ e. omega (arith, e)) (ap (λ (t : List ℕ). get_or t 0 0) g.rest_is ∙ place_first g.one rest) in
    record {
      kind = line.Order;
      follows = (closed, none);
      other = refl;
      text = place_line_of g.one;
      more = rest;
      good = (g.one, g.good, refl);
      rest_is = sym (console_empty c x none) ∙ g.rest_is;
    }

orders_part : (config : Config) (image : Image) (traces : List Trace) (items : List Item) (log : List Commit) (o p : List Place) (c d x y : List ℕ) → IsClosed config traces
    → config.cores * config.strands < 2 ^ 32 → All (IsGoodPlace (config.cores * config.strands)) o → All (IsGoodPlace (config.cores * config.strands)) p → AreBytes c → AreBytes d
    → order_lines_of o ++ (console_lines_of c ++ x) ≡ order_lines_of p ++ (console_lines_of d ++ y) → Parted (so_far config image traces items log o c) (so_far config image traces items log p d) x y
orders_part config image traces items log o p c d x y closed few f g a b e =
    by (compared place_at (PlaceAt strands) (order_cut strands few) 0 o p (console_lines_of c ++ x) (console_lines_of d ++ y) (each_all (IsGoodPlace strands) 0 o f) (each_all (IsGoodPlace strands) 0 p g) e)
  where
    strands : ℕ
    strands = config.cores * config.strands

    by : ListsCompared place_at (PlaceAt strands) 0 o p (console_lines_of c ++ x) (console_lines_of d ++ y) → Parted (so_far config image traces items log o c) (so_far config image traces items log p d) x y
    by (Same same rest) =
        subst (λ (q : List Place). Parted (so_far config image traces items log o c) (so_far config image traces items log q d) x y) same (consoles_part config image traces items log o c d x y closed a b rest)
    by (Longer n) = FirstGoes (place_next config image traces items log o p c x (console_lines_of d ++ y) closed n)
    by (Shorter n) = OtherGoes (place_next config image traces items log p o d y (console_lines_of c ++ x) closed n)

-- ---- commits

commit_next : (config : Config) (image : Image) (traces : List Trace) (items : List Item) (l m : List Commit) (o : List Place) (c x y : List ℕ) → IsClosed config traces
    → GoesOn commit_line_of (IsCommit config.cores (items_of traces)) 0 l m (order_lines_of o ++ (console_lines_of c ++ x)) y → IsGoodNext (so_far config image traces items l o c) x
commit_next config image traces items l m o c x y closed g =
    let rest : List ℕ = lines_from commit_line_of (g.number + 1) g.more ++ y in
    let first : get_or (order_lines_of o ++ (console_lines_of c ++ x)) 0 0 ≡ 99 = ap (λ (t : List ℕ). get_or t 0 0) g.rest_is ∙ commit_first g.number g.one rest in
    let none : o ≡ [] = order_none 99 o (console_lines_of c ++ x) (λ e. omega (arith, e)) first in
    let front = order_empty o (console_lines_of c ++ x) none in
    let no_bytes : c ≡ [] = console_none 99 c x (λ e. omega (arith, e)) (ap (λ (t : List ℕ). get_or t 0 0) (sym front) ∙ first) in
    let at = g.number_is in
    record {
      kind = line.Commit g.number;
      follows = (closed, omega (arith, at), none, no_bytes);
      other = refl;
      text = commit_line_of g.number g.one;
      more = rest;
      good = (g.one, g.good.0, g.good.1, refl);
      rest_is = sym (console_empty c x no_bytes) ∙ (sym front ∙ g.rest_is);
    }

abbrev pub report_of : Config → Image → List Trace → List Commit → List Place → List ℕ → Report
report_of config image traces log order console = record { config = config; image = image; traces = traces; log = log; order = order; console = console }

commits_are : (config : Config) (image : Image) (traces : List Trace) (items : List Item) (l : List Commit) (o : List Place) (c : List ℕ) → IsClosed config traces → IsInRange (report_of config image traces l o c) items
    → Each (IsCommit config.cores (items_of traces)) 0 l
commits_are config image traces items l o c closed so =
    each_both _ _ 0 l (each_numbered _ l so.log) (each_all IsNamed 0 l (named_in config traces l so.limits closed so.traces so.log))

pub tails_part : (config : Config) (image : Image) (traces : List Trace) (items others : List Item) (l m : List Commit) (o p : List Place) (c d x y : List ℕ) → IsClosed config traces
    → IsInRange (report_of config image traces l o c) items → IsInRange (report_of config image traces m p d) others
    → tail_of l o c x ≡ tail_of m p d y → Parted (so_far config image traces items l o c) (so_far config image traces items m p d) x y
tails_part config image traces items others l m o p c d x y closed f g e =
    by (compared commit_line_of (IsCommit config.cores (items_of traces)) (commits_cut config.cores (items_of traces) (numbers_small config f.limits).cores) 0 l m
    (order_lines_of o ++ (console_lines_of c ++ x)) (order_lines_of p ++ (console_lines_of d ++ y))
    (commits_are config image traces items l o c closed f) (commits_are config image traces others m p d closed g) e)
  where
    few : config.cores * config.strands < 2 ^ 32
    few = (let most = few_strands config f.limits in omega (arith, most))

    by : ListsCompared commit_line_of (IsCommit config.cores (items_of traces)) 0 l m (order_lines_of o ++ (console_lines_of c ++ x)) (order_lines_of p ++ (console_lines_of d ++ y))
        → Parted (so_far config image traces items l o c) (so_far config image traces items m p d) x y
    by (Same same rest) =
        subst (λ (k : List Commit). Parted (so_far config image traces items l o c) (so_far config image traces items k p d) x y) same
        (orders_part config image traces items l o p c d x y closed few f.order g.order f.console g.console rest)
    by (Longer n) = FirstGoes (commit_next config image traces items l m o c x (order_lines_of p ++ (console_lines_of d ++ y)) closed n)
    by (Shorter n) = OtherGoes (commit_next config image traces items m l p d y (order_lines_of o ++ (console_lines_of c ++ x)) closed n)
