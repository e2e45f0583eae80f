-- A good line ends with its one line feed, and has the form of its kind.
use Rattle.std.proofs.Common.{◌≡◌, ℕ, ◌*◌, ◌^◌, ◌<◌, ◌≤◌, true, false, Bool, eqb, List, [], ◌∷◌, ◌++◌, codes, decimal, IsTrue, Option, Some, refl, sym, ap, subst, ◌∙◌, append_assoc, inl, inr, arith}
use Rattle.std.proofs.Math.Nat.{mul-le-mul}
use Rattle.std.proofs.lemmas.Bool.{cases_Bool, and_parts, leb-true}
use Rattle.t1_event.specs.declared.item.How.{How}
use Rattle.t1_event.specs.declared.item.How.TheVariants as how
use Rattle.t1_event.specs.declared.item.Item.{Item}
use Rattle.t1_event.specs.declared.commit.Commit.{Commit}
use Rattle.t1_event.specs.declared.report.Config.{Config}
use Rattle.t1_event.specs.declared.report.Place.{Place}
use Rattle.t1_event.specs.declared.report.Report.{Report}
use Rattle.t1_event.specs.declared.trace.Ending.{Ending}
use Rattle.t1_event.specs.Kinds.{is_access}
use Rattle.t1_event.specs.Items.{items_of}
use Rattle.t1_log.specs.Hex.{hex_of, hex_of_bytes}
use Rattle.t1_log.specs.Lines.{item_fields_of, config_line_of, entry_line_of, block_line_of, ending_fields_of, ending_line_of, place_line_of}
use Rattle.t1_log.specs.Log.{place_fields_of, way_field_of, evicted_field_of, kill_fields_of, item_line_of, commit_head_of, commit_line_of, console_line_of}
use Rattle.t1_line_forms.specs.declared.line.Line.{Line}
use Rattle.t1_line_forms.specs.declared.line.Line.TheVariants as line
use Rattle.t1_line_forms.specs.Forms.{HasForm}
use Rattle.t1_line_forms.specs.Words.{IsWord, AreConfigWords, ArePlaceWords, AreCommitWords}
use Rattle.t1_line_forms.proofs.Printed.{config_form, entry_form, block_form, item_form, end_form, commit_line_form, order_form, console_form, last_form}
use Rattle.t1_line_forms.proofs.Feeds.{is_one_line, one_line}
use Rattle.t1_take.specs.Items.{IsPlaceOf}
use Rattle.t1_take.specs.Limits.{is_in_limits}
use Rattle.t1_take.specs.WellFormed.{IsGoodWay, IsGoodCommit, IsNamed}
use Rattle.t1_take.proofs.HeadTexts.{numbers_small}
use Rattle.t1_read.specs.Faults.{SoFar, AtConfig, AtEntry, Within, IsGoodSoFar, IsInRange, MayFollow, IsGoodLine, feeds}
use Rattle.t1_read.proofs.Printed.{item_has_text}
use Rattle.t1_read.proofs.HeadStands.{small_ram}

-- ---- line feeds

feeds_none : (xs : List ℕ) → is_one_line xs ≡ true → feeds xs ≡ 0
feeds_none [] all = refl
feeds_none (x ∷ xs) all =
    elim (cases_Bool (eqb x 10)) [
      | inl e ↦ absurd (let bad : false ≡ true = rw e at all in cc)
      | inr e ↦ (let rest : is_one_line xs ≡ true = rw e at all in rw e (feeds_none xs rest))
    ]

pub form_feeds : (kind : Line) (first : List ℕ) → HasForm kind first → feeds first ≡ 0
form_feeds kind first form = feeds_none first (one_line kind first form)

-- ---- ends

pub record Ends (text : List ℕ) : Type 0 where
  pub first : List ℕ
  pub is : text ≡ first ++ codes "\n"

feed : Ends (codes "\n")
feed = record { first = []; is = refl }

behind : (front : List ℕ) {text : List ℕ} → Ends text → Ends (front ++ text)
behind front e = record { first = front ++ e.first; is = ap (λ (t : List ℕ). front ++ t) e.is ∙ sym (append_assoc front e.first (codes "\n")) }

config_ends : (config : Config) → Ends (config_line_of config)
unfolding config_line_of
config_ends config =
    behind (codes "config cores ") (behind (decimal config.cores) (behind (codes " strands ") (behind (decimal config.strands) (behind (codes " ram ") (behind (decimal config.ram)
    (behind (codes " sets ") (behind (decimal config.sets) (behind (codes " budget ") (behind (decimal config.budget) feed)))))))))

entry_ends : (entry : ℕ) → Ends (entry_line_of entry)
unfolding entry_line_of
entry_ends entry = behind (codes "entry ") (behind (hex_of 10 entry) feed)

block_ends : (addr : ℕ) (block : List ℕ) → Ends (block_line_of addr block)
unfolding block_line_of
block_ends addr block = behind (codes "m ") (behind (hex_of 10 addr) (behind (codes " ") (behind (hex_of_bytes block) feed)))

item_ends : (strand number : ℕ) (item : Item) → Ends (item_line_of strand number item)
unfolding item_line_of
item_ends strand number item =
    behind (codes "i ") (behind (decimal strand) (behind (codes " ") (behind (decimal number) (behind (codes " ") (behind (item_fields_of item) (behind (place_fields_of item.how) feed))))))

ending_ends : (strand : ℕ) (ending : Ending) (units pc : ℕ) → Ends (ending_line_of strand ending units pc)
unfolding ending_line_of
ending_ends strand ending units pc = behind (codes "e ") (behind (decimal strand) (behind (codes " ") (behind (ending_fields_of ending units pc) feed)))

commit_ends : (index : ℕ) (commit : Commit) → Ends (commit_line_of index commit)
unfolding commit_line_of
commit_ends index commit =
    behind (commit_head_of index commit) (behind (way_field_of commit.way) (behind (codes " ") (behind (evicted_field_of commit.evicted) (behind (kill_fields_of commit.kills) feed))))

place_ends : (place : Place) → Ends (place_line_of place)
unfolding place_line_of
place_ends place = behind (codes "o ") (behind (decimal place.strand) (behind (codes " ") (behind (decimal place.item) feed)))

console_ends : (number : ℕ) (bytes : List ℕ) → Ends (console_line_of number bytes)
unfolding console_line_of
console_ends number bytes = behind (codes "k ") (behind (hex_of_bytes bytes) feed)

-- ---- numbers are words

pub few_strands : (config : Config) → IsTrue (is_in_limits config) → config.cores * config.strands ≤ 8 * 4
few_strands config within =
    let limits = and_parts _ _ (and_parts _ _ within).1 in
    let cores : config.cores ≤ 8 = leb-true _ _ (and_parts _ _ limits.0).1 in
    let strands : config.strands ≤ 4 = leb-true _ _ (and_parts _ _ (and_parts _ _ limits.1).0).1 in
    mul-le-mul cores strands

config_words : (config : Config) → IsTrue (is_in_limits config) → AreConfigWords config
config_words config within =
    let small = numbers_small config within in
    let wide : (n : ℕ) → n < 2 ^ 32 → IsWord n = λ n l. omega (arith, l) in
    record { cores = wide config.cores small.cores; strands = wide config.strands small.strands; ram = wide config.ram small.ram; sets = wide config.sets small.sets; budget = wide config.budget small.budget }

place_words : (has : Bool) (place : How) → IsPlaceOf has place → ArePlaceWords place
place_words false place p = subst ArePlaceWords (sym p) tt
place_words true how.Unplaced p = absurd p
place_words true (how.Forward time) p = omega (arith, p)
place_words true (how.Hit time) p = omega (arith, p)
place_words true (how.Commit index seen) p = (omega (arith, p.0), omega (arith, p.1))

way_word : (filled : Option ℕ) (way : ℕ) → IsGoodWay filled → filled ≡ Some way → IsWord way
way_word filled way good e = (let l : way < 4 = subst IsGoodWay e good in omega (arith, l))

commit_words : (cores index : ℕ) (traces : List (List Item)) (commit : Commit) → cores < 2 ^ 32 → IsGoodCommit cores traces index commit → IsNamed commit → AreCommitWords commit
commit_words cores index traces commit few good named =
    let dest = good.dest in
    let strand = named.strand in
    let item = named.item in
    record {
      dest = omega (arith, dest);
      strand = omega (arith, strand);
      item = omega (arith, item);
      way = λ way e. way_word commit.way way good.way e;
      kills = λ k d l. (
          let kill = good.kills k d l in
          let core = kill.core in
          let set = kill.set in
          let way = kill.way in
          record { core = omega (arith, core, few); set = omega (arith, set); way = omega (arith, way) }
          );
    }

-- ---- good lines

pub record IsLine (kind : Line) (text : List ℕ) : Type 0 where
  pub first : List ℕ
  pub is : text ≡ first ++ codes "\n"
  pub form : HasForm kind first

-- a text that is a line which ends so
line_of : (kind : Line) (text whole : List ℕ) → text ≡ whole → (e : Ends whole) → HasForm kind e.first → IsLine kind text
line_of kind text whole same e form = record { first = e.first; is = same ∙ e.is; form = form }

within_line : (report : Report) (items : List Item) (kind : Line) (text : List ℕ) → IsInRange report items → MayFollow (Within report items) kind → IsGoodLine (Within report items) kind text → IsLine kind text
within_line report items line.Config text so f g = absurd f
within_line report items line.Entry text so f g = absurd f
within_line report items line.Block text so f g =
    let e = block_ends g.0 g.1 in
    line_of line.Block text (block_line_of g.0 g.1) g.3 e (block_form g.0 g.1 e.first g.2.count (sym e.is))
within_line report items (line.Item strand number) text so f g =
    let e = item_ends strand number g.0 in
    line_of (line.Item strand number) text (item_line_of strand number g.0) g.2 e
    (item_form strand number g.0 e.first (item_has_text report.config.ram g.0 (small_ram report.config so.limits) g.1) (place_words (is_access g.0.kind) g.0.how g.1.place) (sym e.is))
within_line report items (line.End strand) text so f g =
    let e = ending_ends strand g.0 g.1 g.2 in
    let units = g.4 in
    line_of (line.End strand) text (ending_line_of strand g.0 g.1 g.2) g.6 e (end_form strand g.0 g.1 g.2 e.first (omega (arith, units)) (sym e.is))
within_line report items (line.Commit index) text so f g =
    let e = commit_ends index g.0 in
    let words = commit_words report.config.cores index (items_of report.traces) g.0 (numbers_small report.config so.limits).cores g.1 g.2 in
    line_of (line.Commit index) text (commit_line_of index g.0) g.3 e (commit_line_form index g.0 e.first words g.1.few (sym e.is))
within_line report items line.Order text so f g =
    let e = place_ends g.0 in
    let strand = g.1.strand in
    let item = g.1.item in
    let few = few_strands report.config so.limits in
    line_of line.Order text (place_line_of g.0) g.2 e (order_form g.0 e.first (omega (arith, strand, few)) (omega (arith, item)) (sym e.is))
within_line report items line.Console text so f g =
    let e = console_ends 0 g.0 in
    line_of line.Console text (console_line_of 0 g.0) g.4 e (console_form 0 g.0 e.first g.1 g.2 (sym e.is))
within_line report items line.Last text so f g = record { first = codes "end"; is = g; form = last_form (codes "end") refl }

config_line : (kind : Line) (text : List ℕ) → MayFollow AtConfig kind → IsGoodLine AtConfig kind text → IsLine kind text
config_line line.Config text f g = (let e = config_ends g.0 in line_of line.Config text (config_line_of g.0) g.2 e (config_form g.0 e.first (config_words g.0 g.1) (sym e.is)))
config_line line.Entry text f g = absurd f
config_line line.Block text f g = absurd f
config_line (line.Item strand number) text f g = absurd f
config_line (line.End strand) text f g = absurd f
config_line (line.Commit index) text f g = absurd f
config_line line.Order text f g = absurd f
config_line line.Console text f g = absurd f
config_line line.Last text f g = absurd f

entry_line : (config : Config) (kind : Line) (text : List ℕ) → MayFollow (AtEntry config) kind → IsGoodLine (AtEntry config) kind text → IsLine kind text
entry_line config line.Config text f g = absurd f
entry_line config line.Entry text f g = (let e = entry_ends g.0 in line_of line.Entry text (entry_line_of g.0) g.2 e (entry_form g.0 e.first (sym e.is)))
entry_line config line.Block text f g = absurd f
entry_line config (line.Item strand number) text f g = absurd f
entry_line config (line.End strand) text f g = absurd f
entry_line config (line.Commit index) text f g = absurd f
entry_line config line.Order text f g = absurd f
entry_line config line.Console text f g = absurd f
entry_line config line.Last text f g = absurd f

pub good_line : (so : SoFar) (kind : Line) (text : List ℕ) → IsGoodSoFar so → MayFollow so kind → IsGoodLine so kind text → IsLine kind text
good_line AtConfig kind text so f g = config_line kind text f g
good_line (AtEntry config) kind text so f g = entry_line config kind text f g
good_line (Within report items) kind text so f g = within_line report items kind text so f g
