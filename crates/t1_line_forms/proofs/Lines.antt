-- How lines begin and go on.
use Rattle.std.proofs.Common.{◌≡◌, ℕ, Bool, true, false, List, ◌++◌, get_or, Option, None, Some, Bor, sym, ap, subst, ◌∙◌, append_assoc}
use Rattle.std.specs.Bool.{MatchBool}
use Rattle.std.specs.Option.{MatchOption}
use Rattle.std.proofs.lemmas.List.{append_cancel_left}
use Rattle.t1_line_forms.specs.declared.line.Line.{Line}
use Rattle.t1_line_forms.specs.declared.line.Line.TheVariants.{Config, Entry, Block, Item, End, Commit, Order, Console, Last}
use Rattle.t1_line_forms.specs.Forms.{Form, IsOneOf, head_of, forms_of, HasForm, letter}

-- a word behind what a text begins with
pub behind : (o : Option (Bor (List ℕ))) (text front middle word : List ℕ) → text ≡ front ++ middle
    → MatchOption o ((rest : List ℕ) → middle ≡ word ++ rest → ⊥) (λ r. middle ≡ word ++ r.now)
    → MatchOption o ((rest : List ℕ) → text ≡ (front ++ word) ++ rest → ⊥) (λ r. text ≡ (front ++ word) ++ r.now)
behind None text front middle word e none = λ rest f. none rest (append_cancel_left front middle (word ++ rest) (sym e ∙ (f ∙ append_assoc front word rest)))
behind (Some r) text front middle word e f = e ∙ (ap (λ (t : List ℕ). front ++ t) f ∙ sym (append_assoc front word r.now))

pub form_decided : (r : Bool) (kind : Line) (line rest : List ℕ) (forms : List Form) → line ≡ head_of kind ++ rest → forms ≡ forms_of kind
    → MatchBool r (IsOneOf forms rest) (IsOneOf forms rest → ⊥) → MatchBool r (HasForm kind line) (HasForm kind line → ⊥)
form_decided true kind line rest forms e f m = record { rest = rest; begins = e; goes_on = subst (λ (fs : List Form). IsOneOf fs rest) f m }
form_decided false kind line rest forms e f m = λ form. (
    let same : form.rest ≡ rest = append_cancel_left (head_of kind) form.rest rest (sym form.begins ∙ e) in
    m (subst (λ (fs : List Form). IsOneOf fs rest) (sym f) (subst (IsOneOf (forms_of kind)) same form.goes_on))
    )

first : (line other : List ℕ) → line ≡ other → get_or line 0 0 ≡ get_or other 0 0
first line other e = ap (λ (t : List ℕ). get_or t 0 0) e

pub begins_with : (kind : Line) (line : List ℕ) → HasForm kind line → get_or line 0 0 ≡ letter kind
begins_with Config line form = first line _ form.begins
begins_with Entry line form = first line _ form.begins
begins_with Block line form = first line _ form.begins
begins_with (Item strand number) line form = first line _ form.begins
begins_with (End strand) line form = first line _ form.begins
begins_with (Commit index) line form = first line _ form.begins
begins_with Order line form = first line _ form.begins
begins_with Console line form = first line _ form.begins
begins_with Last line form = first line _ form.begins
