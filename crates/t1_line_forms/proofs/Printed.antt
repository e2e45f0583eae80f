-- Lines that are printed have their forms.
use Rattle.std.proofs.Common.{◌≡◌, ℕ, ◌≤◌, inl, inr, List, [], ◌∷◌, ◌++◌, length, codes, refl, ◌∙◌, append_assoc, arith}
use Rattle.std.specs.Fmt.{decimal}
use Rattle.std.proofs.lemmas.List.{append_cancel_right}
use Rattle.t1_event.specs.Printable.{HasText}
use Rattle.t1_event.specs.declared.commit.Commit.{Commit}
use Rattle.t1_event.specs.declared.item.Item.{Item}
use Rattle.t1_event.specs.declared.report.Config.{Config}
use Rattle.t1_event.specs.declared.report.Place.{Place}
use Rattle.t1_event.specs.declared.trace.Ending.{Ending}
use Rattle.t1_event.specs.declared.trace.Ending.TheVariants.{Halted, Fault, Spent}
use Rattle.t1_log.specs.Hex.{hex_of, hex_of_bytes}
use Rattle.t1_log.specs.Lines.{item_fields_of, config_line_of, entry_line_of, block_line_of, ending_fields_of, ending_line_of, place_line_of, end_line}
use Rattle.t1_log.specs.Log.{place_fields_of, way_field_of, evicted_field_of, kill_fields_of, item_line_of, commit_head_of, commit_line_of, console_line_of}
use Rattle.t1_line_forms.specs.Forms.{IsForm, IsOneOf, head_of, forms_of, HasForm}
use Rattle.t1_line_forms.specs.Words.{IsWord, AreConfigWords, ArePlaceWords, AreCommitWords}
use Rattle.t1_line_forms.specs.declared.line.Line.{Line}
use Rattle.t1_line_forms.specs.declared.line.Line.TheVariants as line_of
use Rattle.t1_line_forms.specs.declared.field.Tail.TheVariants.{Nothing}
use Rattle.t1_line_forms.proofs.Numerals.{hex_is, bytes_are}
use Rattle.t1_line_forms.proofs.Parts.{Part, Text, Decimal, Digits, fields_of, text_of, AreFit, parts_lead}
use Rattle.t1_line_forms.proofs.ItemFields.{item_goes_on}
use Rattle.t1_line_forms.proofs.CommitFields.{kills_are, commit_goes_on}

-- a line whose text is known has its form
has : (kind : Line) (line rest text : List ℕ) → line ++ codes "\n" ≡ text → text ≡ (head_of kind ++ rest) ++ codes "\n" → IsOneOf (forms_of kind) rest → HasForm kind line
has kind line rest text e is goes_on = record { rest = rest; begins = append_cancel_right line (head_of kind ++ rest) (codes "\n") (e ∙ is); goes_on = goes_on }

-- parts that nothing follows have the form of their fields
parts_form : (parts : List Part) → AreFit parts [] → IsForm (record { fields = fields_of parts; tail = Nothing }) (text_of parts [])
parts_form parts fit = record { rest = []; leads = parts_lead parts [] fit; ends = refl }

pub config_form : (config : Config) (line : List ℕ) → AreConfigWords config → line ++ codes "\n" ≡ config_line_of config → HasForm line_of.Config line
unfolding config_line_of
config_form config line words e =
    let parts : List Part =
    Decimal config.cores ∷ Text (codes " strands ") ∷ Decimal config.strands ∷ Text (codes " ram ") ∷ Decimal config.ram ∷ Text (codes " sets ") ∷ Decimal config.sets ∷ Text (codes " budget ") ∷ Decimal config.budget ∷ [] in
    has line_of.Config line (text_of parts []) (config_line_of config) e (simp append_assoc)
    (inl (parts_form parts (words.cores, refl, (words.strands, refl, (words.ram, refl, (words.sets, refl, (words.budget, tt, tt)))))))

pub entry_form : (entry : ℕ) (line : List ℕ) → line ++ codes "\n" ≡ entry_line_of entry → HasForm line_of.Entry line
unfolding entry_line_of
entry_form entry line e =
    let parts : List Part = Digits 10 (hex_of 10 entry) ∷ [] in
    has line_of.Entry line (text_of parts []) (entry_line_of entry) e (simp append_assoc) (inl (parts_form parts (hex_is 10 entry (omega arith), tt)))

pub block_form : (addr : ℕ) (bytes line : List ℕ) → length bytes ≡ 32 → line ++ codes "\n" ≡ block_line_of addr bytes → HasForm line_of.Block line
unfolding block_line_of
block_form addr bytes line count e =
    let parts : List Part = Digits 10 (hex_of 10 addr) ∷ Text (codes " ") ∷ Digits 64 (hex_of_bytes bytes) ∷ [] in
    has line_of.Block line (text_of parts []) (block_line_of addr bytes) e (simp append_assoc) (inl (parts_form parts (hex_is 10 addr (omega arith), (bytes_are bytes 32 count (omega arith), tt))))

pub item_form : (strand number : ℕ) (item : Item) (line : List ℕ) → HasText item → ArePlaceWords item.how → line ++ codes "\n" ≡ item_line_of strand number item → HasForm (line_of.Item strand number) line
unfolding item_line_of
item_form strand number item line text words e =
    has (line_of.Item strand number) line (item_fields_of item ++ place_fields_of item.how) (item_line_of strand number item) e (simp append_assoc) (item_goes_on item.kind item refl text words)

pub end_form : (strand : ℕ) (ending : Ending) (units pc : ℕ) (line : List ℕ) → IsWord units → line ++ codes "\n" ≡ ending_line_of strand ending units pc → HasForm (line_of.End strand) line
unfolding ending_line_of ending_fields_of
end_form strand Halted units pc line wide e =
    let parts : List Part = Text (codes "halted ") ∷ Decimal units ∷ Text (codes " ") ∷ Digits 16 (hex_of 16 pc) ∷ [] in
    has (line_of.End strand) line (text_of parts []) (ending_line_of strand Halted units pc) e (simp append_assoc) (inl (parts_form parts (wide, refl, (hex_is 16 pc (omega arith), tt))))
end_form strand Spent units pc line wide e =
    let parts : List Part = Text (codes "spent ") ∷ Decimal units ∷ Text (codes " ") ∷ Digits 16 (hex_of 16 pc) ∷ [] in
    has (line_of.End strand) line (text_of parts []) (ending_line_of strand Spent units pc) e (simp append_assoc) (inr (inl (parts_form parts (wide, refl, (hex_is 16 pc (omega arith), tt)))))
end_form strand (Fault trap) units pc line wide e =
    let parts : List Part = Text (codes "fault ") ∷ Decimal units ∷ Text (codes " ") ∷ Digits 16 (hex_of 16 pc) ∷ Text (codes " ") ∷ Digits 3 (hex_of 3 trap) ∷ [] in
    has (line_of.End strand) line (text_of parts []) (ending_line_of strand (Fault trap) units pc) e (simp append_assoc)
    (inr (inr (inl (parts_form parts (wide, refl, (hex_is 16 pc (omega arith), (hex_is 3 trap (omega arith), tt)))))))

pub commit_line_form : (index : ℕ) (commit : Commit) (line : List ℕ) → AreCommitWords commit → length commit.kills ≤ 64 → line ++ codes "\n" ≡ commit_line_of index commit → HasForm (line_of.Commit index) line
unfolding commit_line_of commit_head_of
commit_line_form index commit line words few e =
    let filled : List ℕ = way_field_of commit.way ++ (codes " " ++ (evicted_field_of commit.evicted ++ kill_fields_of commit.kills)) in
    let rest : List ℕ = decimal commit.dest ++ (codes " " ++ (decimal commit.strand ++ (codes " " ++ (decimal commit.item ++ (codes " " ++ filled))))) in
    has (line_of.Commit index) line rest (commit_line_of index commit) e (simp append_assoc)
    (commit_goes_on commit.way commit.evicted commit.dest commit.strand commit.item (kill_fields_of commit.kills) words.dest words.strand words.item words.way (kills_are 64 commit.kills few words.kills))

pub order_form : (place : Place) (line : List ℕ) → IsWord place.strand → IsWord place.item → line ++ codes "\n" ≡ place_line_of place → HasForm line_of.Order line
unfolding place_line_of
order_form place line strand item e =
    let parts : List Part = Decimal place.strand ∷ Text (codes " ") ∷ Decimal place.item ∷ [] in
    has line_of.Order line (text_of parts []) (place_line_of place) e (simp append_assoc) (inl (parts_form parts (strand, refl, (item, tt, tt))))

pub console_form : (n : ℕ) (bytes line : List ℕ) → 1 ≤ length bytes → length bytes ≤ 32 → line ++ codes "\n" ≡ console_line_of n bytes → HasForm line_of.Console line
unfolding console_line_of
console_form n bytes line some few e =
    has line_of.Console line (hex_of_bytes bytes) (console_line_of n bytes) e refl (inl (record {
      rest = hex_of_bytes bytes;
      leads = refl;
      ends = (length bytes, few, bytes_are bytes (length bytes) refl some);
    }))

pub last_form : (line : List ℕ) → line ++ codes "\n" ≡ end_line → HasForm line_of.Last line
last_form line e = has line_of.Last line [] end_line e refl (inl (record { rest = []; leads = refl; ends = refl }))
