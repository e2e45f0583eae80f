-- Inputs that were left, read or not.
use Rattle.std.proofs.Common.{◌≡◌, ℕ, ◌^◌, ◌<◌, ◌≤◌, List, [], ◌++◌, length, Option, Some, None, Result, Ok, Err, true, false, refl, ap, ◌∙◌, subst, arith, length-append}
use Rattle.std.specs.Prelude.{OnOk, OnErr, IfOk, IfErr, is_err}
use Rattle.std.proofs.lemmas.Bool.{lt-ltb, le-ltb}
use Rattle.t1_io.specs.Whole.{GaveMore}
use Rattle.t1_elf.specs.declared.object.Image.{Image}
use Rattle.t1_elf.specs.Parsed.{parsed}
use Rattle.t1_event.specs.declared.report.Config.{Config}
use Rattle.t1_event.specs.declared.report.Report.{Report}
use Rattle.t1_joint.specs.Start.{Setup}
use Rattle.t1_machine.specs.Start.{setup_of}
use Rattle.t1_text.specs.Files.{file_of}
use Rattle.t1_cli.specs.declared.refusal.Refusal.{Refusal}
use Rattle.t1_cli.specs.declared.refusal.Refusal.TheVariants as refusal
use Rattle.t1_cli.specs.declared.verdict.Verdict.{Verdict}
use Rattle.t1_cli.specs.declared.verdict.Verdict.TheVariants as verdict
use Rattle.t1_cli.specs.Made.{unless_long, asm_of, dis_of, file_or_fault, lines_or_error}
use Rattle.t1_cli.specs.Runs.{most_input, is_long, refusal_of, IsImageOfInput, IsReportOfInput}
use Rattle.t1_cli.specs.Serial.{WasLeft, HasText}
use Rattle.t1_cli.specs.Statuses.{status_of_verdict}
use Rattle.t1_cli.specs.Verdict.{OfInput, IsUnread, IsRefusal, IsUnloaded, Judged, JudgedInput, IsText, Made, Checked, FaultTold}
use Rattle.t1_cli.proofs.Reports.{too_long}
use Rattle.t1_cli.proofs.Endings.{judged_more}

-- an input that was left
abbrev some_input : Option (List ℕ) → List ℕ
some_input None = []
some_input (Some left) = left

was_left : (left : Option (List ℕ)) → WasLeft left (some_input left)
was_left None = tt
was_left (Some left) = refl

-- what holds of any input
of_any : (left : Option (List ℕ)) (fact : List ℕ → Type 0) → ((input : List ℕ) → fact input) → OfInput left fact
of_any left fact all = record { input = some_input left; read = was_left left; holds = all (some_input left) }

longer : (left rest bytes : List ℕ) (most : ℕ) → left ≡ bytes ++ rest → most < length bytes → most < length left
longer left rest bytes most e h = omega (arith, ap length e, length-append bytes rest, h)

pub long_input : (left left' : Option (List ℕ)) → GaveMore left left' most_input → OfInput left (λ input. most_input < length input)
long_input None left' gave = record { input = gave.0; read = tt; holds = gave.2 }
long_input (Some left) None gave = absurd gave.1
long_input (Some left) (Some rest) gave = record { input = left; read = refl; holds = longer left rest gave.0 most_input gave.1 gave.2 }

-- ---- an input that was not read whole

-- what is known of its verdict
pub record NotRead (v : Verdict) : Type 0 where
  pub usage : v ≡ verdict.Usage → ⊥
  pub write_fault : v ≡ verdict.WriteFault → ⊥
  pub no_text : HasText (status_of_verdict v) → ⊥

pub not_read : (left : Option (List ℕ)) (v : Verdict) → IsUnread left v → NotRead v
not_read left (verdict.Refused why) unread = record { usage = λ e. cc; write_fault = λ e. cc; no_text = λ text. text }
not_read left verdict.ReadFault unread = record { usage = λ e. cc; write_fault = λ e. cc; no_text = λ text. text }
not_read left verdict.OutOfMemory unread = record { usage = λ e. cc; write_fault = λ e. cc; no_text = λ text. text }
not_read left verdict.Good unread = absurd unread
not_read left verdict.Usage unread = absurd unread
not_read left (verdict.Fault strand number pc) unread = absurd unread
not_read left (verdict.Spent strand) unread = absurd unread
not_read left verdict.WriteFault unread = absurd unread
not_read left verdict.NotInOrder unread = absurd unread

-- of a command that says this of an input
unread_says : (left : Option (List ℕ)) (v : Verdict) (says : List ℕ → Verdict → Type 0)
    → ((input : List ℕ) → says input verdict.ReadFault) → ((input : List ℕ) → says input verdict.OutOfMemory)
    → ((input : List ℕ) → most_input < length input → says input (verdict.Refused refusal.TooLong))
    → IsUnread left v → OfInput left (λ input. says input v)
unread_says left verdict.ReadFault says failed wanting long unread = of_any left (λ input. says input verdict.ReadFault) failed
unread_says left verdict.OutOfMemory says failed wanting long unread = of_any left (λ input. says input verdict.OutOfMemory) wanting
unread_says left (verdict.Refused refusal.TooLong) says failed wanting long unread =
    record { input = unread.input; read = unread.read; holds = long unread.input unread.holds }
unread_says left (verdict.Refused (refusal.Misformed error)) says failed wanting long unread = absurd unread
unread_says left (verdict.Refused (refusal.Faulty line fault)) says failed wanting long unread = absurd unread
unread_says left (verdict.Refused (refusal.NoLog line kind)) says failed wanting long unread = absurd unread
unread_says left verdict.Good says failed wanting long unread = absurd unread
unread_says left verdict.Usage says failed wanting long unread = absurd unread
unread_says left (verdict.Fault strand number pc) says failed wanting long unread = absurd unread
unread_says left (verdict.Spent strand) says failed wanting long unread = absurd unread
unread_says left verdict.WriteFault says failed wanting long unread = absurd unread
unread_says left verdict.NotInOrder says failed wanting long unread = absurd unread

-- why the program of an input is not loaded
pub unread_unloaded : (config : Config) (left : Option (List ℕ)) (v : Verdict) → IsUnread left v → OfInput left (λ input. IsUnloaded config input v)
unread_unloaded config left v unread =
    unread_says left v (λ input w. IsUnloaded config input w) (λ input. tt) (λ input. tt) (λ input long. too_long config input long) unread

pub unread_check : (left old new : Option (List ℕ)) (v : Verdict) → IsUnread left v → OfInput left (λ input. Checked input old new v)
unread_check left old new v unread =
    unread_says left v (λ input w. Checked input old new w) (λ input. tt) (λ input. tt) (λ input long. long) unread

unread_text : (makes : List ℕ → Result (List ℕ) Refusal) (left old new : Option (List ℕ)) (v : Verdict)
    → ((input : List ℕ) → most_input < length input → makes input ≡ Err refusal.TooLong)
    → IsUnread left v → OfInput left (λ input. Made (makes input) old new v)
unread_text makes left old new v long unread =
    unread_says left v (λ input w. Made (makes input) old new w) (λ input. tt) (λ input. tt) long unread

-- ---- an input whose program is loaded or not

refused_unloaded : (config : Config) (input : List ℕ) (v : Verdict) → IsRefusal config input v → IsUnloaded config input v
refused_unloaded config input (verdict.Refused why) refused = refused
refused_unloaded config input verdict.OutOfMemory refused = tt
refused_unloaded config input verdict.Good refused = absurd refused
refused_unloaded config input verdict.Usage refused = absurd refused
refused_unloaded config input (verdict.Fault strand number pc) refused = absurd refused
refused_unloaded config input (verdict.Spent strand) refused = absurd refused
refused_unloaded config input verdict.ReadFault refused = absurd refused
refused_unloaded config input verdict.WriteFault refused = absurd refused
refused_unloaded config input verdict.NotInOrder refused = absurd refused

refused_without_fault : (config : Config) (input : List ℕ) (v : Verdict) → IsRefusal config input v → v ≡ verdict.ReadFault → ⊥
refused_without_fault config input v refused fault =
    let P : Verdict → Type 0 = λ w. IsRefusal config input w in subst P fault refused

-- the image of an input that was left, or why it is not loaded
pub record Loads (config : Config) (left : Option (List ℕ)) (P : Type 0) (Q : Type 0) (r : Result Image Verdict) : Type 0 where
  pub image : IfOk r (λ image. OfInput left (λ input. IsImageOfInput config input image))
  pub end : IfOk r (λ image. P)
  pub unloaded : IfErr r (λ v. OfInput left (λ input. IsUnloaded config input v))
  pub fault : IfErr r (λ v. v ≡ verdict.ReadFault → Q)

pub loads : (config : Config) (left : Option (List ℕ)) (P Q : Type 0) (input : List ℕ) (r : Result Image Verdict) → WasLeft left input → P
    → IfOk r (IsImageOfInput config input) → IfErr r (IsRefusal config input) → Loads config left P Q r
loads config left P Q input (Ok image) read end is refused =
    record { image = record { input = input; read = read; holds = is }; end = end; unloaded = tt; fault = tt }
loads config left P Q input (Err v) read end is refused = record {
  image = tt;
  end = tt;
  unloaded = record { input = input; read = read; holds = refused_unloaded config input v refused };
  fault = λ fault. absurd (refused_without_fault config input v refused fault);
}

unloaded_not_read : (config : Config) (input : List ℕ) (v : Verdict) → IsUnloaded config input v → NotRead v
unloaded_not_read config input (verdict.Refused why) unloaded = record { usage = λ e. cc; write_fault = λ e. cc; no_text = λ text. text }
unloaded_not_read config input verdict.ReadFault unloaded = record { usage = λ e. cc; write_fault = λ e. cc; no_text = λ text. text }
unloaded_not_read config input verdict.OutOfMemory unloaded = record { usage = λ e. cc; write_fault = λ e. cc; no_text = λ text. text }
unloaded_not_read config input verdict.Good unloaded = absurd unloaded
unloaded_not_read config input verdict.Usage unloaded = absurd unloaded
unloaded_not_read config input (verdict.Fault strand number pc) unloaded = absurd unloaded
unloaded_not_read config input (verdict.Spent strand) unloaded = absurd unloaded
unloaded_not_read config input verdict.WriteFault unloaded = absurd unloaded
unloaded_not_read config input verdict.NotInOrder unloaded = absurd unloaded

pub not_loaded : (config : Config) (left : Option (List ℕ)) (v : Verdict) → OfInput left (λ input. IsUnloaded config input v) → NotRead v
not_loaded config left v of = unloaded_not_read config of.input v of.holds

judged_unloaded : (config : Config) (reports : Setup → Report → Type 0) (text : Report → List ℕ) (input : List ℕ) (old new : Option (List ℕ)) (v : Verdict)
    → IsUnloaded config input v → JudgedInput config reports text input old new v
judged_unloaded config reports text input old new (verdict.Refused why) unloaded = unloaded
judged_unloaded config reports text input old new verdict.ReadFault unloaded = tt
judged_unloaded config reports text input old new verdict.OutOfMemory unloaded = tt
judged_unloaded config reports text input old new verdict.Good unloaded = absurd unloaded
judged_unloaded config reports text input old new verdict.Usage unloaded = absurd unloaded
judged_unloaded config reports text input old new (verdict.Fault strand number pc) unloaded = absurd unloaded
judged_unloaded config reports text input old new (verdict.Spent strand) unloaded = absurd unloaded
judged_unloaded config reports text input old new verdict.WriteFault unloaded = absurd unloaded
judged_unloaded config reports text input old new verdict.NotInOrder unloaded = absurd unloaded

pub not_loaded_judged : (config : Config) (reports : Setup → Report → Type 0) (text : Report → List ℕ) (left old new : Option (List ℕ)) (v : Verdict)
    → OfInput left (λ input. IsUnloaded config input v) → OfInput left (λ input. JudgedInput config reports text input old new v)
not_loaded_judged config reports text left old new v of =
    record { input = of.input; read = of.read; holds = judged_unloaded config reports text of.input old new v of.holds }

-- what is said of the machine of an image is said of the input whose image it is
pub loaded_judged : (config : Config) (reports : Setup → Report → Type 0) (text : Report → List ℕ) (left old new : Option (List ℕ)) (v : Verdict)
    (image : Image) → OfInput left (λ input. IsImageOfInput config input image) → Judged (λ why. ⊥) (reports (setup_of config image)) text old new v
    → OfInput left (λ input. JudgedInput config reports text input old new v)
loaded_judged config reports text left old new v image of judged =
    let has : (report : Report) → reports (setup_of config image) report → IsReportOfInput config reports of.input report =
    λ report is. record {
      short = of.holds.short;
      object = of.holds.object;
      file = of.holds.file;
      is_report = let P : Image → Type 0 = λ i. reports (setup_of config i) report in subst P of.holds.is is;
    } in
    record {
      input = of.input;
      read = of.read;
      holds = judged_more (λ why. ⊥) (λ why. refusal_of config of.input ≡ Some why) (reports (setup_of config image)) (IsReportOfInput config reports of.input)
          text old new v (λ why no. absurd no) has judged;
    }

-- ---- what is made of an input

long_made : (input : List ℕ) (made : Result (List ℕ) Refusal) → most_input < length input → unless_long (is_long input) made ≡ Err refusal.TooLong
long_made input made long = ap (λ b. unless_long b made) (lt-ltb most_input (length input) long)

short_made : (input : List ℕ) (made : Result (List ℕ) Refusal) → length input ≤ most_input → unless_long (is_long input) made ≡ made
short_made input made short = ap (λ b. unless_long b made) (le-ltb most_input (length input) short)

pub asm_short : (input : List ℕ) → length input ≤ most_input → asm_of input ≡ file_or_fault (file_of input)
unfolding asm_of
asm_short input short = short_made input (file_or_fault (file_of input)) short

pub dis_short : (input : List ℕ) → length input ≤ most_input → dis_of input ≡ lines_or_error (parsed input (2 ^ 39))
unfolding dis_of
dis_short input short = short_made input (lines_or_error (parsed input (2 ^ 39))) short

pub unread_asm : (left old new : Option (List ℕ)) (v : Verdict) → IsUnread left v → OfInput left (λ input. Made (asm_of input) old new v)
unfolding asm_of
unread_asm left old new v unread = unread_text asm_of left old new v (λ input long. long_made input (file_or_fault (file_of input)) long) unread

pub unread_dis : (left old new : Option (List ℕ)) (v : Verdict) → IsUnread left v → OfInput left (λ input. Made (dis_of input) old new v)
unfolding dis_of
unread_dis left old new v unread = unread_text dis_of left old new v (λ input long. long_made input (lines_or_error (parsed input (2 ^ 39))) long) unread

-- a text at fault
pub fault_made : (text : List ℕ) (old new : Option (List ℕ)) (v : Verdict) → length text ≤ most_input → FaultTold (file_of text) v → Made (asm_of text) old new v
fault_made text old new (verdict.Refused (refusal.Faulty line fault)) short told = asm_short text short ∙ ap file_or_fault told
fault_made text old new verdict.OutOfMemory short told = tt
fault_made text old new (verdict.Refused refusal.TooLong) short told = absurd told
fault_made text old new (verdict.Refused (refusal.Misformed error)) short told = absurd told
fault_made text old new (verdict.Refused (refusal.NoLog line kind)) short told = absurd told
fault_made text old new verdict.Good short told = absurd told
fault_made text old new verdict.Usage short told = absurd told
fault_made text old new (verdict.Fault strand number pc) short told = absurd told
fault_made text old new (verdict.Spent strand) short told = absurd told
fault_made text old new verdict.ReadFault short told = absurd told
fault_made text old new verdict.WriteFault short told = absurd told
fault_made text old new verdict.NotInOrder short told = absurd told

-- ---- a text that was made and written

-- the write went well, or it failed
pub wrote_all : {T E : Type 0} (wrote : Result T E) (made : Result (List ℕ) Refusal) (text : List ℕ) (grew : List ℕ → Type 0)
    → false ≡ is_err wrote → made ≡ Ok text → OnOk wrote (grew text) → IsText made grew
wrote_all (Ok v) made text grew went is printed = record { text = text; is = is; printed = printed }
wrote_all (Err e) made text grew went is printed = let no : ⊥ = cc in absurd no

pub wrote_front : {T E : Type 0} (wrote : Result T E) (made : Result (List ℕ) Refusal) (text : List ℕ) (grew : List ℕ → Type 0)
    → true ≡ is_err wrote → made ≡ Ok text → OnErr wrote (grew text) → IsText made grew
wrote_front (Ok v) made text grew failed is printed = let no : ⊥ = cc in absurd no
wrote_front (Err e) made text grew failed is printed = record { text = text; is = is; printed = printed }
