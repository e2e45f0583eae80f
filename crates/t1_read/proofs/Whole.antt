-- The pieces of a text, one after another, are the text of a report.
use Rattle.std.proofs.Common.{◌≡◌, ℕ, List, ◌++◌, drop, ap, ◌∙◌, append_assoc}
use Rattle.t1_elf.specs.declared.object.Image.{Image}
use Rattle.t1_event.specs.declared.report.Config.{Config}
use Rattle.t1_event.specs.declared.report.Report.{Report}
use Rattle.t1_log.specs.Lines.{config_line_of, entry_line_of}
use Rattle.t1_log.specs.Texts.{lines_from, image_lines_of, head_lines_of}
use Rattle.t1_log.specs.Log.{version_line, trace_lines_of, text_of}
use Rattle.t1_take.specs.Taken.{Reads}
use Rattle.t1_take.proofs.Taking.{reads_then}
use Rattle.t1_read.specs.Standing.{tail_text}

-- the head is the version, the machine, the entry and the image
pub head_text : (text : List ℕ) (start machine entry memory end : ℕ) (config : Config) (image : Image) → Reads text start machine version_line → Reads text machine entry (config_line_of config)
    → Reads text entry memory (entry_line_of image.entry) → Reads text memory end (image_lines_of image.ram) → Reads text start end (head_lines_of version_line config image)
unfolding head_lines_of
head_text text start machine entry memory end config image version_is machine_is entry_is image_is =
    let entry_line : List ℕ = entry_line_of image.entry in
    let lines : List ℕ = image_lines_of image.ram in
    reads_then text start machine end version_line (config_line_of config ++ (entry_line ++ lines)) version_is
    (reads_then text machine entry end (config_line_of config) (entry_line ++ lines) machine_is (reads_then text entry memory end entry_line lines entry_is image_is))

pub head_parts : (config : Config) (image : Image) (rest : List ℕ)
    → head_lines_of version_line config image ++ rest ≡ version_line ++ (config_line_of config ++ (entry_line_of image.entry ++ (image_lines_of image.ram ++ rest)))
unfolding head_lines_of
head_parts config image rest =
    let machine : List ℕ = config_line_of config in
    let entry : List ℕ = entry_line_of image.entry in
    let lines : List ℕ = image_lines_of image.ram in
    append_assoc version_line (machine ++ (entry ++ lines)) rest
    ∙ ap (λ (t : List ℕ). version_line ++ t) (append_assoc machine (entry ++ lines) rest ∙ ap (λ (t : List ℕ). machine ++ t) (append_assoc entry lines rest))

-- a report is the head, the strands and the tail
pub whole_text : (text : List ℕ) (strands tail : ℕ) (report : Report) → Reads text 0 strands (head_lines_of version_line report.config report.image) → Reads text strands tail (lines_from trace_lines_of 0 report.traces)
    → drop tail text ≡ tail_text report.log report.order report.console → text ≡ text_of report
unfolding text_of
whole_text text strands tail report head traces rest =
    head ∙ ap (λ (t : List ℕ). head_lines_of version_line report.config report.image ++ t) (traces ∙ ap (λ (t : List ℕ). lines_from trace_lines_of 0 report.traces ++ t) rest)
