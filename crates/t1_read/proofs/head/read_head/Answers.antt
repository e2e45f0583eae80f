use Rattle.std.proofs.Common.{◌≡◌, ◌∙◌, ◌^◌, ◌≤◌, ◌++◌, ℕ, List, length, drop, IsTrue, ap, sym, arith}
use Rattle.std.proofs.lemmas.Result.{err_from_is_err_and}
use Rattle.t1_elf.specs.declared.object.Image.{Image}
use Rattle.t1_event.specs.declared.report.Config.{Config}
use Rattle.t1_log.specs.Lines.{config_line_of, entry_line_of}
use Rattle.t1_log.specs.Log.{version_line}
use Rattle.t1_log.specs.Texts.{image_lines_of, head_lines_of}
use Rattle.t1_take.specs.Limits.{is_in_limits}
use Rattle.t1_read.specs.Standing.{IsGoodHead}
use Rattle.t1_read.proofs.HeadStands.{small_ram}
use Rattle.t1_read.proofs.Whole.{head_text, head_parts}
use Rattle.t1_read.proofs.head.read_head.Goals.{In_ok-read_version, In_ok-config, In_ok-entry}
use Rattle.t1_read.proofs.head.read_head.Goals as goal

-- ---- what the answers share

-- the lines behind that of the machine
abbrev after_config : Image → List ℕ → List ℕ
after_config image rest = entry_line_of image.entry ++ (image_lines_of image.ram ++ rest)

-- where a head stands, each of its lines was read, one after another
at_config : (c : In_ok-read_version) (config : Config) (image : Image) (rest : List ℕ) → drop c.args.lines.now.at c.args.text.now ≡ head_lines_of version_line config image ++ rest
    → drop c.read_version.new.lines.at c.args.text.now ≡ config_line_of config ++ after_config image rest
at_config c config image rest e = c.in_ok-read_version.ensures.finds _ (e ∙ head_parts config image rest)

config_found : (c : In_ok-config) (config : Config) (image : Image) (rest : List ℕ) → IsTrue (is_in_limits config) → drop c.args.lines.now.at c.args.text.now ≡ head_lines_of version_line config image ++ rest
    → (c.in_ok-config.config ≡ config) × (drop c.read_config.new.lines.at c.args.text.now ≡ after_config image rest)
config_found c config image rest good e = c.in_ok-config.ensures.finds config _ good (at_config (goal.at.In_ok-config c).In_ok-read_version config image rest e)

entry_found : (c : In_ok-entry) (config : Config) (image : Image) (rest : List ℕ) → IsGoodHead config image → drop c.args.lines.now.at c.args.text.now ≡ head_lines_of version_line config image ++ rest
    → (c.in_ok-entry.entry ≡ image.entry) × (drop c.read_entry.new.lines.at c.args.text.now ≡ image_lines_of image.ram ++ rest)
entry_found c config image rest good e =
    let machine = config_found (goal.at.In_ok-entry c).In_ok-config config image rest good.limits e in
    c.in_ok-entry.ensures.finds image.entry _ good.entry machine.1

-- the memory has the length that the line of the machine says
size_found : (c : In_ok-entry) (config : Config) (image : Image) (rest : List ℕ) → IsGoodHead config image → drop c.args.lines.now.at c.args.text.now ≡ head_lines_of version_line config image ++ rest
    → (length image.ram ≡ c.in_ok-config.config.ram) × (length image.ram ≤ 2 ^ 40)
size_found c config image rest good e =
    let machine = config_found (goal.at.In_ok-entry c).In_ok-config config image rest good.limits e in
    let size = good.size in
    let small = small_ram config good.limits in
    (size ∙ ap (λ (k : Config). k.ram) (sym machine.0), omega (arith, size, small))

-- ---- what was read

pub returns-clause-reads : goal.returns-clause-reads
returns-clause-reads c =
    head_text c.args.text.now c.args.lines.now.at c.read_version.new.lines.at c.read_config.new.lines.at c.read_entry.new.lines.at c.read_memory.new.lines.at c.in_ok-config.config (record { entry = c.in_ok-entry.entry; ram = c.in_ok-ram.ram })
    c.in_ok-read_version.ensures.reads c.in_ok-config.ensures.reads c.in_ok-entry.ensures.reads c.in_ok-ram.ensures.reads

pub returns-clause-finds : goal.returns-clause-finds
returns-clause-finds c = λ config image rest good bytes next e.
    let at = (goal.at.returns-clause-finds c).In_ok-entry in
    let machine = config_found (goal.at.returns-clause-finds c).In_ok-config config image rest good.limits e in
    let entry = entry_found at config image rest good e in
    let size = size_found at config image rest good e in
    let ram = c.in_ok-ram.ensures.finds image.ram rest size.0 size.1 bytes next entry.1 in
    (machine.0, λ i. record { entry = entry.0 i; ram = ram.0 i }, ram.1)

-- ---- a line was refused

pub returns-in_err-read_version-clause-finds : goal.returns-in_err-read_version-clause-finds
returns-in_err-read_version-clause-finds c = λ config image rest good bytes next e.
    let p = err_from_is_err_and c.from_residual.result c.from_residual.ensures.1 in
    rw (p.1, p.2) (c.in_err-read_version.ensures.finds _ (e ∙ head_parts config image rest))

pub returns-in_err-config-clause-finds : goal.returns-in_err-config-clause-finds
returns-in_err-config-clause-finds c = λ config image rest good bytes next e.
    let version = at_config (goal.at.returns-in_err-config-clause-finds c).In_ok-read_version config image rest e in
    let p = err_from_is_err_and c.from_residual-in_err-config.result c.from_residual-in_err-config.ensures.1 in
    rw (p.1, p.2) (c.in_err-config.ensures.finds config _ good.limits version)

pub returns-in_err-entry-clause-finds : goal.returns-in_err-entry-clause-finds
returns-in_err-entry-clause-finds c = λ config image rest good bytes next e.
    let machine = config_found (goal.at.returns-in_err-entry-clause-finds c).In_ok-config config image rest good.limits e in
    let p = err_from_is_err_and c.from_residual-in_err-entry.result c.from_residual-in_err-entry.ensures.1 in
    rw (p.1, p.2) (c.in_err-entry.ensures.finds image.entry _ good.entry machine.1)

pub returns-in_err-ram-clause-finds : goal.returns-in_err-ram-clause-finds
returns-in_err-ram-clause-finds c = λ config image rest good bytes next e.
    let at = (goal.at.returns-in_err-ram-clause-finds c).In_ok-entry in
    let entry = entry_found at config image rest good e in
    let size = size_found at config image rest good e in
    let p = err_from_is_err_and c.from_residual-in_err-ram.result c.from_residual-in_err-ram.ensures.1 in
    rw (p.1, p.2) (c.in_err-ram.ensures.finds image.ram rest size.0 size.1 bytes next entry.1)
