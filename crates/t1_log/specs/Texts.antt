-- Texts of several lines.
use Rattle.std.specs.Prelude.{ℕ, zero, suc, Bool, ◌+◌, ◌*◌, ◌/◌, ◌==◌, List, [], ◌∷◌, ◌++◌, length, take, drop, if◌then◌else◌}
use Rattle.std.specs.List.{list_all}
use Rattle.t1_event.specs.declared.report.Config.{Config}
use Rattle.t1_elf.specs.declared.object.Image.{Image}
use Rattle.t1_event.specs.declared.report.Place.{Place}
use Rattle.t1_log.specs.Lines.{config_line_of, entry_line_of, block_line_of, place_line_of}

-- the texts of these elements, which are numbered from a number on
unfoldable pub lines_from : {A : Type 0} → (ℕ → A → List ℕ) → ℕ → List A → List ℕ
lines_from f n [] = []
lines_from f n (x ∷ xs) = f n x ++ lines_from f (n + 1) xs

-- so many blocks of 32 bytes, one after another
unfoldable pub blocks_from : ℕ → List ℕ → List (List ℕ)
blocks_from zero bytes = []
blocks_from (suc n) bytes = take 32 bytes ∷ blocks_from n (drop 32 bytes)

-- all bytes are 0
abbrev pub is_blank : List ℕ → Bool
is_blank bytes = list_all (λ byte. byte == 0) bytes

-- the line of a block that has this number, and nothing for a block of zeros
unfoldable pub block_lines_of : ℕ → List ℕ → List ℕ
block_lines_of number block = if is_blank block then [] else block_line_of (32 * number) block

-- what the memory holds at first, where it is not zero
abbrev pub image_lines_of : List ℕ → List ℕ
image_lines_of ram = lines_from block_lines_of 0 (blocks_from (length ram / 32) ram)

-- what a log begins with, after a version line: the machine, and the image
unfoldable pub head_lines_of : List ℕ → Config → Image → List ℕ
head_lines_of version config image = version ++ (config_line_of config ++ (entry_line_of image.entry ++ image_lines_of image.ram))

-- the memory order
abbrev pub order_lines_of : List Place → List ℕ
order_lines_of order = lines_from (λ number place. place_line_of place) 0 order
