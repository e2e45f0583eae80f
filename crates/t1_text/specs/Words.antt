-- The lines of the words of a program.
use Rattle.std.specs.Prelude.{ℕ, zero, suc, ◌+◌, ◌-◌, ◌*◌, ◌/◌, ◌%◌, List, [], ◌∷◌, ◌++◌, length, drop, codes}
use Rattle.t1_num.specs.Memory.{number_at}
use Rattle.t1_elf.specs.declared.object.Chunk.{Chunk}
use Rattle.t1_elf.specs.declared.object.Object.{Object}
use Rattle.t1_log.specs.Hex.{hex_of}
use Rattle.t1_log.specs.Texts.{lines_from}
use Rattle.t1_dis.specs.Texts.{text_of}

-- a word that stands at an address: the address in 10 digits, the word in 8, and its text
unfoldable pub word_line_of : ℕ → ℕ → List ℕ
word_line_of addr word = hex_of 10 addr ++ (codes " " ++ (hex_of 8 word ++ (codes " " ++ (text_of addr word ++ codes "\n"))))

-- so many words, one after another
unfoldable pub words_from : ℕ → List ℕ → List ℕ
words_from zero bytes = []
words_from (suc n) bytes = number_at bytes 0 4 ∷ words_from n (drop 4 bytes)

-- the whole words of bytes
abbrev pub words_of : List ℕ → List ℕ
words_of bytes = words_from (length bytes / 4) bytes

-- the line of the word of this number, where the first word stands at an address
abbrev pub numbered_line_of : ℕ → ℕ → ℕ → List ℕ
numbered_line_of addr number word = word_line_of (addr + 4 * number) word

-- the lines of the whole words of bytes that stand from an address on
abbrev pub word_lines_of : ℕ → List ℕ → List ℕ
word_lines_of addr bytes = lines_from (numbered_line_of addr) 0 (words_of bytes)

-- how many bytes stand before the first multiple of 4 from an address on
abbrev pub lead_of : ℕ → ℕ
lead_of addr = (4 - addr % 4) % 4

-- of a chunk's bytes, the whole words that stand at multiples of 4
unfoldable pub chunk_lines_of : Chunk → List ℕ
chunk_lines_of chunk = word_lines_of (chunk.addr + lead_of chunk.addr) (drop (lead_of chunk.addr) chunk.bytes)

-- the chunks in order
abbrev pub object_lines_of : Object → List ℕ
object_lines_of object = lines_from (λ number chunk. chunk_lines_of chunk) 0 object.chunks
