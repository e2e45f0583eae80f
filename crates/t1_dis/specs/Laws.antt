-- What is said of the texts of words.
use Rattle.std.specs.Prelude.{List, ◌≡◌, ◌<◌, ℕ, ◌^◌, [], ◌∷◌, true, Some, None, Ok}
use Rattle.t1_lex.specs.Tokens.{Lexeme, lexemes_in, cut_of}
use Rattle.t1_lex.specs.Parts.{lexemes_of, bytes_of}
use Rattle.t1_insn.specs.Ranges.{IsInRange}
use Rattle.t1_insn.specs.declared.instruction.Insn.{Insn}
use Rattle.t1_decode.specs.Words.{insn_of}
use Rattle.t1_form.specs.declared.directive.Width.TheVariants.{Word}
use Rattle.t1_expr.specs.Exprs.{Env}
use Rattle.t1_operand.specs.declared.fields.Instruction.{Instruction}
use Rattle.t1_stmt.specs.Templates.{instruction_words}
use Rattle.t1_stmt.specs.Lines.{Line, read_words}
use Rattle.t1_stmt.specs.Lines.Body.{Holds}
use Rattle.t1_stmt.specs.declared.statement.Statement.TheVariants.{Numbers, Insn as Instructs}
use Rattle.t1_dis.specs.Texts.{parts_of, word_parts, has_text}

-- the lexemes of the text are those that its form names
abbrev pub TextHasLexemes : Type 0
TextHasLexemes = (addr word : ℕ) (i : Insn) → word < 2 ^ 32 → IsInRange i → lexemes_in (cut_of (bytes_of (parts_of addr word i))) ≡ Some (lexemes_of (parts_of addr word i))

-- a line without a label that is this instruction
abbrev pub only : Instruction → Line
only s = record { labels = []; body = Holds (Instructs s) }

-- at its own place a line is one instruction, whose one word decodes to this instruction
abbrev pub IsOneWord : Env → ℕ → List Lexeme → Insn → Type 0
IsOneWord env addr ws i = (s : Instruction) × (same : ℕ) × (read_words env addr (Some ws) ≡ Ok (only s)) × (instruction_words addr s ≡ Ok (same, None)) × (insn_of same ≡ i)

-- the text of an instruction that stands below 2^39 is one word that decodes to it
abbrev pub TextIsWord : Type 0
TextIsWord = (env : Env) (addr word : ℕ) (i : Insn) → addr < 2 ^ 39 → has_text i ≡ true → IsInRange i → IsOneWord env addr (lexemes_of (parts_of addr word i)) i

-- the text of a word without an instruction, or of one that the assembler has no form of, is the word itself
abbrev pub TextIsItself : Type 0
TextIsItself = (env : Env) (addr word : ℕ) → word < 2 ^ 32 → read_words env addr (Some (lexemes_of (word_parts word))) ≡ Ok (record { labels = []; body = Holds (Numbers Word (Some word ∷ [])) })
