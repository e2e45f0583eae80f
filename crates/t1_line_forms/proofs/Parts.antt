-- Texts that are written part by part, each part a field.
use Rattle.std.proofs.Common.{ℕ, List, [], ◌∷◌, ◌++◌, inl, inr, refl}
use Rattle.std.specs.Fmt.{decimal}
use Rattle.t1_packet.specs.declared.cache.Cache as packet
use Rattle.t1_packet.specs.declared.cache.Cache.TheVariants.{Dcache, Icache}
use Rattle.t1_log.specs.Log.{cache_letter}
use Rattle.t1_line_forms.specs.Digits.{EndsDecimal, IsHex}
use Rattle.t1_line_forms.specs.Fields.{Field, Word, Number, Hex, Cache, IsField, Leads}
use Rattle.t1_line_forms.specs.Words.{IsWord}
use Rattle.t1_line_forms.proofs.Numerals.{decimal_is}

-- a word, a number, so many hexadecimal digits, the letter of a cache
pub data Part : Type 0 where
  Text : List ℕ → Part
  Decimal : ℕ → Part
  Digits : ℕ → List ℕ → Part
  Letter : packet.Cache → Part

abbrev pub field_of : Part → Field
field_of (Text word) = Word word
field_of (Decimal n) = Number
field_of (Digits count digits) = Hex count
field_of (Letter cache) = Cache

abbrev pub piece_of : Part → List ℕ
piece_of (Text word) = word
piece_of (Decimal n) = decimal n
piece_of (Digits count digits) = digits
piece_of (Letter cache) = cache_letter cache

abbrev pub fields_of : List Part → List Field
fields_of [] = []
fields_of (part ∷ parts) = field_of part ∷ fields_of parts

-- these parts, and then this rest
abbrev pub text_of : List Part → List ℕ → List ℕ
text_of [] rest = rest
text_of (part ∷ parts) rest = piece_of part ++ text_of parts rest

-- numbers fit into words and end where what follows begins, and digits are digits
abbrev pub AreFit : List Part → List ℕ → Type 0
AreFit [] rest = Unit {0}
AreFit (Text word ∷ parts) rest = AreFit parts rest
AreFit (Decimal n ∷ parts) rest = IsWord n × EndsDecimal (text_of parts rest) × AreFit parts rest
AreFit (Digits count digits ∷ parts) rest = IsHex count digits × AreFit parts rest
AreFit (Letter cache ∷ parts) rest = AreFit parts rest

letter_is : (cache : packet.Cache) → IsField [] Cache (cache_letter cache)
letter_is Dcache = inl refl
letter_is Icache = inr refl

pub parts_lead : (parts : List Part) (rest : List ℕ) → AreFit parts rest → Leads [] (fields_of parts) (text_of parts rest) rest
parts_lead [] rest fit = refl
parts_lead (Text word ∷ parts) rest fit = (word, text_of parts rest, (refl, refl, tt), parts_lead parts rest fit)
parts_lead (Decimal n ∷ parts) rest fit = (decimal n, text_of parts rest, (refl, decimal_is n fit.0, fit.1), parts_lead parts rest fit.2)
parts_lead (Digits count digits ∷ parts) rest fit = (digits, text_of parts rest, (refl, fit.0, tt), parts_lead parts rest fit.1)
parts_lead (Letter cache ∷ parts) rest fit = (cache_letter cache, text_of parts rest, (refl, letter_is cache, tt), parts_lead parts rest fit)
