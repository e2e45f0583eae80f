-- Definitions that go on where a value is there.
use Rattle.std.specs.Prelude.{Option, Some, None, option_and_then}

infixl 10 ◌>>=◌
abbrev pub ◌>>=◌ : {A B : Type 0} → Option A → (A → Option B) → Option B
o >>= f = option_and_then f o

abbrev pub or_try : {A B : Type 0} → Option A → (A → B) → B → B
or_try None f b = b
or_try (Some a) f b = f a
