-- Where lines stand.
use Rattle.std.proofs.Common.{◌≡◌, ◌≤◌, ◌+◌, ◌^◌, ℕ, Bool, false, true, arith}
use Rattle.std.proofs.lemmas.Bool.Decides.{nat_tests}
use Rattle.t1_stmt.specs.Lines.{Body}
use Rattle.t1_stmt.specs.Lines.Body.{Empty, Assigns, Holds}
use Rattle.t1_stmt.specs.declared.statement.Statement.TheVariants.{Nothing, Org, Skip, Align, Numbers, Text, Insn}
use Rattle.t1_asm.specs.Passes.{start_of, size_of, is_outside, is_past, is_alignment}
use Rattle.std.specs.Prelude.{unwrap_or, not, ◌||◌, ◌==◌, ◌%◌}

not_past : (here size : ℕ) → here ≤ 2 ^ 39 → is_past here size ≡ false → here + size ≤ 2 ^ 39
not_past here size h e = grind (arith, nat_tests)

or_right : (a b : Bool) → (a || b) ≡ false → b ≡ false
or_right false b e = e
or_right true b e = cc

-- a line that is not outside ends at 2^39 or below
pub stays : (here : ℕ) (body : Body) → here ≤ 2 ^ 39 → is_outside here body ≡ false → start_of here body + size_of here body ≤ 2 ^ 39
unfolding start_of size_of is_outside
stays here Empty h e = omega arith
stays here (Assigns name v) h e = omega arith
stays here (Holds Nothing) h e = omega arith
stays here (Holds (Org v)) h e = grind (arith, nat_tests)
stays here (Holds (Skip v)) h e = not_past here _ h e
stays here (Holds (Align v)) h e = not_past here _ h (or_right (not (is_alignment (unwrap_or v 0))) _ e)
stays here (Holds (Numbers width vs)) h e = not_past here _ h e
stays here (Holds (Text bs)) h e = not_past here _ h e
stays here (Holds (Insn s)) h e = not_past here _ h (or_right (not (here % 4 == 0)) _ e)
