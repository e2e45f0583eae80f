use Rattle.std.proofs.Common.{◌≡◌, ℕ, List, rules}
use Rattle.t1_expr.specs.Symbols.{env_of}
use Rattle.t1_asm.specs.Passes.{none_named, assembled, state_of}
use Rattle.t1_asm.proofs.Assembling.{fails_first, fails_second}
use Rattle.t1_asm.proofs.assembler.read.Goals as goal

pub returns-in-Err : goal.returns-in-Err
returns-in-Err c =
    let h : (q : List ℕ) → env_of c.new-map.result q ≡ none_named q = λ q. search rules in
    let e : env_of c.new-map.result ≡ none_named = λ i q. h q i in
    c.error.ensures (assembled c.args.text.now) (fails_first c.in-Err.failure.line c.in-Err.failure.halt c.args.text.now (env_of c.new-map.result) e c.in-Err.ensures)

pub returns-in-Err-second_pass : goal.returns-in-Err-second_pass
returns-in-Err-second_pass c =
    let h : (q : List ℕ) → env_of c.new-map.result q ≡ none_named q = λ q. search rules in
    let e : env_of c.new-map.result ≡ none_named = λ i q. h q i in
    c.error-in-Err-second_pass.ensures (assembled c.args.text.now)
    (fails_second c.in-Err-second_pass.failure.line c.in-Err-second_pass.failure.halt c.args.text.now (env_of c.new-map.result) (state_of c.in-Ok.state c.first_pass.new.map) e c.in-Ok.ensures c.in-Err-second_pass.ensures)
