-- Guests, word by word.
use Rattle.std.proofs.Common.{◌≡◌, ℕ, zero, suc, ◌+◌, ◌-◌, ◌*◌, ◌<◌, ◌≤◌, List, [], ◌∷◌, ◌++◌, length, refl, ap, sym, ◌∙◌, append_assoc, append-nil, arith, length-append}
use Rattle.std.specs.Prelude.{unwrap_or}
use Rattle.std.proofs.lemmas.List.{length-replicate}
use Rattle.rand_xoshiro.specs.SplitMix64.{mix_u64}
use Rattle.t1_num.proofs.MemoryLaws.{length-with_number_at}
use Rattle.t1_insn.specs.declared.instruction.Insn.{Insn}
use Rattle.t1_encode.specs.Words.{encoded}
use Rattle.t1_elf.specs.Images.{zeros_of}
use Rattle.t1_gen.specs.Guests.{insn_of_draw, insns_from, bytes_of_insn, code_of, guest_insns, first_insn, last_insn}

-- one word more was drawn
pub draws_next : (code code' : List ℕ) (state next word n size : ℕ) (insn : Insn) → n < size → (word, next) ≡ mix_u64 state
    → insn ≡ insn_of_draw word → code' ≡ code ++ bytes_of_insn insn
    → code' ++ code_of (insns_from next (size - (n + 1))) ≡ code ++ code_of (insns_from state (size - n))
unfolding code_of insns_from
draws_next code code' state next word n size insn less drawn insn_is grown =
    let k : ℕ = size - (n + 1) in
    let left : size - n ≡ suc k = omega arith in
    ap (λ c. c ++ code_of (insns_from next k)) grown
    ∙ append_assoc code (bytes_of_insn insn) (code_of (insns_from next k))
    ∙ ap (λ i. code ++ (bytes_of_insn i ++ code_of (insns_from next k))) insn_is
    ∙ ap (λ (p : ℕ × ℕ). code ++ (bytes_of_insn (insn_of_draw p.0) ++ code_of (insns_from p.1 k))) drawn
    ∙ ap (λ m. code ++ code_of (insns_from state m)) (sym left)

-- all words were drawn
pub draws_done : (code : List ℕ) (state n size : ℕ) → size ≤ n → code ++ code_of (insns_from state (size - n)) ≡ code
unfolding code_of insns_from
draws_done code state n size past =
    let none : size - n ≡ 0 = omega (arith, past) in
    ap (λ m. code ++ code_of (insns_from state m)) none ∙ append-nil code

-- ---- lengths

length-bytes_of_insn : (insn : Insn) → length (bytes_of_insn insn) ≡ 4
unfolding bytes_of_insn
length-bytes_of_insn insn = length-with_number_at (zeros_of 4) 0 4 (unwrap_or (encoded insn) 0) ∙ length-replicate {A = ℕ} 4 0

length-code_of : (insns : List Insn) → length (code_of insns) ≡ 4 * length insns
unfolding code_of
length-code_of [] = refl
length-code_of (insn ∷ insns) =
    omega (arith, length-append (bytes_of_insn insn) (code_of insns), length-bytes_of_insn insn, length-code_of insns)

length-insns_from : (state n : ℕ) → length (insns_from state n) ≡ n
unfolding insns_from
length-insns_from state zero = refl
length-insns_from state (suc n) = ap suc (length-insns_from (mix_u64 state).1 n)

pub length-guest : (seed size : ℕ) → length (code_of (guest_insns seed size)) ≡ 4 * (size + 2)
length-guest seed size =
    omega (arith, length-code_of (guest_insns seed size), length-append (insns_from seed size) (last_insn ∷ []), length-insns_from seed size)

-- ---- the whole guest

code_of-append : (first second : List Insn) → code_of (first ++ second) ≡ code_of first ++ code_of second
unfolding code_of
code_of-append [] second = refl
code_of-append (insn ∷ first) second =
    ap (λ code. bytes_of_insn insn ++ code) (code_of-append first second)
    ∙ sym (append_assoc (bytes_of_insn insn) (code_of first) (code_of second))

-- the first instruction, those that are drawn, and the last one
pub guest_is_put : (seed size : ℕ) (one two three : List ℕ) → one ≡ bytes_of_insn first_insn
    → two ≡ one ++ code_of (insns_from seed size) → three ≡ two ++ bytes_of_insn last_insn → three ≡ code_of (guest_insns seed size)
unfolding code_of
guest_is_put seed size one two three first draws last =
    let middle : List ℕ = code_of (insns_from seed size) in
    last
    ∙ ap (λ code. code ++ bytes_of_insn last_insn) (draws ∙ ap (λ code. code ++ middle) first)
    ∙ append_assoc (bytes_of_insn first_insn) middle (bytes_of_insn last_insn)
    ∙ ap (λ code. bytes_of_insn first_insn ++ (middle ++ code)) (sym (append-nil (bytes_of_insn last_insn)))
    ∙ ap (λ code. bytes_of_insn first_insn ++ code) (sym (code_of-append (insns_from seed size) (last_insn ∷ [])))
