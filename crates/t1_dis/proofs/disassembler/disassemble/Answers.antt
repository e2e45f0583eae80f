use Rattle.std.proofs.Common.{◌≡◌, ap, ◌∙◌, arith, subst}
use Rattle.t1_lex.specs.Parts.{bytes_of}
use Rattle.t1_lex.specs.Tokens.{lexemes_in, cut_of}
use Rattle.t1_insn.specs.Ranges.{IsInRange}
use Rattle.t1_insn.specs.declared.instruction.Insn.{Insn}
use Rattle.t1_decode.specs.Words.{insn_of}
use Rattle.t1_dis.specs.Texts.{text_of, parts_of}
use Rattle.t1_dis.proofs.Lines.{text_has_lexemes}
use Rattle.t1_dis.proofs.disassembler.disassemble.Goals as goal

pub returns-clause-tokens : goal.returns-clause-tokens
returns-clause-tokens c =
    let e : c.done.result.bytes ≡ text_of c.args.addr c.args.word = c.done.ensures ∙ c.put_insn.ensures ∙ ap (λ i. bytes_of (parts_of c.args.addr c.args.word i)) c.decode.ensures.value in
    ap (λ l. lexemes_in (cut_of l)) e ∙ text_has_lexemes c.args.addr c.args.word (insn_of c.args.word) (omega arith) (subst (λ (i : Insn). IsInRange i) c.decode.ensures.value c.decode.ensures.in_range)
