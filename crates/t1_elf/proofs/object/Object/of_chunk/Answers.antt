use Rattle.std.proofs.Common.{◌≡◌, ◌∷◌, [], ◌++◌, ◌∙◌, List, ap, sym, subst}
use Rattle.t1_elf.specs.declared.object.Chunk.{Chunk}
use Rattle.t1_elf.specs.Saved.{IsSavable}
use Rattle.t1_elf.proofs.Chunks.{one_is_savable}
use Rattle.t1_elf.proofs.object.Object.of_chunk.Goals as goal

pub returns-clause-savable : goal.returns-clause-savable
returns-clause-savable c =
    let is : c.from_vec.result ≡ c.args.chunk ∷ [] =
    c.from_vec.ensures ∙ c.push_reserved.ensures.items ∙ ap (λ l. l ++ c.args.chunk ∷ []) c.in_ok-chunks.ensures.items in
    let P : List Chunk → Type 0 = λ chunks. IsSavable (record { entry = c.args.entry; chunks = chunks }) in
    subst P (sym is) (one_is_savable c.args.entry c.args.chunk c.requires.bytes c.requires.size)
