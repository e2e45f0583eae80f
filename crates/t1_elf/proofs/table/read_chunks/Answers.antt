use Rattle.std.proofs.Common.{◌≡◌, ℕ, ◌+◌, ◌*◌, List, ◌++◌, ◌∷◌, [], ◌∙◌, map, ap, sym}
use Rattle.std.specs.Prelude.{filter}
use Rattle.t1_elf.specs.Fields.{table_of, header_count_of, header_at}
use Rattle.t1_elf.specs.Parsed.{chunk_of}
use Rattle.t1_elf.specs.Tests.{is_segment}
use Rattle.t1_elf.proofs.Tables.{header_has_bytes, chunks_next, chunks_done}
use Rattle.t1_elf.proofs.table.read_chunks.Goals as goal

pub add_chunk-requires : goal.add_chunk-requires
add_chunk-requires c =
    let same : c.as_slice-bytes.result.now ≡ c.args.file.now.value.items = c.as_slice-bytes.ensures.value ∙ ap (λ v. v.items) c.as_ref.ensures in
    header_has_bytes c.args.file.now.value.items c.get_be-table.result c.loop-number.number c.get_be-count.result c.read_header-header.result
    (c.get_be-table.ensures.value ∙ ap table_of same) (c.get_be-count.ensures.value ∙ ap header_count_of same) c.requires.inside c.loop-number-test.true
    (c.read_header-header.ensures ∙ ap (λ b. header_at b (c.get_be-table.result + c.loop-number.number * 56)) same)

pub loop-number-preserved : goal.loop-number-preserved
loop-number-preserved c =
    let file : List ℕ = c.args.file.now.value.items in
    let same : c.as_slice-bytes.result.now ≡ file = c.as_slice-bytes.ensures.value ∙ ap (λ v. v.items) c.as_ref.ensures in
    let header_is = c.read_header-header.ensures ∙ ap (λ b. header_at b (c.get_be-table.result + c.loop-number.number * 56)) same in
    chunks_next file c.get_be-table.result c.loop-number.number c.get_be-count.result c.loop-number.chunks _ c.loop-number-test.true
    (c.in_ok-add_chunk.ensures ∙ ap (λ h. c.loop-number.chunks ++ map (chunk_of file) (filter is_segment (h ∷ []))) header_is)
    ∙ c.loop-number.invariant

pub returns : goal.returns
returns c =
    sym (chunks_done c.args.file.now.value.items (c.get_be-table.result + c.loop-number.number * 56) c.loop-number.number c.get_be-count.result c.loop-number.chunks c.loop-number-test.false)
    ∙ c.loop-number.invariant
