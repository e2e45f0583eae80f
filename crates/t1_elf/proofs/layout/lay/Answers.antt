use Rattle.std.proofs.Common.{◌≡◌, ℕ, ◌+◌, ◌-◌, ◌<◌, ◌≤◌, min, List, ◌++◌, length, take, ap, sym, ◌∙◌, subst, arith}
use Rattle.std.specs.Prelude.{All}
use Rattle.std.proofs.lemmas.List.{length-replicate, length-take, get_or-take, take_all}
use Rattle.t1_elf.specs.declared.coverage.Coverage.{Coverage}
use Rattle.t1_elf.specs.declared.object.Chunk.{Chunk}
use Rattle.t1_elf.specs.declared.object.Image.{Image}
use Rattle.t1_elf.specs.Gaps.{Covers}
use Rattle.t1_elf.specs.Images.{zeros_of, with_bytes_at, laid}
use Rattle.t1_elf.specs.Parsed.{IsBelow}
use Rattle.t1_elf.proofs.Laying.{length-laid, laid_more}
use Rattle.t1_elf.proofs.layout.lay.Goals as goal

-- the length of an image
image_len : (ram : ℕ) (chunks : List Chunk) → All (IsBelow ram) chunks → length (laid (zeros_of ram) chunks) ≡ ram
image_len ram chunks below =
    let len : length (zeros_of ram) ≡ ram = length-replicate ram 0 in
    let P : ℕ → Type 0 = λ n. All (IsBelow n) chunks in
    length-laid (zeros_of ram) chunks (subst P (sym len) below) ∙ len

-- and of what the first chunks make
front_len : (ram : ℕ) (chunks : List Chunk) (n : ℕ) → All (IsBelow ram) chunks → length (laid (zeros_of ram) (take n chunks)) ≡ ram
front_len ram chunks n below = image_len ram (take n chunks) (λ k d less.
    let count : length (take n chunks) ≡ min n (length chunks) = length-take n chunks in
    let P : Chunk → Type 0 = λ c. IsBelow ram c in
    subst P (sym (get_or-take n chunks k d (omega (arith, less, count)))) (below k d (omega (arith, less, count))))

pub loop-left-init : goal.loop-left-init
loop-left-init c =
    let chunks : List Chunk = c.as_slice-chunks.result.now in
    let image : List ℕ = laid (zeros_of c.args.ram) chunks in
    let below : All (IsBelow c.args.ram) chunks = subst (All (IsBelow c.args.ram)) (sym c.as_slice-chunks.ensures) c.requires in
    let len : length image ≡ c.args.ram = image_len c.args.ram chunks below in
    let fresh = c.in_ok-coverage.ensures image len in
    let P : List Chunk → Type 0 = λ cs. Covers c.in_ok-coverage.coverage image (laid (zeros_of c.args.ram) cs) in
    record {
      size = sym fresh.image_len ∙ len;
      few = omega arith;
      laid = subst P (sym (take_all (length chunks) chunks (omega arith))) fresh;
    }

pub loop-left-preserved : goal.loop-left-preserved
loop-left-preserved c =
    let ram : ℕ = c.args.ram in
    let chunks : List Chunk = c.as_slice-chunks.result.now in
    let image : List ℕ = laid (zeros_of ram) chunks in
    let left : ℕ = c.loop-left.left - 1 in
    let chunk : Chunk = c.index-chunks-left.result in
    let below : All (IsBelow ram) chunks = subst (All (IsBelow ram)) (sym c.as_slice-chunks.ensures) c.requires in
    let under : List ℕ = laid (zeros_of ram) (take left chunks) in
    let less : left < length chunks = omega arith in
    let one_more : left + 1 ≡ c.loop-left.left = omega arith in
    let over : laid (zeros_of ram) (take c.loop-left.left chunks) ≡ with_bytes_at under chunk.addr (c.as_slice.result.now ++ zeros_of chunk.zeros) =
    ap (λ n. laid (zeros_of ram) (take n chunks)) (sym one_more)
    ∙ laid_more (zeros_of ram) chunks left chunk less c.index-chunks-left.is
    ∙ ap (λ b. with_bytes_at under chunk.addr (b ++ zeros_of chunk.zeros)) (sym c.as_slice.ensures) in
    let P : List ℕ → Type 0 = λ u. Covers c.loop-left.coverage image u in
    let under_len : length under ≡ length c.loop-left.coverage.memory.items = front_len ram chunks left below ∙ sym c.loop-left.invariant.size in
    let now = c.in_ok-lay_under.ensures image under (subst P over c.loop-left.invariant.laid) under_len in
    record {
      size = sym now.image_len ∙ image_len ram chunks below;
      few = omega arith;
      laid = now;
    }

-- the memory at the end is the image
memory_is : (coverage : Coverage) (ram left : ℕ) (chunks : List Chunk) → length coverage.memory.items ≡ ram → left ≤ 0
    → Covers coverage (laid (zeros_of ram) chunks) (laid (zeros_of ram) (take left chunks))
    → Covers coverage (laid (zeros_of ram) chunks) (zeros_of (length coverage.memory.items))
unfolding laid
memory_is coverage ram left chunks size none now =
    let zero : left ≡ 0 = omega (arith, none) in
    let P : List ℕ → Type 0 = λ u. Covers coverage (laid (zeros_of ram) chunks) u in
    subst P (ap (λ n. laid (zeros_of ram) (take n chunks)) zero ∙ ap zeros_of (sym size)) now

pub returns-clause-value : goal.returns-clause-value
returns-clause-value c =
    let ram : ℕ = c.args.ram in
    let chunks : List Chunk = c.as_slice-chunks.result.now in
    let whole : c.into_memory.result.items ≡ laid (zeros_of ram) chunks =
    c.into_memory.ensures (laid (zeros_of ram) chunks)
    (memory_is c.loop-left.coverage ram c.loop-left.left chunks c.loop-left.invariant.size c.loop-left-test.false c.loop-left.invariant.laid) in
    let with_ram : List ℕ → Image = λ r. record { entry = c.args.object.now.entry; ram = r } in
    ap with_ram (c.from_vec.ensures ∙ whole ∙ ap (laid (zeros_of ram)) c.as_slice-chunks.ensures)

pub returns-clause-size : goal.returns-clause-size
returns-clause-size c =
    let ram : ℕ = c.args.ram in
    let chunks : List Chunk = c.as_slice-chunks.result.now in
    let below : All (IsBelow ram) chunks = subst (All (IsBelow ram)) (sym c.as_slice-chunks.ensures) c.requires in
    let whole : c.into_memory.result.items ≡ laid (zeros_of ram) chunks =
    c.into_memory.ensures (laid (zeros_of ram) chunks)
    (memory_is c.loop-left.coverage ram c.loop-left.left chunks c.loop-left.invariant.size c.loop-left-test.false c.loop-left.invariant.laid) in
    ap length (c.from_vec.ensures ∙ whole) ∙ image_len ram chunks below
