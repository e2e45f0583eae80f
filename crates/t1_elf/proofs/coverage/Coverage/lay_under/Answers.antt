use Rattle.std.proofs.Common.{◌≡◌, ℕ, ◌+◌, ◌-◌, ◌≤◌, List, ◌++◌, length, take, drop, Option, refl, ap, sym, ◌∙◌, subst, arith, length-append}
use Rattle.std.proofs.lemmas.List.{length-take, length-replicate}
use Rattle.std.specs.BTreeMap.{get}
use Rattle.std.specs.Ordering.{nat_cmp}
use Rattle.t1_elf.specs.Gaps.{AreGaps, IsPartlyLaid, gaps_of}
use Rattle.t1_elf.specs.Images.{zeros_of, with_bytes_at}
use Rattle.t1_elf.proofs.Cutting.{CutsGap, gaps_after}
use Rattle.t1_elf.proofs.Laying.{length-with_bytes_at}
use Rattle.t1_elf.proofs.Underneath.{cuts, all_laid, more_is_laid}
use Rattle.t1_elf.proofs.coverage.Coverage.lay_under.Goals as goal

-- the size of a chunk
content_len : (bytes : List ℕ) (zeros : ℕ) → length (bytes ++ zeros_of zeros) ≡ length bytes + zeros
content_len bytes zeros = omega (arith, length-append bytes (zeros_of zeros), length-replicate {A = ℕ} zeros 0)

pub loop-gap-preserved : goal.loop-gap-preserved
loop-gap-preserved c =
    let memory : List ℕ = c.loop-gap.self.memory.items in
    let addr : ℕ = c.args.addr in
    let bytes : List ℕ = c.args.bytes.now in
    let zeros : ℕ = c.args.zeros in
    let from : ℕ = c.max-from.result in
    let to : ℕ = c.min-to.result in
    let high : ℕ = c.loop-gap.high in
    let gaps : ℕ → Option ℕ = gaps_of c.loop-gap.self in
    let gaps' : ℕ → Option ℕ = gaps_of c.cut.new.self in
    let memory' : List ℕ = c.put.new.self.memory.items in
    let same : gaps' ≡ gaps_of c.put.new.self = ap (get nat_cmp) (sym c.put.ensures.gaps) in
    let cut : CutsGap gaps gaps' (length memory) =
    cuts gaps gaps' (length memory) c.in-Some.gap.0 c.in-Some.gap.1 from to addr high c.loop-gap.invariant.gaps c.in-Some.ensures.gap c.in-Some.ensures.last
    c.in_ok-cut.ensures.cut c.max-from.ensures c.min-to.ensures c.in-Some.ensures.between in
    let put : memory' ≡ with_bytes_at memory from (take (to - from) (drop (from - addr) bytes)) =
    c.put.ensures.memory ∙ ap (λ m. with_bytes_at m.items from c.part.result.now) c.in_ok-cut.ensures.memory ∙ ap (with_bytes_at memory from) c.part.ensures in
    let behind : to ≤ length memory = omega (arith, cut.to_behind, (cut.were.within cut.start cut.behind cut.gap).1) in
    let put_len : length memory' ≡ length memory =
    ap length put ∙ length-with_bytes_at memory from (take (to - from) (drop (from - addr) bytes))
    (omega (arith, cut.some, behind, length-take (to - from) (drop (from - addr) bytes))) in
    let whole : length (bytes ++ zeros_of zeros) ≡ length bytes + zeros = content_len bytes zeros in
    let low : addr ≤ from = omega (arith, c.max-from.ensures) in
    let less : from ≤ high = omega (arith, c.max-from.ensures, c.in-Some.ensures.between.0, c.in-Some.ensures.between.2) in
    let to_high : to ≤ high = omega (arith, c.min-to.ensures) in
    let N : ℕ → Type 0 = λ n. AreGaps gaps' n in
    let G : (ℕ → Option ℕ) → Type 0 = λ g. AreGaps g (length memory') in
    record {
      len = put_len ∙ c.loop-gap.invariant.len;
      gaps = subst G same (subst N (sym put_len) (gaps_after gaps gaps' (length memory) cut));
      above = low;
      below = omega (arith, less, c.loop-gap.invariant.below);
      laid = λ image under was len.
          let P : (ℕ → Option ℕ) → Type 0 = λ g. IsPartlyLaid g memory' image (with_bytes_at under addr (take (from - addr) (bytes ++ zeros_of zeros))) in
          subst P same (more_is_laid gaps gaps' memory memory' image under bytes zeros addr high (omega (arith, whole, len, c.requires.within))
          (omega (arith, whole, c.loop-gap.invariant.below)) cut refl low less to_high put (c.loop-gap.invariant.laid image under was len));
    }

pub returns : goal.returns
returns c = λ image under was len.
    let bytes : List ℕ = c.args.bytes.now in
    let content : List ℕ = bytes ++ zeros_of c.args.zeros in
    let whole : length content ≡ length bytes + c.args.zeros = content_len bytes c.args.zeros in
    all_laid under content c.args.addr (omega (arith, whole, len, c.requires.within)) (gaps_of c.loop-gap.self) c.loop-gap.self.memory.items image
    c.loop-gap.high c.loop-gap.invariant.above (c.loop-gap.invariant.laid image under was len) (c.in_default.ensures.none refl)
