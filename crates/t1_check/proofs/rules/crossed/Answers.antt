use Rattle.std.proofs.Common.{◌∙◌, ap, arith, ℕ, List, length, get_or}
use Rattle.t1_check.proofs.Binding.{AreNumbers, strand_means}
use Rattle.t1_check.proofs.rules.crossed.Goals as goal

pub returns : goal.returns
returns c =
    let bs : List ℕ = c.as_slice.result.now in
    let gs : List ℕ = c.as_slice-2.result.now in
    let n : AreNumbers c.args.rule c.args.items.now c.args.row.now bs gs = record {
      bounds_len = ap length c.as_slice.ensures.value ∙ c.in_ok-bounds.ensures.0;
      goals_len = ap length c.as_slice-2.ensures.value ∙ c.in_ok-goals.ensures.0;
      each_bound = λ i l. ap (λ (v : List ℕ). get_or v i 0) c.as_slice.ensures.value ∙ c.in_ok-bounds.ensures.1 i l;
      each_goal = λ i l. ap (λ (v : List ℕ). get_or v i 0) c.as_slice-2.ensures.value ∙ c.in_ok-goals.ensures.1 i l;
      fits = λ i. omega (arith, c.type_inv.row i);
    } in
    strand_means c.args.rule c.args.items.now c.args.row.now bs gs n c.first_crossing.result c.first_crossing.ensures
