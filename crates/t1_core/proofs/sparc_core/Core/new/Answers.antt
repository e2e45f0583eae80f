-- The parts of a core that is new.
use Rattle.std.proofs.Common.{◌≡◌, ◌<◌, ◌≤◌, ℕ, List, length, ap, sym, ◌∙◌, arith}
use Rattle.t1_shape.proofs.Numbers.{strands_are}
use Rattle.t1_select.proofs.Counts.{length-counted}
use Rattle.t1_core.proofs.sparc_core.Core.new.Goals as goal

pub invariant_of-result : goal.invariant_of-result
invariant_of-result c =
    let strands : ℕ = c.args.config.now.strands in
    let threads : length c.in_ok-threads.threads.items ≡ strands = c.in_ok-threads.ensures.few in
    let most : strands ≤ 8 = (let few = c.requires.config.few_strands in let eight = (strands_are c.args.config.now.chip).1 in omega (arith, few, eight)) in
    let cores : c.args.config.now.cores ≤ 8 = c.requires.config.few_cores in
    let turns : length c.new-3.result ≡ strands = ap (λ (ts : List ℕ). length ts) c.new-3.ensures ∙ length-counted 0 strands in
    record {
      core = omega (arith, c.requires.core, cores);
      few = omega (arith, threads, most);
      ram_is = c.requires.config.ram_is;
      queue = turns ∙ sym threads;
      none_made = c.in_ok-with_capacity.ensures.items;
      room = omega (arith, threads, c.in_ok-with_capacity.ensures.capacity);
    }
