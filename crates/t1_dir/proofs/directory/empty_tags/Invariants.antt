use Rattle.std.proofs.Common.{◌≡◌, None, replicate, vec_capacity}
use Rattle.t1_dir.proofs.directory.empty_tags.Given as goal

abbrev pub invariant-loop : goal.invariant-loop
invariant-loop l = record {
  items : l.all.items ≡ replicate l.counter (replicate 512 None);
  room : vec_capacity l.all ≡ l.cores;
}
