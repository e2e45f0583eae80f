use Rattle.std.proofs.Common.{◌≡◌, drop}
use Rattle.t1_bank.specs.Copies.{AreOfCaches, HasCores}
use Rattle.t1_dir.specs.Directory.{without_kills}
use Rattle.t1_bank.proofs.copies.drop_copies.Given as goal

abbrev pub invariant-loop-kill : goal.invariant-loop-kill
invariant-loop-kill l = record {
  value : without_kills l.directory (drop l.kill-index l.kills) ≡ without_kills l.initial.directory l.kills;
  cores : HasCores l.directory l.cores;
  shape : l.directory.shape ≡ l.initial.directory.shape;
  rest : AreOfCaches l.directory.shape l.cores (drop l.kill-index l.kills);
}
