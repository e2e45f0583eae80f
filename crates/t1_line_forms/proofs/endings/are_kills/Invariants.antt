use Rattle.std.proofs.Common.{◌-◌}
use Rattle.t1_line_forms.specs.Forms.{AreKills}
use Rattle.t1_line_forms.proofs.endings.are_kills.Given as goal

abbrev pub invariant-loop-count : goal.invariant-loop-count
invariant-loop-count l = record {
  back : AreKills (64 - l.count) l.rest → AreKills 64 l.text;
  forth : AreKills 64 l.text → AreKills (64 - l.count) l.rest;
}
