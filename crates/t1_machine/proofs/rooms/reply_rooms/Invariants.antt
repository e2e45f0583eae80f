use Rattle.std.proofs.Common.{◌≡◌, ◌+◌, ◌*◌, ◌^◌, ◌<◌, drop}
use Rattle.t1_machine.specs.Machine.{reply_rooms}
use Rattle.t1_machine.proofs.rooms.reply_rooms.Given as goal

abbrev pub invariant-loop-ring : goal.invariant-loop-ring
invariant-loop-ring l = record {
  word : l.word + l.bit * reply_rooms (drop l.ring-index l.replies) ≡ reply_rooms l.replies;
  below : l.word < l.bit;
  bit : l.bit ≡ 2 ^ l.ring-index;
}
