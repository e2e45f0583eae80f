use Rattle.std.proofs.Common.{◌≡◌, ◌≤◌, ◌+◌, ◌++◌, length}
use Rattle.t1_lex.specs.Parts.{bytes_of}
use Rattle.t1_dis.specs.Room.{room_of, AreAscii}
use Rattle.t1_dis.specs.Texts.{slots_parts}
use Rattle.t1_dis.proofs.disassembler.put_slots.Given as goal

abbrev pub invariant-loop-first : goal.invariant-loop-first
invariant-loop-first l = record {
  text : l.text ++ bytes_of (slots_parts l.left l.fields) ≡ l.initial.text ++ bytes_of (slots_parts l.slots l.fields);
  marks : AreAscii l.left;
  room : length l.text + room_of l.left ≤ length l.initial.text + room_of l.slots;
}

abbrev pub decreases-loop-first : goal.decreases-loop-first
decreases-loop-first l = length l.left
