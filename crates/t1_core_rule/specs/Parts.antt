-- The part of a run that a history of a core is.
use Rattle.std.specs.Prelude.{ℕ, List, [], length, false, Option, Some, None}
use Rattle.std.specs.List.{slice_get}
use Rattle.t1_shape.specs.Shapes.{Shape}
use Rattle.t1_decode.specs.Words.{insn_of}
use Rattle.t1_state.specs.declared.strand.Strand.{Strand}
use Rattle.t1_state.specs.Registers.{start_of}
use Rattle.t1_exec.specs.Needs.{need_of}
use Rattle.t1_packet.specs.declared.op.Op.TheVariants as op
use Rattle.t1_packet.specs.Data.{RequestData}
use Rattle.t1_joint.specs.Parts.{Standing, Fetching, Has, Out, Ended, CorePart}
use Rattle.t1_received.specs.Requests.{sent_to}
use Rattle.t1_core.specs.declared.phase.Phase.{Phase}
use Rattle.t1_core.specs.declared.phase.Phase.TheVariants as phase
use Rattle.t1_core.specs.Threads.{ThreadState, op_for}
use Rattle.t1_core.specs.Ends.{traces_of}
use Rattle.t1_core_rule.specs.Histories.{History}
use Rattle.t1_core_rule.specs.Outs.{stores_out, numbers_of}

-- how a strand stands; `item` is the number of its next item
abbrev pub standing_of : ℕ → ℕ → ℕ → Strand → ℕ → Phase → Standing
standing_of core strand ram s item phase.Fetch = Fetching
standing_of core strand ram s item (phase.Have word) = Has word
standing_of core strand ram s item (phase.OutFetch way seen) =
    Out (record { core = core; strand = strand; item = item; seen = seen; op = op.Fetch s.pc way })
standing_of core strand ram s item (phase.OutData word way seen) =
    Out (record { core = core; strand = strand; item = item; seen = seen; op = op_for (need_of s (insn_of word) ram) way })
standing_of core strand ram s item (phase.Ended ending) = Ended ending

-- of a strand that is not there nothing is told
abbrev pub state_at : Option ThreadState → Strand
state_at None = start_of 0 1 0 false
state_at (Some t) = t.strand

abbrev pub standing_at : ℕ → ℕ → ℕ → Option ThreadState → Standing
standing_at core strand ram None = Fetching
standing_at core strand ram (Some t) = standing_of core strand ram t.strand (length t.items) t.phase

abbrev pub waiting_at : Option ThreadState → List ℕ
waiting_at None = []
waiting_at (Some t) = numbers_of t.stores

abbrev pub sending_at : ℕ → ℕ → Option ThreadState → List RequestData
sending_at core strand None = []
sending_at core strand (Some t) = stores_out core strand t.stores t.times

abbrev pub part_of : Shape → History → CorePart
part_of shape h = record {
  traces = traces_of h.core;
  state = λ s. state_at (slice_get h.core.threads s);
  standing = λ s. standing_at h.core.number s h.core.ram (slice_get h.core.threads s);
  waiting = λ s. waiting_at (slice_get h.core.threads s);
  sending = λ s. sending_at h.core.number s (slice_get h.core.threads s);
  received = h.received;
  sent = λ d. sent_to shape d h.sent;
}
