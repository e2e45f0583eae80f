-- A turn is an exec and then a change of the queue, of which the rule does not speak.
use Rattle.std.proofs.Common.{ℕ, ◌%◌, ◌≡◌, List, ◌++◌, slice_index, Option, Some, None, sym, subst}
use mathlib.Core.List.{append-nil}
use Rattle.t1_select.specs.Queue.{moved_last}
use Rattle.t1_packet.specs.Data.{RequestData}
use Rattle.t1_joint.specs.Start.{Setup}
use Rattle.t1_core.specs.Turns.{next_place, with_turns, turned_at, turn_of}
use Rattle.t1_core_rule.specs.Histories.{History, turned_by, after_exec, after_turn}
use Rattle.t1_core_rule.specs.Steady.{IsSteady}
use Rattle.t1_core_rule.specs.Fitting.{IsFitting}
use Rattle.t1_core_rule.proofs.Steadies.{exec_steady}

-- with another queue of strands
abbrev pub queued : History → List ℕ → History
queued h turns = record { core = with_turns h.core turns; received = h.received; sent = h.sent }

-- what each exec keeps, and a change of the queue, a turn keeps
pub turn_keeps : (P : History → Type 0) (h : History) (room : ℕ) → P h → ((strand : ℕ) → P (after_exec h strand room))
    → ((strand : ℕ) (turns : List ℕ) → P (after_exec h strand room) → P (queued (after_exec h strand room) turns)) → P (after_turn h room)
unfolding turn_of
turn_keeps P h room same exec queue = by (next_place h.core room)
  where
    by : (o : Option ℕ) → P (record { core = (turned_at h.core room o).core; received = h.received; sent = h.sent ++ turned_by (turned_at h.core room o).did })
    by None = subst (λ (rs : List RequestData). P (record { core = h.core; received = h.received; sent = rs })) (sym (append-nil h.sent)) same
    by (Some place) =
        let strand : ℕ = slice_index h.core.turns place in
        queue strand (moved_last h.core.turns place) (exec strand)

pub queued_steady : (w : Setup) (core : ℕ) (h : History) (turns : List ℕ) → IsSteady w core h → IsSteady w core (queued h turns)
queued_steady w core h turns s = record {
  chip = s.chip;
  number = s.number;
  ram = s.ram;
  size = s.size;
  dcache = s.dcache;
  icache = s.icache;
  time = s.time;
  past = s.past;
  own = s.own;
  sent_times = s.sent_times;
  ascends = s.ascends;
  threads = s.threads;
}

pub turn_steady : (w : Setup) (core : ℕ) (h : History) (room : ℕ) → w.config.ram % 65536 ≡ 0 → IsSteady w core h → IsSteady w core (after_turn h room)
turn_steady w core h room whole s =
    turn_keeps (λ k. IsSteady w core k) h room s (λ i. exec_steady w core h i room whole s) (λ i turns k. queued_steady w core (after_exec h i room) turns k)

pub queued_fitting : (w : Setup) (h : History) (turns : List ℕ) → IsFitting w h → IsFitting w (queued h turns)
queued_fitting w h turns f = record {
  rest = f.rest;
  are = f.are;
  out = f.out;
  threads = f.threads;
  replies = f.replies;
  dcache = f.dcache;
  icache = f.icache;
  ways = f.ways;
}
