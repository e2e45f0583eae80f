-- The reports of joint histories, and of machines that have ended, read back.
use Rattle.std.proofs.Common.{ℕ, zero, suc, ◌%◌, ◌^◌, ◌<◌, ◌==◌, ◌&&◌, inl, inr, List, [], ◌∷◌, length, get_or, refl, ◌≡◌, arith}
use Rattle.std.specs.Prelude.{All, IsTrue}
use Rattle.std.proofs.lemmas.Bool.{cases_Bool}
use Rattle.t1_num.specs.MemoryLaws.{AreBytes}
use Rattle.t1_packet.specs.declared.op.Op.{Op}
use Rattle.t1_packet.specs.declared.op.Op.TheVariants.{Fetch, Load, Store, Swap, Cas}
use Rattle.t1_event.specs.declared.commit.Commit.{Commit}
use Rattle.t1_event.specs.declared.report.Place.{Place}
use Rattle.t1_event.specs.declared.trace.Trace.{Trace}
use Rattle.t1_event.specs.Items.{items_of}
use Rattle.t1_event.specs.Order.{IsListing}
use Rattle.t1_event.specs.Printable.{IsPrintableReport}
use Rattle.t1_joint.specs.Start.{Setup}
use Rattle.t1_joint.specs.JointHistory.{IsJointHistory}
use Rattle.t1_machine_rule.proofs.Machines.{end_in_histories, reports_obey}
use Rattle.t1_machine_rule.proofs.Stand.{log_is_short}
use Rattle.t1_iob.specs.Console.{console_addr, console_byte_of, with_byte, console_of}
use Rattle.t1_machine_rule.specs.Parts.{traces_in}
use Rattle.t1_machine_rule.specs.Words.{AreWords}
use Rattle.t1_take.specs.Limits.{is_in_limits}
use Rattle.t1_reads_back.specs.Laws.{reported, ReadsBack, ReportsAreWellFormed}
use Rattle.t1_reads_back.proofs.Histories.{histories_good}

none_byte : (i : ℕ) → get_or {A = ℕ} [] i 0 ≡ 0
none_byte zero = refl
none_byte (suc i) = refl

one_byte : (byte : ℕ) (bytes : List ℕ) → byte < 256 → AreBytes bytes → AreBytes (byte ∷ bytes)
one_byte byte bytes l a zero = l
one_byte byte bytes l a (suc i) = a i

-- a store puts a byte on the console
with_bytes : (o : Op) (bytes : List ℕ) → AreBytes bytes → AreBytes (with_byte (console_byte_of o) bytes)
with_bytes (Store addr size value) bytes a =
    elim (cases_Bool ((addr == console_addr) && (size == 1))) [
      | inl e ↦ rw e (one_byte (value % 256) bytes (omega arith) a)
      | inr e ↦ rw e a
    ]
with_bytes (Fetch addr way) bytes a = a
with_bytes (Load addr size way) bytes a = a
with_bytes (Swap addr size new) bytes a = a
with_bytes (Cas addr size expect new) bytes a = a

console_bytes : (log : List Commit) → AreBytes (console_of log)
console_bytes [] = λ i. (let z = none_byte i in omega (arith, z))
console_bytes (commit ∷ log) = with_bytes commit.op (console_of log) (console_bytes log)

-- the report of a joint history with the console of its log
pub history_reads_back : (w : Setup) (traces : List Trace) (log : List Commit) (order : List Place) → IsJointHistory w traces log → IsTrue (is_in_limits w.config)
    → All AreWords traces → length log < 2 ^ 32 → IsListing (items_of traces) order → IsPrintableReport (reported w traces log order (console_of log))
    → ReadsBack (reported w traces log order (console_of log))
history_reads_back w traces log order history limits words short listing printable = record {
  formed = histories_good w traces log order (console_of log) history limits words short listing printable;
  bytes = record { image = history.setup.bytes; console = console_bytes log };
}

pub reports_good : ReportsAreWellFormed
reports_good w m order run none keys limits entry words =
    let e = end_in_histories w m run none in
    let r = reports_obey w m order run none keys in
    let short = log_is_short w m run in
    history_reads_back w (traces_in m.cores) m.xbar.log order e.history limits words (omega (arith, short)) r.listing (r.printable entry)
