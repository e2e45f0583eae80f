-- In a joint history the times along a strand never fall: an access that has a time is a read, and was
-- done at its time.
use Rattle.std.proofs.Common.{◌≡◌, ℕ, true, true≢false, cond, List, Some, None, refl, sym, ap, ◌∙◌, arith}
use Rattle.std.proofs.lemmas.Option.{none-some, same_Some}
use Rattle.t1_event.specs.declared.item.Item.{Item}
use Rattle.t1_event.specs.declared.item.How.{How}
use Rattle.t1_event.specs.declared.item.How.TheVariants as how
use Rattle.t1_event.specs.declared.item.ItemKind.{ItemKind}
use Rattle.t1_event.specs.declared.item.ItemKind.TheVariants as kind
use Rattle.t1_event.specs.declared.commit.Commit.{Commit}
use Rattle.t1_event.specs.declared.trace.Trace.{Trace}
use Rattle.t1_event.specs.Kinds.{is_access, IsRead}
use Rattle.t1_event.specs.Items.{items_of}
use Rattle.t1_event.specs.Times.{at_of, done_of, IsCommit}
use Rattle.t1_event.specs.Order.{Act}
use Rattle.t1_event.specs.Places.{Run, Row}
use Rattle.t1_joint.specs.Start.{Setup}
use Rattle.t1_joint.specs.JointHistory.{run_of, IsJointHistory}
use Rattle.t1_order.specs.Next.{hit_time, time_of}
use Rattle.t1_order.specs.Orderable.{TimesNeverFall}
use Rattle.t1_order.specs.Joint.{JointHistoriesAreOrderable}
use Rattle.t1_order.proofs.Steps.{timed_access}

-- what has a time is placed at it
how_timed : (item : Item) (time : ℕ) → time_of item ≡ Some time → hit_time item.how ≡ Some time
how_timed item time e = sym (ap (λ b. cond b (hit_time item.how) None) (timed_access item time e)) ∙ e

done_is : (h : How) (time : ℕ) → hit_time h ≡ Some time → done_of h ≡ time
done_is how.Unplaced time e = absurd (none-some time e)
done_is (how.Forward t) time e = same_Some t time e
done_is (how.Hit t) time e = same_Some t time e
done_is (how.Commit index seen) time e = absurd (none-some time e)

at_is : (h : How) (time : ℕ) → hit_time h ≡ Some time → at_of h ≡ time
at_is how.Unplaced time e = absurd (none-some time e)
at_is (how.Forward t) time e = same_Some t time e
at_is (how.Hit t) time e = same_Some t time e
at_is (how.Commit index seen) time e = absurd (none-some time e)

no_commit : (h : How) (time : ℕ) → hit_time h ≡ Some time → IsCommit h → ⊥
no_commit how.Unplaced time e p = p
no_commit (how.Forward t) time e p = p
no_commit (how.Hit t) time e p = p
no_commit (how.Commit index seen) time e p = none-some time e

-- a store is placed as a commit, so that what has a time is a read
read_is : (h : Run) (x : Act h.traces) (k : ItemKind) (time : ℕ) → is_access k ≡ true → Row h x k → hit_time x.item.how ≡ Some time → IsRead k
read_is h x kind.Fetch time access row e = refl
read_is h x kind.Load time access row e = refl
read_is h x kind.Store time access row e = absurd (no_commit x.item.how time e row)
read_is h x (kind.Atomic wrote) time access row e = refl
read_is h x kind.Membar time access row e = absurd (true≢false (sym access))
read_is h x kind.Flush time access row e = absurd (true≢false (sym access))

times_never_fall : (w : Setup) (traces : List Trace) (log : List Commit) → IsJointHistory w traces log → TimesNeverFall (items_of traces)
times_never_fall w traces log j x y earlier later before d e =
    let first = how_timed x.item earlier d in
    let second = how_timed y.item later e in
    let access = timed_access x.item earlier d in
    let read = read_is (run_of w traces log) x x.item.kind earlier access (j.places.rightly x access).row first in
    let low = j.program.read x y before read (timed_access y.item later e) in
    let m = done_is x.item.how earlier first in
    let n = at_is y.item.how later second in
    omega (arith, low, m, n)

pub joint_are_orderable : JointHistoriesAreOrderable
joint_are_orderable w traces log j few short = record {
  few = few;
  short = short;
  named = record { placed = j.naming.placed; named = λ x n seen access e. j.naming.named x n seen e; names = j.naming.names };
  times = times_never_fall w traces log j;
}
