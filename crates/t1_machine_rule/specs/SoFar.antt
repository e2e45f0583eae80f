-- The traces and the log of a machine whose run has not ended: what of a joint history holds so far. The
-- program order of each strand, and the place of each of its accesses, are of the core's own rule.
use Rattle.std.specs.Prelude.{ℕ, ◌≡◌, ◌<◌, ◌≤◌, List, Some}
use Rattle.std.specs.List.{slice_get}
use Rattle.t1_shape.specs.Numbers.{banks, io_bridge}
use Rattle.t1_event.specs.declared.commit.Commit.{Commit}
use Rattle.t1_event.specs.declared.item.How.TheVariants as how
use Rattle.t1_event.specs.declared.trace.Trace.{Trace}
use Rattle.t1_event.specs.Kinds.{IsAccess}
use Rattle.t1_event.specs.Items.{items_of}
use Rattle.t1_event.specs.Log.{core_of}
use Rattle.t1_event.specs.Order.{Act}
use Rattle.t1_event.specs.Places.{home, IsFilledRightly}
use Rattle.t1_event.specs.Times.{at_of}
use Rattle.t1_joint.specs.Start.{Setup}
use Rattle.t1_joint.specs.JointHistory.{run_of, Names, IsPostTime, IsRecordOf, IsBankCommit, IsBridgeCommit}

pub record HoldsSoFar (w : Setup) (traces : List Trace) (log : List Commit) : Type 0 where
  -- naming: an access placed as a commit is named by it
  pub named : (x : Act (items_of traces)) (n seen : ℕ) → x.item.how ≡ how.Commit n seen → (commit : Commit) × (slice_get log n ≡ Some commit) × Names commit n x
  -- times
  pub at : (x : Act (items_of traces)) → IsPostTime (run_of w traces log) (home (run_of w traces log) x) (at_of x.item.how)
  pub seen : (n : ℕ) (commit : Commit) → slice_get log n ≡ Some commit → commit.seen ≤ n
  pub ascends : (m n : ℕ) (a b : Commit) → m < n → slice_get log m ≡ Some a → slice_get log n ≡ Some b → a.dest ≡ b.dest
      → core_of w.config.strands a ≡ core_of w.config.strands b → a.seen ≤ b.seen
  -- each commit is the record of what its destination serves, and fills the right way
  pub record_is : (n : ℕ) (commit : Commit) (x : Act (items_of traces)) → slice_get log n ≡ Some commit → Names commit n x → IsAccess x.item.kind
      → IsRecordOf (run_of w traces log) commit x.item
  pub bank : (n : ℕ) (commit : Commit) → slice_get log n ≡ Some commit → commit.dest < banks w.config.chip → IsBankCommit (run_of w traces log) n commit
  pub bridge : (n : ℕ) (commit : Commit) → slice_get log n ≡ Some commit → commit.dest ≡ io_bridge w.config.chip → IsBridgeCommit commit
  pub filled : (n : ℕ) (commit : Commit) → slice_get log n ≡ Some commit → IsFilledRightly (run_of w traces log) n commit
