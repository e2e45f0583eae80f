-- The start of a core's strands.
use Rattle.std.proofs.Common.{◌≡◌, ℕ, ◌+◌, ◌-◌, ◌<◌, ◌≤◌, List, [], ◌∷◌, ◌++◌, ap, sym, ◌∙◌, suc, arith, append_assoc, append-nil}
use Rattle.t1_event.specs.declared.report.Config.{Config}
use Rattle.t1_joint.specs.Start.{start_in}
use Rattle.t1_core.specs.Threads.{ThreadState}
use Rattle.t1_core.specs.Start.{first_thread, threads_from}

pub one_thread_more : (config : Config) (entry first k n : ℕ) (threads : List ThreadState) → k < n
    → (threads ++ first_thread (start_in config entry (first + k)) config.budget ∷ []) ++ threads_from config entry (first + (k + 1)) (n - (k + 1))
    ≡ threads ++ threads_from config entry (first + k) (n - k)
unfolding threads_from
one_thread_more config entry first k n threads h =
    let s : n - k ≡ suc (n - (k + 1)) = omega arith in
    let a : first + (k + 1) ≡ first + k + 1 = omega arith in
    let t : ThreadState = first_thread (start_in config entry (first + k)) config.budget in
    append_assoc threads (t ∷ []) (threads_from config entry (first + (k + 1)) (n - (k + 1)))
    ∙ (ap (λ (m : ℕ). threads ++ t ∷ threads_from config entry m (n - (k + 1))) a
    ∙ ap (λ (m : ℕ). threads ++ threads_from config entry (first + k) m) (sym s))

pub no_thread_more : (config : Config) (entry first k n : ℕ) (threads : List ThreadState) → n ≤ k → threads ++ threads_from config entry (first + k) (n - k) ≡ threads
unfolding threads_from
no_thread_more config entry first k n threads h =
    let none : n - k ≡ 0 = omega arith in
    ap (λ (m : ℕ). threads ++ threads_from config entry (first + k) m) none ∙ append-nil threads
