-- A core's time, its caches and its reply ring.
use Rattle.std.proofs.Common.{◌≡◌, ℕ, zero, suc, ◌+◌, ◌<◌, ◌≤◌, List, [], ◌∷◌, ◌++◌, length, get_or, take, drop, Some, refl, ap, sym, ◌∙◌, subst, inl, inr, arith}
use Rattle.std.specs.List.{slice_get}
use Rattle.std.proofs.lemmas.List.{length-take}
use Rattle.t1_num.specs.MemoryLaws.{AreBytes}
use Rattle.t1_packet.specs.declared.cache.Cache.{Cache}
use Rattle.t1_packet.specs.declared.cache.Cache.TheVariants.{Dcache, Icache}
use Rattle.t1_packet.specs.declared.packet.Packet.{Packet}
use Rattle.t1_packet.specs.declared.served.Served.{Served}
use Rattle.t1_event.specs.declared.report.Config.{Config}
use Rattle.t1_event.specs.Posts.{l1_at}
use Rattle.t1_elf.specs.declared.object.Image.{Image}
use Rattle.t1_joint.specs.Lists.{IsIn}
use Rattle.t1_joint.specs.Start.{Setup}
use Rattle.t1_joint.specs.Parts.{CorePart, posts_from}
use Rattle.t1_joint.specs.Proper.{IsTime, l1_by}
use Rattle.t1_received.proofs.Packets.{before_all}
use Rattle.t1_l1.specs.Cache.{CacheState}
use Rattle.t1_fit.proofs.Joins.{caches_by}
use Rattle.t1_fit.proofs.Came.{came_before, time_within}
use Rattle.t1_fit.proofs.Posts.{posts-append}
use Rattle.t1_core.specs.Steps.{CoreState}
use Rattle.t1_core_rule.specs.Histories.{Turn}
use Rattle.t1_core_rule.proofs.Walks.{clocks_go_on, packets_are_past}
use Rattle.t1_core_rule.proofs.Examples.{caches_follow_packets}
use Rattle.t1_machine.specs.Machine.{MachineState}
use Rattle.t1_machine.specs.Start.{IsRunnable, setup_of}
use Rattle.t1_machine_rule.specs.Kept.{history_at, Kept}
use Rattle.t1_machine_rule.specs.Covered.{slots_of}
use Rattle.t1_machine_rule.proofs.Lists.{drop_front}
use Rattle.t1_machine_rule.proofs.Sent.{log_size}
use Rattle.t1_machine_rule.proofs.Fits.{parts, setup, core_within, part_here, fits, proper_here}

take_drop : (n : ℕ) (xs : List Served) → n ≤ length xs → take n xs ++ drop n xs ≡ xs
take_drop zero xs l = refl
take_drop (suc n) [] l = absurd (omega (arith, l))
take_drop (suc n) (x ∷ xs) l = ap (λ (ys : List Served). x ∷ ys) (take_drop n xs (omega (arith, l)))

-- where all that came is below a time that the core knows, the rest are the posts from that time on
rest_posted : (c t : ℕ) (all : List Served) (came rest : List Packet) → came ++ rest ≡ posts_from c 0 all → IsTime came t → ((p : Packet) → IsIn p came → p.index < t) → t ≤ length all
    → rest ≡ posts_from c t (drop t all)
rest_posted c t all came rest e known below le =
    let first : came ≡ posts_from c 0 (take t all) = sym (before_all t came below) ∙ came_before c t all came rest e known in
    let size : 0 + length (take t all) ≡ t = omega (arith, length-take t all, le) in
    let split : posts_from c 0 all ≡ posts_from c 0 (take t all) ++ posts_from c t (drop t all) =
    ap (λ (xs : List Served). posts_from c 0 xs) (sym (take_drop t all le))
    ∙ (posts-append c 0 (take t all) (drop t all) ∙ ap (λ (n : ℕ). posts_from c 0 (take t all) ++ posts_from c n (drop t all)) size) in
    let same : came ++ rest ≡ came ++ posts_from c t (drop t all) =
    e ∙ (split ∙ ap (λ (ps : List Packet). ps ++ posts_from c t (drop t all)) (sym first)) in
    sym (drop_front came rest) ∙ (ap (λ (ps : List Packet). drop (length came) ps) same ∙ drop_front came (posts_from c t (drop t all)))

module _ (config : Config) (image : Image) (runs : IsRunnable (setup_of config image)) (bytes : AreBytes image.ram) (m : MachineState) (g : Kept (setup_of config image) m)
    (short : length m.xbar.log ≤ 4294967295) (c : ℕ) (core : CoreState) (is : slice_get m.cores c ≡ Some core) where
  abbrev w : Setup
  w = setup_of config image

  within : c < config.cores
  within = core_within config image runs bytes m g short c core is

  -- the time is 0 or one past a packet that came, and above every packet that came
  pub time_known : IsTime (history_at w g.calls c).received core.time
  time_known =
      subst (λ (k : CoreState). IsTime (history_at w g.calls c).received k.time) (sym (g.cores c core is)) (clocks_go_on w c (g.calls c) (Turn 0) runs.blocks).is_time

  pub all_past : (p : Packet) → IsIn p (history_at w g.calls c).received → p.index < core.time
  all_past p h =
      let small = (proper_here config image runs bytes m g short c within).small p h in
      let same : (history_at w g.calls c).core.time ≡ core.time = sym (ap (λ (k : CoreState). k.time) (g.cores c core is)) in
      elim (packets_are_past w c (g.calls c) p runs.blocks h) [
        | inl l ↦ omega (arith, l, same)
        | inr e ↦ absurd (omega (arith, small, e))
      ]

  pub time_within_log : core.time ≤ length m.xbar.log
  time_within_log =
      let l = time_within c core.time g.admitted (history_at w g.calls c).received (get_or m.replies c []) (g.replies c within) time_known in
      let z = log_size config image runs.blocks m g in
      omega (arith, l, z)

  -- the reply ring is the posts from the time on
  pub replies_are : get_or m.replies c [] ≡ posts_from c core.time (drop core.time g.admitted)
  replies_are =
      let l = time_within_log in
      let z = log_size config image runs.blocks m g in
      rest_posted c core.time g.admitted (history_at w g.calls c).received (get_or m.replies c []) (g.replies c within) time_known all_past (omega (arith, l, z))

  -- the caches are those of the packets that came, and so those of the log
  came_is : (cache : Cache) → slots_of cache (history_at w g.calls c).core ≡ l1_by config.chip c (history_at w g.calls c).received (history_at w g.calls c).core.time cache
  came_is Dcache = ap (λ (s : CacheState). s.slots) (caches_follow_packets w c (g.calls c) runs.blocks runs.some_units (g.whole c) (proper_here config image runs bytes m g short c within)).dcache
  came_is Icache = ap (λ (s : CacheState). s.slots) (caches_follow_packets w c (g.calls c) runs.blocks runs.some_units (g.whole c) (proper_here config image runs bytes m g short c within)).icache

  pub caches_by_packets : (cache : Cache) → slots_of cache core ≡ l1_by config.chip c (history_at w g.calls c).received core.time cache
  caches_by_packets cache =
      subst (λ (k : CoreState). slots_of cache k ≡ l1_by config.chip c (history_at w g.calls c).received k.time cache) (sym (g.cores c core is)) (came_is cache)

  pub caches_are : (cache : Cache) → slots_of cache core ≡ l1_at config.chip config.strands image.ram m.xbar.log c cache core.time
  caches_are cache =
      let P : CorePart → Type 0 = λ p. IsTime p.received core.time → l1_by config.chip c p.received core.time cache ≡ l1_at config.chip config.strands image.ram m.xbar.log c cache core.time in
      let here : P ((parts config image runs bytes m g short).core c) = λ known.
      caches_by w (setup config image runs bytes m g short) (parts config image runs bytes m g short) (fits config image runs bytes m g short) c core.time cache known in
      caches_by_packets cache ∙ subst P (part_here config image runs bytes m g short c core is) here time_known
