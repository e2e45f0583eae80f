-- What an exec does to a strand, by its phase and the need of its word.
use Rattle.std.proofs.Common.{◌≡◌, ◌⊎◌, ◌<◌, ℕ, ◌%◌, ◌==◌, true, false, List, [], ◌∷◌, ◌++◌, length, refl, ap, sym, ◌∙◌, subst, inl, inr, nat_lt, bit_and}
use Rattle.std.proofs.lemmas.Bool.{cases_Bool, eqb-true, ltb-true}
use mathlib.Core.List.{append-nil}
use Rattle.t1_space.specs.Places.{is_io}
use Rattle.t1_decode.specs.Words.{insn_of}
use Rattle.t1_state.specs.declared.strand.Strand.{Strand}
use Rattle.t1_state.specs.Interrupts.{due_of}
use Rattle.t1_exec.specs.declared.need.Need.{Need}
use Rattle.t1_exec.specs.declared.need.Need.TheVariants as need
use Rattle.t1_exec.specs.declared.need.AtomicOp.{AtomicOp}
use Rattle.t1_exec.specs.declared.need.AtomicOp.TheVariants.{Swap, Cas}
use Rattle.t1_exec.specs.Needs.{need_of}
use Rattle.t1_exec.specs.Meanings.{after_of}
use Rattle.t1_packet.specs.declared.cache.Cache.{Cache}
use Rattle.t1_packet.specs.declared.cache.Cache.TheVariants.{Dcache, Icache}
use Rattle.t1_packet.specs.Ops.{dest_of}
use Rattle.t1_sbuf.specs.declared.entry.Entry.{Entry}
use Rattle.t1_sbuf.specs.Looks.{look_of}
use Rattle.t1_l1.specs.Cache.{CacheState}
use Rattle.t1_event.specs.declared.item.Item.{Item}
use Rattle.t1_event.specs.declared.item.ItemKind.TheVariants as kind
use Rattle.t1_event.specs.declared.item.How.TheVariants.{Unplaced, Commit}
use Rattle.t1_event.specs.Times.{at_of}
use Rattle.t1_event.specs.Items.{IsBarrier, membar_item, flush_item}
use Rattle.t1_joint.specs.Replay.{is_fetchable}
use Rattle.t1_joint.specs.Rows.{Caches, NoneHeldIn}
use Rattle.t1_joint.proofs.Needs.{IsShapedNeed}
use Rattle.t1_strand_order.specs.Tracks.{Fence}
use Rattle.t1_strand_order.specs.Laws.{one_destination}
use Rattle.t1_strand_order.specs.Places.{AskedRow}
use Rattle.t1_strand_order.proofs.Items.{not_true}
use Rattle.t1_core.specs.declared.asker.Asker.{Asker}
use Rattle.t1_core.specs.declared.phase.Phase.{Phase}
use Rattle.t1_core.specs.declared.phase.Phase.TheVariants as phase
use Rattle.t1_core.specs.declared.answers.Wait.TheVariants as wait
use Rattle.t1_core.specs.declared.plan.Plan.TheVariants as plan
use Rattle.t1_core.specs.Threads.{ThreadState, thread_need, next_phase, unit_done, halted, read_item}
use Rattle.t1_event.specs.declared.trace.Ending.TheVariants as ending
use Rattle.t1_core_rule.specs.Outs.{numbers_of}
use Rattle.t1_core.specs.Steps.{ThreadActed, moved, is_fence, plan_of, exec_plan, exec_phase, thread_exec}
use Rattle.t1_core_rule.specs.Histories.{asked_by}
use Rattle.t1_core_rule.specs.Steady.{IsGoodEntry, IsCache}
use Rattle.t1_core_rule.proofs.Looks.{none_held}
use Rattle.t1_core_rule.proofs.Moves.{IsReady, IsMove, io_bits, same_move, entries_push}
use Rattle.t1_core_rule.proofs.Execs as execs
use Rattle.t1_core_rule.proofs.Asks.{below}
use Rattle.t1_core_rule.proofs.Pieces.{next_asked, next_reads}

module _ (x : Asker) (blocks : x.ram % 65536 ≡ 0) (icache dcache : CacheState) (ic : IsCache x.chip Icache icache) (dc : IsCache x.chip Dcache dcache) (caches : Caches) (pointers : Cache → List ℕ)
    (s : Strand) (es : List Entry) (ts : List ℕ) (xs : List Item) (budget : ℕ) where
  abbrev at_phase : Phase → ThreadState
  at_phase p = record { strand = s; phase = p; stores = es; times = ts; items = xs; budget = budget }

  abbrev Move : Phase → ThreadActed → Type 0
  Move p a = IsMove x icache dcache caches pointers (at_phase p) a.thread (asked_by a.did)

  abbrev Ready : Phase → Type 0
  Ready p = IsReady x icache dcache caches pointers (at_phase p)

  fence_move : (word : ℕ) (y : Item) → (y.kind ≡ kind.Membar) ⊎ (y.kind ≡ kind.Flush) → (IsBarrier y → es ≡ []) → y ≡ record y { how = Unplaced }
      → Move (phase.Have word) (moved (unit_done (at_phase (phase.Have word)) 0 (y ∷ [])))
  unfolding unit_done
  fence_move word y which empty how =
      let u : Strand = after_of s (insn_of word) 0 in
      execs.item_move x blocks icache dcache ic dc caches pointers s es ts xs budget (phase.Have word) (next_phase u.units budget) u y (Fence y)
      (next_asked x.ram u u.units budget) (next_reads x.number x.strand x.ram u (length (xs ++ y ∷ [])) u.units budget) refl refl (inr refl)
      (record { no_commit = λ n seen c. (let clash : Unplaced ≡ Commit n seen = sym (ap (λ (z : Item). z.how) how) ∙ c in cc); time = inl (ap (λ (z : Item). at_of z.how) how) })
      (λ r. record {
        allowed = record { kind = which; how = ap (λ (z : Item). z.how) how; empty = λ b. ap numbers_of (empty b); free = refl };
        placed = tt;
        entries = entries_push xs y es r.entries;
        ways = λ v cache line h. absurd h;
      })

  no_fence : (mask : ℕ) → is_fence mask ≡ false → IsBarrier (membar_item mask) → es ≡ []
  no_fence mask f b =
      elim (cases_Bool (bit_and mask 0x62 == 0)) [
        | inl e ↦ absurd (elim b [ inl k ↦ (let clash : kind.Membar ≡ kind.Flush = k in cc) | inr p ↦ p.1 (eqb-true (bit_and mask 0x62) 0 e) ])
        | inr e ↦ absurd (let now : true ≡ false = rw e at f in cc)
      ]

  none_are_held : (word : ℕ) → es ≡ [] → Ready (phase.Have word) → NoneHeldIn xs (length xs) x.time
  none_are_held word none r = none_held (one_destination x.chip) xs es x.time r.kept.orderly none

  need_move : (word : ℕ) (n : Need) → need_of s (insn_of word) x.ram ≡ n → Move (phase.Have word) (exec_plan x dcache (at_phase (phase.Have word)) (plan_of es n))
  unfolding unit_done halted
  need_move word need.Plain e =
      let u : Strand = after_of s (insn_of word) 0 in
      same_move x icache dcache caches pointers (at_phase (phase.Have word)) (record { strand = u; phase = next_phase u.units budget; stores = es; times = ts; items = xs ++ []; budget = budget })
      (append-nil xs) refl refl (next_asked x.ram u u.units budget) (next_reads x.number x.strand x.ram u (length (xs ++ [])) u.units budget)
  need_move word need.Halt e =
      same_move x icache dcache caches pointers (at_phase (phase.Have word))
      (record { strand = after_of s (insn_of word) 0; phase = phase.Ended ending.Halted; stores = es; times = ts; items = xs; budget = budget }) refl refl refl refl refl
  need_move word (need.Trap number) e = execs.trap_move x blocks icache dcache ic dc caches pointers s es ts xs budget (phase.Have word) number refl refl
  need_move word (need.Membar mask) e =
      elim (cases_Bool (is_fence mask)) [
        | inl f ↦ rw f (execs.empty_move x blocks icache dcache ic dc caches pointers s es ts xs budget word es (plan.Membar mask) (λ none. fence_move word (membar_item mask) (inl refl) (λ b. none) refl))
        | inr f ↦ rw f (fence_move word (membar_item mask) (inl refl) (no_fence mask f) refl)
      ]
  need_move word need.Flush e =
      execs.empty_move x blocks icache dcache ic dc caches pointers s es ts xs budget word es plan.Flush (λ none. fence_move word flush_item (inr refl) (λ b. none) refl)
  need_move word (need.Store a z v) e =
      let f : IsShapedNeed x.ram (need.Store a z v) = subst (λ (n : Need). IsShapedNeed x.ram n) e (execs.need_fine x blocks icache dcache ic dc caches pointers s es ts xs budget word) in
      let good : IsGoodEntry x.chip x.ram (record { item = length xs; addr = a; size = z; value = v; sent = false; dest = dest_of x.chip a }) = record {
        asked = (record { size_is = f.0.size_is; aligned = f.0.aligned }, elim f.1 [ inl l ↦ inl (below x.ram a z f.0.size_is l) | inr io ↦ inr io ]);
        dest = refl;
      } in
      elim (cases_Bool (nat_lt (length es) 8)) [
        | inl g ↦ rw g (execs.stored_move x blocks icache dcache ic dc caches pointers s es ts xs budget word a z v good (ltb-true (length es) 8 g))
        | inr g ↦ rw g (execs.stays x blocks icache dcache ic dc caches pointers s es ts xs budget (phase.Have word) wait.Full)
      ]
  need_move word (need.Load a z) e =
      elim (cases_Bool (is_io a)) [
        | inl f ↦ rw f (execs.empty_move x blocks icache dcache ic dc caches pointers s es ts xs budget word es (plan.Send a)
            (λ none. execs.data_move x blocks icache dcache ic dc caches pointers s es ts xs budget word a (need.Load a z) e tt (λ b y q. (let g : a ≡ b = cc (q) in sym g)) (inl not_true)
            (λ r. inr (io_bits a f, none_are_held word none r))))
        | inr f ↦ rw f (execs.plan_look_move x blocks icache dcache ic dc caches pointers s es ts xs budget word a z (look_of es a z) refl e f)
      ]
  need_move word (need.Atomic a z o) e =
      let f : IsShapedNeed x.ram (need.Atomic a z o) = subst (λ (n : Need). IsShapedNeed x.ram n) e (execs.need_fine x blocks icache dcache ic dc caches pointers s es ts xs budget word) in
      let inside : a < x.ram = below x.ram a z f.0.size_is f.1 in
      execs.empty_move x blocks icache dcache ic dc caches pointers s es ts xs budget word es (plan.Send a)
      (λ none. execs.data_move x blocks icache dcache ic dc caches pointers s es ts xs budget word a (need.Atomic a z o) e tt
      (λ b y q. absurd (let clash : need.Atomic a z o ≡ need.Load b y = q in cc)) (inr none) (λ r. atomic_row o inside (none_are_held word none r)))
    where
      atomic_row : (o : AtomicOp) → a < x.ram → NoneHeldIn xs (length xs) x.time → AskedRow x.chip x.ram caches xs (read_item (need.Atomic a z o) 0) x.time
      atomic_row (Swap new) inside h = (inside, h)
      atomic_row (Cas expect new) inside h = (inside, h)

  phase_move : (p : Phase) → Move p (exec_phase x icache dcache (at_phase p) p)
  unfolding thread_need
  phase_move phase.Fetch = execs.begin_move x blocks icache dcache ic dc caches pointers s es ts xs budget (due_of s) (is_fetchable x.ram s.pc) refl
  phase_move (phase.Have word) = need_move word (need_of s (insn_of word) x.ram) refl
  phase_move (phase.OutFetch way seen) = execs.stays x blocks icache dcache ic dc caches pointers s es ts xs budget (phase.OutFetch way seen) wait.Reply
  phase_move (phase.OutData word way seen) = execs.stays x blocks icache dcache ic dc caches pointers s es ts xs budget (phase.OutData word way seen) wait.Reply
  phase_move (phase.Ended e) = execs.stays x blocks icache dcache ic dc caches pointers s es ts xs budget (phase.Ended e) wait.Ended

pub exec_move : (x : Asker) → x.ram % 65536 ≡ 0 → (icache dcache : CacheState) → IsCache x.chip Icache icache → IsCache x.chip Dcache dcache → (caches : Caches) (pointers : Cache → List ℕ) (t : ThreadState)
    → IsMove x icache dcache caches pointers t (thread_exec x icache dcache t).thread (asked_by (thread_exec x icache dcache t).did)
unfolding thread_exec
exec_move x blocks icache dcache ic dc caches pointers t = phase_move x blocks icache dcache ic dc caches pointers t.strand t.stores t.times t.items t.budget t.phase
