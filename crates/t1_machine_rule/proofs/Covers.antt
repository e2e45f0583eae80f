-- The machine's state is covered.
use Rattle.t1_num.specs.declared.chip.ChipKind.TheVariants.{T1, T2}
use Rattle.t1_shape.proofs.Numbers.{banks_are}
use Rattle.t1_shape.specs.Numbers.{banks}
use Rattle.t1_shape.specs.Shapes.{Shape}
use Rattle.std.proofs.Common.{◌≡◌, ◌≢◌, ℕ, zero, suc, ◌+◌, ◌<◌, ◌≤◌, ◌==◌, true, false, List, [], ◌∷◌, ◌++◌, length, get_or, take, Option, Some, None, refl, ap, sym, ◌∙◌, subst, inl, inr, arith, append_assoc}
use Rattle.std.specs.List.{slice_get, filter}
use Rattle.std.proofs.lemmas.Bool.{cases_eq, cases_lt, eq-eqb, ne_eqb}
use Rattle.std.proofs.lemmas.List.{append-nil, take_all}
use Rattle.std.proofs.lemmas.List.Elements.{filter-append}
use Rattle.t1_num.specs.MemoryLaws.{AreBytes}
use Rattle.t1_shape.specs.Slots.{Line, InSet, tags_of}
use Rattle.t1_packet.specs.declared.cache.Cache.{Cache}
use Rattle.t1_packet.specs.declared.cache.Cache.TheVariants.{Dcache, Icache}
use Rattle.t1_packet.specs.declared.packet.Packet.{Packet}
use Rattle.t1_packet.specs.declared.served.Served.{Served}
use Rattle.t1_packet.specs.Data.{KillData}
use Rattle.t1_packet.specs.Ops.{op_dest}
use Rattle.t1_packet.specs.Caches.{layout, bank_of}
use Rattle.t1_dir.specs.Directory.{tags_at}
use Rattle.t1_event.specs.declared.report.Config.{Config}
use Rattle.t1_event.specs.declared.commit.Commit.{Commit}
use Rattle.t1_event.specs.BankRule.{BankState}
use Rattle.t1_event.specs.Posts.{no_lines, l1_at}
use Rattle.t1_event.specs.Shadow.{directory_at}
use Rattle.t1_elf.specs.declared.object.Image.{Image}
use Rattle.t1_joint.specs.Start.{Setup}
use Rattle.t1_joint.specs.Parts.{posts_from, served_at}
use Rattle.t1_joint.specs.Proper.{slots_after}
use Rattle.t1_joint.specs.Fit.{destination_start, AreServed, log_of}
use Rattle.t1_received.proofs.Packets.{before_all}
use Rattle.t1_tso.proofs.Cover.{FewKills, covered}
use Rattle.t1_fit.proofs.Logs.{at_log}
use Rattle.t1_fit.proofs.Posts.{posts-append}
use Rattle.t1_fit.proofs.Came.{IsPosted, slots-append, after_posts}
use Rattle.t1_fit.proofs.Part.{keep, part, part_at, keep_same}
use Rattle.t1_fit.proofs.States.{IsRight, after, served_front}
use Rattle.t1_fit.proofs.Banks as banks
use Rattle.t1_fit.proofs.Commits as commits
use Rattle.t1_fit.proofs.Whole.{IsWhole, whole}
use Rattle.t1_core.specs.Steps.{CoreState}
use Rattle.t1_machine.specs.Machine as machine
use Rattle.t1_machine.specs.Machine.{MachineState}
use Rattle.t1_machine.specs.Start.{IsRunnable, setup_of}
use Rattle.t1_machine_rule.specs.Kept.{history_at, ever_served, Kept}
use Rattle.t1_machine_rule.specs.Covered.{slots_of, bank_of_slot, in_flight, tags_with, shown_by, IsCoveredState}
use Rattle.t1_machine_rule.proofs.Lists.{slice_right, slice_parts}
use Rattle.t1_machine_rule.proofs.Serves.{after_is, own_in}
use Rattle.t1_machine_rule.proofs.Rings.{dest_small}
use Rattle.t1_machine_rule.proofs.Sent.{sent_is, served_sent, log_size}
use Rattle.t1_machine_rule.proofs.Fits.{own_past, setup, core_within}
use Rattle.t1_machine_rule.proofs.Times.{all_past, caches_by_packets}
use Rattle.t1_machine_rule.proofs.Wells.{access_lawful}

own_all : (chip : Shape) (d : ℕ) (ss : List Served) → ((i : ℕ) (a : Served) → slice_get ss i ≡ Some a → op_dest chip a.request.op ≡ d) → served_at chip d ss ≡ ss
own_all chip d [] at = refl
own_all chip d (a ∷ ss) at =
    let t : (op_dest chip a.request.op == d) ≡ true = eq-eqb (op_dest chip a.request.op) d (at 0 a refl) in
    rw t (ap (λ (l : List Served). a ∷ l) (own_all chip d ss (λ i b h. at (suc i) b h)))

own_none : (chip : Shape) (d : ℕ) (ss : List Served) → ((i : ℕ) (a : Served) → slice_get ss i ≡ Some a → op_dest chip a.request.op ≢ d) → served_at chip d ss ≡ []
own_none chip d [] at = refl
own_none chip d (a ∷ ss) at =
    let t : (op_dest chip a.request.op == d) ≡ false = ne_eqb (op_dest chip a.request.op) d (at 0 a refl) in
    rw t (own_none chip d ss (λ i b h. at (suc i) b h))

-- a line stands in a set of its bank
set_bank : (chip : Shape) (cache : Cache) (line slot : ℕ) → InSet (layout chip cache) line slot → bank_of chip cache line ≡ bank_of_slot chip cache slot
set_bank T1 Dcache line slot i = let a = i.above in let b = i.below in omega (arith, a, b)
set_bank T1 Icache line slot i = let a = i.above in let b = i.below in omega (arith, a, b)
set_bank T2 Dcache line slot i = let a = i.above in let b = i.below in omega (arith, a, b)
set_bank T2 Icache line slot i = let a = i.above in let b = i.below in omega (arith, a, b)

-- what a slot of a bank's set holds is kept in the bank's part
slot_kept : (chip : Shape) (cache : Cache) (tags : List (Option ℕ)) (slot : ℕ) → ((line : ℕ) → get_or tags slot None ≡ Some line → InSet (layout chip cache) line slot)
    → get_or (part chip (bank_of_slot chip cache slot) cache tags) slot None ≡ get_or tags slot None
slot_kept chip cache tags slot own = part_at chip (bank_of_slot chip cache slot) cache tags slot ∙ by (get_or tags slot None) refl
  where
    by : (o : Option ℕ) → get_or tags slot None ≡ o → keep chip (bank_of_slot chip cache slot) cache o ≡ o
    by None e = refl
    by (Some line) e = keep_same chip (bank_of_slot chip cache slot) cache line (set_bank chip cache line slot (own line e))

bank_small : (chip : Shape) (cache : Cache) (slot : ℕ) → bank_of_slot chip cache slot < banks chip
bank_small T1 Dcache slot = omega arith
bank_small T1 Icache slot = omega arith
bank_small T2 Dcache slot = omega arith
bank_small T2 Icache slot = omega arith

module _ (config : Config) (image : Image) (runs : IsRunnable (setup_of config image)) (bytes : AreBytes image.ram) (m : MachineState) (g : Kept (setup_of config image) m)
    (short : length m.xbar.log ≤ 4294967295) (b : ℕ) (lb : b < banks config.chip) where
  abbrev w : Setup
  w = setup_of config image

  -- what was admitted, and then what bank b served beside it
  abbrev all : List Served
  all = g.admitted ++ get_or m.served b []

  right_of : (d : ℕ) (a : Served) (i : ℕ) → d < 9 → slice_get (ever_served config.chip g.admitted m.served d) i ≡ Some a → IsRight w a.request × (op_dest config.chip a.request.op ≡ d)
  right_of d a i ld is =
      let s = sent_is config image runs.blocks m g a.request.core d a.request (served_sent config image runs.blocks m g d i a ld is) in
      (record { core = s.small; strand = s.meant.strand_is; asked = s.meant.asked }, s.meant.dest_is)

  in_ring : (i : ℕ) (a : Served) → slice_get (get_or m.served b []) i ≡ Some a → IsRight w a.request × (op_dest config.chip a.request.op ≡ b)
  in_ring i a e =
      right_of b a (length (served_at config.chip b g.admitted) + i) (omega (arith, lb, (banks_are config.chip).1)) (slice_right (served_at config.chip b g.admitted) (get_or m.served b []) i a e)

  in_log : (n : ℕ) (a : Served) → slice_get g.admitted n ≡ Some a → IsRight w a.request
  in_log n a e =
      let d : ℕ = op_dest config.chip a.request.op in
      let at = own_in config.chip d g.admitted n a e refl in
      (right_of d a at.0 (dest_small config.chip a.request.op) (front (served_at config.chip d g.admitted) (get_or m.served d []) at.0 a at.1)).0
    where
      front : (xs ys : List Served) (i : ℕ) (a : Served) → slice_get xs i ≡ Some a → slice_get (xs ++ ys) i ≡ Some a
      front [] ys i a e = let clash : ◌≡◌ {A = Option Served} None (Some a) = e in cc
      front (x ∷ xs) ys zero a e = e
      front (x ∷ xs) ys (suc i) a e = front xs ys i a e

  right : (n : ℕ) (a : Served) → slice_get (g.admitted ++ get_or m.served b []) n ≡ Some a → IsRight w a.request
  right n a e =
      elim (slice_parts g.admitted (get_or m.served b []) n a e) [
        | inl p ↦ in_log n a p
        | inr p ↦ (in_ring p.0 a p.1).0
      ]

  own_split : (d : ℕ) → served_at config.chip d (g.admitted ++ get_or m.served b []) ≡ served_at config.chip d g.admitted ++ served_at config.chip d (get_or m.served b [])
  own_split d = filter-append (λ (v : Served). op_dest config.chip v.request.op == d) g.admitted (get_or m.served b [])

  own_b : served_at config.chip b (g.admitted ++ get_or m.served b []) ≡ ever_served config.chip g.admitted m.served b
  own_b = own_split b ∙ ap (λ (l : List Served). served_at config.chip b g.admitted ++ l) (own_all config.chip b (get_or m.served b []) (λ i a h. (in_ring i a h).1))

  served_small : (d : ℕ) → d < 9 → AreServed config.chip d (destination_start w d) (served_at config.chip d (g.admitted ++ get_or m.served b []))
  served_small d l =
      elim (cases_eq d b) [
        | inl e ↦
            subst (λ (i : ℕ). AreServed config.chip i (destination_start w i) (served_at config.chip i (g.admitted ++ get_or m.served b []))) (sym e)
            (subst (λ (ss : List Served). AreServed config.chip b (destination_start w b) ss) (sym own_b) (g.served b (omega (arith, lb, (banks_are config.chip).1))))
        | inr ne ↦
            let none : served_at config.chip d (g.admitted ++ get_or m.served b []) ≡ served_at config.chip d g.admitted =
            own_split d ∙ (ap (λ (l : List Served). served_at config.chip d g.admitted ++ l) (own_none config.chip d (get_or m.served b []) (λ i a h f. ne (sym f ∙ (in_ring i a h).1)))
            ∙ append-nil (served_at config.chip d g.admitted)) in
            subst (λ (ss : List Served). AreServed config.chip d (destination_start w d) ss) (sym none)
            (served_front config.chip d (destination_start w d) (served_at config.chip d g.admitted) (get_or m.served d []) (g.served d l))
      ]

  served : (d : ℕ) → AreServed config.chip d (destination_start w d) (served_at config.chip d (g.admitted ++ get_or m.served b []))
  served d =
      elim (cases_lt d 9) [
        | inl l ↦ served_small d l
        | inr l ↦ subst (λ (ss : List Served). AreServed config.chip d (destination_start w d) ss) (sym (own_past config.chip d (g.admitted ++ get_or m.served b []) l)) tt
      ]

  posted : (n : ℕ) (a : Served) → slice_get (g.admitted ++ get_or m.served b []) n ≡ Some a → IsPosted w (g.admitted ++ get_or m.served b []) n a
  posted n a is = record {
    strand = (right n a is).strand;
    line = commits.line_is w (setup config image runs bytes m g short) (g.admitted ++ get_or m.served b []) served right n a is;
  }

  few : FewKills (log_of w (g.admitted ++ get_or m.served b []))
  few n core c is =
      let at = at_log w (g.admitted ++ get_or m.served b []) n c is in
      let d : ℕ = op_dest config.chip at.0.request.op in
      let own = own_in config.chip d (g.admitted ++ get_or m.served b []) n at.0 at.1 refl in
      let law = access_lawful config image runs d (served_at config.chip d (g.admitted ++ get_or m.served b [])) own.0 at.0 (served d) own.1 in
      subst (λ (v : Commit). length (filter (λ (k : KillData). k.core == core) v.kills) ≤ 8) (sym at.2) (law.few core)

  abbrev count : ℕ
  count = length (g.admitted ++ get_or m.served b [])

  abbrev log : List Commit
  log = log_of (setup_of config image) (g.admitted ++ get_or m.served b [])

  whole_is : IsWhole config.chip config.strands log count
  whole_is =
      whole config.chip config.strands config.cores log
      (commits.ruled w (setup config image runs bytes m g short) (g.admitted ++ get_or m.served b []) served right)
      (commits.fills w (setup config image runs bytes m g short) (g.admitted ++ get_or m.served b []) served right) count

  module _ (c : ℕ) (cache : Cache) (core : CoreState) (is : slice_get m.cores c ≡ Some core) where
    within : c < config.cores
    within = core_within config image runs bytes m g short c core is

    -- all that came and all that will come are the posts of the accesses
    packets : (history_at w g.calls c).received ++ in_flight m c b ≡ posts_from c 0 (g.admitted ++ get_or m.served b [])
    packets =
        let came : List Packet = (history_at w g.calls c).received in
        let ring : List Packet = get_or m.replies c [] in
        let ss : List Served = get_or m.served b [] in
        let size : length m.xbar.log ≡ 0 + length g.admitted = (let z = log_size config image runs.blocks m g in omega (arith, z)) in
        sym (append_assoc came ring (posts_from c (length m.xbar.log) ss))
        ∙ (ap (λ (ps : List Packet). ps ++ posts_from c (length m.xbar.log) ss) (g.replies c within)
        ∙ (ap (λ (n : ℕ). posts_from c 0 g.admitted ++ posts_from c n ss) size ∙ sym (posts-append c 0 g.admitted ss)))

    all_taken : take count (g.admitted ++ get_or m.served b []) ≡ g.admitted ++ get_or m.served b []
    all_taken = take_all count (g.admitted ++ get_or m.served b []) (omega arith)

    -- the tags by this chip's caches
    abbrev tags_by : Shape → List (Option ℕ)
    tags_by k = tags_of (slots_after k c cache (slots_of cache core) (in_flight m c b))

    -- the cache once they came
    slots_are : slots_after config.chip c cache (slots_of cache core) (in_flight m c b) ≡ l1_at config.chip config.strands image.ram log c cache count
    slots_are =
        let came : List Packet = (history_at w g.calls c).received in
        let now : slots_of cache core ≡ slots_after config.chip c cache (no_lines config.chip cache) came =
        caches_by_packets config image runs bytes m g short c core is cache
        ∙ ap (λ (ps : List Packet). slots_after config.chip c cache (no_lines config.chip cache) ps) (before_all core.time came (all_past config image runs bytes m g short c core is)) in
        ap (λ (l : List (Option Line)). slots_after config.chip c cache l (in_flight m c b)) now
        ∙ (sym (slots-append config.chip c cache (no_lines config.chip cache) came (in_flight m c b))
        ∙ (ap (λ (ps : List Packet). slots_after config.chip c cache (no_lines config.chip cache) ps) packets
        ∙ (ap (λ (xs : List Served). slots_after config.chip c cache (no_lines config.chip cache) (posts_from c 0 xs)) (sym all_taken)
        ∙ after_posts w (g.admitted ++ get_or m.served b []) posted c cache count (omega arith))))

    tags_are : tags_by config.chip ≡ directory_at config.chip config.strands log c cache count
    tags_are = ap tags_of slots_are ∙ covered config.chip image.ram config.strands log few c cache count

    -- what the bank shows
    shown_are : shown_by m b c cache ≡ part config.chip b cache (directory_at config.chip config.strands log c cache count)
    shown_are =
        let start : BankState = destination_start w b in
        let made : machine.bank_of m.banks b ≡ banks.state w (setup config image runs bytes m g short) (g.admitted ++ get_or m.served b []) served right b count =
        g.banks b lb
        ∙ (sym (after_is config.chip b start (ever_served config.chip g.admitted m.served b) lb)
        ∙ (ap (λ (xs : List Served). after config.chip b start xs) (sym own_b)
        ∙ ap (λ (xs : List Served). after config.chip b start (served_at config.chip b xs)) (sym all_taken))) in
        ap (λ (v : BankState). tags_at v.directory c cache) made
        ∙ ((banks.bank_is w (setup config image runs bytes m g short) (g.admitted ++ get_or m.served b []) served right b count lb).tags c cache within
        ∙ whole_is.part_is b c cache)

    pub slot_covered : (slot : ℕ) → bank_of_slot config.chip cache slot ≡ b → get_or (tags_by config.chip) slot None ≡ get_or (shown_by m b c cache) slot None
    slot_covered slot of =
        let tags : List (Option ℕ) = directory_at config.chip config.strands log c cache count in
        let same : get_or (part config.chip b cache tags) slot None ≡ get_or tags slot None =
        subst (λ (k : ℕ). get_or (part config.chip k cache tags) slot None ≡ get_or tags slot None) of (slot_kept config.chip cache tags slot (λ line e. (whole_is.once c cache).own slot line e)) in
        ap (λ (ts : List (Option ℕ)). get_or ts slot None) tags_are ∙ (sym same ∙ ap (λ (ts : List (Option ℕ)). get_or ts slot None) (sym shown_are))

-- the whole state
pub state_covered : (config : Config) (image : Image) (runs : IsRunnable (setup_of config image)) → AreBytes image.ram → (m : MachineState) → Kept (setup_of config image) m → length m.xbar.log ≤ 4294967295
    → IsCoveredState m
state_covered config image runs bytes m g short c slot cache core is l =
    subst (λ (k : Shape). get_or (tags_of (slots_after k c cache (slots_of cache core) (in_flight m c (bank_of_slot k cache slot)))) slot None ≡ get_or (shown_by m (bank_of_slot k cache slot) c cache) slot None)
    (sym g.parts.chip) (slot_covered config image runs bytes m g short (bank_of_slot config.chip cache slot) (bank_small config.chip cache slot) c cache core is slot refl)
