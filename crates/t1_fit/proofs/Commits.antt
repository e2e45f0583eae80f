-- What each commit of the log is: what its bank, or the I/O bridge, serves in the state after the commits before.
use Rattle.std.proofs.Common.{◌≡◌, ℕ, ◌*◌, ◌/◌, ◌%◌, ◌^◌, ◌<◌, ◌⊎◌, nat_lt, inl, inr, Bool, true, false, cond, List, ◌++◌, length, take, drop, replicate, Option, Some, None, refl, ap, sym, ◌∙◌, subst, arith}
use Rattle.std.specs.List.{slice_get}
use Rattle.std.proofs.lemmas.Bool.{le-ltb}
use Rattle.t1_num.specs.Memory.{number_at}
use Rattle.t1_shape.specs.Shapes.{Shape}
use Rattle.t1_shape.specs.Numbers.{banks, io_bridge, l2_line, bank_at}
use Rattle.t1_shape.specs.Slots.{slot_of}
use Rattle.t1_shape.proofs.Once.{FillsAt}
use Rattle.t1_space.specs.Places.{is_io}
use Rattle.t1_packet.specs.declared.cache.Cache.{Cache}
use Rattle.t1_packet.specs.declared.cache.Cache.TheVariants.{Dcache, Icache}
use Rattle.t1_packet.specs.declared.op.Op.{Op}
use Rattle.t1_packet.specs.declared.op.Op.TheVariants.{Fetch, Load, Store, Swap, Cas}
use Rattle.t1_packet.specs.Data.{KillData}
use Rattle.t1_packet.specs.Ops.{op_addr, op_size, op_dest}
use Rattle.t1_packet.specs.Caches.{layout, width, line_of, bank_of, filled_line}
use Rattle.t1_event.specs.declared.commit.Commit.{Commit}
use Rattle.t1_event.specs.declared.trace.Trace.{Trace}
use Rattle.t1_event.specs.Items.{IsIo}
use Rattle.t1_event.specs.Log.{core_of, memory_at}
use Rattle.t1_event.specs.Kills.{kills_below, fill_way_in}
use Rattle.t1_event.specs.Posts.{reply_line}
use Rattle.t1_joint.specs.JointHistory.{run_of}
use Rattle.std.proofs.lemmas.List.{append-nil}
use Rattle.t1_num.specs.MemoryLaws.{AreBytes}
use Rattle.t1_num.proofs.MemoryLaws.{number_at_fits}
use Rattle.t1_packet.specs.declared.served.Served.{Served}
use Rattle.t1_event.specs.Log.{plain_op, kept_old}
use Rattle.t1_event.specs.BankRule.{BankState, fill_bytes, served_well, refused, served_by}
use Rattle.t1_event.specs.Kills.{fill_way}
use Rattle.t1_event.specs.Shadow.{present_at}
use Rattle.t1_l2.specs.Array.{ArrayState, evicted_for, line_at}
use Rattle.t1_shape.specs.Numbers.{place_in_bank}
use Rattle.t1_dir.specs.Directory.{tags_at}
use Rattle.t1_packet.specs.Ops.{asked_way}
use Rattle.t1_joint.specs.Lists.{IsIn}
use Rattle.t1_joint.specs.Start.{Setup}
use Rattle.t1_joint.specs.Parts.{served_at}
use Rattle.t1_joint.specs.Proper.{IsReplyWay}
use Rattle.t1_joint.specs.Fit.{destination_start, AreServed, log_of}
use Rattle.t1_joint.specs.JointHistory.{IsSetup, IsBankCommit, IsBridgeCommit}
use Rattle.t1_shape.proofs.Numbers.{ram_splits, place_within}
use Rattle.t1_tso.proofs.Facts.{io_false, fills_at}
use Rattle.t1_fit.proofs.Logs.{record_of, at_log, plain_addr, plain_size, plain_filled, plain_kept}
use Rattle.t1_fit.proofs.Part.{own_at, banked}
use Rattle.t1_fit.proofs.Whole.{IsRuled, IsStill, kills_whole}
use Rattle.t1_fit.proofs.Directories.{IsRanged, ranged_at}
use Rattle.t1_fit.proofs.Arrays.{IsArrayAt, evicted_of_bank, array_at, number_read, bytes_read}
use Rattle.t1_fit.proofs.Ways.{fill_same, fill_is, fill_none, reply_way, none_way, two_above, line_none, line_block}
use Rattle.t1_fit.proofs.Bytes.{memory_bytes, line_bytes}
use Rattle.t1_fit.proofs.States.{IsRight}
use Rattle.t1_fit.proofs.Banks.{state, is_served, lies, within, core_is, bank_ram, logged, IsBankAt, well, kills_are, ranged, bank_is}

module _ (w : Setup) (setup : IsSetup w) (all : List Served) (served : (d : ℕ) → AreServed w.config.chip d (destination_start w d) (served_at w.config.chip d all))
    (right : (n : ℕ) (a : Served) → slice_get all n ≡ Some a → IsRight w a.request) where
  log : List Commit
  log = log_of w all

  ram_small : length w.image.ram < 2 ^ 39
  ram_small = omega (arith, setup.ram, setup.small)

  blocks : length w.image.ram % 65536 ≡ 0
  blocks = subst (λ (n : ℕ). n % 65536 ≡ 0) (sym setup.ram) setup.blocks

  -- an access is a bank's, of RAM, or the bridge's, of I/O space
  pub data IsOf (n : ℕ) (a : Served) : Type 0 where
    OfBank : op_dest w.config.chip a.request.op < banks w.config.chip → IsOf n a
    OfBridge : op_dest w.config.chip a.request.op ≡ io_bridge w.config.chip → IsIo (op_addr a.request.op) → IsOf n a

  pub place : (n : ℕ) (a : Served) → slice_get all n ≡ Some a → IsOf n a
  place n a is = elim (lies w setup all served right n a is) [ inl p ↦ OfBank p.1 | inr p ↦ OfBridge p.1 p.0 ]

  bank_here : (n : ℕ) (a : Served) → op_dest w.config.chip a.request.op < banks w.config.chip → IsBankAt w setup all served right (op_dest w.config.chip a.request.op) n
  bank_here n a l = bank_is w setup all served right (op_dest w.config.chip a.request.op) n l

  abbrev bank_of_access : ℕ → Served → BankState
  bank_of_access n a = state w setup all served right (op_dest w.config.chip a.request.op) n

  abbrev own : ℕ → Served → ℕ → Cache → List (Option ℕ)
  own n a i κ = own_at w.config.chip (op_dest w.config.chip a.request.op) w.config.strands (log_of w all) i κ n

  well_served : (n : ℕ) (a : Served) → slice_get all n ≡ Some a → op_dest w.config.chip a.request.op < banks w.config.chip → a ≡ served_well (bank_of_access n a) a.request
  well_served n a is l = well w setup all served right (op_dest w.config.chip a.request.op) n a is refl l (bank_here n a l)

  -- what the bridge serves
  pub bridged : (n : ℕ) (a : Served) → slice_get all n ≡ Some a → op_dest w.config.chip a.request.op ≡ io_bridge w.config.chip → a ≡ refused a.request
  bridged n a is e =
      let t : nat_lt (op_dest w.config.chip a.request.op) (banks w.config.chip) ≡ false = le-ltb (op_dest w.config.chip a.request.op) (banks w.config.chip) (omega (arith, e)) in
      is_served w setup all served right n a is
      ∙ ap (λ (b : Bool). cond b (served_by (bank_of_access n a) a.request) (refused a.request)) t

  -- the way of a bank's fill
  pub way_is : (n : ℕ) (a : Served) → slice_get all n ≡ Some a → op_dest w.config.chip a.request.op < banks w.config.chip → a.way ≡ fill_way w.config.chip (own n a) a.request.core a.request.op
  way_is n a is l =
      let h = bank_here n a l in
      let b : BankState = bank_of_access n a in
      ap (λ (v : Served). v.way) (well_served n a is l)
      ∙ (ap (λ (v : Shape). fill_way v (tags_at b.directory) a.request.core a.request.op) h.directory_shape
      ∙ fill_same w.config.chip (tags_at b.directory) (own n a) a.request.core a.request.op (λ cache. h.tags a.request.core cache (right n a is).core))

  -- only an access to RAM fills
  pub fills_ram : (n : ℕ) (a : Served) (v : ℕ) → slice_get all n ≡ Some a → a.way ≡ Some v → op_dest w.config.chip a.request.op < banks w.config.chip
  fills_ram n a v is e = by (place n a is)
    where
      by : IsOf n a → op_dest w.config.chip a.request.op < banks w.config.chip
      by (OfBank l) = l
      by (OfBridge d io) = let clash : ◌≡◌ {A = Option ℕ} None (Some v) = sym (ap (λ (v : Served). v.way) (bridged n a is d)) ∙ e in cc

  not_io : (n : ℕ) (a : Served) → slice_get all n ≡ Some a → op_dest w.config.chip a.request.op < banks w.config.chip → is_io (op_addr a.request.op) ≡ true → ⊥
  not_io n a is l t =
      let f = io_false (op_addr a.request.op) (length w.image.ram) (bank_ram w setup all served right n a is l).0 ram_small in
      let clash : true ≡ false = sym t ∙ f in cc

  pub admitted_way : (n : ℕ) (a : Served) → slice_get all n ≡ Some a → IsReplyWay w.config.chip a.request.op a.way
  admitted_way n a is = by (place n a is)
    where
      by : IsOf n a → IsReplyWay w.config.chip a.request.op a.way
      by (OfBank l) =
          subst (λ (v : Option ℕ). IsReplyWay w.config.chip a.request.op v) (sym (way_is n a is l))
          (reply_way w.config.chip w.config.ram (own n a) a.request.core a.request.op (right n a is).asked (λ t. not_io n a is l t))
      by (OfBridge d io) = subst (λ (v : Option ℕ). IsReplyWay w.config.chip a.request.op v) (sym (ap (λ (v : Served). v.way) (bridged n a is d))) (none_way w.config.chip a.request.op)

  -- ---- what it read

  array_here : (n : ℕ) (a : Served) → op_dest w.config.chip a.request.op < banks w.config.chip
      → IsArrayAt w.config.chip (op_dest w.config.chip a.request.op) (bank_of_access n a).array (memory_at w.image.ram (log_of w all) n) (length w.image.ram / 64 / banks w.config.chip)
  array_here n a l =
      subst (λ (v : ArrayState). IsArrayAt w.config.chip (op_dest w.config.chip a.request.op) v (memory_at w.image.ram (log_of w all) n) (length w.image.ram / 64 / banks w.config.chip)) (sym (bank_here n a l).array)
      (array_at w.config.chip w.config.sets w.image.ram (log_of w all) blocks ram_small (logged w setup all served right) (op_dest w.config.chip a.request.op) n l)

  place_here : (n : ℕ) (a : Served) → slice_get all n ≡ Some a → op_dest w.config.chip a.request.op < banks w.config.chip → place_in_bank w.config.chip (l2_line (op_addr a.request.op)) < length w.image.ram / 64 / banks w.config.chip
  place_here n a is l =
      place_within w.config.chip (op_addr a.request.op) (length w.image.ram / 64 / banks w.config.chip)
      (let e = ram_splits w.config.chip (length w.image.ram) blocks in let r = (bank_ram w setup all served right n a is l).0 in omega (arith, e, r))

  -- the old value of a bank's access is that of memory
  pub old_is : (n : ℕ) (a : Served) → slice_get all n ≡ Some a → op_dest w.config.chip a.request.op < banks w.config.chip
      → a.old ≡ number_at (memory_at w.image.ram (log_of w all) n) (op_addr a.request.op) (op_size a.request.op)
  old_is n a is l =
      ap (λ (v : Served). v.old) (well_served n a is l)
      ∙ number_read w.config.chip (op_dest w.config.chip a.request.op) (bank_of_access n a).array (memory_at w.image.ram (log_of w all) n) (length w.image.ram / 64 / banks w.config.chip) (op_addr a.request.op) (op_size a.request.op)
      (array_here n a l) (bank_ram w setup all served right n a is l).1 (place_here n a is l) (within w setup all served right n a is)

  pub old_fits : (n : ℕ) (a : Served) → slice_get all n ≡ Some a → a.old < 2 ^ (8 * op_size a.request.op)
  old_fits n a is = by (place n a is)
    where
      by : IsOf n a → a.old < 2 ^ (8 * op_size a.request.op)
      by (OfBank l) =
          subst (λ (v : ℕ). v < 2 ^ (8 * op_size a.request.op)) (sym (old_is n a is l))
          (number_at_fits (memory_at w.image.ram (log_of w all) n) (op_addr a.request.op) (op_size a.request.op) (memory_bytes w.image.ram (log_of w all) n setup.bytes))
      by (OfBridge d io) = let z : a.old ≡ 0 = ap (λ (v : Served). v.old) (bridged n a is d) in let p = two_above (8 * op_size a.request.op) in omega (arith, z, p)

  pub old_zero : (n : ℕ) (a : Served) → slice_get all n ≡ Some a → is_io (op_addr a.request.op) ≡ true → a.old ≡ 0
  old_zero n a is t = by (place n a is)
    where
      by : IsOf n a → a.old ≡ 0
      by (OfBank l) = absurd (not_io n a is l t)
      by (OfBridge d io) = ap (λ (v : Served). v.old) (bridged n a is d)

  -- the line of a bank's fill is memory's
  bank_line : (n : ℕ) (a : Served) (op : Op) → a.request.op ≡ op → slice_get all n ≡ Some a → op_dest w.config.chip a.request.op < banks w.config.chip
      → fill_bytes (bank_of_access n a).array op ≡ reply_line (memory_at w.image.ram (log_of w all) n) op (fill_way w.config.chip (own n a) a.request.core op)
  bank_line n a (Store addr size value) e is l = refl
  bank_line n a (Swap addr size new) e is l = refl
  bank_line n a (Cas addr size expect new) e is l = refl
  bank_line n a (Fetch addr asked) e is l =
      let m : List ℕ = memory_at w.image.ram (log_of w all) n in
      let k = line_block Icache addr in
      let base : ℕ = line_of Icache addr * width Icache in
      let here : op_addr a.request.op ≡ addr = ap op_addr e in
      let of : bank_at w.config.chip base ≡ op_dest w.config.chip a.request.op =
      ap (λ (v : ℕ). v % banks w.config.chip) k.0 ∙ (ap (λ (v : ℕ). bank_at w.config.chip v) (sym here) ∙ (bank_ram w setup all served right n a is l).1) in
      let at : place_in_bank w.config.chip (l2_line base) < length w.image.ram / 64 / banks w.config.chip =
      subst (λ (v : ℕ). place_in_bank w.config.chip v < length w.image.ram / 64 / banks w.config.chip) (ap (λ (v : ℕ). l2_line v) here ∙ sym k.0) (place_here n a is l) in
      let read = bytes_read w.config.chip (op_dest w.config.chip a.request.op) (bank_of_access n a).array m (length w.image.ram / 64 / banks w.config.chip) base 32 (array_here n a l) of at k.1 in
      append-nil (take 32 (drop (base % 64) (line_at (bank_of_access n a).array base))) ∙ read
  bank_line n a (Load addr size asked) e is l =
      let m : List ℕ = memory_at w.image.ram (log_of w all) n in
      let k = line_block Dcache addr in
      let base : ℕ = line_of Dcache addr * width Dcache in
      let here : op_addr a.request.op ≡ addr = ap op_addr e in
      let of : bank_at w.config.chip base ≡ op_dest w.config.chip a.request.op =
      ap (λ (v : ℕ). v % banks w.config.chip) k.0 ∙ (ap (λ (v : ℕ). bank_at w.config.chip v) (sym here) ∙ (bank_ram w setup all served right n a is l).1) in
      let at : place_in_bank w.config.chip (l2_line base) < length w.image.ram / 64 / banks w.config.chip =
      subst (λ (v : ℕ). place_in_bank w.config.chip v < length w.image.ram / 64 / banks w.config.chip) (ap (λ (v : ℕ). l2_line v) here ∙ sym k.0) (place_here n a is l) in
      let read = bytes_read w.config.chip (op_dest w.config.chip a.request.op) (bank_of_access n a).array m (length w.image.ram / 64 / banks w.config.chip) base 16 (array_here n a l) of at k.1 in
      ap (λ (ls : List ℕ). ls ++ replicate 16 0) read

  pub line_is : (n : ℕ) (a : Served) → slice_get all n ≡ Some a → a.line ≡ reply_line (memory_at w.image.ram (log_of w all) n) a.request.op a.way
  line_is n a is = by (place n a is)
    where
      m : List ℕ
      m = memory_at w.image.ram (log_of w all) n

      by : IsOf n a → a.line ≡ reply_line (memory_at w.image.ram (log_of w all) n) a.request.op a.way
      by (OfBank l) =
          ap (λ (v : Served). v.line) (well_served n a is l)
          ∙ (bank_line n a a.request.op refl is l
          ∙ ap (λ (v : Option ℕ). reply_line (memory_at w.image.ram (log_of w all) n) a.request.op v) (sym (way_is n a is l)))
      by (OfBridge d io) =
          ap (λ (v : Served). v.line) (bridged n a is d)
          ∙ (line_none (memory_at w.image.ram (log_of w all) n) a.request.op
          ∙ ap (λ (v : Option ℕ). reply_line (memory_at w.image.ram (log_of w all) n) a.request.op v) (sym (ap (λ (v : Served). v.way) (bridged n a is d))))

  pub line_of_bytes : (n : ℕ) (a : Served) → slice_get all n ≡ Some a → AreBytes a.line
  line_of_bytes n a is =
      subst (λ (l : List ℕ). AreBytes l) (sym (line_is n a is))
      (line_bytes (memory_at w.image.ram (log_of w all) n) a.request.op a.way (memory_bytes w.image.ram (log_of w all) n setup.bytes))

  -- each kill is of a slot that there is
  pub kill_fits : (n : ℕ) (a : Served) (k : KillData) → slice_get all n ≡ Some a → IsIn k a.kills → IsRanged w.config.chip w.config.cores k
  kill_fits n a k is h = by (place n a is)
    where
      by : IsOf n a → IsRanged w.config.chip w.config.cores k
      by (OfBank l) = ranged_at w.config.chip w.config.cores a.kills k (ranged w setup all served right (op_dest w.config.chip a.request.op) n a is refl l (bank_here n a l)) h
      by (OfBridge d io) = absurd (subst (λ (ks : List KillData). IsIn k ks) (ap (λ (v : Served). v.kills) (bridged n a is d)) h)

  -- ---- the log's directories

  ruled_by : (n : ℕ) (a : Served) → slice_get all n ≡ Some a → op_dest w.config.chip a.request.op < banks w.config.chip → IsRuled w.config.chip w.config.strands w.config.cores (log_of w all) n (record_of w a)
  ruled_by n a is l =
      let h = bank_here n a l in
      let p = bank_ram w setup all served right n a is l in
      record {
        banked = banked w.config.chip (record_of w a)
            (λ e ev. evicted_of_bank w.config.chip (op_dest w.config.chip a.request.op) (bank_of_access n a).array (l2_line (op_addr a.request.op)) e (array_here n a l).of
            (sym (ap (λ (v : Served). v.evicted) (well_served n a is l)) ∙ ev))
            (ap (λ (k : ℕ). l2_line k % banks w.config.chip) (plain_addr a.request.op a.old a.way) ∙ p.1);
        kills =
            kills_are w setup all served right (op_dest w.config.chip a.request.op) n a is refl l h
            ∙ ap (λ (i : ℕ). kills_below w.config.chip (own n a) i a.evicted (plain_op a.request.op a.old a.way) w.config.cores) (sym (core_is w setup all served right n a is));
      }

  pub ruled : (n : ℕ) (c : Commit) → slice_get (log_of w all) n ≡ Some c → IsRuled w.config.chip w.config.strands w.config.cores (log_of w all) n c ⊎ IsStill c
  ruled n c is =
      let at = at_log w all n c is in
      subst (λ (v : Commit). IsRuled w.config.chip w.config.strands w.config.cores (log_of w all) n v ⊎ IsStill v) (sym at.2) (by at.0 at.1 (place n at.0 at.1))
    where
      by : (a : Served) → slice_get all n ≡ Some a → IsOf n a → IsRuled w.config.chip w.config.strands w.config.cores (log_of w all) n (record_of w a) ⊎ IsStill (record_of w a)
      by a ia (OfBank l) = inl (ruled_by n a ia l)
      by a ia (OfBridge d io) = inr (record { kills = ap (λ (v : Served). v.kills) (bridged n a ia d); way = ap (λ (v : Served). v.way) (bridged n a ia d) })

  -- the way of a fill, as the bank's own directory has it
  pub record IsFilled (n : ℕ) (a : Served) (cache : Cache) (line way : ℕ) : Type 0 where
    pub bank : op_dest w.config.chip a.request.op < banks w.config.chip
    pub of : bank_of w.config.chip cache line ≡ op_dest w.config.chip a.request.op
    pub way_is : way ≡ fill_way_in w.config.chip cache (own_at w.config.chip (op_dest w.config.chip a.request.op) w.config.strands (log_of w all) a.request.core cache n) line (asked_way a.request.op)
    pub small : way < (layout w.config.chip cache).ways

  pub filled_by_bank : (n : ℕ) (a : Served) (cache : Cache) (line way : ℕ) → slice_get all n ≡ Some a → filled_line cache a.request.op ≡ Some line → a.way ≡ Some way → IsFilled n a cache line way
  filled_by_bank n a cache line way is il iw =
      let l = fills_ram n a way is iw in
      let f = fill_is w.config.chip w.config.ram (own n a) a.request.core a.request.op cache line (right n a is).asked il in
      let both : Some f.way ≡ Some way = sym f.is ∙ (sym (way_is n a is l) ∙ iw) in
      let same : f.way ≡ way = cc (both) in
      record {
        bank = l;
        of = (ruled_by n a is l).banked.filled cache line (plain_filled cache a.request.op a.old a.way ∙ il);
        way_is = sym same ∙ f.way_is;
        small = omega (arith, f.small, same);
      }

  pub fills : (n : ℕ) (c : Commit) (cache : Cache) (line way : ℕ) → slice_get (log_of w all) n ≡ Some c → filled_line cache c.op ≡ Some line → c.way ≡ Some way
      → FillsAt (layout w.config.chip cache) (slot_of (layout w.config.chip cache) (own_at w.config.chip c.dest w.config.strands (log_of w all) (core_of w.config.strands c) cache n) line) line way
  fills n c cache line way is il iw =
      let at = at_log w all n c is in
      let a : Served = at.0 in
      let fl : filled_line cache a.request.op ≡ Some line = sym (plain_filled cache a.request.op a.old a.way) ∙ (ap (λ (v : Commit). filled_line cache v.op) (sym at.2) ∙ il) in
      let wy : a.way ≡ Some way = ap (λ (v : Commit). v.way) (sym at.2) ∙ iw in
      let f = filled_by_bank n a cache line way at.1 fl wy in
      let tags : List (Option ℕ) = own_at w.config.chip (op_dest w.config.chip a.request.op) w.config.strands (log_of w all) a.request.core cache n in
      let here = fills_at w.config.chip cache tags line (asked_way a.request.op) way f.way_is f.small (slot_of (layout w.config.chip cache) tags line) refl in
      let core : a.request.core ≡ core_of w.config.strands c = sym (core_is w setup all served right n a at.1) ∙ ap (λ (v : Commit). core_of w.config.strands v) (sym at.2) in
      let dest : op_dest w.config.chip a.request.op ≡ c.dest = ap (λ (v : Commit). v.dest) (sym at.2) in
      subst (λ (d : ℕ). FillsAt (layout w.config.chip cache) (slot_of (layout w.config.chip cache) (own_at w.config.chip d w.config.strands (log_of w all) (core_of w.config.strands c) cache n) line) line way) dest
      (subst (λ (i : ℕ). FillsAt (layout w.config.chip cache) (slot_of (layout w.config.chip cache) (own_at w.config.chip (op_dest w.config.chip a.request.op) w.config.strands (log_of w all) i cache n) line) line way) core here)

  -- ---- the commits, as a joint history has them

  pub bank_commit : (traces : List Trace) (n : ℕ) (c : Commit) → slice_get (log_of w all) n ≡ Some c → c.dest < banks w.config.chip → IsBankCommit (run_of w traces (log_of w all)) n c
  bank_commit traces n c is lc =
      let at = at_log w all n c is in
      let a : Served = at.0 in
      let l : op_dest w.config.chip a.request.op < banks w.config.chip = (let e = ap (λ (v : Commit). v.dest) at.2 in omega (arith, e, lc)) in
      subst (λ (v : Commit). IsBankCommit (run_of w traces (log_of w all)) n v) (sym at.2) (record {
        old =
            ap (λ (v : ℕ). kept_old a.request.op v) (old_is n a at.1 l)
            ∙ (sym (plain_kept a.request.op a.old a.way (number_at (memory_at w.image.ram (log_of w all) n) (op_addr a.request.op) (op_size a.request.op)))
            ∙ (ap (λ (k : ℕ). kept_old (plain_op a.request.op a.old a.way) (number_at (memory_at w.image.ram (log_of w all) n) k (op_size a.request.op))) (sym (plain_addr a.request.op a.old a.way))
            ∙ ap (λ (k : ℕ). kept_old (plain_op a.request.op a.old a.way) (number_at (memory_at w.image.ram (log_of w all) n) (op_addr (plain_op a.request.op a.old a.way)) k)) (sym (plain_size a.request.op a.old a.way))));
        fills = λ cache line il.
            let fl : filled_line cache a.request.op ≡ Some line = sym (plain_filled cache a.request.op a.old a.way) ∙ il in
            let f = fill_is w.config.chip w.config.ram (own n a) a.request.core a.request.op cache line (right n a at.1).asked fl in
            (f.way, way_is n a at.1 l ∙ f.is, f.small);
        fills_nothing = λ none.
            way_is n a at.1 l ∙ fill_none w.config.chip (own n a) a.request.core a.request.op (λ cache. sym (plain_filled cache a.request.op a.old a.way) ∙ none cache);
        evicted =
            ap (λ (v : Served). v.evicted) (well_served n a at.1 l)
            ∙ (ap (λ (v : ArrayState). evicted_for v (l2_line (op_addr a.request.op))) (bank_here n a l).array
            ∙ ap (λ (k : ℕ). evicted_for (present_at w.config.chip w.config.sets w.image.ram (log_of w all) (op_dest w.config.chip a.request.op) n) (l2_line k)) (sym (plain_addr a.request.op a.old a.way)));
        kills =
            (ruled_by n a at.1 l).kills
            ∙ kills_whole w.config.chip w.config.strands w.config.cores (log_of w all) ruled fills n (record_of w a) (ruled_by n a at.1 l).banked w.config.cores;
      })

  pub bridge_commit : (n : ℕ) (c : Commit) → slice_get (log_of w all) n ≡ Some c → c.dest ≡ io_bridge w.config.chip → IsBridgeCommit c
  bridge_commit n c is e =
      let at = at_log w all n c is in
      let a : Served = at.0 in
      let d : op_dest w.config.chip a.request.op ≡ io_bridge w.config.chip = sym (ap (λ (v : Commit). v.dest) at.2) ∙ e in
      let s = bridged n a at.1 d in
      subst (λ (v : Commit). IsBridgeCommit v) (sym at.2) (record {
        old = ap (λ (v : ℕ). kept_old a.request.op v) (ap (λ (v : Served). v.old) s) ∙ kept_zero a.request.op;
        way = ap (λ (v : Served). v.way) s;
        evicted = ap (λ (v : Served). v.evicted) s;
        kills = ap (λ (v : Served). v.kills) s;
      })
    where
      kept_zero : (op : Op) → kept_old op 0 ≡ 0
      kept_zero (Fetch addr asked) = refl
      kept_zero (Load addr size asked) = refl
      kept_zero (Store addr size value) = refl
      kept_zero (Swap addr size new) = refl
      kept_zero (Cas addr size expect new) = refl
