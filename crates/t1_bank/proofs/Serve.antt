-- The values of one service, step by step.
use Rattle.std.proofs.Common.{◌≡◌, ℕ, ◌/◌, ◌%◌, ◌^◌, ◌<◌, true, List, length, Option, Some, None, IfSome, ap, sym, ◌∙◌, subst, arith}
use Rattle.std.proofs.lemmas.Nat.{mod_below}
use Rattle.t1_bank.proofs.Rule.{effect_addr, effect_size, way_for_fill, well_is}
use Rattle.t1_bank.specs.Copies.{AreOfCaches, copies_below}
use Rattle.t1_bank.specs.Sound.{IsSound}
use Rattle.t1_bank.specs.Writes.{wrote}
use Rattle.t1_dir.specs.Directory.{DirectoryState, HasCore, filled_by, tags_at, without_kills}
use Rattle.t1_event.specs.BankRule.{BankState, bank_well, fill_bytes, is_fit, kills_of, old_of, ways_for}
use Rattle.t1_event.specs.Kills.{effect, way_for}
use Rattle.t1_l2.specs.Array.{ArrayState, IsOwn, IsPresent, ensured, evicted_for, read_at}
use Rattle.t1_num.specs.Memory.{IsSize, number_at}
use Rattle.t1_packet.specs.Caches.{layout}
use Rattle.t1_packet.specs.Data.{KillData, RequestData}
use Rattle.t1_packet.specs.Ops.{asked_way, op_addr, op_size}
use Rattle.t1_packet.specs.declared.cache.Cache.TheVariants.{Dcache, Icache}
use Rattle.t1_packet.specs.declared.op.Op.{Op}
use Rattle.t1_packet.specs.declared.op.Op.TheVariants.{Cas, Fetch, Load, Store, Swap}
use Rattle.t1_shape.proofs.Numbers.{line_low}
use Rattle.t1_shape.specs.Shapes.{Shape}
use Rattle.t1_shape.specs.Slots.{Layout, slot_of}
use Rattle.t1_bank.proofs.Fit.{IsFit, fit, mine}
use Rattle.t1_bank.proofs.DirTags.{core_cleared}
use Rattle.t1_bank.proofs.Steps.{ensured_present}
use Rattle.t1_bank.proofs.Agree.{kills_are_copies, sound_apart, evicted_line, line_ensured, fill_ensured, kills_of_caches}

pub fit_from : (b c : BankState) (r q : RequestData) → b ≡ c → r ≡ q → is_fit c q ≡ true → IsFit b r
fit_from b c r q e g t =
    fit b r (ap (λ (x : BankState). is_fit x r) e ∙ (ap (λ (x : RequestData). is_fit c x) g ∙ t))

pub way_low : (g : Layout) (o : Option ℕ) (way : ℕ) → way < g.ways → way_for g o way < g.ways
way_low g None way l = l
way_low g (Some j) way l = mod_below j g.ways (omega (arith, l))

pub fill_low : (d : DirectoryState) (core : ℕ) (op : Op) (w : Option ℕ) → asked_way op < ways_for d.shape op → w ≡ way_for_fill d core op → IfSome w (λ v. v < ways_for d.shape op)
fill_low d core (Fetch addr way) w l e = subst (λ (o : Option ℕ). IfSome o (λ v. v < (layout d.shape Icache).ways)) (sym e) (way_low (layout d.shape Icache) (slot_of (layout d.shape Icache) (tags_at d core Icache) (addr / 32)) way l)
fill_low d core (Load addr size way) w l e = subst (λ (o : Option ℕ). IfSome o (λ v. v < (layout d.shape Dcache).ways)) (sym e) (way_low (layout d.shape Dcache) (slot_of (layout d.shape Dcache) (tags_at d core Dcache) (addr / 16)) way l)
fill_low d core (Store addr size value) w l e = subst (λ (o : Option ℕ). IfSome o (λ v. v < 1)) (sym e) tt
fill_low d core (Swap addr size new) w l e = subst (λ (o : Option ℕ). IfSome o (λ v. v < 1)) (sym e) tt
fill_low d core (Cas addr size expect new) w l e = subst (λ (o : Option ℕ). IfSome o (λ v. v < 1)) (sym e) tt

module _ (b : BankState) (r : RequestData) (s : IsSound b) (f : IsFit b r) where
  pub mine_at : (addr : ℕ) → addr ≡ op_addr r.op → IsOwn b.array addr
  mine_at addr e = subst (λ (a : ℕ). IsOwn b.array a) (sym e) (mine b r s f)

  pub core_of : HasCore b.directory r.core
  core_of = s.core r.core f.core

  pub size_is : (size : ℕ) → size ≡ op_size r.op → IsSize size
  size_is size e = subst (λ (n : ℕ). IsSize n) (sym e) f.size

  pub aligned_at : (addr size : ℕ) → addr ≡ op_addr r.op → size ≡ op_size r.op → addr % size ≡ 0
  aligned_at addr size e g = subst (λ (a : ℕ). a % size ≡ 0) (sym e) (subst (λ (n : ℕ). op_addr r.op % n ≡ 0) (sym g) f.aligned)

  pub way_fits : (w : Option ℕ) → w ≡ way_for_fill b.directory r.core r.op → IfSome w (λ v. v < ways_for b.directory.shape r.op)
  way_fits w e = fill_low b.directory r.core r.op w (subst (λ (q : Shape). asked_way r.op < ways_for q r.op) s.shapes f.way) e

  module _ (addr : ℕ) (a : ArrayState) (is : addr ≡ op_addr r.op) (new : a ≡ ensured b.array (addr / 64)) where
    pub now_is : a ≡ ensured b.array (op_addr r.op / 64)
    now_is = new ∙ ap (λ (x : ℕ). ensured b.array (x / 64)) is

    pub present_op : IsPresent a.tags (op_addr r.op / 64)
    present_op =
        subst (λ (x : ArrayState). IsPresent x.tags (op_addr r.op / 64)) (sym now_is)
        (ensured_present b.array (op_addr r.op / 64) (length b.array.memory) s.array (mine b r s f).bank (mine b r s f).within)

    pub present_at : IsPresent a.tags (addr / 64)
    present_at = subst (λ (x : ℕ). IsPresent a.tags (x / 64)) (sym is) present_op

    pub evicted_low : (v : Option ℕ) → v ≡ evicted_for b.array (addr / 64) → IfSome v (λ e. e < 2 ^ 60)
    evicted_low None e = tt
    evicted_low (Some v) e =
        let x = evicted_line b.array (addr / 64) v (sym e) in
        let at = x.at in
        let w = s.array.within x.there.0 x.line x.there.1 in
        let z = s.array.room in
        let low = line_low b.array.shape x.line (omega (arith, w, z)) in
        omega (arith, at, low)

    pub evicted_is : (v : Option ℕ) → v ≡ evicted_for b.array (addr / 64) → v ≡ evicted_for b.array (op_addr r.op / 64)
    evicted_is v e = e ∙ ap (λ (x : ℕ). evicted_for b.array (x / 64)) is

    pub old_is : (size old : ℕ) → size ≡ op_size r.op → old ≡ read_at a addr size → old ≡ old_of b r
    old_is size old g e =
        e ∙ (ap (λ (x : ℕ). read_at a x size) is ∙ (ap (λ (n : ℕ). read_at a (op_addr r.op) n) g
        ∙ (ap (λ (x : ArrayState). read_at x (op_addr r.op) (op_size r.op)) now_is
        ∙ ap (λ (l : List ℕ). number_at l (op_addr r.op % 64) (op_size r.op)) (line_ensured b.array (op_addr r.op / 64) (op_addr r.op)))))

    pub line_is : (l : List ℕ) → l ≡ fill_bytes a r.op → l ≡ fill_bytes b.array r.op
    line_is l e = e ∙ (ap (λ (x : ArrayState). fill_bytes x r.op) now_is ∙ fill_ensured b.array (op_addr r.op / 64) r.op)

    pub effect_present : (old : ℕ) (done : Op) → done ≡ effect r.op old → IsPresent a.tags (op_addr done / 64)
    effect_present old done e =
        let x : op_addr done ≡ op_addr r.op = ap op_addr e ∙ effect_addr r.op old in
        subst (λ (y : ℕ). IsPresent a.tags (y / 64)) (sym x) present_op

  pub effect_size_is : (old : ℕ) (done : Op) → done ≡ effect r.op old → IsSize (op_size done)
  effect_size_is old done e = size_is (op_size done) (ap op_size e ∙ effect_size r.op old)

  pub effect_aligned : (old : ℕ) (done : Op) → done ≡ effect r.op old → op_addr done % op_size done ≡ 0
  effect_aligned old done e = aligned_at (op_addr done) (op_size done) (ap op_addr e ∙ effect_addr r.op old) (ap op_size e ∙ effect_size r.op old)

  pub kills_are : (v : Option ℕ) (old : ℕ) (done : Op) (kills : List KillData) → v ≡ evicted_for b.array (op_addr r.op / 64) → old ≡ old_of b r → done ≡ effect r.op old
      → kills ≡ copies_below b.directory r.core v done b.cores → kills ≡ kills_of b r
  kills_are v old done kills ev eo ed e =
      let d : done ≡ effect r.op (old_of b r) = ed ∙ ap (λ (n : ℕ). effect r.op n) eo in
      e ∙ (ap (λ (x : Option ℕ). copies_below b.directory r.core x done b.cores) ev
      ∙ (ap (λ (x : Op). copies_below b.directory r.core (evicted_for b.array (op_addr r.op / 64)) x b.cores) d
      ∙ kills_are_copies b.directory r.core (evicted_for b.array (op_addr r.op / 64)) (effect r.op (old_of b r)) b.cores (λ c cache l. sound_apart b r s c cache l)))

  pub kills_clear : (kills : List KillData) → kills ≡ kills_of b r → AreOfCaches b.directory.shape b.cores kills
  kills_clear kills e =
      subst (λ (ks : List KillData). AreOfCaches b.directory.shape b.cores ks) (sym e) (kills_of_caches b.directory r.core (evicted_for b.array (op_addr r.op / 64)) (effect r.op (old_of b r)) b.cores s.once)

  pub core_then : (d : DirectoryState) (kills : List KillData) → d ≡ without_kills b.directory kills → HasCore d r.core
  core_then d kills e = subst (λ (x : DirectoryState). HasCore x r.core) (sym e) (core_cleared kills b.directory r.core core_of)

  pub state_is : (d g : DirectoryState) (a m : ArrayState) (kills : List KillData) (w : Option ℕ) (old : ℕ) (done : Op)
      → d ≡ without_kills b.directory kills → kills ≡ kills_of b r → g ≡ filled_by d r.core r.op w → w ≡ way_for_fill b.directory r.core r.op
      → a ≡ ensured b.array (op_addr r.op / 64) → done ≡ effect r.op old → old ≡ old_of b r → m ≡ wrote a done
      → ◌≡◌ {A = BankState} (record { cores = b.cores; ram = b.ram; directory = g; array = m }) (bank_well b r)
  state_is d g a m kills w old done ed ek eg ew ea eo en em =
      let directory : g ≡ filled_by (without_kills b.directory (kills_of b r)) r.core r.op (way_for_fill b.directory r.core r.op) =
      eg ∙ (ap (λ (x : Option ℕ). filled_by d r.core r.op x) ew
      ∙ ap (λ (x : DirectoryState). filled_by x r.core r.op (way_for_fill b.directory r.core r.op)) (ed ∙ ap (λ (ks : List KillData). without_kills b.directory ks) ek)) in
      let array : m ≡ wrote (ensured b.array (op_addr r.op / 64)) (effect r.op (old_of b r)) =
      em ∙ (ap (λ (x : Op). wrote a x) (eo ∙ ap (λ (n : ℕ). effect r.op n) en)
      ∙ ap (λ (x : ArrayState). wrote x (effect r.op (old_of b r))) ea) in
      ap (λ (x : DirectoryState). record { cores = b.cores; ram = b.ram; directory = x; array = m }) directory
      ∙ ap (λ (x : ArrayState). record { cores = b.cores; ram = b.ram; directory = filled_by (without_kills b.directory (kills_of b r)) r.core r.op (way_for_fill b.directory r.core r.op); array = x }) array ∙ sym (well_is b r)
