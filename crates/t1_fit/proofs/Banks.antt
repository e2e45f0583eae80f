-- Each bank along the log: its directory is its part of the whole, its array is that of the log.
use Rattle.std.proofs.Common.{◌≡◌, ℕ, zero, suc, ◌+◌, ◌/◌, ◌%◌, ◌^◌, ◌<◌, ◌≤◌, ◌==◌, nat_lt, inl, inr, Bool, true, false, cond, List, [], ◌∷◌, ◌++◌, length, take, drop, Option, Some, None, refl, ap, sym, ◌∙◌, subst, arith}
use Rattle.std.specs.List.{slice_get}
use Rattle.std.proofs.lemmas.Bool.{cases_eq, lt-ltb, eq-eqb, ne_eqb}
use Rattle.std.proofs.lemmas.List.Elements.{filter-append}
use Rattle.t1_shape.specs.Shapes.{Shape}
use Rattle.t1_shape.specs.Numbers.{banks, bank_at}
use Rattle.t1_shape.specs.Slots.{Layout, with_fill}
use Rattle.t1_packet.specs.declared.cache.Cache.{Cache}
use Rattle.t1_packet.specs.declared.cache.Cache.TheVariants.{Dcache, Icache}
use Rattle.t1_packet.specs.Data.{KillData}
use Rattle.t1_packet.specs.Ops.{op_addr, op_size, op_dest}
use Rattle.t1_packet.specs.Caches.{layout, with_kills, filled_line}
use Rattle.t1_dir.specs.Directory.{no_tags}
use Rattle.t1_event.specs.declared.commit.Commit.{Commit}
use Rattle.t1_event.specs.Items.{IsIo}
use Rattle.t1_event.specs.Log.{core_of, memory_at}
use Rattle.t1_event.specs.Kills.{kills_below}
use Rattle.t1_event.specs.Shadow.{with_commit}
use Rattle.std.proofs.lemmas.Nat.{div-mul-add}
use Rattle.t1_packet.specs.declared.served.Served.{Served}
use Rattle.t1_event.specs.Log.{plain_op}
use Rattle.t1_event.specs.BankRule.{BankState, is_own_access, fits, is_fit, old_of as old_in, evicted_of, kills_of, way_of, served_well, refused, served_by, array_after, bank_well, bank_with}
use Rattle.t1_event.specs.Kills.{effect}
use Rattle.t1_event.specs.Shadow.{array_with, present_at}
use Rattle.t1_l2.specs.Array.{ArrayState}
use Rattle.t1_dir.specs.Directory.{DirectoryState, directory_start, tags_at, without_kills, filled_by}
use Rattle.t1_joint.specs.Start.{Setup}
use Rattle.t1_joint.specs.Parts.{served_at}
use Rattle.t1_joint.specs.CoreRule.{IsSized}
use Rattle.t1_joint.specs.Fit.{destination_start, serves, AreServed, log_of}
use Rattle.t1_joint.specs.JointHistory.{IsSetup}
use Rattle.std.proofs.lemmas.List.{length-replicate, get_or-replicate}
use Rattle.t1_tso.proofs.Facts.{LiesAt, dest_in_ram}
use Rattle.t1_fit.proofs.Lists.{take_next, take_past, split_at}
use Rattle.t1_fit.proofs.Logs.{record_of, log_at, at_log, log_past, plain_addr, plain_size, plain_filled, plain_after, plain_written}
use Rattle.t1_fit.proofs.Part.{own_with, own_at}
use Rattle.t1_fit.proofs.Directories.{HasRows, AreRanged, kills_show, fill_shows}
use Rattle.t1_fit.proofs.Arrays.{IsLogged, IsArrayAt, one_block, array_at}
use Rattle.t1_fit.proofs.States.{IsRight, asked_sized, asked_lies, asked_ways, own_access, fits_true, served_well_by, bank_well_by, after, after_push, served_here, own_here, own_other, kills_same, kills_ranged, length-own_at}

module _ (w : Setup) (setup : IsSetup w) (all : List Served) (served : (d : ℕ) → AreServed w.config.chip d (destination_start w d) (served_at w.config.chip d all))
    (right : (n : ℕ) (a : Served) → slice_get all n ≡ Some a → IsRight w a.request) where
  ram_small : length w.image.ram < 2 ^ 39
  ram_small = omega (arith, setup.ram, setup.small)

  blocks : length w.image.ram % 65536 ≡ 0
  blocks = subst (λ (n : ℕ). n % 65536 ≡ 0) (sym setup.ram) setup.blocks

  strands : ℕ
  strands = w.config.strands

  -- the state of a destination before access n
  abbrev pub state : ℕ → ℕ → BankState
  state d n = after w.config.chip d (destination_start w d) (served_at w.config.chip d (take n all))

  pub is_served : (n : ℕ) (a : Served) → slice_get all n ≡ Some a → a ≡ serves w.config.chip (op_dest w.config.chip a.request.op) (state (op_dest w.config.chip a.request.op) n) a.request
  is_served n a is =
      let d = op_dest w.config.chip a.request.op in
      let mid : served_at w.config.chip d (take n all ++ a ∷ drop (suc n) all) ≡ served_at w.config.chip d (take n all) ++ a ∷ served_at w.config.chip d (drop (suc n) all) =
      filter-append (λ (v : Served). op_dest w.config.chip v.request.op == d) (take n all) (a ∷ drop (suc n) all)
      ∙ (let t : (op_dest w.config.chip a.request.op == d) ≡ true = eq-eqb (op_dest w.config.chip a.request.op) d refl in
      ap (λ (b : Bool). served_at w.config.chip d (take n all) ++ cond b (a ∷ served_at w.config.chip d (drop (suc n) all)) (served_at w.config.chip d (drop (suc n) all))) t) in
      served_here w.config.chip d (destination_start w d) (served_at w.config.chip d (take n all)) a (served_at w.config.chip d (drop (suc n) all))
      (subst (λ (l : List Served). AreServed w.config.chip d (destination_start w d) l) (ap (λ (l : List Served). served_at w.config.chip d l) (split_at all n a is) ∙ mid) (served d))

  -- where an access lies
  pub lies : (n : ℕ) (a : Served) → slice_get all n ≡ Some a → LiesAt w.config.chip (length w.image.ram) (op_addr a.request.op)
  lies n a is = subst (λ (k : ℕ). LiesAt w.config.chip k (op_addr a.request.op)) (sym setup.ram) (asked_lies w.config.chip w.config.ram a.request.op (omega (arith, setup.small)) (right n a is).asked)

  pub sized : (n : ℕ) (a : Served) → slice_get all n ≡ Some a → IsSized (op_addr a.request.op) (op_size a.request.op)
  sized n a is = asked_sized w.config.chip w.config.ram a.request.op (right n a is).asked

  pub within : (n : ℕ) (a : Served) → slice_get all n ≡ Some a → op_addr a.request.op % 64 + op_size a.request.op ≤ 64
  within n a is = let s = sized n a is in one_block (op_addr a.request.op) (op_size a.request.op) s.size_is s.aligned

  pub core_is : (n : ℕ) (a : Served) → slice_get all n ≡ Some a → core_of w.config.strands (record_of w a) ≡ a.request.core
  core_is n a is = div-mul-add a.request.core w.config.strands a.request.strand (right n a is).strand

  -- an access that a bank served lies in RAM, and is of that bank
  pub bank_ram : (n : ℕ) (a : Served) → slice_get all n ≡ Some a → op_dest w.config.chip a.request.op < banks w.config.chip
      → (op_addr a.request.op < length w.image.ram) × (bank_at w.config.chip (op_addr a.request.op) ≡ op_dest w.config.chip a.request.op)
  bank_ram n a is l =
      elim (lies n a is) [
        | inl p ↦ (p.0, sym (dest_in_ram w.config.chip (length w.image.ram) (op_addr a.request.op) ram_small p.0))
        | inr p ↦ absurd (let e = p.1 in omega (arith, e, l))
      ]

  -- the commits of the log, as their arrays take them
  pub logged : (n : ℕ) (c : Commit) → slice_get (log_of w all) n ≡ Some c → IsLogged w.config.chip (length w.image.ram) c
  logged n c is =
      let at = at_log w all n c is in
      let a : Served = at.0 in
      let addr : op_addr c.op ≡ op_addr a.request.op = ap (λ (v : Commit). op_addr v.op) at.2 ∙ plain_addr a.request.op a.old a.way in
      let size : op_size c.op ≡ op_size a.request.op = ap (λ (v : Commit). op_size v.op) at.2 ∙ plain_size a.request.op a.old a.way in
      let dest : c.dest ≡ op_dest w.config.chip a.request.op = ap (λ (v : Commit). v.dest) at.2 in
      record {
        within = subst (λ (k : ℕ). k % 64 + op_size c.op ≤ 64) (sym addr) (subst (λ (k : ℕ). op_addr a.request.op % 64 + k ≤ 64) (sym size) (within n a at.1));
        where_is = elim (lies n a at.1) [
          | inl p ↦ inl (omega (arith, addr, p.0), dest ∙ (dest_in_ram w.config.chip (length w.image.ram) (op_addr a.request.op) ram_small p.0 ∙ ap (λ (k : ℕ). bank_at w.config.chip k) (sym addr)))
          | inr p ↦ inr (subst IsIo (sym addr) p.0, dest ∙ p.1)
        ];
      }

  -- what a bank has come to
  pub record IsBankAt (d n : ℕ) : Type 0 where
    pub cores : (state d n).cores ≡ w.config.cores
    pub ram : (state d n).ram ≡ length w.image.ram
    pub directory_shape : (state d n).directory.shape ≡ w.config.chip
    pub rows : HasRows (state d n).directory w.config.cores
    pub tags : (c : ℕ) (cache : Cache) → c < w.config.cores → tags_at (state d n).directory c cache ≡ own_at w.config.chip d w.config.strands (log_of w all) c cache n
    pub array : (state d n).array ≡ present_at w.config.chip w.config.sets w.image.ram (log_of w all) d n

  array_of : (d n : ℕ) → d < banks w.config.chip → IsArrayAt w.config.chip d (present_at w.config.chip w.config.sets w.image.ram (log_of w all) d n) (memory_at w.image.ram (log_of w all) n)
      (length w.image.ram / 64 / banks w.config.chip)
  array_of d n l = array_at w.config.chip w.config.sets w.image.ram (log_of w all) blocks ram_small logged d n l

  -- such a bank serves its own accesses
  pub fit_here : (d n : ℕ) (a : Served) → slice_get all n ≡ Some a → op_dest w.config.chip a.request.op ≡ d → d < banks w.config.chip → IsBankAt d n → is_fit (state d n) a.request ≡ true
  fit_here d n a is e l h =
      let b : BankState = state d n in
      let r = right n a is in
      let at = array_of d n l in
      let p = bank_ram n a is (omega (arith, e, l)) in
      let shape_is : b.array.shape ≡ w.config.chip = ap (λ (v : ArrayState). v.shape) h.array ∙ at.shape_is in
      let bank_is : b.array.bank ≡ d = ap (λ (v : ArrayState). v.bank) h.array ∙ at.bank_is in
      let own : is_own_access w.config.chip (length w.image.ram) d (op_addr a.request.op) (op_size a.request.op) ≡ true =
      own_access w.config.chip (length w.image.ram) d (op_addr a.request.op) (op_size a.request.op) p.0 (p.1 ∙ e) (sized n a is) in
      let f : fits w.config.chip w.config.cores (length w.image.ram) d a.request ≡ true =
      fits_true w.config.chip w.config.cores (length w.image.ram) d a.request r.core (asked_ways w.config.chip w.config.ram a.request.op r.asked) own in
      ap (λ (v : Shape). fits v b.cores b.ram b.array.bank a.request) shape_is
      ∙ (ap (λ (v : ℕ). fits w.config.chip v b.ram b.array.bank a.request) h.cores
      ∙ (ap (λ (v : ℕ). fits w.config.chip w.config.cores v b.array.bank a.request) h.ram
      ∙ (ap (λ (v : ℕ). fits w.config.chip w.config.cores (length w.image.ram) v a.request) bank_is ∙ f)))

  -- and an access of its own is what it serves
  pub well : (d n : ℕ) (a : Served) → slice_get all n ≡ Some a → op_dest w.config.chip a.request.op ≡ d → d < banks w.config.chip → IsBankAt d n → a ≡ served_well (state d n) a.request
  well d n a is e l h =
      let t : nat_lt d (banks w.config.chip) ≡ true = lt-ltb d (banks w.config.chip) l in
      subst (λ (k : ℕ). a ≡ serves w.config.chip k (state k n) a.request) e (is_served n a is)
      ∙ (ap (λ (b : Bool). cond b (served_by (state d n) a.request) (refused a.request)) t ∙ served_well_by (state d n) a.request (fit_here d n a is e l h))

  -- its kills, by its own directory as the log has it
  pub kills_are : (d n : ℕ) (a : Served) → slice_get all n ≡ Some a → op_dest w.config.chip a.request.op ≡ d → d < banks w.config.chip → IsBankAt d n
      → a.kills ≡ kills_below w.config.chip (λ i κ. own_at w.config.chip d w.config.strands (log_of w all) i κ n) a.request.core a.evicted (plain_op a.request.op a.old a.way) w.config.cores
  kills_are d n a is e l h =
      let b : BankState = state d n in
      let s = well d n a is e l h in
      let old : old_in b a.request ≡ a.old = sym (ap (λ (v : Served). v.old) s) in
      let evicted : evicted_of b a.request ≡ a.evicted = sym (ap (λ (v : Served). v.evicted) s) in
      let own : ℕ → Cache → List (Option ℕ) = λ i κ. own_at w.config.chip d w.config.strands (log_of w all) i κ n in
      ap (λ (v : Served). v.kills) s
      ∙ (ap (λ (v : Shape). kills_below v (tags_at b.directory) a.request.core (evicted_of b a.request) (effect a.request.op (old_in b a.request)) b.cores) h.directory_shape
      ∙ (ap (λ (k : ℕ). kills_below w.config.chip (tags_at b.directory) a.request.core (evicted_of b a.request) (effect a.request.op (old_in b a.request)) k) h.cores
      ∙ (ap (λ (o : Option ℕ). kills_below w.config.chip (tags_at b.directory) a.request.core o (effect a.request.op (old_in b a.request)) w.config.cores) evicted
      ∙ (ap (λ (v : ℕ). kills_below w.config.chip (tags_at b.directory) a.request.core a.evicted (effect a.request.op v) w.config.cores) old
      ∙ kills_same w.config.chip (tags_at b.directory) own a.request.core a.evicted (effect a.request.op a.old) (plain_op a.request.op a.old a.way) w.config.cores w.config.cores (omega arith)
      h.tags (λ cache line mine. sym (plain_written cache line mine a.request.op a.old a.way))))))

  pub ranged : (d n : ℕ) (a : Served) → slice_get all n ≡ Some a → op_dest w.config.chip a.request.op ≡ d → d < banks w.config.chip → IsBankAt d n → AreRanged w.config.chip w.config.cores a.kills
  ranged d n a is e l h =
      subst (λ (ks : List KillData). AreRanged w.config.chip w.config.cores ks) (sym (kills_are d n a is e l h))
      (kills_ranged w.config.chip (λ i κ. own_at w.config.chip d w.config.strands (log_of w all) i κ n) a.request.core a.evicted (plain_op a.request.op a.old a.way) w.config.cores w.config.cores (omega arith)
      (λ c cache lc. (let q = length-own_at w.config.chip d w.config.strands (log_of w all) c cache n in omega (arith, q))))

  -- one access more
  own_step : (d n : ℕ) (a : Served) → slice_get all n ≡ Some a → op_dest w.config.chip a.request.op ≡ d → d < banks w.config.chip → IsBankAt d n → IsBankAt d (suc n)
  own_step d n a is e l h =
      let b : BankState = state d n in
      let s = well d n a is e l h in
      let t : nat_lt d (banks w.config.chip) ≡ true = lt-ltb d (banks w.config.chip) l in
      let dest_is : (op_dest w.config.chip a.request.op == d) ≡ true = eq-eqb (op_dest w.config.chip a.request.op) d e in
      let next : state d (suc n) ≡ bank_well b a.request =
      ap (λ (x : List Served). after w.config.chip d (destination_start w d) (served_at w.config.chip d x)) (take_next all n a is)
      ∙ (ap (λ (x : List Served). after w.config.chip d (destination_start w d) x) (own_here w.config.chip d (take n all) a e)
      ∙ (after_push w.config.chip d (destination_start w d) (served_at w.config.chip d (take n all)) a
      ∙ (ap (λ (v : Bool). cond v (bank_with b a.request) b) t ∙ bank_well_by b a.request (fit_here d n a is e l h)))) in
      let here : slice_get (log_of w all) n ≡ Some (record_of w a) = log_at w all n a is in
      let core : core_of w.config.strands (record_of w a) ≡ a.request.core = core_is n a is in
      let old : old_in b a.request ≡ a.old = sym (ap (λ (v : Served). v.old) s) in
      let kills : kills_of b a.request ≡ a.kills = sym (ap (λ (v : Served). v.kills) s) in
      let way : way_of b a.request ≡ a.way = sym (ap (λ (v : Served). v.way) s) in
      let dir : (state d (suc n)).directory ≡ filled_by (without_kills b.directory a.kills) a.request.core a.request.op a.way =
      ap (λ (v : BankState). v.directory) next
      ∙ (ap (λ (ks : List KillData). filled_by (without_kills b.directory ks) a.request.core a.request.op (way_of b a.request)) kills
      ∙ ap (λ (v : Option ℕ). filled_by (without_kills b.directory a.kills) a.request.core a.request.op v) way) in
      let k = kills_show b.directory w.config.chip w.config.cores a.kills h.directory_shape h.rows (ranged d n a is e l h) in
      let f = fill_shows (without_kills b.directory a.kills) w.config.chip w.config.cores a.request.core a.request.op a.way k.shape_is k.rows (right n a is).core in
      record {
        cores = ap (λ (v : BankState). v.cores) next ∙ h.cores;
        ram = ap (λ (v : BankState). v.ram) next ∙ h.ram;
        directory_shape = ap (λ (v : DirectoryState). v.shape) dir ∙ f.shape_is;
        rows = subst (λ (v : DirectoryState). HasRows v w.config.cores) (sym dir) f.rows;
        tags = λ c cache lc.
            let own : List (Option ℕ) = own_at w.config.chip d w.config.strands (log_of w all) c cache n in
            let left : tags_at (without_kills b.directory a.kills) c cache ≡ with_kills w.config.chip c cache a.kills own =
            k.tags c cache ∙ ap (λ (ts : List (Option ℕ)). with_kills w.config.chip c cache a.kills ts) (h.tags c cache lc) in
            let g : Layout = layout w.config.chip cache in
            ap (λ (v : DirectoryState). tags_at v c cache) dir
            ∙ (f.tags c cache
            ∙ (ap (λ (ts : List (Option ℕ)). cond (a.request.core == c) (with_fill g (filled_line cache a.request.op) a.way (λ line. line) ts) ts) left
            ∙ (ap (λ (i : ℕ). cond (i == c) (with_fill g (filled_line cache a.request.op) a.way (λ line. line) (with_kills w.config.chip c cache a.kills own)) (with_kills w.config.chip c cache a.kills own)) (sym core)
            ∙ (ap (λ (o : Option ℕ). cond (core_of w.config.strands (record_of w a) == c) (with_fill g o a.way (λ line. line) (with_kills w.config.chip c cache a.kills own)) (with_kills w.config.chip c cache a.kills own)) (sym (plain_filled cache a.request.op a.old a.way))
            ∙ (ap (λ (v : Bool). cond v (with_commit w.config.chip w.config.strands c cache own (Some (record_of w a))) own) (sym dest_is)
            ∙ ap (λ (o : Option Commit). own_with w.config.chip d w.config.strands c cache own o) (sym here))))));
        array =
            ap (λ (v : BankState). v.array) next
            ∙ (ap (λ (v : ℕ). array_after b.array (effect a.request.op v)) old
            ∙ (sym (plain_after b.array a.request.op a.old a.way)
            ∙ (ap (λ (v : ArrayState). array_after v (plain_op a.request.op a.old a.way)) h.array
            ∙ (ap (λ (v : Bool). cond v (array_after (present_at w.config.chip w.config.sets w.image.ram (log_of w all) d n) (plain_op a.request.op a.old a.way)) (present_at w.config.chip w.config.sets w.image.ram (log_of w all) d n)) (sym dest_is)
            ∙ ap (λ (o : Option Commit). array_with d (present_at w.config.chip w.config.sets w.image.ram (log_of w all) d n) o) (sym here)))));
      }

  -- or none of this bank's
  still_step : (d n : ℕ) → state d (suc n) ≡ state d n → ((c : ℕ) (cache : Cache) → own_at w.config.chip d w.config.strands (log_of w all) c cache n ≡ own_at w.config.chip d w.config.strands (log_of w all) c cache (suc n))
      → present_at w.config.chip w.config.sets w.image.ram (log_of w all) d n ≡ present_at w.config.chip w.config.sets w.image.ram (log_of w all) d (suc n) → IsBankAt d n → IsBankAt d (suc n)
  still_step d n e tags array h = record {
    cores = ap (λ (v : BankState). v.cores) e ∙ h.cores;
    ram = ap (λ (v : BankState). v.ram) e ∙ h.ram;
    directory_shape = ap (λ (v : BankState). v.directory.shape) e ∙ h.directory_shape;
    rows = subst (λ (v : BankState). HasRows v.directory w.config.cores) (sym e) h.rows;
    tags = λ c cache l. ap (λ (v : BankState). tags_at v.directory c cache) e ∙ (h.tags c cache l ∙ tags c cache);
    array = ap (λ (v : BankState). v.array) e ∙ (h.array ∙ array);
  }

  step : (d n : ℕ) → d < banks w.config.chip → IsBankAt d n → (o : Option Served) → slice_get all n ≡ o → IsBankAt d (suc n)
  step d n l h None is =
      let past : slice_get (log_of w all) n ≡ None = log_past w all n is in
      still_step d n (ap (λ (x : List Served). after w.config.chip d (destination_start w d) (served_at w.config.chip d x)) (take_past all n is))
      (λ c cache. ap (λ (o : Option Commit). own_with w.config.chip d w.config.strands c cache (own_at w.config.chip d w.config.strands (log_of w all) c cache n) o) (sym past))
      (ap (λ (o : Option Commit). array_with d (present_at w.config.chip w.config.sets w.image.ram (log_of w all) d n) o) (sym past)) h
  step d n l h (Some a) is =
      elim (cases_eq (op_dest w.config.chip a.request.op) d) [
        | inl e ↦ own_step d n a is e l h
        | inr ne ↦
            let here : slice_get (log_of w all) n ≡ Some (record_of w a) = log_at w all n a is in
            let f : (op_dest w.config.chip a.request.op == d) ≡ false = ne_eqb (op_dest w.config.chip a.request.op) d ne in
            still_step d n
            (ap (λ (x : List Served). after w.config.chip d (destination_start w d) (served_at w.config.chip d x)) (take_next all n a is)
            ∙ ap (λ (x : List Served). after w.config.chip d (destination_start w d) x) (own_other w.config.chip d (take n all) a ne))
            (λ c cache.
            ap (λ (v : Bool). cond v (with_commit w.config.chip w.config.strands c cache (own_at w.config.chip d w.config.strands (log_of w all) c cache n) (Some (record_of w a))) (own_at w.config.chip d w.config.strands (log_of w all) c cache n)) (sym f)
            ∙ ap (λ (o : Option Commit). own_with w.config.chip d w.config.strands c cache (own_at w.config.chip d w.config.strands (log_of w all) c cache n) o) (sym here))
            (ap (λ (v : Bool). cond v (array_after (present_at w.config.chip w.config.sets w.image.ram (log_of w all) d n) (plain_op a.request.op a.old a.way)) (present_at w.config.chip w.config.sets w.image.ram (log_of w all) d n)) (sym f)
            ∙ ap (λ (o : Option Commit). array_with d (present_at w.config.chip w.config.sets w.image.ram (log_of w all) d n) o) (sym here)) h
      ]

  start_tags : (d c : ℕ) (cache : Cache) → c < w.config.cores → tags_at (directory_start w.config.chip w.config.cores) c cache ≡ no_tags w.config.chip cache
  start_tags d c Dcache l = get_or-replicate w.config.cores c (no_tags w.config.chip Dcache) [] l
  start_tags d c Icache l = get_or-replicate w.config.cores c (no_tags w.config.chip Icache) [] l

  -- each bank, before any access
  pub bank_is : (d n : ℕ) → d < banks w.config.chip → IsBankAt d n
  bank_is d zero l = record {
    cores = refl;
    ram = refl;
    directory_shape = refl;
    rows = record { dcache = length-replicate w.config.cores (no_tags w.config.chip Dcache); icache = length-replicate w.config.cores (no_tags w.config.chip Icache) };
    tags = λ c cache lc. start_tags d c cache lc;
    array = refl;
  }
  bank_is d (suc n) l = step d n l (bank_is d n l) (slice_get all n) refl
