-- Of parts that fit, at any time: the access behind each item that is placed as a commit, and what it got.
use Rattle.std.proofs.Common.{◌≡◌, ℕ, ◌+◌, ◌-◌, ◌*◌, ◌/◌, ◌%◌, ◌^◌, ◌<◌, ◌≤◌, inl, inr, true, false, List, length, get_or, Option, Some, refl, ap, sym, ◌∙◌, subst, arith}
use Rattle.std.specs.List.{slice_get}
use Rattle.t1_num.specs.Memory.{number_at, byte_of}
use Rattle.t1_shape.specs.Numbers.{banks, io_bridge}
use Rattle.t1_shape.specs.Slots.{Layout, slot_of}
use Rattle.t1_space.specs.Places.{is_io}
use Rattle.t1_packet.specs.declared.op.Op.{Op}
use Rattle.t1_packet.specs.Data.{ReplyData}
use Rattle.t1_packet.specs.Ops.{op_addr, op_size, op_dest, dest_of}
use Rattle.t1_packet.specs.Caches.{layout, filled_line}
use Rattle.t1_event.specs.declared.item.Item.{Item}
use Rattle.t1_event.specs.declared.item.ItemKind.{ItemKind}
use Rattle.t1_event.specs.declared.item.ItemKind.TheVariants as kind
use Rattle.t1_event.specs.declared.item.How.TheVariants as how
use Rattle.t1_event.specs.declared.commit.Commit.{Commit}
use Rattle.t1_event.specs.Kinds.{IsRead, IsAccess}
use Rattle.t1_event.specs.Items.{IsIo, items_of}
use Rattle.t1_event.specs.Order.{Act}
use Rattle.t1_event.specs.Times.{at_of}
use Rattle.t1_event.specs.Log.{core_of, memory_at}
use Rattle.t1_event.specs.Records.{op_of, old_of}
use Rattle.t1_event.specs.Kills.{way_for, fill_way_in}
use Rattle.t1_event.specs.Shadow.{directory_at}
use Rattle.t1_event.specs.Posts.{post_by, victim_at}
use Rattle.t1_event.specs.Places.{GotMemory, IsFilledRightly}
use Rattle.t1_joint.specs.JointHistory.{Names, run_of}
use Rattle.std.proofs.lemmas.Nat.{div-mul-add, div-add-mod'}
use Rattle.t1_num.proofs.MemoryLaws.{byte_of_number_at}
use Rattle.t1_packet.specs.declared.served.Served.{Served}
use Rattle.t1_event.specs.Log.{plain_op, kept_old}
use Rattle.t1_packet.specs.Ops.{asked_way}
use Rattle.t1_joint.specs.Lists.{IsIn}
use Rattle.t1_joint.specs.Start.{Setup}
use Rattle.t1_joint.specs.Parts.{Parts}
use Rattle.t1_joint.specs.Proper.{IsTime}
use Rattle.t1_joint.specs.CoreRule.{KeepsRule}
use Rattle.t1_joint.specs.Fit.{log_of, Fit, traces_from, traces_of}
use Rattle.t1_joint.specs.JointHistory.{IsSetup, IsPostTime, IsRecordOf, IsBankCommit, IsBridgeCommit}
use Rattle.t1_tso.proofs.Joint.{read_access}
use Rattle.t1_tso.proofs.Facts.{io_true, op_addr_of}
use Rattle.t1_fit.proofs.Lists.{in_prefix}
use Rattle.t1_fit.proofs.Logs.{record_of, log_at, at_log, plain_addr, plain_filled, plain_kept}
use Rattle.t1_fit.proofs.Part.{own_at}
use Rattle.t1_fit.proofs.Whole.{slot_whole}
use Rattle.t1_fit.proofs.Bytes.{memory_bytes}
use Rattle.t1_fit.proofs.Commits.{IsOf, OfBank, OfBridge, place, old_is, old_zero, ruled, fills, filled_by_bank, bank_commit, bridge_commit}
use Rattle.t1_fit.proofs.Posts.{mine}
use Rattle.t1_fit.proofs.Came.{post_some}
use Rattle.t1_fit.proofs.Joins.{admitted, right, served, kept, came_from, reply_from, in_mine, admitted_sent, victim_is}
use Rattle.t1_fit.proofs.Flat.{Home, home_of}

module _ (w : Setup) (setup : IsSetup w) (p : Parts) (f : Fit w p) where
  some : 0 < w.config.strands
  some = setup.strands.0

  pub ram_small : length w.image.ram < 2 ^ 39
  ram_small = omega (arith, setup.ram, setup.small)

  pub sizes : (c : ℕ) → c < w.config.cores → length (p.core c).traces ≡ w.config.strands
  sizes c l = (f.cores c l).size

  pub at_home : (x : Act (items_of (traces_from p.core 0 w.config.cores))) → Home p.core w.config.cores w.config.strands setup.strands.0 sizes x
  at_home x = home_of p.core w.config.cores w.config.strands setup.strands.0 sizes x

  pub kept_at : (x : Act (items_of (traces_from p.core 0 w.config.cores))) → KeepsRule w (x.strand / w.config.strands) (p.core (x.strand / w.config.strands))
  kept_at x = kept w setup p f (x.strand / w.config.strands) (at_home x).core_in

  pub logged_as : (n : ℕ) (c : Commit) → slice_get p.crossbar.log n ≡ Some c → (a : Served) × (slice_get p.crossbar.admitted n ≡ Some a) × (c ≡ record_of w a)
  logged_as n c is = at_log w p.crossbar.admitted n c (ap (λ (l : List Commit). slice_get l n) (sym (admitted w setup p f).log) ∙ is)

  pub in_log : (n : ℕ) (a : Served) → slice_get p.crossbar.admitted n ≡ Some a → slice_get p.crossbar.log n ≡ Some (record_of w a)
  in_log n a is = ap (λ (l : List Commit). slice_get l n) (admitted w setup p f).log ∙ log_at w p.crossbar.admitted n a is

  -- the access that is behind an item that is placed as a commit
  pub record Behind (x : Act (items_of (traces_from p.core 0 w.config.cores))) (n t : ℕ) : Type 0 where
    pub access : Served
    pub is : slice_get p.crossbar.admitted n ≡ Some access
    pub core : access.request.core ≡ x.strand / w.config.strands
    pub strand : access.request.strand ≡ x.strand % w.config.strands
    pub item : access.request.item ≡ x.number
    pub seen : access.request.seen ≡ t
    pub size : op_size access.request.op ≡ x.item.size
    pub op : plain_op access.request.op access.old access.way ≡ op_of x.item access.way x.item.kind
    pub got : IsRead x.item.kind → x.item.got ≡ access.old

  pub behind : (x : Act (items_of (traces_from p.core 0 w.config.cores))) (n t : ℕ) → x.item.how ≡ how.Commit n t → Behind x n t
  behind x n t e =
      let h = at_home x in
      let c : ℕ = x.strand / w.config.strands in
      let k = (kept_at x).placed (x.strand % w.config.strands) x.number n t x.item h.has e in
      let g = reply_from w setup p f c k.packet k.reply k.among k.is in
      let index : g.n ≡ n = sym g.index ∙ k.index_is in
      record {
        access = g.access;
        is = ap (λ (i : ℕ). slice_get p.crossbar.admitted i) (sym index) ∙ g.is;
        core = g.core;
        strand = ap (λ (r : ReplyData). r.strand) g.reply ∙ k.strand_is;
        item = ap (λ (r : ReplyData). r.item) g.reply ∙ k.item_is;
        seen = ap (λ (r : ReplyData). r.seen) g.reply ∙ k.seen_is;
        size = ap (λ (r : ReplyData). op_size r.op) g.reply ∙ k.size_is;
        op = subst (λ (r : ReplyData). plain_op r.op r.old r.way ≡ op_of x.item r.way x.item.kind) (sym g.reply) k.op_is;
        got = λ r. k.got r ∙ sym (ap (λ (r : ReplyData). r.old) g.reply);
      }

  -- ---- naming

  pub named : (x : Act (items_of (traces_from p.core 0 w.config.cores))) (n t : ℕ) → x.item.how ≡ how.Commit n t → (c : Commit) × (slice_get p.crossbar.log n ≡ Some c) × Names c n x
  named x n t e =
      let b = behind x n t e in
      let a : Served = b.access in (
        record_of w a,
        in_log n a b.is,
        record {
          strand = ap (λ (c : ℕ). c * w.config.strands + a.request.strand) b.core ∙ (ap (λ (s : ℕ). x.strand / w.config.strands * w.config.strands + s) b.strand ∙ div-add-mod' x.strand w.config.strands);
          item = b.item;
          how_is = e ∙ ap (λ (s : ℕ). how.Commit n s) (sym b.seen);
        },
      )

  -- the access behind an item that a commit names
  pub record NamedBy (x : Act (items_of (traces_from p.core 0 w.config.cores))) (n : ℕ) (c : Commit) : Type 0 where
    pub behind : Behind x n c.seen
    pub is : c ≡ record_of w behind.access

  pub named_by : (x : Act (items_of (traces_from p.core 0 w.config.cores))) (n : ℕ) (c : Commit) → slice_get p.crossbar.log n ≡ Some c → Names c n x → NamedBy x n c
  named_by x n c is nm =
      let b = behind x n c.seen nm.how_is in
      let at = logged_as n c is in
      let both : Some at.0 ≡ Some b.access = sym at.1 ∙ b.is in
      let q : at.0 ≡ b.access = cc (both) in
      record { behind = b; is = at.2 ∙ ap (λ (v : Served). record_of w v) q }

  -- ---- times

  pub known : (x : Act (items_of (traces_from p.core 0 w.config.cores))) → IsTime (p.core (x.strand / w.config.strands)).received (at_of x.item.how)
  known x = (kept_at x).times (x.strand % w.config.strands) x.number x.item (at_home x).has

  pub seen_before : (n : ℕ) (c : Commit) → slice_get p.crossbar.log n ≡ Some c → c.seen ≤ n
  seen_before n c is = let at = logged_as n c is in subst (λ (v : Commit). v.seen ≤ n) (sym at.2) (f.crossbar.seen n at.0 at.1)

  post_time : (c t : ℕ) → IsTime (p.core c).received t → IsPostTime (run_of w (traces_of w p) p.crossbar.log) c t
  post_time c t (inl z) = inl z
  post_time c t (inr q) =
      let g = came_from w setup p f c q.0 q.1 in
      let m : List ℕ = memory_at w.image.ram p.crossbar.log g.n in
      let s = post_some w m g.n c g.access q.0 (right w setup p f g.n g.access g.is).strand g.packet in
      inr (
        g.n,
        s.0,
        ap (λ (o : Option Commit). post_by w.config.strands m g.n c o) (in_log g.n g.access g.is) ∙ s.1,
        q.2 ∙ ap (λ (i : ℕ). i + 1) g.index,
      )

  pub times_at : (x : Act (items_of (traces_from p.core 0 w.config.cores))) → IsPostTime (run_of w (traces_of w p) p.crossbar.log) (x.strand / w.config.strands) (at_of x.item.how)
  times_at x = post_time (x.strand / w.config.strands) (at_of x.item.how) (known x)

  pub core_at : (n : ℕ) (a : Served) (c : Commit) → slice_get p.crossbar.admitted n ≡ Some a → c ≡ record_of w a → core_of w.config.strands c ≡ a.request.core
  core_at n a c is e =
      ap (λ (v : Commit). core_of w.config.strands v) e ∙ div-mul-add a.request.core w.config.strands a.request.strand (right w setup p f n a is).strand

  -- ---- what an access got

  addr_is : (x : Act (items_of (traces_from p.core 0 w.config.cores))) (n t : ℕ) (b : Behind x n t) → IsAccess x.item.kind → op_addr b.access.request.op ≡ x.item.addr
  addr_is x n t b access =
      sym (plain_addr b.access.request.op b.access.old b.access.way) ∙ (ap op_addr b.op ∙ op_addr_of x.item b.access.way x.item.kind access)

  -- of RAM what memory has there
  pub got_memory : (x : Act (items_of (traces_from p.core 0 w.config.cores))) (n t : ℕ) → x.item.how ≡ how.Commit n t → IsRead x.item.kind → x.item.addr < length w.image.ram
      → GotMemory (memory_at w.image.ram p.crossbar.log n) x.item
  got_memory x n t e r ram a cv =
      let b = behind x n t e in
      let s : Served = b.access in
      let access = read_access x.item.kind r in
      let addr : op_addr s.request.op ≡ x.item.addr = addr_is x n t b access in
      let k : ℕ = a - x.item.addr in
      let lk : k < x.item.size = (let l = cv.0 in let u = cv.1 in omega (arith, l, u)) in
      let back : x.item.addr + k ≡ a = (let l = cv.0 in omega (arith, l)) in
      let m : List ℕ = memory_at w.image.ram (log_of w p.crossbar.admitted) n in
      let dest : op_dest w.config.chip s.request.op < banks w.config.chip =
      by (place w setup p.crossbar.admitted (served w setup p f) (right w setup p f) n s b.is) (omega (arith, addr, ram)) in
      let old : s.old ≡ number_at m x.item.addr x.item.size =
      old_is w setup p.crossbar.admitted (served w setup p f) (right w setup p f) n s b.is dest
      ∙ (ap (λ (v : ℕ). number_at m v (op_size s.request.op)) addr ∙ ap (λ (v : ℕ). number_at m x.item.addr v) b.size) in
      ap (λ (v : ℕ). byte_of v x.item.size k) (b.got r ∙ old)
      ∙ (byte_of_number_at m (memory_bytes w.image.ram (log_of w p.crossbar.admitted) n setup.bytes) x.item.addr x.item.size k lk
      ∙ (ap (λ (v : ℕ). get_or m v 0) back
      ∙ ap (λ (log : List Commit). get_or (memory_at w.image.ram log n) a 0) (sym (admitted w setup p f).log)))
    where
      by : {i : ℕ} {s : Served} → IsOf w setup p.crossbar.admitted (served w setup p f) (right w setup p f) i s → op_addr s.request.op < length w.image.ram → op_dest w.config.chip s.request.op < banks w.config.chip
      by (OfBank l) below = l
      by (OfBridge d io) below = absurd (omega (arith, io.0, below, ram_small))

  -- of I/O nothing
  pub got_io : (x : Act (items_of (traces_from p.core 0 w.config.cores))) (n t : ℕ) → x.item.how ≡ how.Commit n t → IsRead x.item.kind → IsIo x.item.addr → x.item.got ≡ 0
  got_io x n t e r io =
      let b = behind x n t e in
      let s : Served = b.access in
      let addr : op_addr s.request.op ≡ x.item.addr = addr_is x n t b (read_access x.item.kind r) in
      b.got r ∙ old_zero w setup p.crossbar.admitted (served w setup p f) (right w setup p f) n s b.is (ap (λ (v : ℕ). is_io v) addr ∙ io_true x.item.addr io)

  -- ---- the record of an item

  kept_as : (op : Op) (old : ℕ) (way : Option ℕ) (item : Item) (k : ItemKind) → plain_op op old way ≡ op_of item way k → IsAccess k → (IsRead k → item.got ≡ old) → kept_old op old ≡ old_of item k
  kept_as op old way item k e access got = sym (plain_kept op old way old) ∙ (ap (λ (o : Op). kept_old o old) e ∙ by k access got)
    where
      by : (k : ItemKind) → IsAccess k → (IsRead k → item.got ≡ old) → kept_old (op_of item way k) old ≡ old_of item k
      by kind.Fetch access got = sym (got refl)
      by kind.Load access got = sym (got refl)
      by kind.Store access got = refl
      by (kind.Atomic true) access got = sym (got refl)
      by (kind.Atomic false) access got = sym (got refl)
      by kind.Membar access got = cc
      by kind.Flush access got = cc

  pub record_of_item : (n : ℕ) (c : Commit) (x : Act (items_of (traces_from p.core 0 w.config.cores))) → slice_get p.crossbar.log n ≡ Some c → Names c n x → IsAccess x.item.kind
      → IsRecordOf (run_of w (traces_of w p) p.crossbar.log) c x.item
  record_of_item n c x is nm access =
      let g = named_by x n c is nm in
      let a : Served = g.behind.access in
      record {
        dest = ap (λ (v : Commit). v.dest) g.is ∙ ap (λ (v : ℕ). dest_of w.config.chip v) (addr_is x n c.seen g.behind access);
        op = ap (λ (v : Commit). v.op) g.is ∙ (g.behind.op ∙ ap (λ (v : Commit). op_of x.item v.way x.item.kind) (sym g.is));
        old = ap (λ (v : Commit). v.old) g.is ∙ kept_as a.request.op a.old a.way x.item x.item.kind g.behind.op access g.behind.got;
      }

  -- ---- the commits

  at_admitted : (n : ℕ) (c : Commit) → slice_get p.crossbar.log n ≡ Some c → slice_get (log_of w p.crossbar.admitted) n ≡ Some c
  at_admitted n c is = ap (λ (l : List Commit). slice_get l n) (sym (admitted w setup p f).log) ∙ is

  pub by_bank : (n : ℕ) (c : Commit) → slice_get p.crossbar.log n ≡ Some c → c.dest < banks w.config.chip → IsBankCommit (run_of w (traces_of w p) p.crossbar.log) n c
  by_bank n c is l =
      subst (λ (log : List Commit). IsBankCommit (run_of w (traces_of w p) log) n c) (sym (admitted w setup p f).log)
      (bank_commit w setup p.crossbar.admitted (served w setup p f) (right w setup p f) (traces_of w p) n c (at_admitted n c is) l)

  pub by_bridge : (n : ℕ) (c : Commit) → slice_get p.crossbar.log n ≡ Some c → c.dest ≡ io_bridge w.config.chip → IsBridgeCommit c
  by_bridge n c is e = bridge_commit w setup p.crossbar.admitted (served w setup p f) (right w setup p f) n c (at_admitted n c is) e

  -- the way of a fill
  was_sent : (n : ℕ) (a : Served) → slice_get p.crossbar.admitted n ≡ Some a → IsIn a.request ((p.core a.request.core).sent (op_dest w.config.chip a.request.op))
  was_sent n a is =
      in_prefix a.request (mine w.config.chip a.request.core (op_dest w.config.chip a.request.op) p.crossbar.admitted) ((p.core a.request.core).sent (op_dest w.config.chip a.request.op))
      (admitted_sent w setup p f a.request.core (op_dest w.config.chip a.request.op))
      (in_mine w.config.chip a.request.core (op_dest w.config.chip a.request.op) p.crossbar.admitted n a is refl refl)

  pub filled_rightly : (n : ℕ) (c : Commit) → slice_get p.crossbar.log n ≡ Some c → IsFilledRightly (run_of w (traces_of w p) p.crossbar.log) n c
  filled_rightly n c is cache line way il iw =
      let at = logged_as n c is in
      let a : Served = at.0 in
      let all : List Served = p.crossbar.admitted in
      let log : List Commit = p.crossbar.log in
      let r = right w setup p f in
      let s = served w setup p f in
      let core : core_of w.config.strands c ≡ a.request.core = core_at n a c at.1 at.2 in
      let seen : c.seen ≡ a.request.seen = ap (λ (v : Commit). v.seen) at.2 in
      let fl : filled_line cache a.request.op ≡ Some line = sym (plain_filled cache a.request.op a.old a.way) ∙ (ap (λ (v : Commit). filled_line cache v.op) (sym at.2) ∙ il) in
      let wy : a.way ≡ Some way = ap (λ (v : Commit). v.way) (sym at.2) ∙ iw in
      let g = filled_by_bank w setup all s r n a cache line way at.1 fl wy in
      let k = kept w setup p f a.request.core (r n a at.1).core in
      let sent = was_sent n a at.1 in
      let asked : asked_way a.request.op ≡ victim_at w.config.chip w.config.strands w.image.ram log a.request.core cache a.request.seen line =
      k.ways (op_dest w.config.chip a.request.op) a.request cache line sent fl
      ∙ victim_is w setup p f a.request.core a.request.seen cache line (k.sent_times (op_dest w.config.chip a.request.op) a.request sent) in
      let lay : Layout = layout w.config.chip cache in
      let own : List (Option ℕ) = own_at w.config.chip (op_dest w.config.chip a.request.op) w.config.strands (log_of w all) a.request.core cache n in
      let core_is : core_of w.config.strands (record_of w a) ≡ a.request.core = div-mul-add a.request.core w.config.strands a.request.strand (r n a at.1).strand in
      let slot : slot_of lay own line ≡ slot_of lay (directory_at w.config.chip w.config.strands log a.request.core cache n) line =
      subst (λ (i : ℕ). slot_of lay (own_at w.config.chip (op_dest w.config.chip a.request.op) w.config.strands (log_of w all) i cache n) line ≡ slot_of lay (directory_at w.config.chip w.config.strands (log_of w all) i cache n) line) core_is
      (slot_whole w.config.chip w.config.strands w.config.cores (log_of w all) (ruled w setup all s r) (fills w setup all s r) n (record_of w a) cache line g.of)
      ∙ ap (λ (l : List Commit). slot_of lay (directory_at w.config.chip w.config.strands l a.request.core cache n) line) (sym (admitted w setup p f).log) in
      g.way_is
      ∙ (ap (λ (o : Option ℕ). way_for lay o (asked_way a.request.op)) slot
      ∙ (ap (λ (v : ℕ). way_for lay (slot_of lay (directory_at w.config.chip w.config.strands log a.request.core cache n) line) v) asked
      ∙ (ap (λ (t : ℕ). fill_way_in w.config.chip cache (directory_at w.config.chip w.config.strands log a.request.core cache n) line (victim_at w.config.chip w.config.strands w.image.ram log a.request.core cache t line)) (sym seen)
      ∙ ap (λ (i : ℕ). fill_way_in w.config.chip cache (directory_at w.config.chip w.config.strands log i cache n) line (victim_at w.config.chip w.config.strands w.image.ram log i cache c.seen line)) (sym core))))
