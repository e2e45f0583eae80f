-- Each valid line of the caches holds its bytes of memory.
use Rattle.std.proofs.Common.{◌≡◌, ℕ, zero, suc, ◌+◌, ◌-◌, ◌*◌, ◌/◌, ◌%◌, ◌<◌, ◌≤◌, ◌⊎◌, ◌==◌, inl, inr, Bool, true, false, List, [], ◌∷◌, ◌++◌, length, get_or, set, take, drop, replicate, Option, Some, None, refl, ap, sym, ◌∙◌, subst, arith, add_assoc, length-drop}
use Rattle.std.specs.List.{slice_get}
use Rattle.std.proofs.lemmas.Bool.{cases_order, cases_Bool, eqb-false, or_parts}
use Rattle.std.proofs.lemmas.List.{take_at, take-take, drop-set-add, drop-set-lt, take-set-le, length-take}
use Rattle.t1_num.specs.Memory.{IsSize, with_number_at}
use Rattle.t1_shape.specs.Shapes.{Shape}
use Rattle.t1_shape.specs.Slots.{Line, slots_in, first_slot, slot_of, IsOnce, tag, tags_of, with_bytes, with_bytes_at}
use Rattle.t1_shape.proofs.Slots.{slot_some, slot_none}
use Rattle.t1_shape.proofs.Once.{set_read, none_at}
use Rattle.t1_packet.specs.declared.cache.Cache.{Cache}
use Rattle.t1_packet.specs.declared.cache.Cache.TheVariants.{Dcache, Icache}
use Rattle.t1_packet.specs.declared.op.Op.{Op}
use Rattle.t1_packet.specs.declared.op.Op.TheVariants.{Fetch, Load, Store, Swap, Cas}
use Rattle.t1_packet.specs.Data.{KillData}
use Rattle.t1_packet.specs.Ops.{op_addr}
use Rattle.t1_packet.specs.Caches.{layout, width, line_of, with_kills, line_from, with_answer}
use Rattle.t1_event.specs.declared.item.Item.{Item}
use Rattle.t1_event.specs.declared.item.ItemKind.{ItemKind}
use Rattle.t1_event.specs.declared.item.ItemKind.TheVariants as kind
use Rattle.t1_event.specs.declared.commit.Commit.{Commit}
use Rattle.t1_event.specs.Log.{core_of, written, written_by, memory_at}
use Rattle.t1_event.specs.Records.{op_of}
use Rattle.t1_event.specs.Kills.{is_evicted, is_written, is_doomed, kills_below}
use Rattle.t1_event.specs.Shadow.{directory_at}
use Rattle.t1_event.specs.Posts.{memory_line, reply_line, post_by, no_lines, with_post, l1_at}
use Rattle.t1_event.specs.Places.{Run}
use Rattle.t1_joint.specs.JointHistory.{shown_at}
use Rattle.t1_packet.proofs.Caches.{slot_in_cache}
use Rattle.t1_tso.proofs.Joint.{Joint}
use Rattle.t1_tso.proofs.Memory.{length-memory_at}
use Rattle.t1_tso.proofs.Tags.{tag_at, tags-with_kills}
use Rattle.t1_tso.proofs.LineBytes.{same_line}
use Rattle.t1_tso.proofs.Cover.{FewKills, with_commit_in, post_is, covered}
use Rattle.t1_tso.proofs.Once.{left_by_kills, once-with_kills, directory_once}
use Rattle.t1_tso.proofs.Doomed.{Hits, hit_empty, hits_below}

-- ---- bytes of a line after a write

take_set : (w : ℕ) (xs : List ℕ) (i v : ℕ) → take w (set xs i v) ≡ set (take w xs) i v
take_set zero xs i v = refl
take_set (suc w) [] i v = refl
take_set (suc w) (x ∷ xs) zero v = refl
take_set (suc w) (x ∷ xs) (suc i) v = ap (λ (l : List ℕ). x ∷ l) (take_set w xs i v)

pub put_in_line : (w : ℕ) (m : List ℕ) (b off size v : ℕ) → take w (drop b (with_number_at m (b + off) size v)) ≡ with_number_at (take w (drop b m)) off size v
unfolding with_number_at
put_in_line w m b off zero v = refl
put_in_line w m b off (suc n) v =
    let before : List ℕ = with_number_at m (b + off) n (v / 256) in
    ap (λ (i : ℕ). take w (drop b (set before i (v % 256)))) (add_assoc b off n)
    ∙ (ap (λ (l : List ℕ). take w l) (drop-set-add b before (off + n) (v % 256))
    ∙ (take_set w (drop b before) (off + n) (v % 256)
    ∙ ap (λ (l : List ℕ). set l (off + n) (v % 256)) (put_in_line w m b off n (v / 256))))

set_off_line : (w : ℕ) (m : List ℕ) (b i v : ℕ) → (i < b) ⊎ (b + w ≤ i) → take w (drop b (set m i v)) ≡ take w (drop b m)
set_off_line w m b i v (inl l) = ap (λ (l : List ℕ). take w l) (drop-set-lt b m i v l)
set_off_line w m b i v (inr l) =
    let e : i ≡ b + (i - b) = omega arith in
    ap (λ (n : ℕ). take w (drop b (set m n v))) e
    ∙ (ap (λ (l : List ℕ). take w l) (drop-set-add b m (i - b) v) ∙ take-set-le w (drop b m) (i - b) v (omega arith))

pub put_off_line : (w : ℕ) (m : List ℕ) (b addr size v : ℕ) → (addr + size ≤ b) ⊎ (b + w ≤ addr) → take w (drop b (with_number_at m addr size v)) ≡ take w (drop b m)
unfolding with_number_at
put_off_line w m b addr zero v out = refl
put_off_line w m b addr (suc n) v out =
    let out' : (addr + n ≤ b) ⊎ (b + w ≤ addr) = elim out [ inl l ↦ inl (omega arith) | inr l ↦ inr l ] in
    let at : (addr + n < b) ⊎ (b + w ≤ addr + n) = elim out [ inl l ↦ inl (omega arith) | inr l ↦ inr (omega arith) ] in
    set_off_line w (with_number_at m addr n (v / 256)) b (addr + n) (v % 256) at ∙ put_off_line w m b addr n (v / 256) out'

-- ---- accesses of the right shape

abbrev pub OpShaped : Op → Type 0
OpShaped (Store addr size value) = IsSize size × (addr % size ≡ 0)
OpShaped (Swap addr size new) = IsSize size × (addr % size ≡ 0)
OpShaped (Fetch addr way) = Unit {0}
OpShaped (Load addr size way) = Unit {0}
OpShaped (Cas addr size expect new) = Unit {0}

op_shaped : (x : Item) (way : Option ℕ) (k : ItemKind) → IsSize x.size → x.addr % x.size ≡ 0 → OpShaped (op_of x way k)
op_shaped x way kind.Fetch s a = tt
op_shaped x way kind.Load s a = tt
op_shaped x way kind.Store s a = (s, a)
op_shaped x way (kind.Atomic true) s a = (s, a)
op_shaped x way (kind.Atomic false) s a = tt
op_shaped x way kind.Membar s a = tt
op_shaped x way kind.Flush s a = tt

positive : (size : ℕ) → IsSize size → 0 < size
positive size s = omega arith

off_16 : (addr size line : ℕ) → 0 < size → (addr + size - 1) / 16 ≡ addr / 16 → (addr / 16 ≡ line → ⊥) → (addr + size ≤ line * 16) ⊎ (line * 16 + 16 ≤ addr)
off_16 addr size line p e ne =
    elim (cases_order (addr / 16) line) [
      | inl same ↦ absurd (ne same)
      | inr (inl less) ↦ inl (omega arith)
      | inr (inr more) ↦ inr (omega arith)
    ]

off_32 : (addr size line : ℕ) → 0 < size → (addr + size - 1) / 32 ≡ addr / 32 → (addr / 32 ≡ line → ⊥) → (addr + size ≤ line * 32) ⊎ (line * 32 + 32 ≤ addr)
off_32 addr size line p e ne =
    elim (cases_order (addr / 32) line) [
      | inl same ↦ absurd (ne same)
      | inr (inl less) ↦ inl (omega arith)
      | inr (inr more) ↦ inr (omega arith)
    ]

off_line : (cache : Cache) (addr size line : ℕ) → IsSize size → addr % size ≡ 0 → (line_of cache addr ≡ line → ⊥)
    → (addr + size ≤ line * width cache) ⊎ (line * width cache + width cache ≤ addr)
off_line Dcache addr size line s a ne =
    let p = positive size s in off_16 addr size line p (same_line Dcache addr size (addr + size - 1) s a (omega (arith, p)) (omega (arith, p))) ne
off_line Icache addr size line s a ne =
    let p = positive size s in off_32 addr size line p (same_line Icache addr size (addr + size - 1) s a (omega (arith, p)) (omega (arith, p))) ne

-- a line into which the access does not write
put_elsewhere : (cache : Cache) (m : List ℕ) (addr size v line : ℕ) → IsSize size → addr % size ≡ 0 → (line_of cache addr ≡ line → ⊥)
    → memory_line cache (with_number_at m addr size v) line ≡ memory_line cache m line
put_elsewhere cache m addr size v line s a ne = put_off_line (width cache) m (line * width cache) addr size v (off_line cache addr size line s a ne)

unwritten : (cache : Cache) (m : List ℕ) (op : Op) (line : ℕ) → OpShaped op → is_written cache line false op ≡ false
    → memory_line cache (written m op) line ≡ memory_line cache m line
unwritten Dcache m (Store addr size value) line s e = put_elsewhere Dcache m addr size value line s.0 s.1 (eqb-false (addr / 16) line e)
unwritten Icache m (Store addr size value) line s e = put_elsewhere Icache m addr size value line s.0 s.1 (eqb-false (addr / 32) line e)
unwritten Dcache m (Swap addr size new) line s e = put_elsewhere Dcache m addr size new line s.0 s.1 (eqb-false (addr / 16) line e)
unwritten Icache m (Swap addr size new) line s e = put_elsewhere Icache m addr size new line s.0 s.1 (eqb-false (addr / 32) line e)
unwritten cache m (Fetch addr way) line s e = refl
unwritten cache m (Load addr size way) line s e = refl
unwritten cache m (Cas addr size expect new) line s e = refl

-- ---- the requester's own cache

abbrev pub Holds : Cache → List ℕ → List (Option Line) → Type 0
Holds cache m slots = (k : ℕ) (l : Line) → get_or slots k None ≡ Some l → l.bytes ≡ memory_line cache m l.number

-- where a line stands only where the access leaves it alone
abbrev pub Untouched : Cache → Bool → Op → List (Option Line) → Type 0
Untouched cache own op left = (k : ℕ) (l : Line) → get_or left k None ≡ Some l → is_written cache l.number own op ≡ false

whole_line : (m : List ℕ) (addr : ℕ) → addr < length m → length m % 65536 ≡ 0 → length (memory_line Dcache m (addr / 16)) ≡ 16
whole_line m addr l e = omega (arith, length-take 16 (drop ((addr / 16) * 16) m), length-drop ((addr / 16) * 16) m)

fill_bytes : (cache : Cache) (m : List ℕ) (left : List (Option Line)) (s : ℕ) (f : Line) → Holds cache m left → f.bytes ≡ memory_line cache m f.number → Holds cache m (set left s (Some f))
fill_bytes cache m left s f kept e k l is =
    elim (set_read left s (Some f) k l is) [
      | inl p ↦ let same : f ≡ l = cc (p.1) in subst (λ (g : Line). g.bytes ≡ memory_line cache m g.number) same e
      | inr p ↦ kept k l p.1
    ]

still : (cache : Cache) (m : List ℕ) (op : Op) (left : List (Option Line)) → Holds cache m left → Untouched cache false op left → OpShaped op → Holds cache (written m op) left
still cache m op left kept off shaped k l is = kept k l is ∙ sym (unwritten cache m op l.number shaped (off k l is))

-- the line of an own store is written in the cache too
store_slot : (shape : Shape) (m : List ℕ) (addr size v : ℕ) (left : List (Option Line)) → Holds Dcache m left → IsOnce (layout shape Dcache) (tags_of left) → IsSize size → addr % size ≡ 0
    → (o : Option ℕ) → slot_of (layout shape Dcache) (tags_of left) (addr / 16) ≡ o → Holds Dcache (with_number_at m addr size v) (with_bytes_at o (addr % 16) size v left)
store_slot shape m addr size v left kept once s a None e k l is =
    let ne : addr / 16 ≡ l.number → ⊥ = λ same.
    let t : get_or (tags_of left) k None ≡ Some l.number = tag_at left k ∙ ap (λ (o : Option Line). tag o) is in
    let t' : get_or (tags_of left) k None ≡ Some (addr / 16) = subst (λ (n : ℕ). get_or (tags_of left) k None ≡ Some n) (sym same) t in
    slot_none (layout shape Dcache) (tags_of left) (addr / 16) k e (once.own k (addr / 16) t') t' in
    kept k l is ∙ sym (put_elsewhere Dcache m addr size v l.number s a ne)
store_slot shape m addr size v left kept once s a (Some j) e k l is =
    let found = slot_some (layout shape Dcache) (tags_of left) (addr / 16) j e in
    elim (set_read left j (with_bytes (addr % 16) size v (get_or left j None)) k l is) [
      | inl p ↦ here (get_or left j None) refl p.1 (sym (tag_at left j) ∙ found.is)
      | inr p ↦
          let ne : addr / 16 ≡ l.number → ⊥ = λ same.
          let t : get_or (tags_of left) k None ≡ Some l.number = tag_at left k ∙ ap (λ (o : Option Line). tag o) p.1 in
          let t' : get_or (tags_of left) k None ≡ Some (addr / 16) = subst (λ (n : ℕ). get_or (tags_of left) k None ≡ Some n) (sym same) t in
          p.0 (once.once k j (addr / 16) t' found.is) in
          kept k l p.1 ∙ sym (put_elsewhere Dcache m addr size v l.number s a ne)
    ]
  where
    here : (o : Option Line) → get_or left j None ≡ o → with_bytes (addr % 16) size v o ≡ Some l → tag o ≡ Some (addr / 16) → l.bytes ≡ memory_line Dcache (with_number_at m addr size v) l.number
    here None at u t = let clash : ◌≡◌ {A = Option Line} None (Some l) = u in cc
    here (Some f) at u t =
        let new : Line = record { number = f.number; bytes = with_number_at f.bytes (addr % 16) size v } in
        let same : new ≡ l = let u' : Some new ≡ Some l = u in cc in
        let q : f.number ≡ addr / 16 = cc (t) in
        let whole : f.number * 16 + addr % 16 ≡ addr = omega (arith, q) in
        let e' : with_number_at f.bytes (addr % 16) size v ≡ memory_line Dcache (with_number_at m addr size v) f.number =
        ap (λ (bs : List ℕ). with_number_at bs (addr % 16) size v) (kept j f at)
        ∙ (sym (put_in_line 16 m (f.number * 16) (addr % 16) size v)
        ∙ ap (λ (n : ℕ). memory_line Dcache (with_number_at m n size v) f.number) whole) in
        subst (λ (g : Line). g.bytes ≡ memory_line Dcache (with_number_at m addr size v) g.number) same e'

answer_holds : (shape : Shape) (cache : Cache) (m : List ℕ) (op : Op) (way : Option ℕ) (left : List (Option Line)) → Holds cache m left → Untouched cache true op left → IsOnce (layout shape cache) (tags_of left)
    → OpShaped op → ((w : ℕ) → way ≡ Some w → op_addr op < length m) → length m % 65536 ≡ 0
    → Holds cache (written m op) (with_answer shape cache op way (reply_line m op way) left)
answer_holds shape Dcache m (Store addr size value) way left kept off once s ram whole = store_slot shape m addr size value left kept once s.0 s.1 (slot_of (layout shape Dcache) (tags_of left) (line_of Dcache addr)) refl
answer_holds shape Icache m (Store addr size value) way left kept off once s ram whole = still Icache m (Store addr size value) left kept off s
answer_holds shape Dcache m (Fetch addr w) way left kept off once s ram whole = kept
answer_holds shape Icache m (Fetch addr w) None left kept off once s ram whole = kept
answer_holds shape Icache m (Fetch addr w) (Some v) left kept off once s ram whole =
    fill_bytes Icache m left (first_slot (layout shape Icache) (line_of Icache addr) + v) (line_from Icache (memory_line Icache m (line_of Icache addr)) (line_of Icache addr)) kept
    (take-take 32 32 (drop (addr / 32 * 32) m) (omega arith))
answer_holds shape Dcache m (Load addr size w) None left kept off once s ram whole = kept
answer_holds shape Dcache m (Load addr size w) (Some v) left kept off once s ram whole =
    fill_bytes Dcache m left (first_slot (layout shape Dcache) (line_of Dcache addr) + v) (line_from Dcache (memory_line Dcache m (line_of Dcache addr) ++ replicate 16 0) (line_of Dcache addr)) kept
    (take_at (memory_line Dcache m (addr / 16)) (replicate 16 0) 16 (whole_line m addr (ram v refl) whole))
answer_holds shape Icache m (Load addr size w) way left kept off once s ram whole = kept
answer_holds shape Dcache m (Swap addr size new) way left kept off once s ram whole = still Dcache m (Swap addr size new) left kept off s
answer_holds shape Icache m (Swap addr size new) way left kept off once s ram whole = still Icache m (Swap addr size new) left kept off s
answer_holds shape Dcache m (Cas addr size expect new) way left kept off once s ram whole = kept
answer_holds shape Icache m (Cas addr size expect new) way left kept off once s ram whole = kept

-- ---- all commits

module _ (h : Run) (j : Joint h) (few : FewKills h.log) where
  shaped_at : (n : ℕ) (c : Commit) → slice_get h.log n ≡ Some c → OpShaped c.op
  shaped_at n c is =
      let nx = j.naming.names n c is in
      let s = j.shaped nx.0 nx.1 in
      subst OpShaped (sym (j.op n c nx.0 is nx.2)) (op_shaped nx.0.item c.way nx.0.item.kind s.size s.aligned)

  -- what survives the kills is not written by the access
  untouched : (core : ℕ) (cache : Cache) (n : ℕ) (c : Commit) → core < h.cores → slice_get h.log n ≡ Some c
      → Untouched cache (core_of h.strands c == core) c.op (with_kills h.shape core cache c.kills (l1_at h.shape h.strands h.image h.log core cache n))
  untouched core cache n c below is k l at =
      let before : get_or (l1_at h.shape h.strands h.image h.log core cache n) k None ≡ Some l =
      left_by_kills h.shape core cache c.kills (l1_at h.shape h.strands h.image h.log core cache n) k l at in
      let t : get_or (directory_at h.shape h.strands h.log core cache n) k None ≡ Some l.number =
      sym (ap (λ (ts : List (Option ℕ)). get_or ts k None) (covered h.shape h.image h.strands h.log few core cache n))
      ∙ (tag_at (l1_at h.shape h.strands h.image h.log core cache n) k ∙ ap (λ (o : Option Line). tag o) before) in
      let own = (directory_once h.shape h.strands h.log j.fill core cache n).own k l.number t in
      elim (cases_Bool (is_doomed cache (core_of h.strands c == core) c.evicted c.op (Some l.number))) [
        | inl d ↦
            let hits : Hits h.shape core cache k (kills_below h.shape (shown_at h n) (core_of h.strands c) c.evicted c.op h.cores) =
            hits_below h.shape (shown_at h n) (core_of h.strands c) c.evicted c.op h.cores core cache k l.number below (slot_in_cache h.shape cache l.number k own) t d in
            absurd (hit_empty h.shape core cache c.kills (l1_at h.shape h.strands h.image h.log core cache n) k l
            (subst (λ (ks : List KillData). Hits h.shape core cache k ks) (sym (j.kills n c is)) hits) at)
        | inr d ↦ (or_parts (is_evicted cache l.number c.evicted) (is_written cache l.number (core_of h.strands c == core) c.op) d).1
      ]

  once_left : (core : ℕ) (cache : Cache) (n : ℕ) (c : Commit) → IsOnce (layout h.shape cache) (tags_of (with_kills h.shape core cache c.kills (l1_at h.shape h.strands h.image h.log core cache n)))
  once_left core cache n c =
      let e : tags_of (with_kills h.shape core cache c.kills (l1_at h.shape h.strands h.image h.log core cache n)) ≡ with_kills h.shape core cache c.kills (directory_at h.shape h.strands h.log core cache n) =
      tags-with_kills h.shape core cache c.kills (l1_at h.shape h.strands h.image h.log core cache n)
      ∙ ap (λ (ts : List (Option ℕ)). with_kills h.shape core cache c.kills ts) (covered h.shape h.image h.strands h.log few core cache n) in
      subst (IsOnce (layout h.shape cache)) (sym e) (once-with_kills h.shape (layout h.shape cache) core cache c.kills (directory_at h.shape h.strands h.log core cache n) (directory_once h.shape h.strands h.log j.fill core cache n))

  commit_holds : (core : ℕ) (cache : Cache) (n : ℕ) (c : Commit) → core < h.cores → slice_get h.log n ≡ Some c
      → Holds cache (memory_at h.image h.log n) (l1_at h.shape h.strands h.image h.log core cache n)
      → Holds cache (written (memory_at h.image h.log n) c.op) (with_commit_in h.shape h.strands (memory_at h.image h.log n) core cache (l1_at h.shape h.strands h.image h.log core cache n) c)
  commit_holds core cache n c below is before =
      let m = memory_at h.image h.log n in
      let left = with_kills h.shape core cache c.kills (l1_at h.shape h.strands h.image h.log core cache n) in
      let kept : Holds cache m left = λ k l at. before k l (left_by_kills h.shape core cache c.kills (l1_at h.shape h.strands h.image h.log core cache n) k l at) in
      let len : length m ≡ length h.image = length-memory_at h.image h.log n in
      elim (cases_Bool (core_of h.strands c == core)) [
        | inl e ↦
            let off : Untouched cache true c.op left = subst (λ (b : Bool). Untouched cache b c.op left) e (untouched core cache n c below is) in
            rw e (answer_holds h.shape cache m c.op c.way left kept off (once_left core cache n c) (shaped_at n c is)
            (λ w iw. let r = j.ram n c w is iw in omega (arith, r, len))
            (rw len j.blocks))
        | inr e ↦
            let off : Untouched cache false c.op left = subst (λ (b : Bool). Untouched cache b c.op left) e (untouched core cache n c below is) in
            rw e (still cache m c.op left kept off (shaped_at n c is))
      ]

  next_holds : (core : ℕ) (cache : Cache) (n : ℕ) → core < h.cores → Holds cache (memory_at h.image h.log n) (l1_at h.shape h.strands h.image h.log core cache n)
      → (o : Option Commit) → slice_get h.log n ≡ o
      → Holds cache (written_by (memory_at h.image h.log n) o)
      (with_post h.shape core cache (post_by h.strands (memory_at h.image h.log n) n core o) (l1_at h.shape h.strands h.image h.log core cache n))
  next_holds core cache n below before None is = before
  next_holds core cache n below before (Some c) is =
      let e = post_is h.shape h.strands (memory_at h.image h.log n) n core cache (l1_at h.shape h.strands h.image h.log core cache n) c (few n core c is) in
      subst (λ (slots : List (Option Line)). Holds cache (written (memory_at h.image h.log n) c.op) slots) (sym e) (commit_holds core cache n c below is before)

  start_holds : (cache : Cache) (m : List ℕ) → Holds cache m (no_lines h.shape cache)
  unfolding no_lines
  start_holds cache m k l e = absurd (none_at (slots_in (layout h.shape cache)) k l e)

  -- each valid line holds its bytes of memory, after any number of commits
  pub lines_hold : (core : ℕ) (cache : Cache) (t : ℕ) → core < h.cores → Holds cache (memory_at h.image h.log t) (l1_at h.shape h.strands h.image h.log core cache t)
  lines_hold core cache zero below = start_holds cache h.image
  lines_hold core cache (suc t) below = next_holds core cache t below (lines_hold core cache t below) (slice_get h.log t) refl
