-- Each event but an acknowledgement keeps a strand's order.
use Rattle.std.proofs.Common.{◌≡◌, ℕ, ◌+◌, ◌<◌, ◌≤◌, ◌⊎◌, Bool, true, false, List, [], ◌∷◌, ◌++◌, length, Option, Some, None, refl, ap, sym, ◌∙◌, subst, inl, inr, arith, length-append}
use Rattle.t1_event.specs.declared.item.Item.{Item}
use Rattle.t1_event.specs.declared.item.ItemKind.{ItemKind}
use Rattle.t1_event.specs.declared.item.ItemKind.TheVariants as kind
use Rattle.t1_event.specs.declared.item.How.{How}
use Rattle.t1_event.specs.Kinds.{IsRead, IsWrite}
use Rattle.t1_event.specs.Times.{at_of, IsPlaced}
use Rattle.t1_joint.specs.Lists.{IsIn}
use Rattle.t1_joint.specs.Waits.{HasItem, IsDoneBy, WaitsFor}
use Rattle.t1_joint.specs.Rows.{FewAreHeldIn}
use Rattle.t1_strand_order.specs.Tracks.{Asked, Track, Read, Fence, Push, Ask, Send, Answer, Pass, begun, after}
use Rattle.t1_strand_order.specs.Allowed.{IsReadNow, IsFence, IsPush, IsAsk, IsSend, IsLike, IsAnswer}
use Rattle.t1_strand_order.specs.Kept.{Ascends, IsReady, IsAlone, IsSentWell, AreSentWell, IsAskedWell, IsOutWell, IsKept}
use Rattle.t1_strand_order.proofs.Items.{in_push, push_in, push_in_last, in_middle, in_before, ascends_push, done_later, read_not_store, store_not_read, read_not_barrier, store_not_barrier, read_access, has_below, not_true}
use Rattle.t1_strand_order.proofs.Grows.{ready_now, few_now, orderly_push, sent_more, sent_push, waiting_below}

-- ---- the begin, and time that goes on

pub kept_begun : (apart : ℕ → ℕ → Bool) (clock : ℕ) → IsKept apart (begun clock)
kept_begun apart clock = record {
  orderly = record {
    order = λ i j x y lt has. absurd (none i x has);
    stores = λ i j x y lt has. absurd (none i x has);
    behind = λ i x has. absurd (none i x has);
    times = λ i x has. absurd (none i x has);
    reads = λ i x has. absurd (none i x has);
    waits = λ i x has. absurd (none i x has);
    held = λ i h. absurd h;
    ascend = tt;
    room = omega arith;
    few = λ i x has. absurd (none i x has);
  };
  sent = tt;
  out = tt;
}
  where
    none : (i : ℕ) (x : Item) → HasItem [] i x → ⊥
    none i x has = (let l = has_below [] i x has in omega (arith, l))

sent_later : (apart : ℕ → ℕ → Bool) (items : List Item) (clock later : ℕ) (ks ts : List ℕ) → clock ≤ later → AreSentWell apart items clock ks ts → AreSentWell apart items later ks ts
sent_later apart items clock later ks [] le f = tt
sent_later apart items clock later [] (t ∷ ts) le f = f
sent_later apart items clock later (k ∷ ks) (t ∷ ts) le f =
    let early = f.0.past in (record { past = omega (arith, early, le); ready = f.0.ready; alone = f.0.alone }, sent_later apart items clock later ks ts le f.1)

out_later : (items : List Item) (clock later : ℕ) (out : Option Asked) → clock ≤ later → IsOutWell items clock out → IsOutWell items later out
out_later items clock later None le f = tt
out_later items clock later (Some asked) le f = let early = f.past in record { read = f.read; past = omega (arith, early, le); ready = f.ready; few = f.few }

pub kept_pass : (apart : ℕ → ℕ → Bool) (s : Track) (t : ℕ) → s.clock ≤ t → IsKept apart s → IsKept apart (after s (Pass t))
kept_pass apart s t le k =
    let o = k.orderly in
    record {
      orderly = record {
        order = o.order;
        stores = o.stores;
        behind = λ i x h st f. done_later s.clock t x.how le (o.behind i x h st f);
        times = λ i x h. (let l = o.times i x h in omega (arith, l, le));
        reads = λ i x h r. done_later s.clock t x.how le (o.reads i x h r);
        waits = λ i x h st. elim (o.waits i x h st) [ inl d ↦ inl (done_later s.clock t x.how le d) | inr w ↦ inr w ];
        held = o.held;
        ascend = o.ascend;
        room = o.room;
        few = o.few;
      };
      sent = sent_later apart s.items s.clock t s.waiting s.sent le k.sent;
      out = out_later s.items s.clock t s.out le k.out;
    }

nothing_out : (items : List Item) (clock : ℕ) (out : Option Asked) → out ≡ None → IsOutWell items clock out
nothing_out items clock out e = subst (λ (o : Option Asked). IsOutWell items clock o) (sym e) tt

-- ---- reads at the clock, barriers, stores

pub kept_read : (apart : ℕ → ℕ → Bool) (s : Track) (x : Item) → IsReadNow s x → IsKept apart s → IsKept apart (after s (Read x))
kept_read apart s x now k =
    let at : at_of x.how ≡ s.clock = elim now.how [ inl e ↦ ap at_of e | inr e ↦ ap at_of e ] in
    let le : s.clock ≤ s.clock = omega arith in
    record {
      orderly = orderly_push apart s.items s.waiting s.clock s.clock k.orderly le x s.waiting (record {
        placed = λ p. subst (λ (t : ℕ). IsReady s.items (length s.items) x.kind t) (sym at) (ready_now apart s.items s.waiting s.clock x.kind k.orderly (inl now.keeps));
        read = λ q. elim now.how [
          | inl e ↦ subst (λ (w : How). IsDoneBy s.clock w) (sym e) le
          | inr e ↦ subst (λ (w : How). IsDoneBy s.clock w) (sym e) le
        ];
        few = λ q. subst (λ (t : ℕ). FewAreHeldIn s.items (length s.items) t) (sym at) (few_now apart s.items s.waiting s.clock k.orderly);
        store = λ e. absurd (read_not_store x.kind now.read e);
        fresh = λ e p. read_not_store x.kind now.read e;
        barrier = λ b. absurd (read_not_barrier x now.read b);
        time = omega (arith, at);
        kept = λ i h. h;
        held = λ i h. inl h;
        ascend = k.orderly.ascend;
        room = k.orderly.room;
      });
      sent = sent_push apart s.items s.waiting s.clock s.clock x s.sent le k.orderly k.sent;
      out = nothing_out (s.items ++ x ∷ []) s.clock s.out now.free;
    }

fence_not_read : (k : ItemKind) → (k ≡ kind.Membar) ⊎ (k ≡ kind.Flush) → IsRead k → ⊥
fence_not_read k (inl e) r = not_true (subst (λ (v : ItemKind). IsRead v) e r)
fence_not_read k (inr e) r = not_true (subst (λ (v : ItemKind). IsRead v) e r)

fence_not_store : (k : ItemKind) → (k ≡ kind.Membar) ⊎ (k ≡ kind.Flush) → k ≡ kind.Store → ⊥
fence_not_store k (inl f) e = let clash : kind.Store ≡ kind.Membar = sym e ∙ f in cc
fence_not_store k (inr f) e = let clash : kind.Store ≡ kind.Flush = sym e ∙ f in cc

pub kept_fence : (apart : ℕ → ℕ → Bool) (s : Track) (x : Item) → IsFence s x → IsKept apart s → IsKept apart (after s (Fence x))
kept_fence apart s x f k =
    let le : s.clock ≤ s.clock = omega arith in
    record {
      orderly = orderly_push apart s.items s.waiting s.clock s.clock k.orderly le x s.waiting (record {
        placed = λ p. absurd (subst (λ (w : How). IsPlaced w) f.how p);
        read = λ q. absurd (fence_not_read x.kind f.kind q);
        few = λ q. absurd (fence_not_read x.kind f.kind q);
        store = λ e. absurd (fence_not_store x.kind f.kind e);
        fresh = λ e p. subst (λ (w : How). IsPlaced w) f.how p;
        barrier = f.empty;
        time = (let z : at_of x.how ≡ 0 = ap at_of f.how in omega (arith, z));
        kept = λ i h. h;
        held = λ i h. inl h;
        ascend = k.orderly.ascend;
        room = k.orderly.room;
      });
      sent = sent_push apart s.items s.waiting s.clock s.clock x s.sent le k.orderly k.sent;
      out = nothing_out (s.items ++ x ∷ []) s.clock s.out f.free;
    }

pub kept_push : (apart : ℕ → ℕ → Bool) (s : Track) (x : Item) → IsPush s x → IsKept apart s → IsKept apart (after s (Push x))
kept_push apart s x p k =
    let le : s.clock ≤ s.clock = omega arith in
    let below : (i : ℕ) → IsIn i s.waiting → i < length s.items = waiting_below apart s.items s.waiting s.clock k.orderly in
    record {
      orderly = orderly_push apart s.items s.waiting s.clock s.clock k.orderly le x (s.waiting ++ length s.items ∷ []) (record {
        placed = λ q. absurd (subst (λ (w : How). IsPlaced w) p.how q);
        read = λ q. absurd (store_not_read x.kind p.kind q);
        few = λ q. absurd (store_not_read x.kind p.kind q);
        store = λ e. push_in_last s.waiting (length s.items);
        fresh = λ e q. subst (λ (w : How). IsPlaced w) p.how q;
        barrier = λ b. absurd (store_not_barrier x p.kind b);
        time = (let z : at_of x.how ≡ 0 = ap at_of p.how in omega (arith, z));
        kept = λ i h. push_in s.waiting (length s.items) i h;
        held = λ i h. elim (in_push s.waiting (length s.items) i h) [ inl q ↦ inl q | inr e ↦ inr (e, p.kind, p.how) ];
        ascend = ascends_push 0 s.waiting (length s.items) (omega arith) k.orderly.ascend below;
        room = (let room = p.room in let e = length-append s.waiting (length s.items ∷ []) in omega (arith, room, e));
      });
      sent = sent_more apart s.items s.clock s.clock x s.waiting (length s.items ∷ []) s.sent le below k.sent;
      out = nothing_out (s.items ++ x ∷ []) s.clock s.out p.free;
    }

-- ---- requests

pub kept_ask : (apart : ℕ → ℕ → Bool) (s : Track) (x : Item) → IsAsk s x → IsKept apart s → IsKept apart (after s (Ask x))
kept_ask apart s x a k = record {
  orderly = k.orderly;
  sent = k.sent;
  out = record {
    read = a.read;
    past = omega arith;
    ready = ready_now apart s.items s.waiting s.clock x.kind k.orderly a.empty;
    few = few_now apart s.items s.waiting s.clock k.orderly;
  };
}

sent_next : (apart : ℕ → ℕ → Bool) (items : List Item) (clock : ℕ) (pre : List ℕ) (k : ℕ) (post ts : List ℕ) → length ts ≡ length pre → IsSentWell apart items clock k clock
    → AreSentWell apart items clock (pre ++ k ∷ post) ts → AreSentWell apart items clock (pre ++ k ∷ post) (ts ++ clock ∷ [])
sent_next apart items clock [] k post [] e s f = (s, tt)
sent_next apart items clock [] k post (t ∷ ts) e s f = absurd (omega (arith, e))
sent_next apart items clock (x ∷ xs) k post [] e s f = absurd (omega (arith, e))
sent_next apart items clock (x ∷ xs) k post (t ∷ ts) e s f = (f.0, sent_next apart items clock xs k post ts (omega (arith, e)) s f.1)

pub kept_send : (apart : ℕ → ℕ → Bool) (s : Track) → IsSend apart s → IsKept apart s → IsKept apart (after s Send)
kept_send apart s a k =
    let o = k.orderly in
    let n = a.number in
    let asc : Ascends 0 (a.out ++ n ∷ a.behind) = subst (λ (ws : List ℕ). Ascends 0 ws) a.are o.ascend in
    let here : IsIn n s.waiting = subst (λ (ws : List ℕ). IsIn n ws) (sym a.are) (in_middle a.out n a.behind) in
    let below : n < length s.items = waiting_below apart s.items s.waiting s.clock o n here in
    let ready : IsReady s.items n kind.Store s.clock = λ i x lt has b.
    elim b [
      | inl p ↦ o.reads i x has p.0
      | inr (inl p) ↦ absurd (not_true p.1)
      | inr (inr p) ↦ (let f = p.1 in let under = f.before in o.behind i x has p.0
          (record { number = f.number; item = f.item; after = f.after; before = omega (arith, under, below); has = f.has; barrier = f.barrier }))
    ] in
    let alone : IsAlone apart s.items n s.clock = λ i x y lt has_x has_y st far.
    elim (o.waits i x has_x st) [
      | inl d ↦ d
      | inr h ↦
          let h' : IsIn i (a.out ++ n ∷ a.behind) = subst (λ (ws : List ℕ). IsIn i ws) a.are h in
          let near : apart x.addr y.addr ≡ false = a.together i x y (in_before 0 a.out n a.behind i asc h' lt) has_x has_y in
          absurd (let clash : true ≡ false = sym far ∙ near in cc)
    ] in
    let well : IsSentWell apart s.items s.clock n s.clock = record { past = omega arith; ready = ready; alone = alone } in
    record {
      orderly = o;
      sent = subst (λ (ws : List ℕ). AreSentWell apart s.items s.clock ws (s.sent ++ s.clock ∷ [])) (sym a.are)
          (sent_next apart s.items s.clock a.out n a.behind s.sent a.sent well (subst (λ (ws : List ℕ). AreSentWell apart s.items s.clock ws s.sent) a.are k.sent));
      out = k.out;
    }

-- ---- an answer

-- what an access waits for goes by whether it reads and writes
pub like_read : (k asked : ItemKind) → IsLike k asked → IsRead k
like_read kind.Fetch asked l = refl
like_read kind.Load asked l = refl
like_read (kind.Atomic wrote) asked l = refl
like_read kind.Store asked l = absurd l
like_read kind.Membar asked l = absurd l
like_read kind.Flush asked l = absurd l

like_writes : (k asked : ItemKind) → IsLike k asked → IsWrite k → IsWrite asked
like_writes (kind.Atomic wrote) (kind.Atomic writes) l w = refl
like_writes (kind.Atomic wrote) kind.Fetch l w = absurd l
like_writes (kind.Atomic wrote) kind.Load l w = absurd l
like_writes (kind.Atomic wrote) kind.Store l w = absurd l
like_writes (kind.Atomic wrote) kind.Membar l w = absurd l
like_writes (kind.Atomic wrote) kind.Flush l w = absurd l
like_writes kind.Fetch asked l w = absurd (not_true w)
like_writes kind.Load asked l w = absurd (not_true w)
like_writes kind.Store asked l w = absurd l
like_writes kind.Membar asked l w = absurd (not_true w)
like_writes kind.Flush asked l w = absurd (not_true w)

like_waits : (items : List Item) (i j : ℕ) (x k asked : ItemKind) → IsLike k asked → IsRead asked → WaitsFor items i x j k → WaitsFor items i x j asked
like_waits items i j x k asked l r (inl p) = inl (p.0, read_access asked r)
like_waits items i j x k asked l r (inr (inl p)) = inr (inl (p.0, r, like_writes k asked l p.2))
like_waits items i j x k asked l r (inr (inr p)) = inr (inr (p.0, p.1, read_access asked r))

pub asked_well : (apart : ℕ → ℕ → Bool) (s : Track) (asked : Asked) → s.out ≡ Some asked → IsKept apart s → IsAskedWell s.items s.clock asked
asked_well apart s asked is k = subst (λ (o : Option Asked). IsOutWell s.items s.clock o) is k.out

pub kept_answer : (apart : ℕ → ℕ → Bool) (s : Track) (n : ℕ) (x : Item) → IsAnswer s n x → IsKept apart s → IsKept apart (after s (Answer n x))
kept_answer apart s n x a k =
    let at : at_of x.how ≡ a.asked.seen = ap at_of a.how in
    let ok = asked_well apart s a.asked a.is k in
    let read : IsRead x.kind = like_read x.kind a.asked.item.kind a.kind in
    let late = a.late in
    let le : s.clock ≤ n + 1 = omega (arith, late) in
    let ready : IsReady s.items (length s.items) x.kind a.asked.seen = λ i y lt has b.
    ok.ready i y lt has (like_waits s.items i (length s.items) y.kind x.kind a.asked.item.kind a.kind ok.read b) in
    record {
      orderly = orderly_push apart s.items s.waiting s.clock (n + 1) k.orderly le x s.waiting (record {
        placed = λ p. subst (λ (t : ℕ). IsReady s.items (length s.items) x.kind t) (sym at) ready;
        read = λ q. subst (λ (w : How). IsDoneBy (n + 1) w) (sym a.how) (omega arith);
        few = λ q. subst (λ (t : ℕ). FewAreHeldIn s.items (length s.items) t) (sym at) ok.few;
        store = λ e. absurd (read_not_store x.kind read e);
        fresh = λ e p. read_not_store x.kind read e;
        barrier = λ b. absurd (read_not_barrier x read b);
        time = (let past = ok.past in omega (arith, at, past, late));
        kept = λ i h. h;
        held = λ i h. inl h;
        ascend = k.orderly.ascend;
        room = k.orderly.room;
      });
      sent = sent_push apart s.items s.waiting s.clock (n + 1) x s.sent le k.orderly k.sent;
      out = tt;
    }
