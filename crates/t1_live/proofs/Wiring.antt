-- One more core on the wires.
use Rattle.std.proofs.Common.{◌≡◌, ◌+◌, ◌<◌, ℕ, zero, suc, List, [], ◌∷◌, ◌++◌, length, get_or, set, drop, Option, Some, None, refl, sym, ap, subst, ◌∙◌, inl, inr, arith, add-one, length-append}
use Rattle.std.specs.List.{slice_get}
use Rattle.std.proofs.lemmas.Option.{slice_get_within}
use Rattle.t1_shape.specs.Numbers.{destinations}
use Rattle.t1_joint.specs.Start.{Setup}
use Rattle.t1_machine_rule.proofs.Lists.{slice_push}
use Rattle.t1_ring.specs.Ends.{QueueName, Mark, Seat, TxState, RxState}
use Rattle.t1_ring.specs.Row.{sent_by, received_by, tx_marks, rx_marks}
use Rattle.t1_crew.specs.Id.{Id}
use Rattle.t1_crew.specs.Slots.{ids}
use Rattle.t1_live.specs.Lanes.{seats_at, seats_of}
use Rattle.t1_live.specs.Wires.{AreWired, AreServing}
use Rattle.t1_live.proofs.Lanes.{seat_at, from_at, from_length}

module _ {A : Type 0} where
  pub slice_old : (xs : List A) (x : A) (i : ℕ) → i < length xs → slice_get (xs ++ x ∷ []) i ≡ slice_get xs i
  slice_old [] x i h = absurd (omega (arith, h))
  slice_old (y ∷ ys) x zero h = refl
  slice_old (y ∷ ys) x (suc i) h = slice_old ys x i (omega (arith, h))

  pub slice_new : (xs : List A) (x : A) (i : ℕ) → i ≡ length xs → slice_get (xs ++ x ∷ []) i ≡ Some x
  slice_new [] x zero h = refl
  slice_new [] x (suc i) h = absurd (omega (arith, h))
  slice_new (y ∷ ys) x zero h = absurd (omega (arith, h))
  slice_new (y ∷ ys) x (suc i) h = slice_new ys x i (omega (arith, h))

  pub length_snoc : (xs : List A) (x : A) → length (xs ++ x ∷ []) ≡ length xs + 1
  length_snoc xs x = length-append xs (x ∷ [])

  pub ids_set : (id : A → Id) (xs : List A) (i : ℕ) (v : A) → ids id (set xs i v) ≡ set (ids id xs) i (id v)
  ids_set id [] i v = refl
  ids_set id (x ∷ xs) zero v = refl
  ids_set id (x ∷ xs) (suc i) v = ap (λ (l : List Id). id x ∷ l) (ids_set id xs i v)

  pub ids_snoc : (id : A → Id) (xs : List A) (a : A) → ids id (xs ++ a ∷ []) ≡ ids id xs ++ id a ∷ []
  ids_snoc id [] a = refl
  ids_snoc id (x ∷ xs) a = ap (λ (l : List Id). id x ∷ l) (ids_snoc id xs a)

  pub id_here : (id : A → Id) (xs : List A) (i : ℕ) (x : A) → x ≡ get_or xs i x → i < length xs → slice_get (ids id xs) i ≡ Some (id x)
  id_here id [] i x e l = absurd (omega (arith, l))
  id_here id (y ∷ ys) zero x e l = ap (λ (v : A). Some (id v)) (sym e)
  id_here id (y ∷ ys) (suc i) x e l = id_here id ys i x e (omega (arith, l))

-- ---- one more core

pub wired_more : (w : Setup) (cores dests : List Id) (crossbar core : Id) → AreWired w cores dests crossbar → core.setup ≡ w → core.number ≡ length cores → length core.to ≡ destinations w.config.chip
    → ((d : ℕ) (dest : Id) → slice_get dests d ≡ Some dest → slice_get core.to d ≡ slice_get dest.from (length cores)) → slice_get crossbar.to (length cores) ≡ slice_get core.from 0
    → AreWired w (cores ++ core ∷ []) dests crossbar
wired_more w cores dests crossbar core k setup number all sends meets = record {
  core_is = λ c x is. elim (slice_push cores core c x is) [
    | inl p ↦ k.core_is c x p
    | inr p ↦ subst (λ (y : Id). (y.setup ≡ w) × (y.number ≡ c)) p.1 (setup, number ∙ sym p.0)
  ];
  dest_is = k.dest_is;
  crossbar_is = k.crossbar_is;
  all_dests = k.all_dests;
  crossbar_to = k.crossbar_to;
  crossbar_from = k.crossbar_from;
  core_to = λ c x is. elim (slice_push cores core c x is) [
    | inl p ↦ k.core_to c x p
    | inr p ↦ subst (λ (y : Id). length y.to ≡ destinations w.config.chip) p.1 all
  ];
  dest_from = k.dest_from;
  requests = λ c d x y is has.
      elim (slice_push cores core c x is) [
        | inl p ↦ k.requests c d x y p has
        | inr p ↦ ap (λ (z : Id). slice_get z.to d) (sym p.1) ∙ (sends d y has ∙ ap (λ (i : ℕ). slice_get y.from i) (sym p.0))
      ];
  served = k.served;
  packets = λ c x is. elim (slice_push cores core c x is) [
    | inl p ↦ k.packets c x p
    | inr p ↦ ap (λ (i : ℕ). slice_get crossbar.to i) p.0 ∙ (meets ∙ ap (λ (y : Id). slice_get y.from 0) p.1)
  ];
}

-- what the next core sends goes to the queues of the destinations
pub sends_to : (w : Setup) (dests : List Id) (queues : List QueueName) (marks to : List Mark) (core : ℕ) → AreServing w dests queues marks → core < w.config.cores → to ≡ seats_at core queues
    → (d : ℕ) (dest : Id) → slice_get dests d ≡ Some dest → slice_get to d ≡ slice_get dest.from core
sends_to w dests queues marks to core serves low is d dest has =
    let g = serves d dest has in
    ap (λ (l : List Mark). slice_get l d) is ∙ (seat_at core d queues g.queue g.by
    ∙ (sym (from_at g.queue 0 w.config.cores core low ∙ ap (λ (k : ℕ). Some (Seat g.queue k)) (omega arith)) ∙ ap (λ (y : Id). slice_get y.from core) (sym g.is)))

-- ---- the wires before the first core

pub wired_first : (w : Setup) (dests : List Id) (crossbar : Id) (queues : List QueueName) (marks : List Mark) → length dests ≡ destinations w.config.chip → crossbar.setup ≡ w → crossbar.from ≡ marks → length marks ≡ destinations w.config.chip
    → length crossbar.to ≡ w.config.cores → AreServing w dests queues marks → AreWired w [] dests crossbar
wired_first w dests crossbar queues marks all setup from long to serves = record {
  core_is = λ c x is. absurd (none c x is);
  dest_is = λ d x is. let g = serves d x is in (ap (λ (y : Id). y.setup) g.is, ap (λ (y : Id). y.number) g.is);
  crossbar_is = setup;
  all_dests = all;
  crossbar_to = to;
  crossbar_from = ap (λ (l : List Mark). length l) from ∙ long;
  core_to = λ c x is. absurd (none c x is);
  dest_from = λ d x is. let g = serves d x is in ap (λ (y : Id). length y.from) g.is ∙ from_length g.queue 0 w.config.cores;
  requests = λ c d x y is has. absurd (none c x is);
  served = λ d x is. let g = serves d x is in ap (λ (y : Id). slice_get y.to 0) g.is ∙ (sym g.at ∙ ap (λ (l : List Mark). slice_get l d) (sym from));
  packets = λ c x is. absurd (none c x is);
}
  where
    none : (c : ℕ) (x : Id) → ◌≡◌ {A = Option Id} None (Some x) → ⊥
    none c x e = cc

-- ---- the next of a list of ends

module _ {T : Type 0} where
  rest_of : (all : List T) (d : ℕ) (x : T) (rest : List T) → drop d all ≡ x ∷ rest → drop (suc d) all ≡ rest
  rest_of [] zero x rest e = cc
  rest_of [] (suc d) x rest e = cc
  rest_of (y ∷ ys) zero x rest e = ap (drop 1) e
  rest_of (y ∷ ys) (suc d) x rest e = rest_of ys d x rest e

  pub next_of : (all : List T) (d : ℕ) (x : T) (rest : List T) → drop d all ≡ x ∷ rest → drop (d + 1) all ≡ rest
  next_of all d x rest e = ap (λ (n : ℕ). drop n all) (add-one d) ∙ rest_of all d x rest e

module _ {T : Type 0} where
  pub rx_here : (all : List (RxState T)) (d : ℕ) (x : RxState T) (rest : List (RxState T)) → drop d all ≡ x ∷ rest → slice_get (rx_marks all) d ≡ Some x.mark
  rx_here [] zero x rest e = cc
  rx_here [] (suc d) x rest e = cc
  rx_here (y ∷ ys) zero x rest e = let f : y ≡ x = cc in ap (λ (z : RxState T). Some z.mark) f
  rx_here (y ∷ ys) (suc d) x rest e = rx_here ys d x rest e

  pub rx_unused : (all : List (RxState T)) (d : ℕ) (x : RxState T) (rest : List (RxState T)) → drop d all ≡ x ∷ rest → get_or (received_by all) d [] ≡ x.received
  rx_unused [] zero x rest e = cc
  rx_unused [] (suc d) x rest e = cc
  rx_unused (y ∷ ys) zero x rest e = let f : y ≡ x = cc in ap (λ (z : RxState T). z.received) f
  rx_unused (y ∷ ys) (suc d) x rest e = rx_unused ys d x rest e

  pub tx_here : (all : List (TxState T)) (d : ℕ) (x : TxState T) (rest : List (TxState T)) → drop d all ≡ x ∷ rest → slice_get (tx_marks all) d ≡ Some x.mark
  tx_here [] zero x rest e = cc
  tx_here [] (suc d) x rest e = cc
  tx_here (y ∷ ys) zero x rest e = let f : y ≡ x = cc in ap (λ (z : TxState T). Some z.mark) f
  tx_here (y ∷ ys) (suc d) x rest e = tx_here ys d x rest e

  pub tx_unused : (all : List (TxState T)) (d : ℕ) (x : TxState T) (rest : List (TxState T)) → drop d all ≡ x ∷ rest → get_or (sent_by all) d [] ≡ x.sent
  tx_unused [] zero x rest e = cc
  tx_unused [] (suc d) x rest e = cc
  tx_unused (y ∷ ys) zero x rest e = let f : y ≡ x = cc in ap (λ (z : TxState T). z.sent) f
  tx_unused (y ∷ ys) (suc d) x rest e = tx_unused ys d x rest e

-- ---- destination d serves

pub slice_more : {A : Type 0} (xs : List A) (x y : A) (d : ℕ) → slice_get xs d ≡ Some y → slice_get (xs ++ x ∷ []) d ≡ Some y
slice_more xs x y d e = slice_old xs x d (slice_get_within xs d y e) ∙ e

pub serves_more : (w : Setup) (dests : List Id) (queues : List QueueName) (marks : List Mark) (y : Id) (queue : QueueName) (mark : Mark) → AreServing w dests queues marks → length queues ≡ length dests
    → slice_get marks (length dests) ≡ Some mark → y ≡ record { setup = w; number = 8 + length dests; to = mark ∷ []; from = seats_of queue 0 w.config.cores }
    → AreServing w (dests ++ y ∷ []) (queues ++ queue ∷ []) marks
serves_more w dests queues marks y queue mark done long at is d x has =
    elim (slice_push dests y d x has) [
      | inl p ↦ let g = done d x p in record { mark = g.mark; at = g.at; queue = g.queue; by = slice_more queues queue g.queue d g.by; is = g.is }
      | inr p ↦ record {
        mark = mark;
        at = ap (λ (i : ℕ). slice_get marks i) p.0 ∙ at;
        queue = queue;
        by = slice_new queues queue d (p.0 ∙ sym long);
        is = sym p.1 ∙ (is ∙ ap (λ (n : ℕ). record { setup = w; number = 8 + n; to = mark ∷ []; from = seats_of queue 0 w.config.cores }) (sym p.0));
      }
    ]

pub serving_id : (w : Setup) (mark : Mark) (queue : QueueName) (d e : ℕ) (q : QueueName) (cores : ℕ) → d ≡ e → q ≡ queue → cores ≡ w.config.cores
    → ◌≡◌ {A = Id} (record { setup = w; number = 8 + d; to = mark ∷ []; from = seats_of q 0 cores }) (record { setup = w; number = 8 + e; to = mark ∷ []; from = seats_of queue 0 w.config.cores })
serving_id w mark queue d e q cores is f g =
    ap (λ (n : ℕ). record { setup = w; number = 8 + n; to = mark ∷ []; from = seats_of q 0 cores }) is
    ∙ (ap (λ (x : QueueName). record { setup = w; number = 8 + e; to = mark ∷ []; from = seats_of x 0 cores }) f
    ∙ ap (λ (n : ℕ). record { setup = w; number = 8 + e; to = mark ∷ []; from = seats_of queue 0 n }) g)
