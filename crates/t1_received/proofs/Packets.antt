-- One packet more: proper before, the times, and the caches.
use Rattle.std.proofs.Common.{◌≡◌, ◌⊎◌, ◌≤◌, ◌<◌, ℕ, ◌+◌, Bool, false, List, [], ◌∷◌, ◌++◌, Option, refl, ap, sym, ◌∙◌, suc, inl, inr, nat_lt, arith, append_assoc, if◌then◌else◌}
use Rattle.std.proofs.lemmas.Bool.{cases_Bool, lt-ltb, ltb-true}
use Rattle.std.proofs.lemmas.List.Elements.{filter-append}
use mathlib.Core.List.{append-nil}
use Rattle.t1_shape.specs.Shapes.{Shape}
use Rattle.t1_shape.specs.Slots.{Line}
use Rattle.t1_packet.specs.declared.cache.Cache.{Cache}
use Rattle.t1_packet.specs.declared.packet.Packet.{Packet}
use Rattle.t1_packet.specs.Data.{RequestData}
use Rattle.t1_packet.specs.Packets.{with_packet, pointers_with_packet}
use Rattle.t1_event.specs.Posts.{no_lines, no_pointers}
use Rattle.t1_joint.specs.Lists.{IsIn}
use Rattle.t1_joint.specs.Parts.{answered}
use Rattle.t1_joint.specs.Proper.{IndexesAscend, packets_before, slots_after, pointers_after}
use Rattle.t1_received.specs.Laws.{PacketsKeepProper, CachesFollowPackets}
use Rattle.t1_received.proofs.Lists.{in_left, in_more}
use Rattle.t1_received.proofs.Sorts.{answered_append}

-- ---- proper before

ascend_front : (low : ℕ) (ps : List Packet) (p : Packet) → IndexesAscend low (ps ++ p ∷ []) → IndexesAscend low ps
ascend_front low [] p c = tt
ascend_front low (q ∷ qs) p c = (c.0, ascend_front (suc q.index) qs p c.1)

ascend_low : (low : ℕ) (ps : List Packet) (p : Packet) → IndexesAscend low (ps ++ p ∷ []) → low ≤ p.index
ascend_low low [] p c = c.0
ascend_low low (q ∷ qs) p c = let l = ascend_low (suc q.index) qs p c.1 in let k = c.0 in omega (arith, l, k)

-- the last packet has the highest index
pub ascend_last : (low : ℕ) (ps : List Packet) (p q : Packet) → IndexesAscend low (ps ++ p ∷ []) → IsIn q ps → q.index < p.index
ascend_last low [] p q c h = absurd h
ascend_last low (x ∷ xs) p q c (inl e) =
    let l = ascend_low (suc x.index) xs p c.1 in let s : q.index ≡ x.index = ap (λ (y : Packet). y.index) e in omega (arith, l, s)
ascend_last low (x ∷ xs) p q c (inr h) = ascend_last (suc x.index) xs p q c.1 h

pub packets_keep_proper : PacketsKeepProper
packets_keep_proper shape core sent ps p g = record {
  ascend = ascend_front 0 ps p g.ascend;
  small = λ q h. g.small q (in_left q ps (p ∷ []) h);
  kills = λ q kill h. g.kills q kill (in_left q ps (p ∷ []) h);
  replies = λ q reply h. g.replies q reply (in_left q ps (p ∷ []) h);
  order = λ d.
      (let a = g.order d in (
        answered shape core d (p ∷ []) ++ a.0,
        sym (append_assoc (answered shape core d ps) (answered shape core d (p ∷ [])) a.0)
            ∙ (ap (λ (rs : List RequestData). rs ++ a.0) (sym (answered_append shape core d ps (p ∷ []))) ∙ a.1),
      ));
}

-- ---- the packets before a time

below_false : (p : Packet) (t : ℕ) → t ≤ p.index → nat_lt p.index t ≡ false
below_false p t l =
    elim (cases_Bool (nat_lt p.index t)) [
      | inl e ↦ absurd (let b = ltb-true p.index t e in omega (arith, b, l))
      | inr e ↦ e
    ]

pub before_all : (t : ℕ) (ps : List Packet) → ((p : Packet) → IsIn p ps → p.index < t) → packets_before t ps ≡ ps
before_all t [] f = refl
before_all t (p ∷ ps) f = rw (lt-ltb p.index t (f p (inl refl))) (ap (λ (qs : List Packet). p ∷ qs) (before_all t ps (λ q h. f q (inr h))))

before_late : (t : ℕ) (ps : List Packet) (p : Packet) → t ≤ p.index → packets_before t (ps ++ p ∷ []) ≡ packets_before t ps
before_late t ps p l =
    filter-append (λ (q : Packet). nat_lt q.index t) ps (p ∷ [])
    ∙ (ap (λ (qs : List Packet). packets_before t ps ++ qs) (one (nat_lt p.index t) (below_false p t l)) ∙ append-nil (packets_before t ps))
  where
    one : (b : Bool) → b ≡ false → (if b then p ∷ [] else []) ≡ []
    one b e = rw e refl

before_next : (time : ℕ) (ps : List Packet) (p : Packet) → ((q : Packet) → IsIn q ps → q.index < time) → time ≤ p.index → packets_before (p.index + 1) (ps ++ p ∷ []) ≡ ps ++ p ∷ []
before_next time ps p past le = before_all (p.index + 1) (ps ++ p ∷ []) (λ q h. below q (in_more q ps (p ∷ []) h))
  where
    below : (q : Packet) → IsIn q ps ⊎ IsIn q (p ∷ []) → q.index < p.index + 1
    below q (inl h) = let b = past q h in omega (arith, b, le)
    below q (inr (inl e)) = let s : q.index ≡ p.index = ap (λ (y : Packet). y.index) e in omega (arith, s)
    below q (inr (inr n)) = absurd n

-- ---- the caches

slots_append : (shape : Shape) (core : ℕ) (cache : Cache) (ps : List Packet) (p : Packet) (slots : List (Option Line))
    → slots_after shape core cache slots (ps ++ p ∷ []) ≡ with_packet shape core cache p (slots_after shape core cache slots ps)
slots_append shape core cache [] p slots = refl
slots_append shape core cache (q ∷ qs) p slots = slots_append shape core cache qs p (with_packet shape core cache q slots)

pointers_append : (shape : Shape) (cache : Cache) (ps : List Packet) (p : Packet) (pointers : List ℕ)
    → pointers_after shape cache pointers (ps ++ p ∷ []) ≡ pointers_with_packet shape cache p (pointers_after shape cache pointers ps)
pointers_append shape cache [] p pointers = refl
pointers_append shape cache (q ∷ qs) p pointers = pointers_append shape cache qs p (pointers_with_packet shape cache q pointers)

pub caches_follow_packets : CachesFollowPackets
caches_follow_packets shape core ps p = record {
  slots_stay = λ t l.
      ap (λ (qs : List Packet). (let f : Cache → List (Option Line) = λ cache. slots_after shape core cache (no_lines shape cache) qs in f)) (before_late t ps p l);
  pointers_stay = λ t l.
      ap (λ (qs : List Packet). (let f : Cache → List ℕ = λ cache. pointers_after shape cache (no_pointers shape cache) qs in f)) (before_late t ps p l);
  slots_next = λ time cache le past.
      ap (λ (qs : List Packet). slots_after shape core cache (no_lines shape cache) qs) (before_next time ps p past le)
      ∙ (slots_append shape core cache ps p (no_lines shape cache)
      ∙ ap (λ (qs : List Packet). with_packet shape core cache p (slots_after shape core cache (no_lines shape cache) qs)) (sym (before_all time ps past)));
  pointers_next = λ time cache le past.
      ap (λ (qs : List Packet). pointers_after shape cache (no_pointers shape cache) qs) (before_next time ps p past le)
      ∙ (pointers_append shape cache ps p (no_pointers shape cache)
      ∙ ap (λ (qs : List Packet). pointers_with_packet shape cache p (pointers_after shape cache (no_pointers shape cache) qs)) (sym (before_all time ps past)));
}
