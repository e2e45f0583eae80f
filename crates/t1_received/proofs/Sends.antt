-- Packets that are proper with more requests were proper before.
use Rattle.std.proofs.Common.{◌≡◌, ◌⊎◌, ◌<◌, ℕ, ◌==◌, List, [], ◌∷◌, ◌++◌, Option, Some, None, refl, ap, sym, subst, inl, inr, arith, append_assoc}
use Rattle.std.proofs.lemmas.Bool.{cases_Bool}
use mathlib.Core.List.{append-nil}
use Rattle.t1_shape.specs.Shapes.{Shape}
use Rattle.t1_packet.specs.declared.packet.Packet.{Packet}
use Rattle.t1_packet.specs.Data.{RequestData, ReplyData}
use Rattle.t1_packet.specs.Ops.{op_dest}
use Rattle.t1_joint.specs.Lists.{IsIn, IsPrefix}
use Rattle.t1_joint.specs.Parts.{answers, answered_by, answered}
use Rattle.t1_joint.specs.Proper.{AreProper}
use Rattle.t1_received.specs.Requests.{sent_to}
use Rattle.t1_received.specs.Laws.{SendsKeepProper}
use Rattle.t1_received.proofs.Lists.{in_last, prefix_last}
use Rattle.t1_received.proofs.Sorts.{to_append}

-- the packet that answers a request
pub record IsAnswering (core : ℕ) (ps : List Packet) (r : RequestData) : Type 0 where
  pub packet : Packet
  pub reply : ReplyData
  pub has : IsIn packet ps
  pub is : packet.reply ≡ Some reply
  pub same : r ≡ answers core reply

later : (core : ℕ) (p : Packet) (ps : List Packet) (r : RequestData) → IsAnswering core ps r → IsAnswering core (p ∷ ps) r
later core p ps r a = record { packet = a.packet; reply = a.reply; has = inr a.has; is = a.is; same = a.same }

pub answering : (shape : Shape) (core d : ℕ) (ps : List Packet) (r : RequestData) → IsIn r (answered shape core d ps) → IsAnswering core ps r
answering shape core d [] r h = absurd h
answering shape core d (p ∷ ps) r h = by p.reply refl h (answering shape core d ps r)
  where
    by : (o : Option ReplyData) → p.reply ≡ o → IsIn r (answered_by shape core d o (answered shape core d ps)) → (IsIn r (answered shape core d ps) → IsAnswering core ps r)
        → IsAnswering core (p ∷ ps) r
    by None e g more = later core p ps r (more g)
    by (Some t) e g more =
        elim (cases_Bool (op_dest shape t.op == d)) [
          | inl f ↦ elim (let g' : (r ≡ answers core t) ⊎ IsIn r (answered shape core d ps) = rw f at g in g') [
            | inl s ↦ record { packet = p; reply = t; has = inl refl; is = e; same = s }
            | inr m ↦ later core p ps r (more m)
          ]
          | inr f ↦ later core p ps r (more (let g' : IsIn r (answered shape core d ps) = rw f at g in g'))
        ]

-- a request that is sent later has a `seen` above every packet's index
back_one : (shape : Shape) (core time : ℕ) (ps : List Packet) (sent : List RequestData) (r : RequestData) → r.seen ≡ time → ((p : Packet) → IsIn p ps → p.index < time)
    → AreProper shape core (λ d. sent_to shape d (sent ++ r ∷ [])) ps → AreProper shape core (λ d. sent_to shape d sent) ps
back_one shape core time ps sent r seen past p = record {
  ascend = p.ascend;
  small = p.small;
  kills = p.kills;
  replies = p.replies;
  order = λ d.
      let q : IsPrefix (answered shape core d ps) (sent_to shape d sent ++ sent_to shape d (r ∷ [])) =
      subst (λ (rs : List RequestData). IsPrefix (answered shape core d ps) rs) (to_append shape d sent (r ∷ [])) (p.order d) in
      elim (cases_Bool (op_dest shape r.op == d)) [
        | inl e ↦
            let s : IsPrefix (answered shape core d ps) (sent_to shape d sent ++ r ∷ []) = rw e at q in
            elim (prefix_last (answered shape core d ps) (sent_to shape d sent) r s) [
              | inl f ↦ f
              | inr f ↦
                  let a = answering shape core d ps r (subst (λ (rs : List RequestData). IsIn r rs) (sym f) (in_last r (sent_to shape d sent))) in
                  let k = p.replies a.packet a.reply a.has a.is in
                  let below = past a.packet a.has in
                  let at : r.seen ≡ a.reply.seen = ap (λ (x : RequestData). x.seen) a.same in
                  let late = k.seen in
                  absurd (omega (arith, below, at, late, seen))
            ]
        | inr e ↦ (let s : IsPrefix (answered shape core d ps) (sent_to shape d sent ++ []) = rw e at q in
            subst (λ (rs : List RequestData). IsPrefix (answered shape core d ps) rs) (append-nil (sent_to shape d sent)) s)
      ];
}

pub sends_keep_proper : SendsKeepProper
sends_keep_proper shape core time ps sent [] f past p = subst (λ (rs : List RequestData). AreProper shape core (λ d. sent_to shape d rs) ps) (append-nil sent) p
sends_keep_proper shape core time ps sent (r ∷ rs) f past p =
    let q : AreProper shape core (λ d. sent_to shape d ((sent ++ r ∷ []) ++ rs)) ps =
    subst (λ (qs : List RequestData). AreProper shape core (λ d. sent_to shape d qs) ps) (sym (append_assoc sent (r ∷ []) rs)) p in
    let s : AreProper shape core (λ d. sent_to shape d (sent ++ r ∷ [])) ps = sends_keep_proper shape core time ps (sent ++ r ∷ []) rs (λ t h. f t (inr h)) past q in
    back_one shape core time ps sent r (f r (inl refl))
    (λ x h. elim (past x h) [ inl l ↦ l | inr e ↦ absurd (let b = s.small x h in omega (arith, b, e)) ]) s
