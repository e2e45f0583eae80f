-- Requests by destination and class: one goes out, or the first is answered.
use Rattle.std.proofs.Common.{◌≡◌, ℕ, ◌==◌, Bool, true, false, List, [], ◌∷◌, ◌++◌, Option, Some, None, refl, ap, sym, ◌∙◌, subst, inl, inr, append_assoc}
use Rattle.std.specs.List.{filter}
use Rattle.std.proofs.lemmas.Bool.{cases_Bool, eqb-true, eq-eqb, and_parts}
use Rattle.std.proofs.lemmas.List.{append_cancel_left}
use Rattle.std.proofs.lemmas.List.Elements.{filter-append}
use Rattle.t1_shape.specs.Shapes.{Shape}
use Rattle.t1_packet.specs.declared.packet.Packet.{Packet}
use Rattle.t1_packet.specs.Data.{RequestData, ReplyData}
use Rattle.t1_packet.specs.Ops.{op_dest, is_store}
use Rattle.t1_joint.specs.Lists.{IsIn}
use Rattle.t1_joint.specs.Parts.{answered_by, answered}
use Rattle.t1_received.specs.Requests.{sent_to, same_bit, is_of, of_class, GoTo, answered_in}
use Rattle.t1_received.specs.Laws.{FirstOutIsAnswered}
use Rattle.t1_received.proofs.Lists.{in_filter, filter_in}

filter_both : {A : Type 0} (f g : A → Bool) (xs : List A) → filter f (filter g xs) ≡ filter g (filter f xs)
filter_both f g [] = refl
filter_both f g (x ∷ xs) =
    elim (cases_Bool (f x)) [
      | inl e ↦ elim (cases_Bool (g x)) [
        | inl h ↦ rw (e, h) (rw e (ap (λ (l : List _). x ∷ l) (filter_both f g xs)))
        | inr h ↦ rw (e, h) (filter_both f g xs)
      ]
      | inr e ↦ elim (cases_Bool (g x)) [
        | inl h ↦ rw (e, h) (rw e (filter_both f g xs))
        | inr h ↦ rw (e, h) (filter_both f g xs)
      ]
    ]

pub class_append : (i : ℕ) (b : Bool) (xs ys : List RequestData) → of_class i b (xs ++ ys) ≡ of_class i b xs ++ of_class i b ys
class_append i b xs ys = filter-append (λ (r : RequestData). is_of i b r) xs ys

-- ---- one request

bit_self : (b : Bool) → same_bit b b ≡ true
bit_self true = refl
bit_self false = refl

bit_same : (b c : Bool) → same_bit b c ≡ true → b ≡ c
bit_same true true e = refl
bit_same true false e = let clash : false ≡ true = e in cc
bit_same false true e = let clash : false ≡ true = e in cc
bit_same false false e = refl

pub own_class : (r : RequestData) → is_of r.strand (is_store r.op) r ≡ true
own_class r = rw (eq-eqb r.strand r.strand refl) (bit_self (is_store r.op))

pub class_of : (i : ℕ) (b : Bool) (r : RequestData) → is_of i b r ≡ true → (r.strand ≡ i) × (is_store r.op ≡ b)
class_of i b r e =
    let p = and_parts (r.strand == i) (same_bit (is_store r.op) b) e in
    (eqb-true r.strand i p.0, bit_same (is_store r.op) b p.1)

pub class_one : (i : ℕ) (b : Bool) (r : RequestData) → is_of i b r ≡ true → of_class i b (r ∷ []) ≡ r ∷ []
class_one i b r e = rw e refl

pub class_none : (i : ℕ) (b : Bool) (r : RequestData) → is_of i b r ≡ false → of_class i b (r ∷ []) ≡ []
class_none i b r e = rw e refl

module _ (shape : Shape) where
  pub to_append : (d : ℕ) (xs ys : List RequestData) → sent_to shape d (xs ++ ys) ≡ sent_to shape d xs ++ sent_to shape d ys
  to_append d xs ys = filter-append (λ (r : RequestData). op_dest shape r.op == d) xs ys

  class_to : (i : ℕ) (b : Bool) (d : ℕ) (xs : List RequestData) → of_class i b (sent_to shape d xs) ≡ sent_to shape d (of_class i b xs)
  class_to i b d xs = filter_both (λ (r : RequestData). is_of i b r) (λ (r : RequestData). op_dest shape r.op == d) xs

  -- requests go out, each joins its class
  pub out_more : (i : ℕ) (b : Bool) (d : ℕ) (rest new was now : List RequestData) → of_class i b rest ≡ sent_to shape d was → now ≡ was ++ of_class i b new
      → of_class i b (rest ++ sent_to shape d new) ≡ sent_to shape d now
  out_more i b d rest new was now e is =
      class_append i b rest (sent_to shape d new)
      ∙ (ap (λ (l : List RequestData). l ++ of_class i b (sent_to shape d new)) e
      ∙ (ap (λ (l : List RequestData). sent_to shape d was ++ l) (class_to i b d new)
      ∙ (sym (to_append d was (of_class i b new))
      ∙ ap (λ (l : List RequestData). sent_to shape d l) (sym is))))

  -- the first of a class is answered
  pub out_less : (i : ℕ) (b : Bool) (d : ℕ) (rest less gone was now : List RequestData) → rest ≡ sent_to shape d gone ++ less → of_class i b rest ≡ sent_to shape d was
      → was ≡ of_class i b gone ++ now → of_class i b less ≡ sent_to shape d now
  out_less i b d rest less gone was now split e is =
      let left : of_class i b rest ≡ sent_to shape d (of_class i b gone) ++ of_class i b less =
      ap (λ (l : List RequestData). of_class i b l) split
      ∙ (class_append i b (sent_to shape d gone) less ∙ ap (λ (l : List RequestData). l ++ of_class i b less) (class_to i b d gone)) in
      let right : of_class i b rest ≡ sent_to shape d (of_class i b gone) ++ sent_to shape d now =
      e ∙ (ap (λ (l : List RequestData). sent_to shape d l) is ∙ to_append d (of_class i b gone) now) in
      append_cancel_left (sent_to shape d (of_class i b gone)) (of_class i b less) (sent_to shape d now) (sym left ∙ right)

  to_one : (r : RequestData) → sent_to shape (op_dest shape r.op) (r ∷ []) ≡ r ∷ []
  to_one r = rw (eq-eqb (op_dest shape r.op) (op_dest shape r.op) refl) refl

  nothing_to : (q : RequestData) (tail ws : List RequestData) (d : ℕ) → GoTo shape d ws → (d ≡ op_dest shape q.op → ⊥) → sent_to shape (op_dest shape q.op) ws ≡ q ∷ tail → ⊥
  nothing_to q tail [] d a ne g = let clash : ◌≡◌ {A = List RequestData} [] (q ∷ tail) = g in cc
  nothing_to q tail (w ∷ ws) d a ne g =
      elim (cases_Bool (op_dest shape w.op == op_dest shape q.op)) [
        | inl f ↦ ne (sym a.0 ∙ eqb-true (op_dest shape w.op) (op_dest shape q.op) f)
        | inr f ↦ nothing_to q tail ws d a.1 ne (let g' : sent_to shape (op_dest shape q.op) ws ≡ q ∷ tail = rw f at g in g')
      ]

  -- where all go to one destination, the first to the destination of q is the first of all
  first_is : (d : ℕ) (q : RequestData) (outs tail : List RequestData) → GoTo shape d outs → sent_to shape (op_dest shape q.op) outs ≡ q ∷ tail
      → (rest : List RequestData) × (outs ≡ q ∷ rest)
  first_is d q [] tail all e = let clash : ◌≡◌ {A = List RequestData} [] (q ∷ tail) = e in cc
  first_is d q (z ∷ zs) tail all e =
      elim (cases_Bool (op_dest shape z.op == op_dest shape q.op)) [
        | inl f ↦
            let e' : z ∷ sent_to shape (op_dest shape q.op) zs ≡ q ∷ tail = rw f at e in
            (zs, (let s : z ≡ q = cc (e') in ap (λ (r : RequestData). r ∷ zs) s))
        | inr f ↦
            let ne : d ≡ op_dest shape q.op → ⊥ = λ g.
            (let n : (op_dest shape z.op == op_dest shape q.op) ≡ true = eq-eqb (op_dest shape z.op) (op_dest shape q.op) (all.0 ∙ g) in
            let clash : true ≡ false = sym n ∙ f in cc) in
            absurd (nothing_to q tail zs d all.1 ne (let e' : sent_to shape (op_dest shape q.op) zs ≡ q ∷ tail = rw f at e in e'))
      ]

  pub first_of_class : (d : ℕ) (q : RequestData) (outs rest less : List RequestData) → GoTo shape d outs → rest ≡ sent_to shape (op_dest shape q.op) (q ∷ []) ++ less
      → of_class q.strand (is_store q.op) rest ≡ sent_to shape (op_dest shape q.op) outs → (tail : List RequestData) × (outs ≡ q ∷ tail)
  first_of_class d q outs rest less all split e =
      let i = q.strand in
      let b = is_store q.op in
      let s : of_class i b rest ≡ q ∷ of_class i b less =
      ap (λ (l : List RequestData). of_class i b l) split
      ∙ (ap (λ (l : List RequestData). of_class i b (l ++ less)) (to_one q)
      ∙ (class_append i b (q ∷ []) less ∙ ap (λ (l : List RequestData). l ++ of_class i b less) (class_one i b q (own_class q)))) in
      first_is d q outs (of_class i b less) all (sym e ∙ s)

  -- ---- membership: a request without a reply is out, and the other way round

  pub pending_out : (i : ℕ) (b : Bool) (d : ℕ) (r : RequestData) (rest outs : List RequestData) → of_class i b rest ≡ sent_to shape d outs → is_of i b r ≡ true
      → IsIn r rest → IsIn r outs × (op_dest shape r.op ≡ d)
  pending_out i b d r rest outs e c h =
      let here : IsIn r (sent_to shape d outs) = subst (λ (l : List RequestData). IsIn r l) e (in_filter (λ (q : RequestData). is_of i b q) r rest h c) in
      let p = filter_in (λ (q : RequestData). op_dest shape q.op == d) r outs here in
      (p.0, eqb-true (op_dest shape r.op) d p.1)

  pub out_pending : (i : ℕ) (b : Bool) (r : RequestData) (rest outs : List RequestData) → of_class i b rest ≡ sent_to shape (op_dest shape r.op) outs → IsIn r outs → IsIn r rest
  out_pending i b r rest outs e h =
      let there : IsIn r (sent_to shape (op_dest shape r.op) outs) =
      in_filter (λ (q : RequestData). op_dest shape q.op == op_dest shape r.op) r outs h (eq-eqb (op_dest shape r.op) (op_dest shape r.op) refl) in
      let here : IsIn r (of_class i b rest) = subst (λ (l : List RequestData). IsIn r l) (sym e) there in
      (filter_in (λ (q : RequestData). is_of i b q) r rest here).0

  -- ---- one packet more

  module _ (core d : ℕ) where
    pub answered_append : (xs ys : List Packet) → answered shape core d (xs ++ ys) ≡ answered shape core d xs ++ answered shape core d ys
    answered_append [] ys = refl
    answered_append (x ∷ xs) ys = ap (λ (l : List RequestData). answered_by shape core d x.reply l) (answered_append xs ys) ∙ by x.reply
      where
        by : (o : Option ReplyData) → answered_by shape core d o (answered shape core d xs ++ answered shape core d ys) ≡ answered_by shape core d o (answered shape core d xs) ++ answered shape core d ys
        by None = refl
        by (Some r) = elim (cases_Bool (op_dest shape r.op == d)) [ inl e ↦ rw e refl | inr e ↦ rw e refl ]

    answered_one : (p : Packet) → answered shape core d (p ∷ []) ≡ sent_to shape d (answered_in core p.reply)
    answered_one p = by p.reply
      where
        by : (o : Option ReplyData) → answered_by shape core d o [] ≡ sent_to shape d (answered_in core o)
        by None = refl
        by (Some r) = elim (cases_Bool (op_dest shape r.op == d)) [ inl e ↦ rw e refl | inr e ↦ rw e refl ]

    -- what is left after one packet more
    pub rest_less : (received : List Packet) (p : Packet) (rest less sent : List RequestData) → answered shape core d received ++ rest ≡ sent
        → answered shape core d (received ++ p ∷ []) ++ less ≡ sent → rest ≡ sent_to shape d (answered_in core p.reply) ++ less
    rest_less received p rest less sent was now =
        let a : answered shape core d (received ++ p ∷ []) ≡ answered shape core d received ++ sent_to shape d (answered_in core p.reply) =
        answered_append received (p ∷ []) ∙ ap (λ (l : List RequestData). answered shape core d received ++ l) (answered_one p) in
        let b : answered shape core d received ++ (sent_to shape d (answered_in core p.reply) ++ less) ≡ sent =
        sym (append_assoc (answered shape core d received) (sent_to shape d (answered_in core p.reply)) less) ∙ (ap (λ (l : List RequestData). l ++ less) (sym a) ∙ now) in
        append_cancel_left (answered shape core d received) rest (sent_to shape d (answered_in core p.reply) ++ less) (was ∙ sym b)

pub first_out_is_answered : FirstOutIsAnswered
first_out_is_answered shape dest request out unanswered later all split e = first_of_class shape dest request out unanswered later all split e
