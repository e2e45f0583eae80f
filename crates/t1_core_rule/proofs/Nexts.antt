-- Which store of a buffer may be sent next. Only this file knows it: the oldest that is not sent, where those that are
-- out go where it goes.
use Rattle.t1_shape.specs.Shapes.{Shape}
use Rattle.std.proofs.Common.{◌≡◌, ℕ, not, ◌||◌, ◌==◌, if◌then◌else◌, Bool, true, false, List, [], ◌∷◌, ◌++◌, length, suc, Option, Some, None, refl, ap, sym, ◌∙◌, subst, inl, inr}
use Rattle.std.proofs.lemmas.Bool.{cases_Bool, and_parts, eqb-true}
use Rattle.t1_packet.specs.Data.{RequestData}
use Rattle.t1_packet.specs.Ops.{op_dest}
use Rattle.t1_sbuf.specs.declared.entry.Entry.{Entry}
use Rattle.t1_sbuf.specs.Entries.{are_sent_to, next_unsent, if_together, next_to_send_of, sent_next}
use Rattle.t1_event.specs.declared.item.Item.{Item}
use Rattle.t1_joint.specs.Lists.{IsIn}
use Rattle.t1_received.specs.Requests.{GoTo}
use Rattle.t1_core.specs.Stores.{AreSent, store_op}
use Rattle.t1_core_rule.specs.Outs.{store_request, stores_out, numbers_of, IsEntryOf, AreEntriesOf}
use Rattle.t1_core_rule.specs.Steady.{IsGoodEntry, AreGoodEntries}

-- ---- which one it is

-- these are out, and were sent at these times
abbrev pub AreOut : List Entry → List ℕ → Type 0
AreOut [] [] = Unit {0}
AreOut [] (t ∷ ts) = ⊥
AreOut (e ∷ es) [] = ⊥
AreOut (e ∷ es) (t ∷ ts) = (e.sent ≡ true) × AreOut es ts

abbrev pub marked : Entry → Entry
marked e = record e { sent = true }

-- the oldest store that is not sent, behind those that are out
pub record IsNext (es : List Entry) (ts : List ℕ) (e : Entry) : Type 0 where
  pub front : List Entry
  pub rest : List Entry
  pub are : es ≡ front ++ e ∷ rest
  pub out : AreOut front ts
  pub left : AreSent rest []
  pub after : sent_next es ≡ front ++ marked e ∷ rest

sent_here : (d : Entry) (ds : List Entry) → d.sent ≡ false → sent_next (d ∷ ds) ≡ marked d ∷ ds
unfolding sent_next
sent_here d ds off = rw off refl

sent_behind : (d : Entry) (ds : List Entry) → d.sent ≡ true → sent_next (d ∷ ds) ≡ d ∷ sent_next ds
unfolding sent_next
sent_behind d ds on = rw on refl

pub next_here : (d : Entry) (ds : List Entry) → d.sent ≡ false → next_unsent (d ∷ ds) ≡ Some d
next_here d ds off = rw off refl

next_behind : (d : Entry) (ds : List Entry) → d.sent ≡ true → next_unsent (d ∷ ds) ≡ next_unsent ds
next_behind d ds on = rw on refl

pub next_is : (es : List Entry) (ts : List ℕ) (e : Entry) → AreSent es ts → next_unsent es ≡ Some e → IsNext es ts e
next_is [] ts e f is = let clash : ◌≡◌ {A = Option Entry} None (Some e) = is in cc
next_is (d ∷ ds) [] e f is =
    let two : Some d ≡ Some e = sym (next_here d ds f.0) ∙ is in
    let same : d ≡ e = cc (two) in
    record {
      front = [];
      rest = ds;
      are = ap (λ (v : Entry). v ∷ ds) same;
      out = tt;
      left = f.1;
      after = sent_here d ds f.0 ∙ ap (λ (v : Entry). marked v ∷ ds) same;
    }
next_is (d ∷ ds) (t ∷ ts) e f is =
    let n = next_is ds ts e f.1 (sym (next_behind d ds f.0) ∙ is) in
    record {
      front = d ∷ n.front;
      rest = n.rest;
      are = ap (λ (xs : List Entry). d ∷ xs) n.are;
      out = (f.0, n.out);
      left = n.left;
      after = sent_behind d ds f.0 ∙ ap (λ (xs : List Entry). d ∷ xs) n.after;
    }

together_is : (es : List Entry) (o : Option Entry) (e : Entry) → if_together es o ≡ Some e → (o ≡ Some e) × (are_sent_to e.dest es ≡ true)
together_is es None e is = let clash : ◌≡◌ {A = Option Entry} None (Some e) = is in cc
together_is es (Some d) e is =
    elim (cases_Bool (are_sent_to d.dest es)) [
      | inl all ↦
          let two : Some d ≡ Some e = subst (λ (b : Bool). (if b then Some d else None) ≡ Some e) all is in
          let same : d ≡ e = cc (two) in
          (two, subst (λ (v : Entry). are_sent_to v.dest es ≡ true) same all)
      | inr one ↦ let clash : ◌≡◌ {A = Option Entry} None (Some e) = subst (λ (b : Bool). (if b then Some d else None) ≡ Some e) one is in cc
    ]

-- the one that may be sent next is the oldest that is not sent, and those that are out go where it goes
pub next_goes : (es : List Entry) (e : Entry) → next_to_send_of es ≡ Some e → (next_unsent es ≡ Some e) × (are_sent_to e.dest es ≡ true)
unfolding next_to_send_of
next_goes es e is = together_is es (next_unsent es) e is

pub front_goes : (d : ℕ) (front rest : List Entry) (ts : List ℕ) → AreOut front ts → are_sent_to d (front ++ rest) ≡ true → (f : Entry) → IsIn f front → f.dest ≡ d
front_goes d [] rest ts o all f h = absurd h
front_goes d (g ∷ gs) rest [] o all f h = absurd o
front_goes d (g ∷ gs) rest (t ∷ ts) o all f h =
    let p = and_parts (not g.sent || (g.dest == d)) (are_sent_to d (gs ++ rest)) all in
    let here : (g.dest == d) ≡ true = subst (λ (b : Bool). (not b || (g.dest == d)) ≡ true) o.0 p.0 in
    elim h [
      | inl same ↦ ap (λ (v : Entry). v.dest) same ∙ eqb-true g.dest d here
      | inr more ↦ front_goes d gs rest ts o.1 p.1 f more
    ]

unsent_go : (d : ℕ) (es : List Entry) → AreSent es [] → are_sent_to d es ≡ true
unsent_go d [] f = refl
unsent_go d (e ∷ es) f = rw (f.0, unsent_go d es f.1) refl

-- where nothing is out the oldest store may be sent
pub next_of_none_out : (e : Entry) (es : List Entry) → AreSent (e ∷ es) [] → next_to_send_of (e ∷ es) ≡ Some e
unfolding next_to_send_of
next_of_none_out e es f = rw (f.0, unsent_go e.dest es f.1) refl

-- ---- it is sent

pub sent_more : (front : List Entry) (e : Entry) (rest : List Entry) (ts : List ℕ) (t : ℕ) → AreOut front ts → AreSent rest [] → AreSent (front ++ marked e ∷ rest) (ts ++ t ∷ [])
sent_more [] e rest [] t o left = (refl, left)
sent_more [] e rest (u ∷ us) t o left = absurd o
sent_more (f ∷ fs) e rest [] t o left = absurd o
sent_more (f ∷ fs) e rest (u ∷ us) t o left = (o.0, sent_more fs e rest us t o.1 left)

pub out_length : (front : List Entry) (ts : List ℕ) → AreOut front ts → length ts ≡ length (numbers_of front)
out_length [] [] o = refl
out_length [] (t ∷ ts) o = absurd o
out_length (f ∷ fs) [] o = absurd o
out_length (f ∷ fs) (t ∷ ts) o = ap suc (out_length fs ts o.1)

none_out : (core strand : ℕ) (es : List Entry) → stores_out core strand es [] ≡ []
none_out core strand [] = refl
none_out core strand (e ∷ es) = refl

-- the requests that are out before it is sent
pub outs_were : (core strand : ℕ) (front rest : List Entry) (ts : List ℕ) → AreOut front ts → stores_out core strand (front ++ rest) ts ≡ stores_out core strand front ts
outs_were core strand [] rest [] o = none_out core strand rest
outs_were core strand [] rest (t ∷ ts) o = absurd o
outs_were core strand (f ∷ fs) rest [] o = absurd o
outs_were core strand (f ∷ fs) rest (t ∷ ts) o = ap (λ (rs : List RequestData). store_request core strand f t ∷ rs) (outs_were core strand fs rest ts o.1)

-- and afterwards
pub outs_are : (core strand : ℕ) (front : List Entry) (e : Entry) (rest : List Entry) (ts : List ℕ) (t : ℕ) → AreOut front ts
    → stores_out core strand (front ++ marked e ∷ rest) (ts ++ t ∷ []) ≡ stores_out core strand front ts ++ store_request core strand e t ∷ []
outs_are core strand [] e rest [] t o = ap (λ (rs : List RequestData). store_request core strand e t ∷ rs) (none_out core strand rest)
outs_are core strand [] e rest (u ∷ us) t o = absurd o
outs_are core strand (f ∷ fs) e rest [] t o = absurd o
outs_are core strand (f ∷ fs) e rest (u ∷ us) t o = ap (λ (rs : List RequestData). store_request core strand f u ∷ rs) (outs_are core strand fs e rest us t o.1)

pub outs_go : (chip : Shape) (core strand d : ℕ) (front : List Entry) (ts : List ℕ) → ((f : Entry) → IsIn f front → op_dest chip (store_op f) ≡ d) → GoTo chip d (stores_out core strand front ts)
outs_go chip core strand d [] ts all = tt
outs_go chip core strand d (f ∷ fs) [] all = tt
outs_go chip core strand d (f ∷ fs) (t ∷ ts) all = (all f (inl refl), outs_go chip core strand d fs ts (λ g h. all g (inr h)))

pub go_to_push : (chip : Shape) (d : ℕ) (rs : List RequestData) (r : RequestData) → GoTo chip d rs → op_dest chip r.op ≡ d → GoTo chip d (rs ++ r ∷ [])
go_to_push chip d [] r all is = (is, tt)
go_to_push chip d (q ∷ qs) r all is = (all.0, go_to_push chip d qs r all.1 is)

-- ---- its entries

pub entry_numbered : (es : List Entry) (i : ℕ) → IsIn i (numbers_of es) → (f : Entry) × IsIn f es × (f.item ≡ i)
entry_numbered [] i h = absurd h
entry_numbered (e ∷ es) i (inl same) = (e, inl refl, sym same)
entry_numbered (e ∷ es) i (inr h) = let f = entry_numbered es i h in (f.0, inr f.1, f.2)

pub entry_in : (items : List Item) (es : List Entry) (f : Entry) → AreEntriesOf items es → IsIn f es → IsEntryOf items f
entry_in items [] f all h = absurd h
entry_in items (e ∷ es) f all (inl same) = subst (λ (v : Entry). IsEntryOf items v) (sym same) all.0
entry_in items (e ∷ es) f all (inr h) = entry_in items es f all.1 h

pub good_in : (chip : Shape) (ram : ℕ) (es : List Entry) (f : Entry) → AreGoodEntries chip ram es → IsIn f es → IsGoodEntry chip ram f
good_in chip ram [] f all h = absurd h
good_in chip ram (e ∷ es) f all (inl same) = subst (λ (v : Entry). IsGoodEntry chip ram v) (sym same) all.0
good_in chip ram (e ∷ es) f all (inr h) = good_in chip ram es f all.1 h

pub good_marked : (chip : Shape) (ram : ℕ) (front : List Entry) (e : Entry) (rest : List Entry) → AreGoodEntries chip ram (front ++ e ∷ rest) → AreGoodEntries chip ram (front ++ marked e ∷ rest)
good_marked chip ram [] e rest all = (record { asked = all.0.asked; dest = all.0.dest }, all.1)
good_marked chip ram (f ∷ fs) e rest all = (all.0, good_marked chip ram fs e rest all.1)

pub entries_marked : (items : List Item) (front : List Entry) (e : Entry) (rest : List Entry) → AreEntriesOf items (front ++ e ∷ rest) → AreEntriesOf items (front ++ marked e ∷ rest)
entries_marked items [] e rest all =
    (let b = all.0 in record { item = b.item; has = b.has; addr = b.addr; size = b.size; put = b.put; got = b.got }, all.1)
entries_marked items (f ∷ fs) e rest all = (all.0, entries_marked items fs e rest all.1)

pub numbers_marked : (front : List Entry) (e : Entry) (rest : List Entry) → numbers_of (front ++ marked e ∷ rest) ≡ numbers_of (front ++ e ∷ rest)
numbers_marked [] e rest = refl
numbers_marked (f ∷ fs) e rest = ap (λ (ns : List ℕ). f.item ∷ ns) (numbers_marked fs e rest)
