-- One of many ends changes.
use Rattle.std.proofs.Common.{◌≡◌, ◌<◌, ℕ, zero, suc, List, [], ◌∷◌, ◌++◌, length, get_or, set, slice_get, Some, refl, sym, ap, ◌∙◌, arith}
use Rattle.t1_ring.specs.Ends.{Mark, TxState, RxState}
use Rattle.t1_ring.specs.Row.{sent_by, rooms_of, tx_marks, received_by, rx_marks, AreUnused}

pub same_some : (a b : Mark) → Some a ≡ Some b → a ≡ b
same_some a b e = cc

module _ {T : Type 0} where
  pub sent_more : (ts : List (TxState T)) (i : ℕ) (t old : TxState T) (x : T) → old ≡ get_or ts i old → i < length ts → t.sent ≡ old.sent ++ x ∷ []
      → sent_by (set ts i t) ≡ set (sent_by ts) i (get_or (sent_by ts) i [] ++ x ∷ [])
  sent_more [] i t old x h k e = refl
  sent_more (u ∷ ts) zero t old x h k e = ap (λ l. l ∷ sent_by ts) (e ∙ ap (λ v. v.sent ++ x ∷ []) h)
  sent_more (u ∷ ts) (suc i) t old x h k e = ap (λ l. u.sent ∷ l) (sent_more ts i t old x h (omega arith) e)

  pub sent_same : (ts : List (TxState T)) (i : ℕ) (t old : TxState T) → old ≡ get_or ts i old → i < length ts → t.sent ≡ old.sent → sent_by (set ts i t) ≡ sent_by ts
  sent_same [] i t old h k e = refl
  sent_same (u ∷ ts) zero t old h k e = ap (λ l. l ∷ sent_by ts) (e ∙ ap (λ v. v.sent) h)
  sent_same (u ∷ ts) (suc i) t old h k e = ap (λ l. u.sent ∷ l) (sent_same ts i t old h (omega arith) e)

  pub tx_mark_same : (ts : List (TxState T)) (i : ℕ) (t old : TxState T) → old ≡ get_or ts i old → i < length ts → t.mark ≡ old.mark → tx_marks (set ts i t) ≡ tx_marks ts
  tx_mark_same [] i t old h k e = refl
  tx_mark_same (u ∷ ts) zero t old h k e = ap (λ l. l ∷ tx_marks ts) (e ∙ ap (λ v. v.mark) h)
  tx_mark_same (u ∷ ts) (suc i) t old h k e = ap (λ l. u.mark ∷ l) (tx_mark_same ts i t old h (omega arith) e)

  pub room_set : (ts : List (TxState T)) (i : ℕ) (t : TxState T) → rooms_of (set ts i t) ≡ set (rooms_of ts) i t.room
  room_set [] i t = refl
  room_set (u ∷ ts) zero t = refl
  room_set (u ∷ ts) (suc i) t = ap (λ l. u.room ∷ l) (room_set ts i t)

  pub room_here : (ts : List (TxState T)) (i : ℕ) (old : TxState T) → old ≡ get_or ts i old → i < length ts → get_or (rooms_of ts) i 0 ≡ old.room
  room_here [] i old h k = absurd (omega arith)
  room_here (u ∷ ts) zero old h k = sym (ap (λ v. v.room) h)
  room_here (u ∷ ts) (suc i) old h k = room_here ts i old h (omega arith)

  pub sent_here : (ts : List (TxState T)) (i : ℕ) (old : TxState T) → old ≡ get_or ts i old → i < length ts → get_or (sent_by ts) i [] ≡ old.sent
  sent_here [] i old h k = absurd (omega arith)
  sent_here (u ∷ ts) zero old h k = sym (ap (λ v. v.sent) h)
  sent_here (u ∷ ts) (suc i) old h k = sent_here ts i old h (omega arith)

  pub tx_mark_here : (ts : List (TxState T)) (i : ℕ) (old : TxState T) → old ≡ get_or ts i old → i < length ts → slice_get (tx_marks ts) i ≡ Some old.mark
  tx_mark_here [] i old h k = absurd (omega arith)
  tx_mark_here (u ∷ ts) zero old h k = sym (ap (λ (v : TxState T). Some v.mark) h)
  tx_mark_here (u ∷ ts) (suc i) old h k = tx_mark_here ts i old h (omega arith)

  pub rooms_length : (ts : List (TxState T)) → length (rooms_of ts) ≡ length ts
  rooms_length [] = refl
  rooms_length (u ∷ ts) = ap suc (rooms_length ts)

  pub sents_length : (ts : List (TxState T)) → length (sent_by ts) ≡ length ts
  sents_length [] = refl
  sents_length (u ∷ ts) = ap suc (sents_length ts)

  pub got_more : (rs : List (RxState T)) (i : ℕ) (r old : RxState T) (x : T) → old ≡ get_or rs i old → i < length rs → r.received ≡ old.received ++ x ∷ []
      → received_by (set rs i r) ≡ set (received_by rs) i (get_or (received_by rs) i [] ++ x ∷ [])
  got_more [] i r old x h k e = refl
  got_more (u ∷ rs) zero r old x h k e = ap (λ l. l ∷ received_by rs) (e ∙ ap (λ v. v.received ++ x ∷ []) h)
  got_more (u ∷ rs) (suc i) r old x h k e = ap (λ l. u.received ∷ l) (got_more rs i r old x h (omega arith) e)

  pub got_same : (rs : List (RxState T)) (i : ℕ) (r old : RxState T) → old ≡ get_or rs i old → i < length rs → r.received ≡ old.received → received_by (set rs i r) ≡ received_by rs
  got_same [] i r old h k e = refl
  got_same (u ∷ rs) zero r old h k e = ap (λ l. l ∷ received_by rs) (e ∙ ap (λ v. v.received) h)
  got_same (u ∷ rs) (suc i) r old h k e = ap (λ l. u.received ∷ l) (got_same rs i r old h (omega arith) e)

  pub got_here : (rs : List (RxState T)) (i : ℕ) (old : RxState T) → old ≡ get_or rs i old → i < length rs → get_or (received_by rs) i [] ≡ old.received
  got_here [] i old h k = absurd (omega arith)
  got_here (u ∷ rs) zero old h k = sym (ap (λ v. v.received) h)
  got_here (u ∷ rs) (suc i) old h k = got_here rs i old h (omega arith)

  pub rx_mark_same : (rs : List (RxState T)) (i : ℕ) (r old : RxState T) → old ≡ get_or rs i old → i < length rs → r.mark ≡ old.mark → rx_marks (set rs i r) ≡ rx_marks rs
  rx_mark_same [] i r old h k e = refl
  rx_mark_same (u ∷ rs) zero r old h k e = ap (λ l. l ∷ rx_marks rs) (e ∙ ap (λ v. v.mark) h)
  rx_mark_same (u ∷ rs) (suc i) r old h k e = ap (λ l. u.mark ∷ l) (rx_mark_same rs i r old h (omega arith) e)

  pub rx_mark_here : (rs : List (RxState T)) (i : ℕ) (old : RxState T) → old ≡ get_or rs i old → i < length rs → slice_get (rx_marks rs) i ≡ Some old.mark
  rx_mark_here [] i old h k = absurd (omega arith)
  rx_mark_here (u ∷ rs) zero old h k = sym (ap (λ (v : RxState T). Some v.mark) h)
  rx_mark_here (u ∷ rs) (suc i) old h k = rx_mark_here rs i old h (omega arith)

  pub gots_length : (rs : List (RxState T)) → length (received_by rs) ≡ length rs
  gots_length [] = refl
  gots_length (u ∷ rs) = ap suc (gots_length rs)

  pub sent_at_set : (ts : List (TxState T)) (i : ℕ) (t : TxState T) → i < length ts → get_or (sent_by (set ts i t)) i [] ≡ t.sent
  sent_at_set [] i t k = absurd (omega arith)
  sent_at_set (u ∷ ts) zero t k = refl
  sent_at_set (u ∷ ts) (suc i) t k = sent_at_set ts i t (omega arith)

  pub got_at_set : (rs : List (RxState T)) (i : ℕ) (r : RxState T) → i < length rs → get_or (received_by (set rs i r)) i [] ≡ r.received
  got_at_set [] i r k = absurd (omega arith)
  got_at_set (u ∷ rs) zero r k = refl
  got_at_set (u ∷ rs) (suc i) r k = got_at_set rs i r (omega arith)

  pub one_port : (ts : List (TxState T)) (rs : List (RxState T)) (i j : ℕ) (t : TxState T) (r : RxState T) → t ≡ get_or ts i t → i < length ts → r ≡ get_or rs j r → j < length rs
      → slice_get (tx_marks ts) i ≡ slice_get (rx_marks rs) j → t.mark ≡ r.mark
  one_port ts rs i j t r a h b k e = same_some t.mark r.mark (sym (tx_mark_here ts i t a h) ∙ e ∙ rx_mark_here rs j r b k)

-- an end that has room is one of them
pub within_room : (ns : List ℕ) (i : ℕ) → 0 < get_or ns i 0 → i < length ns
within_room [] i h = absurd (omega arith)
within_room (n ∷ ns) zero h = omega arith
within_room (n ∷ ns) (suc i) h = let k = within_room ns i h in omega arith

module _ {T : Type 0} where
  pub tx_marks_length : (ts : List (TxState T)) → length (tx_marks ts) ≡ length ts
  tx_marks_length [] = refl
  tx_marks_length (u ∷ ts) = ap suc (tx_marks_length ts)

  pub rx_marks_length : (rs : List (RxState T)) → length (rx_marks rs) ≡ length rs
  rx_marks_length [] = refl
  rx_marks_length (u ∷ rs) = ap suc (rx_marks_length rs)

pub blank_snoc : {A : Type 0} (xs : List (List A)) (ys : List A) (d : ℕ) → ys ≡ [] → get_or (xs ++ ys ∷ []) d [] ≡ get_or xs d []
blank_snoc [] ys zero e = e
blank_snoc [] ys (suc d) e = refl
blank_snoc (x ∷ xs) ys zero e = refl
blank_snoc (x ∷ xs) ys (suc d) e = blank_snoc xs ys d e

module _ {T : Type 0} where
  pub sents_snoc : (ts : List (TxState T)) (t : TxState T) → sent_by (ts ++ t ∷ []) ≡ sent_by ts ++ t.sent ∷ []
  sents_snoc [] t = refl
  sents_snoc (u ∷ ts) t = ap (λ l. u.sent ∷ l) (sents_snoc ts t)

  pub tx_marks_snoc : (ts : List (TxState T)) (t : TxState T) → tx_marks (ts ++ t ∷ []) ≡ tx_marks ts ++ t.mark ∷ []
  tx_marks_snoc [] t = refl
  tx_marks_snoc (u ∷ ts) t = ap (λ l. u.mark ∷ l) (tx_marks_snoc ts t)

  pub gots_snoc : (rs : List (RxState T)) (r : RxState T) → received_by (rs ++ r ∷ []) ≡ received_by rs ++ r.received ∷ []
  gots_snoc [] r = refl
  gots_snoc (u ∷ rs) r = ap (λ l. u.received ∷ l) (gots_snoc rs r)

  pub rx_marks_snoc : (rs : List (RxState T)) (r : RxState T) → rx_marks (rs ++ r ∷ []) ≡ rx_marks rs ++ r.mark ∷ []
  rx_marks_snoc [] r = refl
  rx_marks_snoc (u ∷ rs) r = ap (λ l. u.mark ∷ l) (rx_marks_snoc rs r)

  pub blank_sent : (ts us : List (TxState T)) (t : TxState T) → us ≡ ts ++ t ∷ [] → t.sent ≡ [] → AreUnused (sent_by ts) → AreUnused (sent_by us)
  blank_sent ts us t e h b d = ap (λ l. get_or (sent_by l) d []) e ∙ ap (λ l. get_or l d []) (sents_snoc ts t) ∙ blank_snoc (sent_by ts) t.sent d h ∙ b d

  pub blank_got : (rs qs : List (RxState T)) (r : RxState T) → qs ≡ rs ++ r ∷ [] → r.received ≡ [] → AreUnused (received_by rs) → AreUnused (received_by qs)
  blank_got rs qs r e h b d = ap (λ l. get_or (received_by l) d []) e ∙ ap (λ l. get_or l d []) (gots_snoc rs r) ∙ blank_snoc (received_by rs) r.received d h ∙ b d

  pub mark_more : (ts us : List (TxState T)) (rs qs : List (RxState T)) (t : TxState T) (r : RxState T) → us ≡ ts ++ t ∷ [] → qs ≡ rs ++ r ∷ [] → t.mark ≡ r.mark → tx_marks ts ≡ rx_marks rs
      → tx_marks us ≡ rx_marks qs
  mark_more ts us rs qs t r e f h b = ap tx_marks e ∙ tx_marks_snoc ts t ∙ ap (λ l. l ++ t.mark ∷ []) b ∙ ap (λ m. rx_marks rs ++ m ∷ []) h ∙ sym (rx_marks_snoc rs r) ∙ ap rx_marks (sym f)
