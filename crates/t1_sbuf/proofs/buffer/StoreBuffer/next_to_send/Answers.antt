-- Whether the entry at the cursor goes where those go that are sent.
use Rattle.std.proofs.Common.{◌≡◌, ◌≤◌, ◌<◌, ℕ, true, false, nat_lt, List, length, get_or, Option, Some, None, sym, subst, ap, ◌∙◌, arith}
use Rattle.std.proofs.lemmas.Bool.{ltb-true, ltb-false}
use Rattle.t1_sbuf.specs.declared.entry.Entry.{Entry}
use Rattle.t1_sbuf.specs.Entries.{AreEntries, next_to_send_of, next_place}
use Rattle.t1_sbuf.proofs.Sent.{none_past, some_here, none_here}
use Rattle.t1_sbuf.proofs.buffer.StoreBuffer.next_to_send.Goals as goal
use Rattle.t1_sbuf.proofs.buffer.StoreBuffer.next_to_send.Goals.{else-self-gt0-via-then-self-gt0+else-entries-next, else-self-gt0-via-else-self-gt0}

-- the entries as the slice of them
module _ (es slice now : List Entry) (cursor : ℕ) (is : slice ≡ es) (view : es ≡ now) (at : cursor ≡ next_place es) where
  seen : (o : Option Entry) → next_to_send_of es ≡ o → o ≡ next_to_send_of now
  seen o e = sym e ∙ ap next_to_send_of view

  past : nat_lt cursor (length slice) ≡ false → None ≡ next_to_send_of now
  past h =
      let l : length slice ≤ cursor = ltb-false cursor (length slice) h in
      let n : length slice ≡ length es = ap length is in
      seen None (none_past es (omega (arith, l, n, at)))

  inside : nat_lt cursor (length slice) ≡ true → next_place es < length es
  inside h =
      let l : cursor < length slice = ltb-true cursor (length slice) h in
      let n : length slice ≡ length es = ap length is in
      omega (arith, l, n, at)

  found : (e : Entry) → e ≡ get_or slice cursor e → e ≡ get_or es (next_place es) e
  found e h = subst (λ (n : ℕ). e ≡ get_or es n e) at (subst (λ (xs : List Entry). e ≡ get_or xs cursor e) is h)

  sends : AreEntries es → (e d : Entry) → nat_lt cursor (length slice) ≡ true → e ≡ get_or slice cursor e → (0 < cursor → (get_or slice 0 d).dest ≡ e.dest)
      → Some e ≡ next_to_send_of now
  sends a e d h f same =
      seen (Some e) (some_here es e d a (inside h) (found e f) (λ l. subst (λ (xs : List Entry). (get_or xs 0 d).dest ≡ e.dest) is (same (omega (arith, l, at)))))

  waits : (e d : Entry) → nat_lt cursor (length slice) ≡ true → e ≡ get_or slice cursor e → 0 < cursor → ((get_or slice 0 d).dest ≡ e.dest → ⊥)
      → None ≡ next_to_send_of now
  waits e d h f l other =
      seen None (none_here es e d (inside h) (found e f) (omega (arith, l, at)) (λ q. other (subst (λ (xs : List Entry). (get_or xs 0 d).dest ≡ e.dest) (sym is) q)))

pub returns-in_err-next : goal.returns-in_err-next
returns-in_err-next c =
    c.from_residual.ensures
    ∙ past c.self.inside.entries.items c.as_slice-entries.result.now c.args.self.now c.self.inside.cursor c.as_slice-entries.ensures.value c.self.view_is c.self.invariant.1
    (sym c.in_err-next.ensures.lookup.0)

pub returns-then-entries-next : goal.returns-then-entries-next
returns-then-entries-next c =
    waits c.self.inside.entries.items c.as_slice-entries.result.now c.args.self.now c.self.inside.cursor c.as_slice-entries.ensures.value c.self.view_is c.self.invariant.1
    c.in_ok-next.next.now _ (sym c.in_ok-next.ensures.lookup.0) c.in_ok-next.ensures.lookup.1 c.if-self-gt0.true c.if-entries-next.true

pub returns-else-self-gt0 : goal.returns-else-self-gt0
returns-else-self-gt0 c =
    let goes = sends c.self.inside.entries.items c.as_slice-entries.result.now c.args.self.now c.self.inside.cursor c.as_slice-entries.ensures.value c.self.view_is c.self.invariant.1
    c.self.invariant.0 c.in_ok-next.next.now (record { item = 0; addr = 0; size = 0; value = 0; sent = false; dest = 0 }) (sym c.in_ok-next.ensures.lookup.0) c.in_ok-next.ensures.lookup.1 in
    elim c.else-self-gt0.branch [
      | else-self-gt0-via-then-self-gt0+else-entries-next w ↦ goes (λ l. w.if-entries-next.false)
      | else-self-gt0-via-else-self-gt0 w ↦ goes (λ l. absurd (let off = w.if-self-gt0.false in omega (arith, l, off)))
    ]
