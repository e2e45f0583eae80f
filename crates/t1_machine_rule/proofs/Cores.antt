-- A call of one core: the cores and their histories after it.
use Rattle.std.proofs.Common.{◌≡◌, ◌≢◌, ℕ, ◌<◌, ◌≤◌, ◌==◌, Bool, cond, if◌then◌else◌, List, [], ◌∷◌, ◌++◌, set, Option, Some, ap, sym, ◌∙◌, subst, inl, inr, arith}
use Rattle.std.specs.List.{slice_get}
use Rattle.std.proofs.lemmas.Bool.{cases_eq, eq-eqb, ne_eqb}
use Rattle.std.proofs.lemmas.List.{append-nil}
use Rattle.std.proofs.lemmas.Option.{slice_get_within}
use Rattle.t1_packet.specs.declared.packet.Packet.{Packet}
use Rattle.t1_packet.specs.Data.{RequestData}
use Rattle.t1_joint.specs.Start.{Setup}
use Rattle.t1_received.specs.Requests.{sent_to}
use Rattle.t1_received.proofs.Sorts.{to_append}
use Rattle.t1_core.specs.Steps.{CoreState}
use Rattle.t1_core_rule.specs.Histories.{History, Call, after_call, begun}
use Rattle.t1_core_rule.specs.Laws.{history_of, IsWholeCall, AreWhole}
use Rattle.t1_core_rule.proofs.Onward.{calls_more, whole_more}
use Rattle.t1_machine.specs.Machine.{MachineState}
use Rattle.t1_machine_rule.specs.Kept.{history_at, Kept}
use Rattle.t1_machine_rule.proofs.Lists.{slice_cases}

-- the calls with one more, of core c
abbrev pub calls_with : (ℕ → List Call) → ℕ → Call → ℕ → List Call
calls_with calls c call i = if i == c then calls i ++ call ∷ [] else calls i

pub history_here : (w : Setup) (calls : ℕ → List Call) (c : ℕ) (call : Call) (i : ℕ) → i ≡ c → history_at w (calls_with calls c call) i ≡ after_call (history_at w calls i) call
history_here w calls c call i e =
    ap (λ (b : Bool). history_of w i (cond b (calls i ++ call ∷ []) (calls i))) (eq-eqb i c e) ∙ calls_more (begun w i) (calls i) call

pub history_there : (w : Setup) (calls : ℕ → List Call) (c : ℕ) (call : Call) (i : ℕ) → i ≢ c → history_at w (calls_with calls c call) i ≡ history_at w calls i
history_there w calls c call i ne = ap (λ (b : Bool). history_of w i (cond b (calls i ++ call ∷ []) (calls i))) (ne_eqb i c ne)

module _ (w : Setup) (m : MachineState) (g : Kept w m) (c : ℕ) (core next : CoreState) (call : Call) (is : slice_get m.cores c ≡ Some core) where
  pub core_within : c < w.config.cores
  core_within = let l = slice_get_within m.cores c core is in omega (arith, l, g.parts.cores)

  -- the core of the history before
  pub core_before : (i : ℕ) → i ≡ c → (history_at w g.calls i).core ≡ core
  core_before i e = ap (λ (k : ℕ). (history_at w g.calls k).core) e ∙ sym (g.cores c core is)

  pub cores_now : ((h : History) → h.core ≡ core → (after_call h call).core ≡ next)
      → (i : ℕ) (x : CoreState) → slice_get (set m.cores c next) i ≡ Some x → x ≡ (history_at w (calls_with g.calls c call) i).core
  cores_now does i =
      slice_cases (λ (o : Option CoreState). (x : CoreState) → o ≡ Some x → x ≡ (history_at w (calls_with g.calls c call) i).core) m.cores c next i (slice_get_within m.cores c core is)
      (λ e x h.
      let q : next ≡ x = cc (h) in
      sym q ∙ (sym (does (history_at w g.calls i) (core_before i e)) ∙ sym (ap (λ (k : History). k.core) (history_here w g.calls c call i e))))
      (λ ne x h. g.cores i x h ∙ sym (ap (λ (k : History). k.core) (history_there w g.calls c call i ne)))

  pub whole_now : IsWholeCall call → (i : ℕ) → AreWhole (calls_with g.calls c call i)
  whole_now l i =
      elim (cases_eq i c) [
        | inl e ↦ subst (λ (b : Bool). AreWhole (cond b (g.calls i ++ call ∷ []) (g.calls i))) (sym (eq-eqb i c e)) (whole_more (g.calls i) call (g.whole i) l)
        | inr ne ↦ subst (λ (b : Bool). AreWhole (cond b (g.calls i ++ call ∷ []) (g.calls i))) (sym (ne_eqb i c ne)) (g.whole i)
      ]

  pub absent_now : (i : ℕ) → w.config.cores ≤ i → calls_with g.calls c call i ≡ []
  absent_now i l =
      let ne : i ≢ c = λ e. omega (arith, e, l, core_within) in
      ap (λ (b : Bool). cond b (g.calls i ++ call ∷ []) (g.calls i)) (ne_eqb i c ne) ∙ g.absent i l

  -- what each core has sent, where the call sends these
  pub sent_now : (new : List RequestData) → ((h : History) → h.core ≡ core → (after_call h call).sent ≡ h.sent ++ new)
      → (i e : ℕ) → sent_to w.config.chip e (history_at w (calls_with g.calls c call) i).sent ≡ sent_to w.config.chip e (history_at w g.calls i).sent ++ cond (i == c) (sent_to w.config.chip e new) []
  sent_now new does i e =
      let old : List RequestData = (history_at w g.calls i).sent in
      elim (cases_eq i c) [
        | inl q ↦
            ap (λ (k : History). sent_to w.config.chip e k.sent) (history_here w g.calls c call i q)
            ∙ (ap (λ (rs : List RequestData). sent_to w.config.chip e rs) (does (history_at w g.calls i) (core_before i q))
            ∙ (to_append w.config.chip e old new ∙ sym (ap (λ (b : Bool). sent_to w.config.chip e old ++ cond b (sent_to w.config.chip e new) []) (eq-eqb i c q))))
        | inr ne ↦
            ap (λ (k : History). sent_to w.config.chip e k.sent) (history_there w g.calls c call i ne)
            ∙ (sym (append-nil (sent_to w.config.chip e old)) ∙ sym (ap (λ (b : Bool). sent_to w.config.chip e old ++ cond b (sent_to w.config.chip e new) []) (ne_eqb i c ne)))
      ]

  -- and what came to it
  pub received_now : (new : List Packet) → ((h : History) → (after_call h call).received ≡ h.received ++ new)
      → (i : ℕ) → (history_at w (calls_with g.calls c call) i).received ≡ (history_at w g.calls i).received ++ cond (i == c) new []
  received_now new does i =
      let old : List Packet = (history_at w g.calls i).received in
      elim (cases_eq i c) [
        | inl q ↦
            ap (λ (k : History). k.received) (history_here w g.calls c call i q)
            ∙ (does (history_at w g.calls i) ∙ sym (ap (λ (b : Bool). old ++ cond b new []) (eq-eqb i c q)))
        | inr ne ↦
            ap (λ (k : History). k.received) (history_there w g.calls c call i ne)
            ∙ (sym (append-nil old) ∙ sym (ap (λ (b : Bool). old ++ cond b new []) (ne_eqb i c ne)))
      ]
