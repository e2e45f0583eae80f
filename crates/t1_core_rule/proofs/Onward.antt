-- One call more: for a machine, whose steps are each a call of one core.
use Rattle.std.proofs.Common.{◌≡◌, ◌<◌, ℕ, List, [], ◌∷◌, ◌++◌, refl, ap, ◌∙◌, subst, inl, inr, arith}
use Rattle.std.proofs.lemmas.Bool.{eq-eqb, ne_eqb}
use mathlib.Core.List.{append-nil}
use Rattle.t1_shape.specs.Shapes.{Shape}
use Rattle.t1_packet.specs.declared.packet.Packet.{Packet}
use Rattle.t1_packet.specs.Data.{RequestData}
use Rattle.t1_packet.specs.Ops.{op_dest}
use Rattle.t1_joint.specs.Lists.{IsIn}
use Rattle.t1_joint.specs.Start.{Setup}
use Rattle.t1_joint.specs.Proper.{AreProper}
use Rattle.t1_joint.specs.CoreRule.{IsCore}
use Rattle.t1_received.specs.Requests.{sent_to}
use Rattle.t1_received.proofs.Sorts.{to_append}
use Rattle.t1_core_rule.specs.Histories.{History, Call, after_call, after_calls, begun}
use Rattle.t1_core_rule.specs.Parts.{part_of}
use Rattle.t1_core_rule.specs.Steady.{IsSteady}
use Rattle.t1_core_rule.specs.Laws.{IsWholeCall, AreWhole, IsWhole, IsHistory, history_of}
use Rattle.t1_core_rule.proofs.Walks.{history_steady}
use Rattle.t1_core_rule.proofs.Rules.{cores_keep_their_rule}

-- ---- calls

pub calls_more : (h : History) (calls : List Call) (call : Call) → after_calls h (calls ++ call ∷ []) ≡ after_call (after_calls h calls) call
unfolding after_calls
calls_more h [] call = refl
calls_more h (first ∷ calls) call = calls_more (after_call h first) calls call

pub whole_more : (calls : List Call) (call : Call) → AreWhole calls → IsWholeCall call → AreWhole (calls ++ call ∷ [])
whole_more [] call lines line = (line, tt)
whole_more (first ∷ calls) call lines line = (lines.0, whole_more calls call lines.1 line)

-- the rule after one call more
pub rule_goes_on : (w : Setup) (core : ℕ) (calls : List Call) (call : Call) → IsWhole w → 0 < w.config.budget → AreWhole calls → IsWholeCall call
    → IsCore w core (part_of w.config.chip (after_call (history_of w core calls) call))
rule_goes_on w core calls call whole some lines line =
    subst (λ (h : History). IsCore w core (part_of w.config.chip h)) (calls_more (begun w core) calls call)
    (cores_keep_their_rule w core (calls ++ call ∷ []) whole some (whole_more calls call lines line))

-- ---- histories, where a machine keeps no calls but that there are some

pub history_begins : (w : Setup) (core : ℕ) → IsHistory w core (begun w core)
unfolding after_calls
history_begins w core = record { calls = []; whole = tt; is = refl }

-- each call makes a history of a history
pub history_goes_on : (w : Setup) (core : ℕ) (h : History) (call : Call) → IsWholeCall call → IsHistory w core h → IsHistory w core (after_call h call)
history_goes_on w core h call line g = record {
  calls = g.calls ++ call ∷ [];
  whole = whole_more g.calls call g.whole line;
  is = calls_more (begun w core) g.calls call ∙ ap (λ (k : History). after_call k call) g.is;
}

-- a history keeps the rule
pub history_rule : (w : Setup) (core : ℕ) (h : History) → IsWhole w → 0 < w.config.budget → IsHistory w core h → IsCore w core (part_of w.config.chip h)
history_rule w core h whole some g = subst (λ (k : History). IsCore w core (part_of w.config.chip k)) g.is (cores_keep_their_rule w core g.calls whole some g.whole)

-- and is steady, whatever packets came
pub history_is_steady : (w : Setup) (core : ℕ) (h : History) → IsWhole w → IsHistory w core h → IsSteady w core h
history_is_steady w core h whole g = subst (λ (k : History). IsSteady w core k) g.is (history_steady w core g.calls whole)

-- each packet that came has an index below the clock, where they are proper
pub below_clock : (w : Setup) (core : ℕ) (h : History) (shape : Shape) (sent : ℕ → List RequestData) (packet : Packet) → IsSteady w core h → AreProper shape core sent h.received
    → IsIn packet h.received → packet.index < h.core.time
below_clock w core h shape sent packet s proper g =
    elim (s.past packet g) [
      | inl l ↦ l
      | inr last ↦ absurd (let small = proper.small packet g in omega (arith, small, last))
    ]

-- ---- a request more, by destination

pub sent_there : (shape : Shape) (dest : ℕ) (sent : List RequestData) (r : RequestData) → op_dest shape r.op ≡ dest
    → sent_to shape dest (sent ++ r ∷ []) ≡ sent_to shape dest sent ++ r ∷ []
sent_there shape dest sent r e =
    let one : sent_to shape dest (r ∷ []) ≡ r ∷ [] = rw (eq-eqb (op_dest shape r.op) dest e) refl in
    to_append shape dest sent (r ∷ []) ∙ ap (λ (rs : List RequestData). sent_to shape dest sent ++ rs) one

pub sent_elsewhere : (shape : Shape) (dest : ℕ) (sent : List RequestData) (r : RequestData) → (op_dest shape r.op ≡ dest → ⊥)
    → sent_to shape dest (sent ++ r ∷ []) ≡ sent_to shape dest sent
sent_elsewhere shape dest sent r e =
    let none : sent_to shape dest (r ∷ []) ≡ [] = rw (ne_eqb (op_dest shape r.op) dest e) refl in
    to_append shape dest sent (r ∷ []) ∙ (ap (λ (rs : List RequestData). sent_to shape dest sent ++ rs) none ∙ append-nil (sent_to shape dest sent))
