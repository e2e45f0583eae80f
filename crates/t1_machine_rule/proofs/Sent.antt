-- What was sent, served and admitted, in a state that keeps what each slot keeps: each request is meant for
-- where it stands.
use Rattle.t1_shape.specs.Shapes.{Shape}
use Rattle.std.proofs.Common.{◌≡◌, ◌≢◌, ℕ, ◌%◌, ◌<◌, ◌==◌, Bool, true, false, cond, List, [], ◌∷◌, ◌++◌, length, get_or, Option, Some, None, refl, ap, sym, ◌∙◌, subst, inl, inr, zero, suc}
use Rattle.std.specs.List.{slice_get}
use Rattle.std.proofs.lemmas.Bool.{cases_Bool, cases_lt, eq-eqb, ne_eqb}
use Rattle.std.proofs.lemmas.List.{length-map, map-append, append-nil}
use Rattle.std.proofs.lemmas.List.Elements.{filter-append}
use Rattle.t1_packet.specs.declared.served.Served.{Served}
use Rattle.t1_packet.specs.Data.{RequestData}
use Rattle.t1_event.specs.declared.report.Config.{Config}
use Rattle.t1_event.specs.declared.commit.Commit.{Commit}
use Rattle.t1_elf.specs.declared.object.Image.{Image}
use Rattle.t1_joint.specs.Lists.{IsIn}
use Rattle.t1_joint.specs.Start.{Setup}
use Rattle.t1_joint.specs.Parts.{requests_of, asked_by, served_at}
use Rattle.t1_joint.specs.CoreRule.{IsMeant}
use Rattle.t1_fit.proofs.Lists.{in_left, in_right}
use Rattle.t1_fit.proofs.Logs.{record_of}
use Rattle.t1_received.specs.Requests.{sent_to}
use Rattle.t1_core_rule.specs.Histories.{Call, after_calls}
use Rattle.t1_core_rule.specs.Laws.{history_of}
use Rattle.t1_core_rule.proofs.Walks.{requests_are_meant}
use Rattle.t1_machine.specs.Machine.{MachineState, ring_of}
use Rattle.t1_machine.specs.Start.{setup_of}
use Rattle.t1_machine_rule.specs.Kept.{history_at, ever_served, Kept}
use Rattle.t1_machine_rule.proofs.Lists.{slice_behind}

-- ---- the requests of one core

pub asked_push : (c : ℕ) (xs : List Served) (a : Served) → a.request.core ≡ c → requests_of (asked_by c (xs ++ a ∷ [])) ≡ requests_of (asked_by c xs) ++ a.request ∷ []
asked_push c xs a e =
    let t : (a.request.core == c) ≡ true = eq-eqb a.request.core c e in
    let f : asked_by c (xs ++ a ∷ []) ≡ asked_by c xs ++ a ∷ [] =
    filter-append (λ (b : Served). b.request.core == c) xs (a ∷ []) ∙ ap (λ (b : Bool). asked_by c xs ++ cond b (a ∷ []) []) t in
    ap requests_of f ∙ map-append (λ (b : Served). b.request) (asked_by c xs) (a ∷ [])

pub asked_still : (c : ℕ) (xs : List Served) (a : Served) → a.request.core ≢ c → requests_of (asked_by c (xs ++ a ∷ [])) ≡ requests_of (asked_by c xs)
asked_still c xs a ne =
    let t : (a.request.core == c) ≡ false = ne_eqb a.request.core c ne in
    ap requests_of (filter-append (λ (b : Served). b.request.core == c) xs (a ∷ []) ∙ (ap (λ (b : Bool). asked_by c xs ++ cond b (a ∷ []) []) t ∙ append-nil (asked_by c xs)))

in_asked : (c : ℕ) (xs : List Served) (i : ℕ) (a : Served) → slice_get xs i ≡ Some a → a.request.core ≡ c → IsIn a.request (requests_of (asked_by c xs))
in_asked c [] i a e f = let clash : ◌≡◌ {A = Option Served} None (Some a) = e in cc
in_asked c (b ∷ xs) zero a e f =
    let q : a ≡ b = cc (e) in
    let t : (b.request.core == c) ≡ true = eq-eqb b.request.core c (ap (λ (v : Served). v.request.core) (sym q) ∙ f) in
    rw t (inl (ap (λ (v : Served). v.request) q))
in_asked c (b ∷ xs) (suc i) a e f =
    let more = in_asked c xs i a e f in
    elim (cases_Bool (b.request.core == c)) [
      | inl t ↦ rw t (inr more)
      | inr t ↦ rw t more
    ]

none_sent : (chip : Shape) (d : ℕ) (r : RequestData) → IsIn r (sent_to chip d []) → ⊥
none_sent chip d r h = h

module _ (config : Config) (image : Image) (blocks : config.ram % 65536 ≡ 0) (m : MachineState) (g : Kept (setup_of config image) m) where
  abbrev w : Setup
  w = setup_of config image

  -- what holds of a request that was sent
  pub record IsSent (c d : ℕ) (r : RequestData) : Type 0 where
    pub small : c < config.cores
    pub meant : IsMeant w c d r

  pub sent_is : (c d : ℕ) (r : RequestData) → IsIn r (sent_to config.chip d (history_at w g.calls c).sent) → IsSent c d r
  unfolding after_calls
  sent_is c d r h =
      elim (cases_lt c config.cores) [
        | inl l ↦ record { small = l; meant = requests_are_meant w c d (g.calls c) r blocks h }
        | inr past ↦ absurd (none_sent config.chip d r (subst (λ (calls : List Call). IsIn r (sent_to config.chip d (history_of w c calls).sent)) (g.absent c past) h))
      ]

  pub served_sent : (d i : ℕ) (a : Served) → d < 9 → slice_get (ever_served config.chip g.admitted m.served d) i ≡ Some a → IsIn a.request (sent_to config.chip d (history_at w g.calls a.request.core).sent)
  served_sent d i a ld is =
      subst (λ (rs : List RequestData). IsIn a.request rs) (g.requests a.request.core d ld)
      (in_left a.request (requests_of (asked_by a.request.core (ever_served config.chip g.admitted m.served d))) (ring_of m.requests a.request.core d)
      (in_asked a.request.core (ever_served config.chip g.admitted m.served d) i a is refl))

  -- a request of a request ring
  pub ring_sent : (c d : ℕ) (r : RequestData) (rest : List RequestData) → d < 9 → ring_of m.requests c d ≡ r ∷ rest → IsSent c d r
  ring_sent c d r rest ld head =
      sent_is c d r (subst (λ (rs : List RequestData). IsIn r rs) (g.requests c d ld)
      (in_right r (requests_of (asked_by c (ever_served config.chip g.admitted m.served d))) (ring_of m.requests c d) (subst (λ (rs : List RequestData). IsIn r rs) (sym head) (inl refl))))

  -- an access of a served ring
  pub waiting_sent : (d : ℕ) (a : Served) (rest : List Served) → d < 9 → get_or m.served d [] ≡ a ∷ rest → IsIn a.request (sent_to config.chip d (history_at w g.calls a.request.core).sent)
  waiting_sent d a rest ld head =
      served_sent d (length (served_at config.chip d g.admitted)) a ld
      (ap (λ (l : List Served). slice_get (served_at config.chip d g.admitted ++ l) (length (served_at config.chip d g.admitted))) head ∙ slice_behind (served_at config.chip d g.admitted) rest a)

  pub log_size : length m.xbar.log ≡ length g.admitted
  log_size = ap (λ (l : List Commit). length l) g.log ∙ length-map g.admitted (record_of w)
