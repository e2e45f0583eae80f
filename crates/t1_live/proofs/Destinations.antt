-- A destination that serves a request keeps its rule.
use Rattle.std.proofs.Common.{◌≡◌, ◌≢◌, ℕ, ◌+◌, ◌<◌, Bool, true, false, cond, if◌then◌else◌, List, [], ◌∷◌, ◌++◌, length, get_or, Option, Some, None, refl, ap, sym, ◌∙◌, subst, inl, inr, arith}
use Rattle.std.proofs.lemmas.Bool.{cases_eq, lt-ltb, le-ltb}
use Rattle.std.proofs.lemmas.List.{map-append, get_or-set_same, get_or-set_other}
use Rattle.t1_shape.specs.Numbers.{banks}
use Rattle.t1_packet.specs.declared.served.Served.{Served}
use Rattle.t1_packet.specs.Data.{RequestData}
use Rattle.t1_event.specs.BankRule.{BankState, is_fit, served_well, served_by, bank_with, bank_after, refused}
use Rattle.t1_event.specs.declared.report.Config.{Config}
use Rattle.t1_elf.specs.declared.object.Image.{Image}
use Rattle.t1_joint.specs.Lists.{IsIn}
use Rattle.t1_joint.specs.Start.{Setup}
use Rattle.t1_joint.specs.Parts.{requests_of, asked_by}
use Rattle.t1_joint.specs.Fit.{destination_start, serves}
use Rattle.t1_fit.proofs.Lists.{in_left, in_right}
use Rattle.t1_fit.proofs.States.{after}
use Rattle.t1_machine.specs.Start.{setup_of}
use Rattle.t1_machine_rule.proofs.Serves.{served_push, after_is, bank_push}
use Rattle.t1_machine_rule.proofs.Sent.{asked_push, asked_still}
use Rattle.t1_ring.specs.Ends.{Mark}
use Rattle.t1_ring.specs.Row.{with_more}
use Rattle.t1_crew.specs.Id.{Id}
use Rattle.t1_live.specs.Rules.{served_with, bank_after_one, IsBank, IsDestinationSide}

pub destination_begins : (w : Setup) (d : ℕ) (bank : Option BankState) (received : List (List RequestData)) (served : List Served) → IsBank w d [] bank → received ≡ [] → served ≡ []
    → IsDestinationSide w d bank received served
destination_begins w d bank received served first e f =
    let k : IsDestinationSide w d bank [] [] = record { part = record { order = λ named c. refl; rule = tt }; bank_is = first } in
    subst (λ (l : List (List RequestData)). IsDestinationSide w d bank l served) (sym e) (subst (λ (l : List Served). IsDestinationSide w d bank [] l) (sym f) k)

-- a further end, which received nothing
pub destination_more : (w : Setup) (d : ℕ) (bank : Option BankState) (received more : List (List RequestData)) (served : List Served) → ((c : ℕ) → get_or more c [] ≡ get_or received c [])
    → IsDestinationSide w d bank received served → IsDestinationSide w d bank more served
destination_more w d bank received more served same k = record {
  part = record {
    order = λ named c. k.part.order (λ i r h. named i r (subst (λ (l : List RequestData). IsIn r l) (sym (same i)) h)) c ∙ sym (same c);
    rule = k.part.rule;
  };
  bank_is = k.bank_is;
}

-- ---- a request is served

module _ (config : Config) (image : Image) (d : ℕ) (served : List Served) (r : RequestData) where
  abbrev start : BankState
  start = destination_start (setup_of config image) d

  -- as the state that it came to serves it
  as_serves : (bank : Option BankState) → IsBank (setup_of config image) d served bank → served_with bank r ≡ serves config.chip d (after config.chip d start served) r
  as_serves (Some b) is =
      sym (ap (λ (t : Bool). cond t (served_by b r) (refused r)) (lt-ltb d (banks config.chip) is.0)) ∙ ap (λ (y : BankState). serves config.chip d y r) (is.1 ∙ sym (after_is config.chip d start served is.0))
  as_serves None is = sym (ap (λ (t : Bool). cond t (served_by (after config.chip d start served) r) (refused r)) (le-ltb d (banks config.chip) (omega (arith, is))))

  asks : (bank : Option BankState) → (served_with bank r).request ≡ r
  unfolding served_by
  asks (Some b) = by (is_fit b r)
    where
      by : (t : Bool) → (if t then served_well b r else refused r).request ≡ r
      by true = refl
      by false = refl
  asks None = refl

  bank_more : (bank : Option BankState) → IsBank (setup_of config image) d served bank → IsBank (setup_of config image) d (served ++ served_with bank r ∷ []) (bank_after_one bank r)
  bank_more (Some b) is = (
    is.0,
    ap (λ (y : BankState). bank_with y r) is.1
        ∙ (sym (bank_push start (requests_of served) r)
        ∙ (ap (λ (q : RequestData). bank_after start (requests_of served ++ q ∷ [])) (sym (asks (Some b)))
        ∙ ap (λ (rs : List RequestData). bank_after start rs) (sym (map-append (λ (a : Served). a.request) served (served_with (Some b) r ∷ []))))),
  )
  bank_more None is = is

  module _ (bank : Option BankState) (received : List (List RequestData)) (c : ℕ) (within : c < length received) (k : IsDestinationSide (setup_of config image) d bank received served) where
    abbrev new : Served
    new = served_with bank r

    abbrev more : List (List RequestData)
    more = with_more received c r

    here : get_or more c [] ≡ get_or received c [] ++ r ∷ []
    here = get_or-set_same received c (get_or received c [] ++ r ∷ []) [] within

    there : (i : ℕ) → i ≢ c → get_or more i [] ≡ get_or received i []
    there i ne = get_or-set_other received c i (get_or received c [] ++ r ∷ []) [] ne

    still_in : (i : ℕ) (q : RequestData) → IsIn q (get_or received i []) → IsIn q (get_or more i [])
    still_in i q h =
        elim (cases_eq i c) [
          | inl e ↦
              subst (λ (j : ℕ). IsIn q (get_or more j [])) (sym e) (subst (λ (l : List RequestData). IsIn q l) (sym here) (in_left q (get_or received c []) (r ∷ []) (subst (λ (j : ℕ). IsIn q (get_or received j [])) e h)))
          | inr ne ↦ subst (λ (l : List RequestData). IsIn q l) (sym (there i ne)) h
        ]

    order_now : ((i : ℕ) (q : RequestData) → IsIn q (get_or more i []) → q.core ≡ i) → (i : ℕ) → requests_of (asked_by i (served ++ new ∷ [])) ≡ get_or more i []
    order_now named i =
        let core : r.core ≡ c = named c r (subst (λ (l : List RequestData). IsIn r l) (sym here) (in_right r (get_or received c []) (r ∷ []) (inl refl))) in
        let asked : new.request.core ≡ c = ap (λ (q : RequestData). q.core) (asks bank) ∙ core in
        let before : requests_of (asked_by i served) ≡ get_or received i [] = k.part.order (λ j q h. named j q (still_in j q h)) i in
        elim (cases_eq i c) [
          | inl e ↦
              asked_push i served new (asked ∙ sym e)
              ∙ (ap (λ (l : List RequestData). l ++ new.request ∷ []) before
              ∙ (ap (λ (q : RequestData). get_or received i [] ++ q ∷ []) (asks bank)
              ∙ (ap (λ (j : ℕ). get_or received j [] ++ r ∷ []) e ∙ (sym here ∙ ap (λ (j : ℕ). get_or more j []) (sym e)))))
          | inr ne ↦ asked_still i served new (λ q. ne (sym q ∙ asked)) ∙ (before ∙ sym (there i ne))
        ]

    pub serves_one : IsDestinationSide (setup_of config image) d (bank_after_one bank r) more (served ++ new ∷ [])
    serves_one = record {
      part = record {
        order = order_now;
        rule = served_push config.chip d start served new k.part.rule (as_serves bank k.bank_is ∙ ap (λ (q : RequestData). serves config.chip d (after config.chip d start served) q) (sym (asks bank)));
      };
      bank_is = bank_more bank k.bank_is;
    }

pub destination_serves : (config : Config) (image : Image) (d : ℕ) (bank next : Option BankState) (received more : List (List RequestData)) (served all : List Served) (c : ℕ) (r : RequestData)
    → c < length received → more ≡ with_more received c r → all ≡ served ++ served_with bank r ∷ [] → next ≡ bank_after_one bank r
    → IsDestinationSide (setup_of config image) d bank received served → IsDestinationSide (setup_of config image) d next more all
destination_serves config image d bank next received more served all c r within e f g k =
    subst (λ (b : Option BankState). IsDestinationSide (setup_of config image) d b more all) (sym g)
    (subst (λ (l : List (List RequestData)). IsDestinationSide (setup_of config image) d (bank_after_one bank r) l all) (sym e)
    (subst (λ (l : List Served). IsDestinationSide (setup_of config image) d (bank_after_one bank r) (with_more received c r) l) (sym f) (serves_one config image d served r bank received c within k)))

-- the identity of a destination, by its ends
abbrev pub destination_with : Setup → ℕ → List Mark → List Mark → Id
destination_with w d to from = record { setup = w; number = 8 + d; to = to; from = from }
