-- Each call of a core, and each packet that comes, keeps what a core agent keeps.
use Rattle.std.proofs.Common.{◌≡◌, ℕ, ◌<◌, ◌==◌, Bool, true, cond, List, [], ◌∷◌, ◌++◌, length, get_or, Option, Some, None, refl, ap, sym, ◌∙◌, subst, inl, inr, arith}
use Rattle.std.proofs.lemmas.Bool.{cases_eq, eq-eqb, ne_eqb}
use Rattle.std.proofs.lemmas.List.{append-nil, length-set, get_or-set_same, get_or-set_other}
use Rattle.std.proofs.lemmas.List.Elements.{filter-append}
use Rattle.t1_shape.specs.Shapes.{Shape}
use Rattle.t1_shape.specs.Numbers.{destinations}
use Rattle.t1_packet.specs.declared.packet.Packet.{Packet}
use Rattle.t1_packet.specs.Data.{RequestData}
use Rattle.t1_packet.specs.Ops.{op_addr, op_dest}
use Rattle.t1_packet.proofs.Caches.{dest_in}
use Rattle.t1_event.specs.declared.report.Config.{Config}
use Rattle.t1_elf.specs.declared.object.Image.{Image}
use Rattle.t1_joint.specs.Start.{Setup}
use Rattle.t1_received.specs.Requests.{sent_to}
use Rattle.t1_core.specs.declared.answers.Did.{Did}
use Rattle.t1_core.specs.declared.answers.Did.TheVariants as did
use Rattle.t1_core.specs.declared.answers.Drained.{Drained}
use Rattle.t1_core.specs.declared.answers.Drained.TheVariants as drained
use Rattle.t1_core.specs.Steps.{CoreState, drain_of}
use Rattle.t1_core.specs.Takes.{take_of}
use Rattle.t1_core.specs.Told.{HasRing}
use Rattle.t1_core.specs.Turns.{turn_of}
use Rattle.t1_core.specs.Start.{new_core}
use Rattle.t1_core_idle.specs.Laws.{GoesOut}
use Rattle.t1_core_idle.proofs.Dests.{requests_go_out}
use Rattle.t1_core_rule.specs.Histories.{History, Call, Take, Turn, Drain, after_call, turned_by, drained_by}
use Rattle.t1_core_rule.specs.Laws.{IsWholeCall, IsHistory, history_of}
use Rattle.t1_core_rule.proofs.Onward.{history_begins, history_goes_on}
use Rattle.t1_machine.specs.Start.{IsRunnable, setup_of}
use Rattle.t1_ring.specs.Row.{AreUnused, has_bit, with_more}
use Rattle.t1_ring.proofs.Sets.{within_room}
use Rattle.t1_live.specs.Rules.{IsCoreSide, HasSlot, sent_after}

-- ---- at the start

pub core_begins : (w : Setup) (number : ℕ) (core : CoreState) (sent : List (List RequestData)) (received : List Packet) → IsRunnable w → number < w.config.cores → length sent ≡ destinations w.config.chip
    → core ≡ new_core w.config number w.image.entry → AreUnused sent → received ≡ [] → IsCoreSide w number core sent received
core_begins w number core sent received runs within ends new unused none =
    let k : IsCoreSide w number (new_core w.config number w.image.entry) sent [] = record {
      runs = runs;
      within = within;
      ends = ends;
      requests = [];
      history = history_begins w number;
      each = unused;
    } in
    subst (λ (c : CoreState). IsCoreSide w number c sent received) (sym new) (subst (λ (ps : List Packet). IsCoreSide w number (new_core w.config number w.image.entry) sent ps) (sym none) k)

-- ---- a packet comes

pub core_takes : (w : Setup) (number : ℕ) (core next : CoreState) (sent : List (List RequestData)) (received more : List Packet) (packet : Packet)
    → IsWholeCall (Take packet) → next ≡ take_of core packet → more ≡ received ++ packet ∷ [] → IsCoreSide w number core sent received → IsCoreSide w number next sent more
core_takes w number core next sent received more packet whole is came k =
    let now : IsCoreSide w number (take_of core packet) sent (received ++ packet ∷ []) = record {
      runs = k.runs;
      within = k.within;
      ends = k.ends;
      requests = k.requests;
      history = history_goes_on w number (record { core = core; received = received; sent = k.requests }) (Take packet) whole k.history;
      each = k.each;
    } in
    subst (λ (c : CoreState). IsCoreSide w number c sent more) (sym is) (subst (λ (ps : List Packet). IsCoreSide w number (take_of core packet) sent ps) (sym came) now)

-- ---- requests are sent

-- what was sent to each destination, with a request more or none
abbrev pub with_requests : List (List RequestData) → ℕ → List RequestData → List (List RequestData)
with_requests sent dest [] = sent
with_requests sent dest (request ∷ requests) = with_more sent dest request

abbrev pub GoTo : Shape → ℕ → List RequestData → Type 0
GoTo chip dest [] = Unit {0}
GoTo chip dest (request ∷ requests) = (op_dest chip request.op ≡ dest) × (requests ≡ [])

sent_more : (chip : Shape) (sent : List (List RequestData)) (d : ℕ) (new requests : List RequestData) → length sent ≡ destinations chip → GoTo chip d new → ((e : ℕ) → get_or sent e [] ≡ sent_to chip e requests)
    → (e : ℕ) → get_or (with_requests sent d new) e [] ≡ sent_to chip e (requests ++ new)
sent_more chip sent d [] requests all goes each e = each e ∙ ap (λ (rs : List RequestData). sent_to chip e rs) (sym (append-nil requests))
sent_more chip sent d (r ∷ rs) requests all goes each e =
    let only : sent_to chip e (requests ++ r ∷ rs) ≡ sent_to chip e requests ++ cond (op_dest chip r.op == e) (r ∷ []) [] =
    ap (λ (l : List RequestData). sent_to chip e (requests ++ r ∷ l)) goes.1 ∙ filter-append (λ (q : RequestData). op_dest chip q.op == e) requests (r ∷ []) in
    elim (cases_eq e d) [
      | inl s ↦
          let t : (op_dest chip r.op == e) ≡ true = eq-eqb (op_dest chip r.op) e (goes.0 ∙ sym s) in
          ap (λ (k : ℕ). get_or (with_more sent d r) k []) s
          ∙ (get_or-set_same sent d (get_or sent d [] ++ r ∷ []) [] (let low = dest_in chip (op_addr r.op) in omega (arith, all, low, goes.0))
          ∙ (ap (λ (k : ℕ). get_or sent k [] ++ r ∷ []) (sym s)
          ∙ (ap (λ (l : List RequestData). l ++ r ∷ []) (each e)
          ∙ (ap (λ (b : Bool). sent_to chip e requests ++ cond b (r ∷ []) []) (sym t) ∙ sym only))))
      | inr ns ↦
          let t = ne_eqb (op_dest chip r.op) e (λ q. ns (sym q ∙ goes.0)) in
          get_or-set_other sent d e (get_or sent d [] ++ r ∷ []) [] ns
          ∙ (each e ∙ (sym (append-nil (sent_to chip e requests)) ∙ (ap (λ (b : Bool). sent_to chip e requests ++ cond b (r ∷ []) []) (sym t) ∙ sym only)))
    ]

-- a call that sends these
sends : (w : Setup) (number : ℕ) (core next : CoreState) (sent now : List (List RequestData)) (received : List Packet) (call : Call) (d : ℕ) (new : List RequestData) → IsWholeCall call
    → ((requests : List RequestData) → after_call (record { core = core; received = received; sent = requests }) call ≡ record { core = next; received = received; sent = requests ++ new })
    → GoTo w.config.chip d new → now ≡ with_requests sent d new → IsCoreSide w number core sent received → IsCoreSide w number next now received
sends w number core next sent now received call d new whole does goes is k =
    let kept : IsCoreSide w number next (with_requests sent d new) received = record {
      runs = k.runs;
      within = k.within;
      ends = long new;
      requests = k.requests ++ new;
      history = subst (λ (h : History). IsHistory w number h) (does k.requests) (history_goes_on w number (record { core = core; received = received; sent = k.requests }) call whole k.history);
      each = sent_more w.config.chip sent d new k.requests k.ends goes k.each;
    } in
    subst (λ (l : List (List RequestData)). IsCoreSide w number next l received) (sym is) kept
  where
    long : (new : List RequestData) → length (with_requests sent d new) ≡ destinations w.config.chip
    long [] = k.ends
    long (r ∷ rs) = length-set sent d (get_or sent d [] ++ r ∷ []) ∙ k.ends

-- the history that a core agent keeps
history_is : (config : Config) (image : Image) (number : ℕ) (core : CoreState) (sent : List (List RequestData)) (received : List Packet) (k : IsCoreSide (setup_of config image) number core sent received)
    → (history_of (setup_of config image) number k.history.calls).core ≡ core
history_is config image number core sent received k = ap (λ (h : History). h.core) k.history.is

turn_goes : (config : Config) (image : Image) (number : ℕ) (core : CoreState) (sent : List (List RequestData)) (received : List Packet) (room d : ℕ) (r : RequestData)
    → IsCoreSide (setup_of config image) number core sent received → (turn_of core room).did ≡ Some (did.Sent d r) → GoesOut (setup_of config image) number room d r
turn_goes config image number core sent received room d r k e =
    requests_go_out.turn (setup_of config image) number room d k.history.calls r k.runs.blocks (ap (λ (c : CoreState). (turn_of c room).did) (history_is config image number core sent received k) ∙ e)

drain_goes : (config : Config) (image : Image) (number : ℕ) (core : CoreState) (sent : List (List RequestData)) (received : List Packet) (strand room d : ℕ) (r : RequestData)
    → IsCoreSide (setup_of config image) number core sent received → (drain_of core strand room).did ≡ drained.Sent d r → GoesOut (setup_of config image) number room d r
drain_goes config image number core sent received strand room d r k e =
    requests_go_out.drain (setup_of config image) number strand room d k.history.calls r k.runs.blocks (ap (λ (c : CoreState). (drain_of c strand room).did) (history_is config image number core sent received k) ∙ e)

-- it is of the core
pub turn_core : (config : Config) (image : Image) (number : ℕ) (core : CoreState) (sent : List (List RequestData)) (received : List Packet) (room d : ℕ) (r : RequestData)
    → IsCoreSide (setup_of config image) number core sent received → (turn_of core room).did ≡ Some (did.Sent d r) → r.core ≡ number
turn_core config image number core sent received room d r k e = (turn_goes config image number core sent received room d r k e).meant.core_is

pub drain_core : (config : Config) (image : Image) (number : ℕ) (core : CoreState) (sent : List (List RequestData)) (received : List Packet) (strand room d : ℕ) (r : RequestData)
    → IsCoreSide (setup_of config image) number core sent received → (drain_of core strand room).did ≡ drained.Sent d r → r.core ≡ number
drain_core config image number core sent received strand room d r k e = (drain_goes config image number core sent received strand room d r k e).meant.core_is

-- a turn that sends this, or nothing
pub turn_sends : (config : Config) (image : Image) (number : ℕ) (core next : CoreState) (sent now : List (List RequestData)) (received : List Packet) (room d : ℕ) (r : RequestData)
    → next ≡ (turn_of core room).core → (turn_of core room).did ≡ Some (did.Sent d r) → now ≡ with_more sent d r → IsCoreSide (setup_of config image) number core sent received → IsCoreSide (setup_of config image) number next now received
turn_sends config image number core next sent now received room d r is e f k =
    let g = turn_goes config image number core sent received room d r k e in
    sends (setup_of config image) number core next sent now received (Turn room) d (r ∷ []) tt
    (λ requests. ap (λ (c : CoreState). record { core = c; received = received; sent = requests ++ turned_by (turn_of core room).did }) (sym is)
    ∙ ap (λ (o : Option Did). record { core = next; received = received; sent = requests ++ turned_by o }) e)
    (g.meant.dest_is, refl) f k

abbrev pub SendsNone : Option Did → Type 0
SendsNone None = Unit {0}
SendsNone (Some did.Moved) = Unit {0}
SendsNone (Some (did.Waits wait)) = Unit {0}
SendsNone (Some (did.Sent d r)) = ⊥

none_turned : (o : Option Did) → SendsNone o → turned_by o ≡ []
none_turned None n = refl
none_turned (Some did.Moved) n = refl
none_turned (Some (did.Waits wait)) n = refl
none_turned (Some (did.Sent d r)) n = absurd n

pub turn_moves : (config : Config) (image : Image) (number : ℕ) (core next : CoreState) (sent now : List (List RequestData)) (received : List Packet) (room : ℕ) (o : Option Did)
    → next ≡ (turn_of core room).core → (turn_of core room).did ≡ o → SendsNone o → now ≡ sent → IsCoreSide (setup_of config image) number core sent received → IsCoreSide (setup_of config image) number next now received
turn_moves config image number core next sent now received room o is e none f k =
    sends (setup_of config image) number core next sent now received (Turn room) 0 [] tt
    (λ requests. ap (λ (c : CoreState). record { core = c; received = received; sent = requests ++ turned_by (turn_of core room).did }) (sym is)
    ∙ ap (λ (l : List RequestData). record { core = next; received = received; sent = requests ++ l }) (ap turned_by e ∙ none_turned o none))
    tt f k

pub drain_sends : (config : Config) (image : Image) (number : ℕ) (core next : CoreState) (sent now : List (List RequestData)) (received : List Packet) (strand room d : ℕ) (r : RequestData)
    → next ≡ (drain_of core strand room).core → (drain_of core strand room).did ≡ drained.Sent d r → now ≡ with_more sent d r → IsCoreSide (setup_of config image) number core sent received
    → IsCoreSide (setup_of config image) number next now received
drain_sends config image number core next sent now received strand room d r is e f k =
    let g = drain_goes config image number core sent received strand room d r k e in
    sends (setup_of config image) number core next sent now received (Drain strand room) d (r ∷ []) tt
    (λ requests. ap (λ (c : CoreState). record { core = c; received = received; sent = requests ++ drained_by (drain_of core strand room).did }) (sym is)
    ∙ ap (λ (o : Drained). record { core = next; received = received; sent = requests ++ drained_by o }) e)
    (g.meant.dest_is, refl) f k

-- what a turn did
pub turn_does : (config : Config) (image : Image) (number : ℕ) (core next : CoreState) (sent now : List (List RequestData)) (received : List Packet) (room : ℕ) (x : Did)
    → next ≡ (turn_of core room).core → (turn_of core room).did ≡ Some x → now ≡ sent_after sent x → IsCoreSide (setup_of config image) number core sent received
    → IsCoreSide (setup_of config image) number next now received
turn_does config image number core next sent now received room did.Moved is e f k = turn_moves config image number core next sent now received room (Some did.Moved) is e tt f k
turn_does config image number core next sent now received room (did.Waits wait) is e f k = turn_moves config image number core next sent now received room (Some (did.Waits wait)) is e tt f k
turn_does config image number core next sent now received room (did.Sent d r) is e f k = turn_sends config image number core next sent now received room d r is e f k

-- the bits of a row of ends tell which of them know of a free slot
pub slot_of : (word : ℕ) (rooms : List ℕ) (x : Did) → ((j : ℕ) → has_bit word j ≡ true → 0 < get_or rooms j 0) → HasRing word x → HasSlot rooms x
slot_of word rooms did.Moved bits ring = tt
slot_of word rooms (did.Waits wait) bits ring = tt
slot_of word rooms (did.Sent d r) bits ring = (within_room rooms d (bits d ring.0), bits d ring.0)
