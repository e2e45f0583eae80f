-- Lanes of a core, queues of destinations, and what was taken of each core.
use Rattle.std.proofs.Common.{◌≡◌, ◌<◌, ◌+◌, ◌-◌, ◌*◌, ◌%◌, ◌==◌, ◌∙◌, ℕ, zero, suc, true, List, [], ◌∷◌, ◌++◌, length, get_or, set, Option, Some, None, refl, ap, sym, subst, append_assoc, arith, add-one}
use Rattle.std.specs.List.{slice_get}
use Rattle.std.proofs.lemmas.Bool.Decides.{nat_tests}
use mathlib.Core.List.{IsPrefix}
use Rattle.t1_packet.specs.Data.{RequestData}
use Rattle.t1_ring.specs.Ends.{QueueName, Mark, Seat, TxState}
use Rattle.t1_ring.specs.Queue.{CoreSeatState, of_core, seats_from}
use Rattle.t1_ring.specs.Row.{tx_marks, has_bit, with_more}
use Rattle.t1_ring.proofs.Bits.{low, higher}
use Rattle.t1_ring.proofs.Queues.{of_more, of_other}
use Rattle.t1_core.specs.declared.answers.Did.{Did}
use Rattle.t1_core.specs.declared.answers.Did.TheVariants as did
use Rattle.t1_live.specs.Rules.{AreOfSender}
use Rattle.t1_live.specs.Lanes.{core_of, AreOf, seats_at, seats_of, by_core, HubState, queues_of, hub_at, hubs_at}

-- ---- a lane's mark

pub seat_same : (p q : QueueName) (c d : ℕ) → Seat p c ≡ Seat q d → (p ≡ q) × (c ≡ d)
seat_same p q c d e = (cc, cc)

pub prefix_more : (xs ys zs : List RequestData) → IsPrefix xs ys → IsPrefix xs (ys ++ zs)
prefix_more xs ys zs p = (p.0 ++ zs, sym (append_assoc xs p.0 zs) ∙ ap (λ l. l ++ zs) p.1)

pub of_mark : (core : ℕ) (ts : List (TxState RequestData)) (i : ℕ) (t : TxState RequestData) → AreOf core (tx_marks ts) → t ≡ get_or ts i t → i < length ts → core_of t.mark ≡ core
of_mark core [] i t h e l = absurd (omega (arith, l))
of_mark core (u ∷ ts) zero t h e l = ap (λ (v : TxState RequestData). core_of v.mark) e ∙ h.0
of_mark core (u ∷ ts) (suc i) t h e l = of_mark core ts i t h.1 e (omega (arith, l))

-- ---- bits

pub free_step : (rooms : ℕ → ℕ) (count k bits bit : ℕ) → k < count → bit < 2 → bit ≡ rooms (count - 1 - k) → ((j : ℕ) → 0 < rooms (count - k + j) → has_bit bits j ≡ true)
    → (j : ℕ) → 0 < rooms (count - (k + 1) + j) → has_bit (2 * bits + bit) j ≡ true
free_step rooms count k bits bit below small here was zero e =
    let same : count - (k + 1) + 0 ≡ count - 1 - k = omega arith in
    let one : 0 < rooms (count - 1 - k) = subst (λ i. 0 < rooms i) same e in
    let is : bit ≡ 1 = omega (arith, small, here, one) in
    let l = low bits bit small in
    grind (arith, nat_tests)
free_step rooms count k bits bit below small here was (suc j) e =
    let same : count - (k + 1) + suc j ≡ count - k + j = omega arith in
    sym (ap (λ i. has_bit (2 * bits + bit) i) (add-one j)) ∙ (ap (λ i. i % 2 == 1) (higher bits bit j small) ∙ was j (subst (λ i. 0 < rooms i) same e))

-- ---- a core's seats at the queues

pub seats_are_of : (core : ℕ) (queues : List QueueName) → AreOf core (seats_at core queues)
seats_are_of core [] = tt
seats_are_of core (q ∷ qs) = (refl, seats_are_of core qs)

pub seats_length : (core : ℕ) (queues : List QueueName) → length (seats_at core queues) ≡ length queues
seats_length core [] = refl
seats_length core (q ∷ qs) = ap suc (seats_length core qs)

pub seat_at : (core d : ℕ) (queues : List QueueName) (q : QueueName) → slice_get queues d ≡ Some q → slice_get (seats_at core queues) d ≡ Some (Seat q core)
seat_at core d [] q e = absurd (let clash : ◌≡◌ {A = Option QueueName} None (Some q) = e in cc)
seat_at core zero (p ∷ ps) q e = let f : p ≡ q = cc in ap (λ (x : QueueName). Some (Seat x core)) f
seat_at core (suc d) (p ∷ ps) q e = seat_at core d ps q e

abbrev pub seats_upto : ℕ → ℕ → List QueueName → List Mark
seats_upto d core [] = []
seats_upto zero core (q ∷ qs) = []
seats_upto (suc d) core (q ∷ qs) = Seat q core ∷ seats_upto d core qs

pub seats_none : (core : ℕ) (queues : List QueueName) → seats_upto 0 core queues ≡ []
seats_none core [] = refl
seats_none core (q ∷ qs) = refl

pub seats_next : (d core : ℕ) (queues : List QueueName) (q : QueueName) → slice_get queues d ≡ Some q → seats_upto (suc d) core queues ≡ seats_upto d core queues ++ Seat q core ∷ []
seats_next d core [] q e = absurd (let clash : ◌≡◌ {A = Option QueueName} None (Some q) = e in cc)
seats_next zero core (p ∷ []) q e = let f : p ≡ q = cc in ap (λ (x : QueueName). Seat x core ∷ []) f
seats_next zero core (p ∷ r ∷ ps) q e = let f : p ≡ q = cc in ap (λ (x : QueueName). Seat x core ∷ []) f
seats_next (suc d) core (p ∷ ps) q e = ap (λ l. Seat p core ∷ l) (seats_next d core ps q e)

pub seats_whole : (core : ℕ) (queues : List QueueName) → seats_upto (length queues) core queues ≡ seats_at core queues
seats_whole core [] = refl
seats_whole core (q ∷ qs) = ap (λ l. Seat q core ∷ l) (seats_whole core qs)

-- ---- the hubs, one after another

pub hub_queues : (n core cores : ℕ) (queues : List QueueName) → queues_of (hubs_at n core cores queues) ≡ queues
hub_queues n core cores [] = refl
hub_queues zero core cores (q ∷ qs) = ap (λ l. q ∷ l) (hub_queues zero core cores qs)
hub_queues (suc n) core cores (q ∷ qs) = ap (λ l. q ∷ l) (hub_queues n core cores qs)

pub hubs_whole : (core cores : ℕ) (queues : List QueueName) → hubs_at (length queues) core cores queues ≡ hubs_at 0 (core + 1) cores queues
hubs_whole core cores [] = refl
hubs_whole core cores (q ∷ qs) = ap (λ l. hub_at (core + 1) cores q ∷ l) (hubs_whole core cores qs)

pub hub_here : (d core cores : ℕ) (queues : List QueueName) (h : HubState) → d < length queues → h ≡ get_or (hubs_at d core cores queues) d h → (h ≡ hub_at core cores h.queue) × (slice_get queues d ≡ Some h.queue)
hub_here d core cores [] h l e = absurd (omega (arith, l))
hub_here zero core cores (q ∷ qs) h l e =
    let same : h.queue ≡ q = ap (λ (x : HubState). x.queue) e in (e ∙ ap (λ (x : QueueName). hub_at core cores x) (sym same), ap (λ (x : QueueName). Some x) (sym same))
hub_here (suc d) core cores (q ∷ qs) h l e = hub_here d core cores qs h (omega (arith, l)) e

pub hub_set : (d core cores : ℕ) (queues : List QueueName) (h : HubState) (q : QueueName) → slice_get queues d ≡ Some q → h ≡ hub_at (core + 1) cores q
    → set (hubs_at d core cores queues) d h ≡ hubs_at (suc d) core cores queues
hub_set d core cores [] h q e f = absurd (let clash : ◌≡◌ {A = Option QueueName} None (Some q) = e in cc)
hub_set zero core cores (p ∷ ps) h q e f = let same : q ≡ p = cc in ap (λ (x : HubState). x ∷ hubs_at zero core cores ps) (f ∙ ap (λ (y : QueueName). hub_at (core + 1) cores y) same)
hub_set (suc d) core cores (p ∷ ps) h q e f = ap (λ l. hub_at (core + 1) cores p ∷ l) (hub_set d core cores ps h q e f)

pub hubs_length : (n core cores : ℕ) (queues : List QueueName) → length (hubs_at n core cores queues) ≡ length queues
hubs_length n core cores [] = refl
hubs_length zero core cores (q ∷ qs) = ap suc (hubs_length zero core cores qs)
hubs_length (suc n) core cores (q ∷ qs) = ap suc (hubs_length n core cores qs)

pub hubs_more : (core cores : ℕ) (queues : List QueueName) (q : QueueName) → hubs_at 0 core cores queues ++ hub_at core cores q ∷ [] ≡ hubs_at 0 core cores (queues ++ q ∷ [])
hubs_more core cores [] q = refl
hubs_more core cores (p ∷ ps) q = ap (λ l. hub_at core cores p ∷ l) (hubs_more core cores ps q)

pub queues_length : (hubs : List HubState) → length (queues_of hubs) ≡ length hubs
queues_length [] = refl
queues_length (h ∷ hs) = ap suc (queues_length hs)

pub queues_snoc : (hubs : List HubState) (h : HubState) → queues_of (hubs ++ h ∷ []) ≡ queues_of hubs ++ h.queue ∷ []
queues_snoc [] h = refl
queues_snoc (x ∷ xs) h = ap (λ l. x.queue ∷ l) (queues_snoc xs h)

-- one more hub, of which no seat is given
pub hubs_grow : (hubs now : List HubState) (h : HubState) (cores : ℕ) (q : QueueName) → hubs ≡ hubs_at 0 0 cores (queues_of hubs) → now ≡ hubs ++ h ∷ [] → h ≡ hub_at 0 cores q
    → now ≡ hubs_at 0 0 cores (queues_of now)
hubs_grow hubs now h cores q was is at =
    let same : h ≡ hub_at 0 cores h.queue = at ∙ ap (λ (x : QueueName). hub_at 0 cores x) (sym (ap (λ (y : HubState). y.queue) at)) in
    is ∙ (ap (λ l. l ++ h ∷ []) was ∙ (ap (λ (x : HubState). hubs_at 0 0 cores (queues_of hubs) ++ x ∷ []) same
    ∙ (hubs_more 0 cores (queues_of hubs) h.queue ∙ ap (λ l. hubs_at 0 0 cores l) (sym (queues_snoc hubs h) ∙ ap queues_of (sym is)))))

-- the next seat of a hub
abbrev first_seat : QueueName → ℕ → CoreSeatState
first_seat queue core = record { queue = queue; core = core; pushed = [] }

next_seat : (queue : QueueName) (core cores : ℕ) → core < cores → seats_from queue core (cores - core) ≡ first_seat queue core ∷ seats_from queue (core + 1) (cores - (core + 1))
next_seat queue core cores l =
    let e : cores - core ≡ suc (cores - (core + 1)) = omega (arith, l) in
    ap (λ (n : ℕ). seats_from queue core n) e ∙ ap (λ (n : ℕ). first_seat queue core ∷ seats_from queue n (cores - (core + 1))) (sym (add-one core))

pub seat_next : (queue : QueueName) (core cores : ℕ) (items rest : List CoreSeatState) (s : CoreSeatState) → core < cores → items ≡ seats_from queue core (cores - core) → items ≡ s ∷ rest
    → (s ≡ record { queue = queue; core = core; pushed = [] }) × (rest ≡ seats_from queue (core + 1) (cores - (core + 1)))
seat_next queue core cores items rest s l is has =
    let both : s ∷ rest ≡ record { queue = queue; core = core; pushed = [] } ∷ seats_from queue (core + 1) (cores - (core + 1)) = sym has ∙ (is ∙ next_seat queue core cores l) in (cc, cc)

pub hub_next : (p q : QueueName) (seats : List CoreSeatState) (core cores : ℕ) → p ≡ q → seats ≡ seats_from q (core + 1) (cores - (core + 1))
    → ◌≡◌ {A = HubState} (record { queue = p; seats = seats }) (hub_at (core + 1) cores q)
hub_next p q seats core cores e f = ap (λ (x : QueueName). record { queue = x; seats = seats }) e ∙ ap (λ (l : List CoreSeatState). record { queue = q; seats = l }) f

-- ---- a destination

pub from_length : (queue : QueueName) (core n : ℕ) → length (seats_of queue core n) ≡ n
from_length queue core zero = refl
from_length queue core (suc n) = ap suc (from_length queue (suc core) n)

pub from_at : (queue : QueueName) (core n i : ℕ) → i < n → slice_get (seats_of queue core n) i ≡ Some (Seat queue (core + i))
from_at queue core zero i l = absurd (omega (arith, l))
from_at queue core (suc n) zero l = ap (λ k. Some (Seat queue k)) (omega arith)
from_at queue core (suc n) (suc i) l = from_at queue (suc core) n i (omega (arith, l)) ∙ ap (λ k. Some (Seat queue k)) (omega arith)

pub by_core_length : (taken : List RequestData) (core n : ℕ) → length (by_core taken core n) ≡ n
by_core_length taken core zero = refl
by_core_length taken core (suc n) = ap suc (by_core_length taken (suc core) n)

pub by_core_at : (taken : List RequestData) (core n i : ℕ) → i < n → get_or (by_core taken core n) i [] ≡ of_core (core + i) taken
by_core_at taken core zero i l = absurd (omega (arith, l))
by_core_at taken core (suc n) zero l = ap (λ k. of_core k taken) (omega arith)
by_core_at taken core (suc n) (suc i) l = by_core_at taken (suc core) n i (omega (arith, l)) ∙ ap (λ k. of_core k taken) (omega arith)

by_core_past : (taken : List RequestData) (r : RequestData) (core n : ℕ) → r.core < core → by_core (taken ++ r ∷ []) core n ≡ by_core taken core n
by_core_past taken r core zero l = refl
by_core_past taken r core (suc n) l =
    ap (λ x. x ∷ by_core (taken ++ r ∷ []) (suc core) n) (of_other core taken r (λ e. omega (arith, e, l))) ∙ ap (λ y. of_core core taken ∷ y) (by_core_past taken r (suc core) n (omega (arith, l)))

pub by_core_more : (taken : List RequestData) (r : RequestData) (core n i : ℕ) → r.core ≡ core + i → by_core (taken ++ r ∷ []) core n ≡ with_more (by_core taken core n) i r
by_core_more taken r core zero i e = refl
by_core_more taken r core (suc n) zero e =
    ap (λ x. x ∷ by_core (taken ++ r ∷ []) (suc core) n) (of_more core taken r (omega (arith, e))) ∙ ap (λ y. (of_core core taken ++ r ∷ []) ∷ y) (by_core_past taken r (suc core) n (omega (arith, e)))
by_core_more taken r core (suc n) (suc i) e =
    ap (λ x. x ∷ by_core (taken ++ r ∷ []) (suc core) n) (of_other core taken r (λ q. omega (arith, q, e))) ∙ ap (λ y. of_core core taken ∷ y) (by_core_more taken r (suc core) n i (omega (arith, e)))

-- nothing was taken at the start
pub by_core_none : (core n i : ℕ) → get_or (by_core [] core n) i [] ≡ []
by_core_none core zero i = refl
by_core_none core (suc n) zero = refl
by_core_none core (suc n) (suc i) = by_core_none (suc core) n i

-- ---- the core that sends

pub of_sender : (number : ℕ) (marks : List Mark) (x : Did) → ((d : ℕ) (r : RequestData) → x ≡ did.Sent d r → r.core ≡ number) → AreOf number marks → AreOfSender x marks
of_sender number marks did.Moved h a = tt
of_sender number marks (did.Waits wait) h a = tt
of_sender number marks (did.Sent d r) h a = subst (λ n. AreOf n marks) (sym (h d r refl)) a
