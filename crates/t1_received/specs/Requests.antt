-- The requests that a core sends, in one list: by destination, and by strand and class.
use Rattle.std.specs.Prelude.{ℕ, ◌≡◌, ◌==◌, ◌&&◌, Bool, true, false, List, [], ◌∷◌, Option, Some, None}
use Rattle.std.specs.List.{filter}
use Rattle.t1_shape.specs.Shapes.{Shape}
use Rattle.t1_packet.specs.Data.{RequestData, ReplyData}
use Rattle.t1_packet.specs.Ops.{op_dest, is_store}
use Rattle.t1_joint.specs.Parts.{answers}

-- those to one destination
abbrev pub sent_to : Shape → ℕ → List RequestData → List RequestData
sent_to shape dest requests = filter (λ request. op_dest shape request.op == dest) requests

abbrev pub same_bit : Bool → Bool → Bool
same_bit true b = b
same_bit false true = false
same_bit false false = true

-- a strand's stores are one class, and its fetches, loads and atomics another
abbrev pub is_of : ℕ → Bool → RequestData → Bool
is_of strand stores request = (request.strand == strand) && same_bit (is_store request.op) stores

abbrev pub of_class : ℕ → Bool → List RequestData → List RequestData
of_class strand stores requests = filter (λ request. is_of strand stores request) requests

-- every one of these goes to this destination
abbrev pub GoTo : Shape → ℕ → List RequestData → Type 0
GoTo shape dest [] = Unit {0}
GoTo shape dest (request ∷ requests) = (op_dest shape request.op ≡ dest) × GoTo shape dest requests

-- the request that a packet answers, where it has a reply
abbrev pub answered_in : ℕ → Option ReplyData → List RequestData
answered_in core None = []
answered_in core (Some reply) = answers core reply ∷ []
