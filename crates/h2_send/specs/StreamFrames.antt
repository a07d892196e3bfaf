-- The frames of a stream: HEADERS, DATA, and what ends it (RFC 9113 section 8.1; gRPC over HTTP/2, "Responses").
use Rattle.std.specs.Prelude.{◌≡◌, ℕ, Bool, true, false, not, nat_eq, ◌&&◌, List, [], ◌∷◌, ◌++◌}
use Rattle.std.specs.List.{AllByRecursion, filter}
use Rattle.h2_frame.specs.Frames.{Frame}
use Rattle.h2_windows.specs.Pacing.{is_data_on}
use Rattle.h2_send.specs.Headers.{opening, ending, status_answer}
use Rattle.h2_events.specs.declared.said.Said.{Said}
use Rattle.h2_events.specs.declared.said.Said.TheVariants.{Message, Finish, Status}
use Rattle.h2_send.specs.Wires.{is_control}

-- the HEADERS and DATA of a stream
abbrev pub is_of_stream : ℕ → Frame → Bool
is_of_stream id frame = not (is_control frame) && nat_eq frame.head.stream id

abbrev pub frames_on : ℕ → List Frame → List Frame
frames_on id frames = filter (is_of_stream id) frames

-- HEADERS come before the first message. A block may begin with an update of the table's size.
abbrev pub AreFirst : ℕ → List Said → List Frame → Type 0
AreFirst id (Message octets ∷ others) frames = (owes : Bool) × (frames ≡ opening false owes id)
AreFirst id _ frames = frames ≡ []

-- What ends the stream, where that was said: trailers behind messages, and else a refusal or a status in their place.
-- Nothing is said behind it.
abbrev pub AreLast : ℕ → Bool → List Said → List Frame → Type 0
AreLast id begun [] frames = frames ≡ []
AreLast id begun (Message octets ∷ others) frames = AreLast id true others frames
AreLast id begun (Finish refusal ∷ others) frames =
    (owes : Bool) × (frames ≡ ending begun owes id refusal) × (others ≡ [])
AreLast id begun (Status status ∷ others) frames =
    (owes : Bool) × (frames ≡ status_answer owes id status) × (others ≡ [])

-- These frames of a stream answer what was said on it. Of the DATA it says no more than that: `data_of_streams` says
-- which octets they have.
pub record IsAnswer (id : ℕ) (said : List Said) (frames : List Frame) : Type 0 where
  pub first : List Frame
  pub body : List Frame
  pub last : List Frame
  pub are : frames ≡ first ++ body ++ last
  pub first_are : AreFirst id said first
  pub body_are : AllByRecursion (λ f. is_data_on id f ≡ true) body
  pub last_are : AreLast id false said last
