-- Calls that are served, and what deeds tell, on small cases.
use Rattle.std.specs.Prelude.{◌≡◌, refl, [], ◌∷◌, true, false, Some, None, Ok, Err}
use Rattle.base_kinds.specs.declared.refusal.Refusal.TheVariants.{DiskFault, NoMemory}
use Rattle.base_kinds.specs.declared.request.ListMode.TheVariants as modes
use Rattle.h2_events.specs.declared.said.Said.TheVariants.{Message, Finish}
use Rattle.sub_plan.specs.declared.plan.Plan.{Plan}
use Rattle.session_core.specs.declared.served.Served.{Served}
use Rattle.grpc_requests.specs.declared.request.Asked.TheVariants.{Subscribe}
use Rattle.session_core.specs.Deeds.{Deed, Handing, Turning, handed_in, new_served, requests_in, said_to, said_once, said_streaming, said_polled, kept_polled}
use Rattle.session_core.specs.Rounds.{had_turns}

abbrev two_polls : Plan → Served
two_polls plan = record (new_served 3 plan) { polls = 2 }

-- a ONCE call ends with its messages, a STREAM call goes on, also behind a fault of the disk
once_ends : said_once (Ok ((7 ∷ []) ∷ [])) ≡ Message (7 ∷ []) ∷ Finish None ∷ []
once_ends = refl

stream_goes_on : said_streaming (Ok ((7 ∷ []) ∷ [])) ≡ Message (7 ∷ []) ∷ []
stream_goes_on = refl

fault_is_not_told : said_streaming (Err DiskFault) ≡ []
fault_is_not_told = refl

memory_ends_it : said_streaming (Err NoMemory) ≡ Finish (Some NoMemory) ∷ []
memory_ends_it = refl

-- of two Polls one is left, and the end of a call that the peer has ended comes behind the last one
one_poll_left : (plan : Plan) → kept_polled (Ok []) (two_polls plan) 1 ≡ record (new_served 3 plan) { polls = 1 } ∷ []
one_poll_left plan = refl

last_poll_ends : (plan : Plan) → said_polled (Ok []) (record (new_served 3 plan) { ended = true }) 0 ≡ Finish None ∷ []
last_poll_ends plan = refl

-- a turn on stream 3
abbrev turn : Deed
turn = record { stream = 3; doing = Turning; given = []; readings = []; turn = None; failed = false; said = [] }

turn_taken : (plan : Plan) → had_turns modes.Stream (new_served 3 plan) (turn ∷ []) ≡ true
turn_taken plan = refl

none_taken_there : (plan : Plan) → had_turns modes.Stream (new_served 5 plan) (turn ∷ []) ≡ false
none_taken_there plan = refl

polls_wait : (plan : Plan) → had_turns modes.Poll (two_polls plan) (turn ∷ []) ≡ false
polls_wait plan = refl

-- a call on stream 5 whose first message was handed to a feeder: it was asked for, and nothing is said on its stream
abbrev handing : Deed
handing = record { stream = 5; doing = Handing (9 ∷ []); given = []; readings = []; turn = None; failed = false; said = [] }

handed_there : handed_in (turn ∷ handing ∷ []) ≡ 5 ∷ []
handed_there = refl

asked_there : requests_in (turn ∷ handing ∷ []) ≡ record { stream = 5; asked = Subscribe (9 ∷ []) } ∷ []
asked_there = refl

unsaid_there : said_to 5 (turn ∷ handing ∷ []) ≡ []
unsaid_there = refl
