-- What one message of a Subscribe call asks of it, or why it is refused (gNMI 3.5.1.1, 3.5.1.5).
use Rattle.std.specs.Prelude.{ℕ, List, Option, Some, None, Result, Ok, Err}
use Rattle.base_kinds.specs.declared.refusal.Refusal.{Refusal}
use Rattle.base_kinds.specs.declared.refusal.Refusal.TheVariants.{BadMessage, Unsupported, BadSubscribe}
use Rattle.base_kinds.specs.declared.request.ListMode.{ListMode}
use Rattle.base_kinds.specs.declared.request.ListMode.TheVariants as modes
use Rattle.sub_plan.specs.declared.plan.Plan.{Plan}
use Rattle.sub_plan.specs.Plans.{plan_of}
use Rattle.gnmi_sub_msg.specs.declared.turns.SubTurn.{SubTurn}
use Rattle.gnmi_sub_msg.specs.declared.turns.SubTurn.TheVariants as turns
use Rattle.gnmi_sub_msg.specs.Turns.{turn_of}
use Rattle.request_desk.specs.declared.subscribe_steps.SubscribeStep.{SubscribeStep}
use Rattle.request_desk.specs.declared.subscribe_steps.SubscribeStep.TheVariants.{Begin, Poll}

-- ---- the first message of a call: a list that has a plan

abbrev pub begun : Result Plan Refusal → Result SubscribeStep Refusal
begun (Ok plan) = Ok (Begin plan)
begun (Err refusal) = Err refusal

abbrev pub first_step : SubTurn → Result SubscribeStep Refusal
first_step (turns.List ask) = begun (plan_of ask)
first_step turns.Poll = Err BadSubscribe
first_step turns.Unsupported = Err Unsupported

-- ---- a later one: a Poll, where the list of the call asked for that

-- a second list is refused, whatever it asks; what isn't supported is told first
abbrev pub second_step : Result Plan Refusal → Result SubscribeStep Refusal
second_step (Err Unsupported) = Err Unsupported
second_step plan = Err BadSubscribe

abbrev pub poll_step : ListMode → Result SubscribeStep Refusal
poll_step modes.Poll = Ok Poll
poll_step mode = Err BadSubscribe

abbrev pub later_step : ListMode → SubTurn → Result SubscribeStep Refusal
later_step mode (turns.List ask) = second_step (plan_of ask)
later_step mode turns.Poll = poll_step mode
later_step mode turns.Unsupported = Err Unsupported

-- ---- a message, behind the first list of this mode if there was one

abbrev pub turn_step : Option ListMode → SubTurn → Result SubscribeStep Refusal
turn_step None turn = first_step turn
turn_step (Some mode) turn = later_step mode turn

abbrev pub message_step : Option ListMode → Option SubTurn → Result SubscribeStep Refusal
message_step started None = Err BadMessage
message_step started (Some turn) = turn_step started turn

abbrev pub subscribe_step : Option ListMode → List ℕ → Result SubscribeStep Refusal
subscribe_step started octets = message_step started (turn_of octets)
