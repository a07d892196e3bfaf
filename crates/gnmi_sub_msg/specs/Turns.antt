-- What a SubscribeRequest asks for (gNMI 3.5.1.1, 3.5.1.2), and that a list tells what of it isn't supported.
use Rattle.std.specs.Prelude.{◌≡◌, ℕ, List, [], map, not, ◌||◌, ◌==◌, length, Option, Some, if◌then◌else◌}
use Rattle.std.specs.List.{list_any}
use Rattle.std.specs.Option.{option_map}
use Rattle.base_kinds.specs.declared.request.SubLine.{SubLine}
use Rattle.gnmi_kinds.specs.declared.ask.SubAsk.{SubAsk}
use Rattle.sub_plan.specs.Profile.{RequestParts, TellsUnsupported}
use Rattle.gnmi_data_msg.specs.Profile.{is_foreign}
use Rattle.gnmi_ext_msg.specs.Extensions.{is_other}
use Rattle.gnmi_sub_msg.specs.declared.lists.Subscription.{Subscription}
use Rattle.gnmi_sub_msg.specs.declared.lists.SubscriptionList.{SubscriptionList}
use Rattle.gnmi_sub_msg.specs.declared.request.SubMember.{SubMember}
use Rattle.gnmi_sub_msg.specs.declared.request.SubMember.TheVariants as members
use Rattle.gnmi_sub_msg.specs.declared.request.SubRequest.{SubRequest}
use Rattle.gnmi_sub_msg.specs.declared.turns.SubTurn.{SubTurn}
use Rattle.gnmi_sub_msg.specs.declared.turns.SubTurn.TheVariants as turns
use Rattle.gnmi_sub_msg.specs.Requests.{request_of}

abbrev pub line_of : Subscription → SubLine
line_of subscription = record {
  path = subscription.path.path;
  mode = subscription.mode;
  interval = subscription.interval;
  suppress = subscription.suppress;
  heartbeat = subscription.heartbeat;
}

-- What a list asks for. Not supported are a choice of models, and a path of another schema. The prefix, the encoding, the modes
-- and the intervals stand in the ask itself, to be judged there.
abbrev pub ask_of : SubscriptionList → SubAsk
ask_of list = record {
  prefix = list.prefix;
  lines = map line_of list.subscriptions;
  mode = list.mode;
  updates_only = list.updates_only;
  encoding = list.encoding;
  unsupported = not (length list.models == 0)
      || list_any (λ subscription. is_foreign subscription.path) list.subscriptions;
}

abbrev pub member_turn : SubMember → SubTurn
member_turn (members.Subscribe list) = turns.List (ask_of list)
member_turn members.Poll = turns.Poll

-- an extension other than a commit isn't supported, whatever the member
abbrev pub turn_asked : SubRequest → SubTurn
turn_asked request =
    if list_any is_other request.extensions then turns.Unsupported else member_turn request.member

-- what the octets of a SubscribeRequest ask for
abbrev pub turn_of : List ℕ → Option SubTurn
turn_of octets = option_map turn_asked (request_of octets)

-- ---- what isn't supported is told

abbrev pub subscriptions_in : SubMember → List Subscription
subscriptions_in (members.Subscribe list) = list.subscriptions
subscriptions_in members.Poll = []

abbrev pub models_in : SubMember → ℕ
models_in (members.Subscribe list) = length list.models
models_in members.Poll = 0

-- what a request has beside the fields of a list that is judged
abbrev pub parts_of : SubRequest → RequestParts
parts_of request = record {
  paths = map (λ subscription. subscription.path) (subscriptions_in request.member);
  models = models_in request.member;
  other_extension = list_any is_other request.extensions;
}

-- the list tells what isn't supported of the request that the octets are
pub record IsToldList (octets : List ℕ) (ask : SubAsk) : Type 0 where
  pub request : SubRequest
  pub is : request_of octets ≡ Some request
  pub tells : TellsUnsupported (parts_of request) ask

abbrev pub IsTold : List ℕ → SubTurn → Type 0
IsTold octets (turns.List ask) = IsToldList octets ask
IsTold octets turns.Poll = Unit {0}
IsTold octets turns.Unsupported = Unit {0}
