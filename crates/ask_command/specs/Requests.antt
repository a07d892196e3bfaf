-- The request that words ask for, and what is sent for it (gNMI 3.2, 3.3, 3.4 and the commit extension).
use Rattle.std.specs.Prelude.{◌≡◌, ℕ, ◌<◌, ◌^◌, pos, List, [], ◌∷◌, false}
use Rattle.std.specs.Fmt.{decimal}
use Rattle.base_kinds.specs.declared.path.Elem.{Elem}
use Rattle.base_kinds.specs.declared.request.Action.{Action}
use Rattle.base_kinds.specs.declared.request.Action.TheVariants as actions
use Rattle.base_kinds.specs.declared.request.Change.{Change}
use Rattle.base_kinds.specs.declared.request.Given.TheVariants as given
use Rattle.base_kinds.specs.declared.request.Span.{Span}
use Rattle.base_kinds.specs.declared.request.Span.TheVariants as spans
use Rattle.base_kinds.specs.declared.request.UnresolvedSet.{UnresolvedSet}
use Rattle.path_core.specs.PathText.{IsPathText}
use Rattle.grpc_core.specs.declared.method.Method.{Method}
use Rattle.grpc_core.specs.declared.method.Method.TheVariants as methods
use Rattle.gnmi_client_msg.specs.Requests.{get_message, set_message}
use Rattle.ask_command.specs.declared.request.Request.{Request}
use Rattle.ask_command.specs.declared.request.Request.TheVariants as requests
use Rattle.ask_command.specs.Words.{Ask, Capabilities, Get, Set, Delete, Trial, Confirm, Cancel}

-- a Set of these deletes and updates, behind no prefix and for no named target
abbrev pub plain_set : List (List Elem) → List Change → Action → UnresolvedSet
plain_set deletes updates action = record {
  prefix = [];
  target = [];
  deletes = deletes;
  replaces = [];
  updates = updates;
  action = action;
  unsupported = false;
}

-- the update of a path by a JSON text, which is sent as it is
abbrev pub update_to : List Elem → List ℕ → List Change
update_to path json = record { path = path; given = given.Json json } ∷ []

abbrev pub IsChangeTo : List ℕ → List ℕ → List Change → Type 0
IsChangeTo text json changes =
    (path : List Elem) × IsPathText text path × (changes ≡ update_to path json)

-- a number of seconds in decimal that an int64 has
abbrev pub IsLasting : List ℕ → Span → Type 0
IsLasting text span =
    (seconds : ℕ) × (seconds < 2 ^ 63) × (text ≡ decimal seconds)
    × (span ≡ spans.Of (pos seconds) (pos 0))

abbrev pub IsUpdate : List ℕ → List ℕ → Action → Request → Type 0
IsUpdate text json action request =
    (changes : List Change) × IsChangeTo text json changes
    × (request ≡ requests.Set (plain_set [] changes action))

-- what the words ask for
abbrev pub IsRequest : Ask → Request → Type 0
IsRequest Capabilities request = request ≡ requests.Capabilities
IsRequest (Get text) request =
    (path : List Elem) × IsPathText text path × (request ≡ requests.Get path)
IsRequest (Set text json) request = IsUpdate text json actions.Plain request
IsRequest (Delete text) request =
    (path : List Elem) × IsPathText text path
    × (request ≡ requests.Set (plain_set (path ∷ []) [] actions.Plain))
IsRequest (Trial id seconds text json) request =
    (span : Span) × IsLasting seconds span × IsUpdate text json (actions.Trial id span) request
IsRequest (Confirm id) request = request ≡ requests.Set (plain_set [] [] (actions.Confirm id))
IsRequest (Cancel id) request = request ≡ requests.Set (plain_set [] [] (actions.Cancel id))

abbrev pub method_of : Request → Method
method_of requests.Capabilities = methods.Capabilities
method_of (requests.Get path) = methods.Get
method_of (requests.Set ask) = methods.Set

-- a CapabilityRequest is no octets at all
abbrev pub message_of : Request → List ℕ
message_of requests.Capabilities = []
message_of (requests.Get path) = get_message path
message_of (requests.Set ask) = set_message ask
