-- What a SetRequest asks for (gNMI 3.4.1 and the commit-confirmed extension).
use Rattle.std.specs.Prelude.{ℕ, List, [], ◌∷◌, map, Bool, ◌||◌, Option, Some, None}
use Rattle.std.specs.Option.{option_map}
use Rattle.std.specs.List.{filter_map, list_any}
use Rattle.base_kinds.specs.declared.request.Action.{Action}
use Rattle.base_kinds.specs.declared.request.Action.TheVariants as actions
use Rattle.base_kinds.specs.declared.request.Change.{Change}
use Rattle.base_kinds.specs.declared.request.UnresolvedSet.{UnresolvedSet}
use Rattle.gnmi_ext_msg.specs.declared.extension.Extension.{Extension}
use Rattle.gnmi_ext_msg.specs.declared.extension.Extension.TheVariants as extensions
use Rattle.gnmi_data_msg.specs.Profile.{is_foreign, path_in}
use Rattle.gnmi_ext_msg.specs.Extensions.{is_other}
use Rattle.gnmi_set_msg.specs.declared.request.Update.{Update}
use Rattle.gnmi_set_msg.specs.declared.request.SetRequest.{SetRequest}
use Rattle.gnmi_set_msg.specs.Requests.{request_of}

-- `union_replace`, an extension other than a commit, an origin of another schema, or the old `element`
abbrev pub is_unsupported : SetRequest → Bool
is_unsupported request =
    request.union_replace || list_any is_other request.extensions || is_foreign request.prefix
    || list_any is_foreign request.deletes
    || list_any (λ update. is_foreign update.path) request.replaces
    || list_any (λ update. is_foreign update.path) request.updates

abbrev pub commit_in : Extension → Option Action
commit_in (extensions.Commit action) = Some action
commit_in extensions.Other = None

-- one commit at most
abbrev pub one_action : List Action → Action
one_action [] = actions.Plain
one_action (action ∷ []) = action
one_action (action ∷ other ∷ others) = actions.Mixed

abbrev pub action_of : List Extension → Action
action_of extensions = one_action (filter_map commit_in extensions)

abbrev pub change_of : Update → Change
change_of update = record { path = update.path.path; given = update.given }

abbrev pub ask_of : SetRequest → UnresolvedSet
ask_of request = record {
  prefix = request.prefix.path;
  target = request.prefix.target;
  deletes = map path_in request.deletes;
  replaces = map change_of request.replaces;
  updates = map change_of request.updates;
  action = action_of request.extensions;
  unsupported = is_unsupported request;
}

-- what the octets of a SetRequest ask for
abbrev pub set_of : List ℕ → Option UnresolvedSet
set_of octets = option_map ask_of (request_of octets)
