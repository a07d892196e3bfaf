-- What of a Subscribe request this target doesn't support (gNMI 2.7, 3.5.1.2), and that the request's reader says so.
use Rattle.std.specs.Prelude.{◌≡◌, ℕ, List, Bool, not, ◌||◌, ◌==◌, map}
use Rattle.std.specs.List.{list_any}
use Rattle.gnmi_kinds.specs.declared.ask.SubAsk.{SubAsk}
use Rattle.gnmi_kinds.specs.declared.path.GnmiPath.{GnmiPath}
use Rattle.sub_plan.specs.Plans.{is_known_origin}

-- What a SubscribeRequest has beside the fields of a list that is judged: the paths of its subscriptions as the message has
-- them, how many models `use_models` names, and whether there is an extension other than a commit.
pub record RequestParts : Type 0 where
  pub paths : List GnmiPath
  pub models : ℕ
  pub other_extension : Bool

-- names of another schema, or texts in the deprecated field `element`
abbrev pub is_unsupported_path : GnmiPath → Bool
is_unsupported_path path = not (is_known_origin path.origin) || path.old_element

abbrev pub is_outside_profile : RequestParts → Bool
is_outside_profile parts =
    parts.other_extension || not (parts.models == 0) || list_any is_unsupported_path parts.paths

-- The list has the paths of these parts, and tells whether something of them isn't supported. This ties no other field of the
-- list. `qos` and `allow_aggregation` are not looked at.
pub record TellsUnsupported (parts : RequestParts) (ask : SubAsk) : Type 0 where
  pub paths : map (λ line. line.path) ask.lines ≡ map (λ path. path.path) parts.paths
  pub unsupported : ask.unsupported ≡ is_outside_profile parts
