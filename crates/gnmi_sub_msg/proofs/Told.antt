-- A list tells what isn't supported of its request.
use Rattle.std.proofs.Common.{◌≡◌, ℕ, Bool, true, false, cond, ◌||◌, List, [], ◌∷◌, Option, Some, None, refl, ap, subst}
use Rattle.std.specs.Prelude.{map, not, ◌==◌, length}
use Rattle.std.specs.List.{list_any}
use Rattle.std.specs.Option.{option_map}
use Rattle.base_kinds.specs.declared.path.Elem.{Elem}
use Rattle.gnmi_kinds.specs.declared.path.GnmiPath.{GnmiPath}
use Rattle.sub_plan.specs.Profile.{is_unsupported_path}
use Rattle.gnmi_data_msg.specs.Profile.{is_foreign}
use Rattle.gnmi_ext_msg.specs.Extensions.{is_other}
use Rattle.gnmi_sub_msg.specs.declared.lists.Subscription.{Subscription}
use Rattle.gnmi_sub_msg.specs.declared.request.SubMember.{SubMember}
use Rattle.gnmi_sub_msg.specs.declared.request.SubMember.TheVariants as members
use Rattle.gnmi_sub_msg.specs.declared.request.SubRequest.{SubRequest}
use Rattle.gnmi_sub_msg.specs.declared.turns.SubTurn.{SubTurn}
use Rattle.gnmi_sub_msg.specs.declared.turns.SubTurn.TheVariants as turns
use Rattle.gnmi_sub_msg.specs.Requests.{request_of}
use Rattle.gnmi_sub_msg.specs.Turns.{line_of, member_turn, turn_asked, turn_of, IsTold}

paths_kept : (subscriptions : List Subscription)
    → map (λ line. line.path) (map line_of subscriptions)
    ≡ map (λ (path : GnmiPath). path.path) (map (λ (s : Subscription). s.path) subscriptions)
paths_kept [] = refl
paths_kept (s ∷ subscriptions) = ap (λ (others : List (List Elem)). s.path.path ∷ others) (paths_kept subscriptions)

foreign_found : (subscriptions : List Subscription)
    → list_any (λ (s : Subscription). is_foreign s.path) subscriptions
    ≡ list_any is_unsupported_path (map (λ (s : Subscription). s.path) subscriptions)
foreign_found [] = refl
foreign_found (s ∷ subscriptions) = ap (λ (b : Bool). is_foreign s.path || b) (foreign_found subscriptions)

-- the turn of a request, by whether it has another extension
told : (octets : List ℕ) (request : SubRequest) (other : Bool) → list_any is_other request.extensions ≡ other
    → request_of octets ≡ Some request → IsTold octets (cond other turns.Unsupported (member_turn request.member))
told octets request true e is = tt
told octets request false e is = of_member request.member refl
  where
    of_member : (member : SubMember) → request.member ≡ member → IsTold octets (member_turn member)
    of_member members.Poll same = tt
    of_member (members.Subscribe list) same = record {
      request = request;
      is = is;
      tells = record {
        paths = rw same (paths_kept list.subscriptions);
        unsupported = rw (e, same) (ap (λ (b : Bool). not (length list.models == 0) || b) (foreign_found list.subscriptions));
      };
    }

is_some_turn : (a b : SubTurn) → ◌≡◌ {A = Option SubTurn} (Some a) (Some b) → a ≡ b
is_some_turn a b e = cc

none_is : (a : SubTurn) → ◌≡◌ {A = Option SubTurn} None (Some a) → ⊥
none_is a e = cc

pub is_told : (octets : List ℕ) (turn : SubTurn) → turn_of octets ≡ Some turn → IsTold octets turn
is_told octets turn e = by (request_of octets) refl e
  where
    by : (found : Option SubRequest) → request_of octets ≡ found → option_map turn_asked found ≡ Some turn → IsTold octets turn
    by None is e = absurd (none_is turn e)
    by (Some request) is e =
        subst (IsTold octets) (is_some_turn (turn_asked request) turn e)
        (told octets request (list_any is_other request.extensions) refl is)
