-- What a GetRequest asks of this target, and the reply to it at a history (gNMI 3.3).
use Rattle.std.specs.Prelude.{ℕ, List, ◌++◌, Bool, true, false, ◌||◌, ◌==◌, nat_lt, length, map, Option, Some, None, Result, Ok, Err, if◌then◌else◌}
use Rattle.std.specs.List.{list_any}
use Rattle.base_lists.specs.Results.{traverse}
use Rattle.base_kinds.specs.declared.path.Elem.{Elem}
use Rattle.base_kinds.specs.declared.operation.Row.{Row}
use Rattle.base_kinds.specs.declared.entry.Entry.{Entry}
use Rattle.base_kinds.specs.declared.refusal.Refusal.{Refusal}
use Rattle.base_kinds.specs.declared.refusal.Refusal.TheVariants.{BadMessage, BadPath, NotFound, TooLarge, Unsupported}
use Rattle.base_kinds.specs.Events.{is_long, is_empty_part}
use Rattle.base_kinds.specs.History.{world_of, stamp_of}
use Rattle.base_kinds.specs.Schema.{SchemaNode}
use Rattle.gnmi_kinds.specs.declared.ask.Encoding.{Encoding}
use Rattle.gnmi_kinds.specs.declared.ask.Encoding.TheVariants as encodings
use Rattle.gnmi_kinds.specs.declared.ask.GetAsk.{GetAsk}
use Rattle.gnmi_data_msg.specs.Profile.{is_foreign}
use Rattle.gnmi_get_msg.specs.Asks.{get_of}
use Rattle.gnmi_get_msg.specs.Replies.{get_reply}
use Rattle.request_desk.specs.Limits.{is_too_large, most_target_octets}
use Rattle.request_desk.specs.Notes.{note_of_path}
use Rattle.request_desk.specs.Tasks.{Task, Says, Looks}

-- ---- what is asked

abbrev pub is_other : Encoding → Bool
is_other encodings.Other = true
is_other encoding = false

-- what this target doesn't support in the request, in its prefix, and in its encoding
abbrev pub is_unsupported : GetAsk → Bool
is_unsupported ask = ask.unsupported || is_foreign ask.prefix || is_other ask.encoding

abbrev pub has_no_name : Elem → Bool
has_no_name elem = length elem.name == 0

-- too many elements, or one without a name
abbrev pub is_bad_path : List Elem → Bool
is_bad_path path = is_long path || list_any has_no_name path

-- a path behind the prefix
abbrev pub asked_path : List Elem → List Elem → Result (List Elem) Refusal
asked_path prefix path = if is_bad_path (prefix ++ path) then Err BadPath else Ok (prefix ++ path)

-- The paths that are asked, in the order of the request. The target's name in the prefix may be so long.
abbrev pub asked_paths : GetAsk → Result (List (List Elem)) Refusal
asked_paths ask =
    if nat_lt most_target_octets (length ask.prefix.target) then Err BadPath
    else traverse (asked_path ask.prefix.path) ask.paths

-- ---- the reply

-- one Notification for each path
abbrev pub notes_of : List SchemaNode → GetAsk → List (List Elem) → ℕ → List Row → List (List ℕ)
notes_of schema ask paths stamp tree = map (note_of_path schema ask stamp tree) paths

abbrev pub within_limit : List ℕ → Result (List ℕ) Refusal
within_limit reply = if is_too_large (length reply) then Err TooLarge else Ok reply

-- A path without rows is refused before the reply's length (gNMI 3.3.4).
unfoldable pub reply_over :
    List SchemaNode → GetAsk → List (List Elem) → ℕ → List Row → Result (List ℕ) Refusal
reply_over schema ask paths stamp tree =
    if list_any (is_empty_part tree) paths then Err NotFound
    else within_limit (get_reply (notes_of schema ask paths stamp tree))

-- over the tree that the history stands for, with the stamp of its last entry
abbrev pub reply_at :
    List SchemaNode → GetAsk → List (List Elem) → List Entry → Result (List ℕ) Refusal
reply_at schema ask paths h = reply_over schema ask paths (stamp_of h) (world_of h).tree

-- ---- in this order

abbrev pub look_task : List SchemaNode → GetAsk → Result (List (List Elem)) Refusal → Task
look_task schema ask (Err refusal) = Says (Err refusal)
look_task schema ask (Ok paths) = Looks (reply_at schema ask paths)

abbrev pub ask_task : List SchemaNode → GetAsk → Task
ask_task schema ask =
    if is_unsupported ask then Says (Err Unsupported) else look_task schema ask (asked_paths ask)

abbrev pub read_task : List SchemaNode → Option GetAsk → Task
read_task schema None = Says (Err BadMessage)
read_task schema (Some ask) = ask_task schema ask

abbrev pub get_task : List SchemaNode → List ℕ → Task
get_task schema octets = read_task schema (get_of octets)
