-- The plan of a Subscribe list, or why it is refused (gNMI 3.5.1.2 and 3.5.1.5). The bounds are this project's own.
use Rattle.std.specs.Prelude.{ℕ, ◌+◌, List, [], ◌∷◌, ◌++◌, Bool, true, false, not, ◌&&◌, ◌||◌, ◌==◌, nat_le, nat_lt, length, map, filter, Result, Ok, Err, codes, if◌then◌else◌}
use Rattle.std.specs.List.{list_any}
use Rattle.std.specs.Str.{bytes_eq}
use Rattle.base_kinds.specs.declared.path.Elem.{Elem}
use Rattle.base_kinds.specs.declared.request.SubLine.{SubLine}
use Rattle.base_kinds.specs.declared.request.SubMode.{SubMode}
use Rattle.base_kinds.specs.declared.request.SubMode.TheVariants as modes
use Rattle.base_kinds.specs.declared.request.ListMode.{ListMode}
use Rattle.base_kinds.specs.declared.request.ListMode.TheVariants as lists
use Rattle.base_kinds.specs.declared.refusal.Refusal.{Refusal}
use Rattle.base_kinds.specs.declared.refusal.Refusal.TheVariants.{BadPath, Unsupported, BadSubscribe}
use Rattle.base_kinds.specs.Limits.{most_elements}
use Rattle.gnmi_kinds.specs.declared.ask.SubAsk.{SubAsk}
use Rattle.gnmi_kinds.specs.declared.ask.Encoding.{Encoding}
use Rattle.gnmi_kinds.specs.declared.ask.Encoding.TheVariants as encodings
use Rattle.sub_plan.specs.declared.plan.Group.{Group}
use Rattle.sub_plan.specs.declared.plan.GroupSort.TheVariants.{Change, Sample}
use Rattle.sub_plan.specs.declared.plan.Line.{Line}
use Rattle.sub_plan.specs.declared.plan.Plan.{Plan}

-- ---- bounds

abbrev pub most_subscriptions : ℕ
most_subscriptions = 64

-- nanoseconds: 100 ms
abbrev pub least_interval : ℕ
least_interval = 100000000

abbrev pub most_target_octets : ℕ
most_target_octets = 1024

-- ---- what isn't supported

-- names are of the schema that has no other name, or is named so
abbrev pub is_known_origin : List ℕ → Bool
is_known_origin origin = bytes_eq origin [] || bytes_eq origin (codes "openconfig")

abbrev pub is_known_encoding : Encoding → Bool
is_known_encoding encodings.Json = true
is_known_encoding encodings.Proto = true
is_known_encoding encodings.JsonIetf = true
is_known_encoding encodings.Other = false

-- The reader of the request sets `unsupported` by Profile.antt, for what of it has no field here.
abbrev pub is_unsupported : SubAsk → Bool
is_unsupported ask =
    ask.unsupported || not (is_known_origin ask.prefix.origin) || ask.prefix.old_element
    || not (is_known_encoding ask.encoding)

-- ---- lists that are none

abbrev pub is_list_mode : ListMode → Bool
is_list_mode lists.Other = false
is_list_mode _ = true

abbrev pub is_line_mode : SubMode → Bool
is_line_mode modes.Other = false
is_line_mode _ = true

-- an interval or a heartbeat is 0, or at least 100 ms
abbrev pub is_short : ℕ → Bool
is_short time = not (time == 0) && nat_lt time least_interval

abbrev pub is_bad_line : SubLine → Bool
is_bad_line line = not (is_line_mode line.mode) || is_short line.interval || is_short line.heartbeat

-- of subscriptions in a list
abbrev pub is_bad_number : ℕ → Bool
is_bad_number number = (number == 0) || nat_lt most_subscriptions number

abbrev pub is_bad_list : SubAsk → Bool
is_bad_list ask =
    not (is_list_mode ask.mode) || is_bad_number (length ask.lines)
    || list_any is_bad_line ask.lines

-- ---- paths that are none

abbrev pub is_nameless : Elem → Bool
is_nameless elem = length elem.name == 0

-- more elements than a path may have, or one without a name
abbrev pub is_bad_path : List Elem → List Elem → Bool
is_bad_path prefix path =
    nat_lt most_elements (length prefix + length path) || list_any is_nameless path

abbrev pub has_bad_path : SubAsk → Bool
has_bad_path ask =
    nat_lt most_target_octets (length ask.prefix.target) || list_any is_nameless ask.prefix.path
    || list_any (λ line. is_bad_path ask.prefix.path line.path) ask.lines

-- ---- the plan

abbrev pub is_sample : SubMode → Bool
is_sample modes.Sample = true
is_sample _ = false

abbrev pub is_stream : ListMode → Bool
is_stream lists.Stream = true
is_stream _ = false

-- the lesser of two heartbeats, of which 0 is none
abbrev pub lesser : ℕ → ℕ → ℕ
lesser a b = if a == 0 then b else if b == 0 then a else if nat_le a b then a else b

-- the least heartbeat of those so far and of the lines that send changes; 0 where there is none
abbrev pub least_heartbeat : ℕ → List SubLine → ℕ
least_heartbeat least [] = least
least_heartbeat least (line ∷ lines) =
    least_heartbeat (if is_sample line.mode then least else lesser least line.heartbeat) lines

abbrev pub change_group : ℕ → Group
change_group heartbeat =
    record { sort = Change; interval = 0; suppress = false; heartbeat = heartbeat }

-- an interval of 0 is the least one
abbrev pub interval_of : ℕ → ℕ
interval_of interval = if interval == 0 then least_interval else interval

abbrev pub sample_group : SubLine → Group
sample_group line = record {
  sort = Sample;
  interval = interval_of line.interval;
  suppress = line.suppress;
  heartbeat = line.heartbeat;
}

-- Group 0 has all lines that send changes, and is there also where no line does; each line that is sampled is a group of its
-- own, in order. Of a list that isn't streamed all lines are group 0.
abbrev pub groups_of : SubAsk → List Group
groups_of ask =
    if is_stream ask.mode
    then change_group (least_heartbeat 0 ask.lines) ∷
    map sample_group (filter (λ line. is_sample line.mode) ask.lines)
    else change_group 0 ∷ []

abbrev pub line_of : List Elem → ℕ → SubLine → Line
line_of prefix group line = record { pattern = prefix ++ line.path; group = group }

-- the lines, those that are sampled in groups from this number on
abbrev pub numbered_lines : List Elem → ℕ → List SubLine → List Line
numbered_lines prefix number [] = []
numbered_lines prefix number (line ∷ lines) =
    if is_sample line.mode
    then line_of prefix number line ∷ numbered_lines prefix (number + 1) lines
    else line_of prefix 0 line ∷ numbered_lines prefix number lines

abbrev pub lines_of : SubAsk → List Line
lines_of ask =
    if is_stream ask.mode then numbered_lines ask.prefix.path 1 ask.lines
    else map (line_of ask.prefix.path 0) ask.lines

-- the plan, unless the list is refused; the first cause decides
abbrev pub plan_of : SubAsk → Result Plan Refusal
plan_of ask =
    if is_unsupported ask then Err Unsupported
    else if is_bad_list ask then Err BadSubscribe
    else if has_bad_path ask then Err BadPath
    else Ok (record {
      lines = lines_of ask;
      groups = groups_of ask;
      mode = ask.mode;
      updates_only = ask.updates_only;
      encoding = ask.encoding;
      target = ask.prefix.target;
    })
