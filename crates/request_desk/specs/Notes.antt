-- The Notification of one path of a Get (gNMI 2.3.1, 2.3.3 and 3.3.2).
use Rattle.std.specs.Prelude.{ℕ, List, [], ◌∷◌, Bool, true, false, ◌&&◌, if◌then◌else◌}
use Rattle.std.specs.List.{list_all}
use Rattle.base_kinds.specs.declared.path.Elem.{Elem}
use Rattle.base_kinds.specs.declared.operation.Row.{Row}
use Rattle.base_kinds.specs.Ancestors.{path_steps}
use Rattle.base_kinds.specs.Parts.{part}
use Rattle.base_kinds.specs.Schema.{SchemaNode}
use Rattle.base_kinds.specs.Valid.{step_has_node}
use Rattle.gnmi_kinds.specs.declared.ask.Encoding.{Encoding}
use Rattle.gnmi_kinds.specs.declared.ask.Encoding.TheVariants as encodings
use Rattle.gnmi_kinds.specs.declared.ask.GetAsk.{GetAsk}
use Rattle.json_text.specs.Trees.{json_text_of}
use Rattle.json_text.specs.laws.ValidTrees.{is_plain_elem}
use Rattle.gnmi_note_msg.specs.Notifications.{note_octets, whole_octets}

abbrev pub is_json : Encoding → Bool
is_json encodings.Json = true
is_json encodings.JsonIetf = true
is_json encodings.Proto = false
is_json encodings.Other = false

-- The path is that of one node or of one entry of a list, or the root: it has no wildcard, and its elements have just the keys of
-- their nodes.
abbrev pub is_of_one : List SchemaNode → List Elem → Bool
is_of_one schema path =
    list_all is_plain_elem path && list_all (step_has_node schema) (path_steps path)

-- one update, with the value that all the rows are
abbrev pub whole_note : List SchemaNode → GetAsk → ℕ → List Elem → List Row → List ℕ
whole_note schema ask stamp path rows =
    whole_octets stamp path (json_text_of schema path rows) ask.prefix.target ask.encoding

-- an update for each row
abbrev pub row_note : List SchemaNode → GetAsk → ℕ → List Row → List ℕ
row_note schema ask stamp rows =
    note_octets schema ask.encoding ask.prefix.target
    (record { stamp = stamp; deletes = []; updates = rows })

-- In JSON a path of one node has its whole value, and any other path an update for each row, as each path has in PROTO. The prefix
-- has the target alone, so that the paths of updates are whole ones.
unfoldable pub path_note : List SchemaNode → GetAsk → ℕ → List Elem → List Row → List ℕ
path_note schema ask stamp path rows =
    if is_json ask.encoding && is_of_one schema path then whole_note schema ask stamp path rows
    else row_note schema ask stamp rows

-- the rows are those of the tree that the path covers
abbrev pub note_of_path : List SchemaNode → GetAsk → ℕ → List Row → List Elem → List ℕ
note_of_path schema ask stamp tree path =
    path_note schema ask stamp path (part (path ∷ []) tree)
