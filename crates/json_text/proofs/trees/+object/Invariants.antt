use Rattle.std.proofs.Common.{◌≡◌, ◌+◌, ◌-◌, ◌*◌, ◌++◌, suc, List, length, map}
use Rattle.std.specs.Prelude.{fold}
use Rattle.std.specs.Option.{option_copied}
use Rattle.serde_json.specs.Data.{no_members, object}
use Rattle.serde_json.specs.View.{view, members_view}
use Rattle.base_kinds.specs.declared.operation.Row.{Row}
use Rattle.schema_core.specs.Nodes.{names_above, names_at}
use Rattle.json_text.specs.Runs.{runs, share_name, share_entry}
use Rattle.json_text.specs.Trees.{members_data}
use Rattle.json_text.specs.inner.Steps.{member_step}
use Rattle.json_text.proofs.trees.+object.Given as goal

abbrev pub decreases-members_json : goal.decreases-members_json
decreases-members_json l = 4 * l.levels

abbrev pub decreases-add_member : goal.decreases-add_member
decreases-add_member l = 4 * l.levels + 3

abbrev pub decreases-node_json : goal.decreases-node_json
decreases-node_json l = 4 * l.levels + 2

abbrev pub decreases-entries_json : goal.decreases-entries_json
decreases-entries_json l = 4 * l.levels + 1

-- the members so far, and then those of the rest
abbrev pub invariant-members_json-loop-rest : goal.invariant-members_json-loop-rest
invariant-members_json-loop-rest l =
    let step = member_step (l.levels - 1) l.schema (option_copied l.above) (names_above l.schema l.parent) l.depth in
    fold step (members_view l.members.entries) (runs (share_name l.depth) l.rest) ≡ fold step no_members (runs (share_name l.depth) l.rows)

-- the entries so far, and then those of the rest
abbrev pub invariant-entries_json-loop-rest : goal.invariant-entries_json-loop-rest
invariant-entries_json-loop-rest l =
    let inside = λ (entry : List Row). object (members_data l.levels l.schema (option_copied l.above) (names_at l.schema l.id.0) (suc l.depth) entry) in
    map view l.items.items ++ map inside (runs (share_entry l.depth) l.rest) ≡ map inside (runs (share_entry l.depth) l.rows)

abbrev pub decreases-members_json-loop-rest : goal.decreases-members_json-loop-rest
decreases-members_json-loop-rest l = length l.rest

abbrev pub decreases-entries_json-loop-rest : goal.decreases-entries_json-loop-rest
decreases-entries_json-loop-rest l = length l.rest
