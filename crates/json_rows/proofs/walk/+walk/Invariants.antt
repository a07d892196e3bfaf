use Rattle.std.proofs.Common.{◌≡◌, drop}
use Rattle.serde_json.specs.View.{items_view, members_view}
use Rattle.json_rows.specs.Walk.{rows_of_members, rows_of_entries}
use Rattle.json_rows.proofs.walk.+walk.Given as goal

-- what the other entries give after the rows so far is what all of them give
abbrev pub invariant-add_entries_behind-loop-item : goal.invariant-add_entries_behind-loop-item
invariant-add_entries_behind-loop-item l = rows_of_entries l.schema l.node l.above l.name l.seen l.rows (items_view (drop l.item-index l.item-items)) ≡ rows_of_entries l.schema l.node l.above l.name l.fn.seen l.initial.rows (items_view l.item-items)

-- and so with the members
abbrev pub invariant-add_members_behind-loop-text : goal.invariant-add_members_behind-loop-text
invariant-add_members_behind-loop-text l = rows_of_members l.schema l.here l.seen l.rows (members_view l.text-iterator) ≡ rows_of_members l.schema l.here l.fn.seen l.initial.rows (members_view l.initial.text-iterator)
