use Rattle.std.proofs.Common.{◌≡◌, [], drop}
use Rattle.serde_json.specs.View.{view}
use Rattle.schema_core.specs.Nodes.{names_at}
use Rattle.json_rows.specs.Entries.{keys_of_entry}
use Rattle.json_rows.proofs.entries.keys_of_entry.Given as goal

-- what the other names give after the keys so far is what all of them give
abbrev pub invariant-loop-name : goal.invariant-loop-name
invariant-loop-name l = keys_of_entry l.schema (names_at l.schema l.list.0) (view l.entry) l.keys (drop l.name-index l.names) ≡ keys_of_entry l.schema (names_at l.schema l.list.0) (view l.entry) [] l.names
