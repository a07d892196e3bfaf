use Rattle.std.proofs.Common.{◌≡◌, drop}
use Rattle.serde_json.specs.View.{view}
use Rattle.schema_core.specs.Nodes.{names_at}
use Rattle.json_rows.specs.Entries.{entry_keys_agree}
use Rattle.json_rows.proofs.entries.entry_keys_agree.Given as goal

-- the keys so far agree
abbrev pub invariant-loop-name : goal.invariant-loop-name
invariant-loop-name l = entry_keys_agree l.schema (names_at l.schema l.list.0) l.keys (view l.entry) (drop l.name-index l.names) ≡ entry_keys_agree l.schema (names_at l.schema l.list.0) l.keys (view l.entry) l.names
