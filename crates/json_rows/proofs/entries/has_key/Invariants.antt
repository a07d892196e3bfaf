use Rattle.std.proofs.Common.{◌≡◌, drop}
use Rattle.std.specs.List.{list_any}
use Rattle.json_rows.specs.Entries.{same_key}
use Rattle.json_rows.proofs.entries.has_key.Given as goal

-- no key so far is this one
abbrev pub invariant-loop-other_name : goal.invariant-loop-other_name
invariant-loop-other_name l = list_any (same_key (l.name, l.text)) (drop l.other_name-index l.other_name-items) ≡ list_any (same_key (l.name, l.text)) l.other_name-items
