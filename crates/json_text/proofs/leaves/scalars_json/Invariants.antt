use Rattle.std.proofs.Common.{◌≡◌, map, take}
use Rattle.serde_json.specs.View.{view}
use Rattle.json_text.specs.Leaves.{scalar_data}
use Rattle.json_text.proofs.leaves.scalars_json.Given as goal

-- the items are those of the values so far
abbrev pub invariant-loop-value : goal.invariant-loop-value
invariant-loop-value l = map view l.items.items ≡ map (scalar_data l.shape) (take l.value-index l.values)
