use Rattle.std.proofs.Common.{◌≡◌, ◌<◌, take, drop, length}
use Rattle.std.specs.List.{list_all}
use Rattle.std.specs.Option.{ForSome}
use Rattle.base_kinds.specs.Schema.{names_of}
use Rattle.base_kinds.specs.Valid.{step_has_node}
use Rattle.base_kinds.specs.Ancestors.{path_steps, path_steps_from}
use Rattle.schema_core.specs.Nodes.{names_above}
use Rattle.schema_core.proofs.steps.steps_have_nodes.Given as goal

-- what is left to be known decides, and the node that was found last is that of the elements so far
abbrev pub invariant-loop-elem : goal.invariant-loop-elem
invariant-loop-elem l = record {
  rest : list_all (step_has_node l.schema) (path_steps_from (take l.elem-index l.path) (drop l.elem-index l.path)) ≡ list_all (step_has_node l.schema) (path_steps l.path);
  within : ForSome l.above (λ id. id.0 < length l.schema);
  named : names_above l.schema l.above ≡ names_of (take l.elem-index l.path);
}
