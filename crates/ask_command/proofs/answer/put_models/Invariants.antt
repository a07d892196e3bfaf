use Rattle.std.proofs.Common.{◌≡◌, ◌++◌, take}
use Rattle.std.specs.List.{flat_map}
use Rattle.ask_command.specs.Printing.{model_line}
use Rattle.ask_command.proofs.answer.put_models.Given as goal

-- the models so far are added
abbrev pub invariant-loop-model : goal.invariant-loop-model
invariant-loop-model l = l.out ≡ l.fn.out ++ flat_map model_line (take l.model-index l.models)
