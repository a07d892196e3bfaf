-- Which state a plain world is.
use Rattle.std.specs.Prelude.{Option, Some, None}
use Rattle.base_kinds.specs.History.{OpenTrial, World}
use Rattle.reference_model.specs.declared.worlds.PlainTrial.{PlainTrial}
use Rattle.reference_model.specs.declared.worlds.PlainWorld.{PlainWorld}

abbrev pub trial_in : Option PlainTrial → Option OpenTrial
trial_in None = None
trial_in (Some trial) =
    Some (record { id = trial.id; before = trial.before; deadline = trial.deadline })

abbrev pub world_in : PlainWorld → World
world_in world = record { tree = world.tree; trial = trial_in world.trial }
