use Rattle.history_laws.proofs.States.{rising_world, rising_before}
use Rattle.history_laws.proofs.histories.trees_rise.Goals as goal

pub returns : goal.returns
returns c = record { now = rising_world; before = rising_before }
