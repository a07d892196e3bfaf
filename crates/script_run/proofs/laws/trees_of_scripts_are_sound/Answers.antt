use Rattle.script_run.proofs.ScriptLaws.{makes_legal_histories, makes_sound_trees}
use Rattle.script_run.proofs.laws.trees_of_scripts_are_sound.Goals as goal

pub returns : goal.returns
returns c = record { legal = makes_legal_histories; sound = makes_sound_trees }
