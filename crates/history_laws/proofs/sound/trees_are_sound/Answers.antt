use Rattle.history_laws.proofs.SoundTrees.{no_rows_are_sound, accepted_trees_are_sound, given_keeps_sound, legal_trees_are_sound}
use Rattle.history_laws.proofs.sound.trees_are_sound.Goals as goal

pub returns : goal.returns
returns c = record { empty = no_rows_are_sound; accepted = accepted_trees_are_sound; given = given_keeps_sound; legal = legal_trees_are_sound }
