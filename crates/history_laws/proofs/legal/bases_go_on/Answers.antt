use Rattle.history_laws.proofs.SoundTrees.{empty_is_base, closed_is_base, legal_is_base}
use Rattle.history_laws.proofs.legal.bases_go_on.Goals as goal

pub returns : goal.returns
returns c = record { empty = empty_is_base; closed = closed_is_base; legal = legal_is_base }
