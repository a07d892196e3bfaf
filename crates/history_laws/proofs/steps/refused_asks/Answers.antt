use Rattle.history_laws.proofs.Judged.{refused_for_six, judged_without_memory}
use Rattle.history_laws.proofs.steps.refused_asks.Goals as goal

pub returns : goal.returns
returns c = record { six = refused_for_six; memory = judged_without_memory }
