use Rattle.std.proofs.Common.{refl}
use Rattle.schema_core.proofs.IndexLemmas.{absent_there}
use Rattle.schema_core.proofs.schema.number_of.Goals as goal

pub returns-in-Err-clause-node : goal.returns-in-Err-clause-node
returns-in-Err-clause-node c = absent_there _ _ _ _ c.requires c.in-Err.ensures.gap

pub returns-in-Err-clause-absent : goal.returns-in-Err-clause-absent
returns-in-Err-clause-absent c = (λ none. absent_there _ _ _ _ c.requires c.in-Err.ensures.gap, λ none. refl)
