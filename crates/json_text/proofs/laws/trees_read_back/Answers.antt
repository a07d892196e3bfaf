use Rattle.json_text.proofs.PathsBack.{container_back_at, scalar_back_at}
use Rattle.json_text.proofs.EntryPaths.{entry_back_at, no_entry_back_at}
use Rattle.json_text.proofs.TreesBack.{tree_back}
use Rattle.json_text.proofs.laws.trees_read_back.Goals as goal

pub returns-clause-root : goal.returns-clause-root
returns-clause-root c = tree_back

pub returns-clause-container : goal.returns-clause-container
returns-clause-container c = container_back_at

pub returns-clause-entry : goal.returns-clause-entry
returns-clause-entry c = entry_back_at

pub returns-clause-no_entry : goal.returns-clause-no_entry
returns-clause-no_entry c = no_entry_back_at

pub returns-clause-scalar : goal.returns-clause-scalar
returns-clause-scalar c = scalar_back_at
