use Rattle.std.proofs.Common.{length}
use Rattle.reference_model.proofs.rules.data_nodes.+nodes_exist.Given as goal

abbrev pub decreases-nodes_exist : goal.decreases-nodes_exist
decreases-nodes_exist l = length l.rows.now
