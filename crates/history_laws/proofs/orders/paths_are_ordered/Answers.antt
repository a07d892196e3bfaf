use Rattle.history_laws.proofs.PathOrder.{path_total, tells_paths_apart}
use Rattle.history_laws.proofs.orders.paths_are_ordered.Goals as goal

pub returns : goal.returns
returns c = record { total = path_total; exact = tells_paths_apart }
