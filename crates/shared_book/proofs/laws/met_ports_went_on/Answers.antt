use Rattle.shared_book.proofs.Ending.{met_went_on}
use Rattle.shared_book.proofs.laws.met_ports_went_on.Goals as goal

pub returns : goal.returns
returns c = met_went_on
