use Rattle.h2_streams.proofs.LawLemmas.{keeps_others}
use Rattle.h2_streams.proofs.laws.others_stay.Goals as goal

pub returns : goal.returns
returns c = keeps_others
