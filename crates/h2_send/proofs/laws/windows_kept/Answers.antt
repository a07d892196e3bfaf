use Rattle.h2_send.proofs.Kept.{handled_kept, own_kept, others_kept}
use Rattle.h2_send.proofs.laws.windows_kept.Goals as goal

pub returns-clause-connection : goal.returns-clause-connection
returns-clause-connection c input line = handled_kept input line

pub returns-clause-own : goal.returns-clause-own
returns-clause-own c input line before s after is first second = own_kept input line before s after is first second

pub returns-clause-others : goal.returns-clause-others
returns-clause-others c input line id own differ = others_kept input line id own differ
