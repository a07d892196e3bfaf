use Rattle.h2_send.proofs.ReplyFitting.{opening_fits, ending_fits, status_fits}
use Rattle.h2_send.proofs.reply_laws.replies_fit.Goals as goal

pub returns-clause-opening : goal.returns-clause-opening
returns-clause-opening c begun owes id small = opening_fits begun owes id small

pub returns-clause-ending : goal.returns-clause-ending
returns-clause-ending c begun owes id refusal small = ending_fits begun owes id refusal small

pub returns-clause-status : goal.returns-clause-status
returns-clause-status c owes id status small less = status_fits owes id status small less
