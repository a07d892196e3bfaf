use Rattle.grpc_requests.specs.Requests.{requests_with}
use Rattle.grpc_requests.proofs.Tables.{requests_more}
use Rattle.session_core.proofs.session.hear.Goals as goal

-- where the table wants memory, the requests are owed
pub returns-in-Err-clause-hears : goal.returns-in-Err-clause-hears
returns-in-Err-clause-hears g c = λ fed before moments inputs all. record {
  waiting = c.args.kept.waiting;
  owed = requests_with c.args.calls.now.table c.args.event.now;
  calls = c.args.kept.calls;
  at = all (requests_with c.args.calls.now.table c.args.event.now) (requests_more c.args.calls.now.table c.args.event.now);
}
