use Rattle.script_run.proofs.ScriptLaws.{bad_request_changes_nothing}
use Rattle.script_run.proofs.laws.bad_requests_change_nothing.Goals as goal

pub returns : goal.returns
returns c = bad_request_changes_nothing
