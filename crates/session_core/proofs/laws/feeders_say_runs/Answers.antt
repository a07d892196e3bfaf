use Rattle.session_core.proofs.FeederRuns.{feeders_say, fed_streams_say}
use Rattle.session_core.proofs.laws.feeders_say_runs.Goals as goal

pub returns-clause-messages : goal.returns-clause-messages
returns-clause-messages c = feeders_say

pub returns-clause-streams : goal.returns-clause-streams
returns-clause-streams c = fed_streams_say
