use Rattle.script_run.proofs.Streams.{streams_are_runs, opens_say, once_says, polls_say, turns_say, runs_are_kept}
use Rattle.script_run.proofs.laws.streams_are_runs.Goals as goal

pub returns-clause-runs : goal.returns-clause-runs
returns-clause-runs c = streams_are_runs

pub returns-clause-opens : goal.returns-clause-opens
returns-clause-opens c = opens_say

pub returns-clause-once : goal.returns-clause-once
returns-clause-once c = once_says

pub returns-clause-polls : goal.returns-clause-polls
returns-clause-polls c = polls_say

pub returns-clause-turns : goal.returns-clause-turns
returns-clause-turns c = turns_say

pub returns-clause-kept : goal.returns-clause-kept
returns-clause-kept c = runs_are_kept
