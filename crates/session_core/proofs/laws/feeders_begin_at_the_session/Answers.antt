use Rattle.session_core.proofs.FeederRuns.{fed_streams_none_older, feeders_begin, feeders_find, none_older}
use Rattle.session_core.proofs.laws.feeders_begin_at_the_session.Goals as goal

pub returns-clause-begin : goal.returns-clause-begin
returns-clause-begin c = feeders_begin

pub returns-clause-earlier : goal.returns-clause-earlier
returns-clause-earlier c = feeders_find

pub returns-clause-say : goal.returns-clause-say
returns-clause-say c = none_older

pub returns-clause-streams : goal.returns-clause-streams
returns-clause-streams c = fed_streams_none_older
