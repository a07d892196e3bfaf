use Rattle.h2_windows.proofs.Rising.{opened_rise, without_rise, granted_rise, sent_rise, once}
use Rattle.h2_windows.proofs.laws.streams_stay_rising.Goals as goal

pub returns-clause-opened : goal.returns-clause-opened
returns-clause-opened c id streams rise = opened_rise id streams rise

pub returns-clause-without : goal.returns-clause-without
returns-clause-without c id streams rise = without_rise id streams rise

pub returns-clause-granted : goal.returns-clause-granted
returns-clause-granted c id increment streams rise = granted_rise id increment streams rise

pub returns-clause-sent : goal.returns-clause-sent
returns-clause-sent c initial window streams rise = sent_rise initial window streams rise

pub returns-clause-once : goal.returns-clause-once
returns-clause-once c before s after rise = once before s after rise
