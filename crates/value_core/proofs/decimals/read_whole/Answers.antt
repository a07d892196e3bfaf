use Rattle.value_core.proofs.DecimalTexts.{no_whole, unread_whole, whole_if_some}
use Rattle.value_core.proofs.Outcomes.{none_by}
use Rattle.value_core.proofs.decimals.read_whole.Goals as goal

pub returns-in-None-clause-none : goal.returns-in-None-clause-none
returns-in-None-clause-none c = no_whole c.args.octets.now c.in-None.ensures

pub returns-in-Some-clause-none : goal.returns-in-Some-clause-none
returns-in-Some-clause-none c = none_by _ (unread_whole c.args.octets.now c.in-Some.front.now c.in-Some.ensures) c.read_integer.ensures.none

pub returns-in-Some-clause-some : goal.returns-in-Some-clause-some
returns-in-Some-clause-some c = whole_if_some c.args.octets.now c.in-Some.front.now c.read_integer.result c.in-Some.ensures c.read_integer.ensures.some c.read_integer.ensures.held
