use Rattle.session_core.proofs.Others.{others_serve, others_rest}
use Rattle.session_core.proofs.laws.what_feeders_say_stands_apart.Goals as goal

pub returns-clause-serves : goal.returns-clause-serves
returns-clause-serves c = others_serve

pub returns-clause-rests : goal.returns-clause-rests
returns-clause-rests c = others_rest
