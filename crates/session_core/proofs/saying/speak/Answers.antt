use Rattle.h2_events.specs.declared.said.Said.TheVariants.{Message, Finish, Status}
use Rattle.session_core.proofs.Words.{speaks_as, unsaid}
use Rattle.session_core.proofs.saying.speak.Goals as goal

pub returns-else-len-gt-MOST_MESSAGE-clause-speaks : goal.returns-else-len-gt-MOST_MESSAGE-clause-speaks
returns-else-len-gt-MOST_MESSAGE-clause-speaks g c =
    speaks_as c.args.stream c.args.said (Message c.in-Message.octets) c.say.result c.of_took.result (g.W.Sending.history c.args.wire.now).others (g.W.Sending.history c.say.new.self).others (g.W.Sending.progress c.args.wire.now) (g.W.Sending.progress c.say.new.self)
    c.in-Message.is c.of_took.ensures c.say.ensures.says

pub returns-in-Finish-clause-speaks : goal.returns-in-Finish-clause-speaks
returns-in-Finish-clause-speaks g c =
    speaks_as c.args.stream c.args.said (Finish c.in-Finish.refusal) c.say-in-Finish.result c.of_took-in-Finish.result (g.W.Sending.history c.args.wire.now).others (g.W.Sending.history c.say-in-Finish.new.self).others (g.W.Sending.progress c.args.wire.now) (g.W.Sending.progress c.say-in-Finish.new.self)
    c.in-Finish.is c.of_took-in-Finish.ensures c.say-in-Finish.ensures.says

pub returns-else-status-gt999-clause-speaks : goal.returns-else-status-gt999-clause-speaks
returns-else-status-gt999-clause-speaks g c =
    speaks_as c.args.stream c.args.said (Status c.in-Status.status) c.http.result c.of_took-in-Status.result (g.W.Sending.history c.args.wire.now).others (g.W.Sending.history c.http.new.self).others (g.W.Sending.progress c.args.wire.now) (g.W.Sending.progress c.http.new.self)
    c.in-Status.is c.of_took-in-Status.ensures c.http.ensures.says

pub returns-then-len-gt-MOST_MESSAGE-clause-speaks : goal.returns-then-len-gt-MOST_MESSAGE-clause-speaks
returns-then-len-gt-MOST_MESSAGE-clause-speaks g c = unsaid c.args.stream c.args.said (g.W.Sending.history c.args.wire.now).others (g.W.Sending.progress c.args.wire.now)

pub returns-then-status-lt100-clause-speaks : goal.returns-then-status-lt100-clause-speaks
returns-then-status-lt100-clause-speaks g c = unsaid c.args.stream c.args.said (g.W.Sending.history c.args.wire.now).others (g.W.Sending.progress c.args.wire.now)
