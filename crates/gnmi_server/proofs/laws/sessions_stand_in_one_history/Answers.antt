use Rattle.gnmi_server.proofs.Standing.{sessions_stand}
use Rattle.gnmi_server.proofs.laws.sessions_stand_in_one_history.Goals as goal

pub returns : goal.returns
returns g c = sessions_stand g.I.Source.seen g.O.Sink.seen
