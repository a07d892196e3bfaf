use Rattle.std.proofs.Common.{[], map, refl}
use Rattle.connection_server.proofs.Accepted.{accepts_none}
use Rattle.connection_server.proofs.Begun.{jobs_can, left_can, met_can}
use Rattle.connection_server.proofs.Chains.{meet_on}
use Rattle.connection_server.proofs.Ended.{ends_counted, ends_ended, ends_rise, spent_known}
use Rattle.connection_server.proofs.serving.serve_links.Goals as goal

pub returns-in_default-clause-serves : goal.returns-in_default-clause-serves
returns-in_default-clause-serves g c = record {
  jobs = [];
  dones = [];
  left = [];
  begun = g.P.BookPort.port c.args.port.now;
  begins = record {
    ports = [];
    last = g.P.BookPort.port c.args.port.now;
    twins = refl;
    new_is = refl;
    accepts = accepts_none g.D.Reader.Source.seen g.D.Writer.Sink.seen g.S.Session.link (g.M.Sessions.makes c.args.sessions.now) g.P.BookPort.port [] (g.D.Door.seen c.args.door.now);
    end = (refl, refl);
  };
  came = tt;
  ends_are = c.new.ensures.items;
  met = refl;
}

pub join-requires-clause-ports : goal.join-requires-clause-ports
join-requires-clause-ports g c = jobs_can g.D.Reader.Source.seen g.D.Writer.Sink.seen g.S.Session.link (g.M.Sessions.makes c.args.sessions.now) g.P.BookPort.port c.args.count c.begin-ending.result (g.P.BookPort.port c.args.port.now) (g.D.Door.seen c.args.door.now) c.begin-ending.new.running.items c.begin-ending.new.twins.items (g.P.BookPort.port c.begin-ending.new.port) (g.D.Door.seen c.begin-ending.new.door) c.begin-ending.ensures

pub meet_all-requires : goal.meet_all-requires
meet_all-requires g c =
    let port = g.P.BookPort.port in
    let left = left_can g.D.Reader.Source.seen g.D.Writer.Sink.seen g.S.Session.link (g.M.Sessions.makes c.args.sessions.now) port c.args.count c.begin-ending.result (port c.args.port.now) (g.D.Door.seen c.args.door.now) c.begin-ending.new.running.items c.begin-ending.new.twins.items (port c.begin-ending.new.port) (g.D.Door.seen c.begin-ending.new.door) c.begin-ending.ensures in
    met_can port (port c.begin-ending.new.port) (port c.join.new.port) (map (λ done. port done.port) c.join.ensures.dones) c.begin-ending.new.twins.items c.join.ensures.met left

pub returns-clause-serves : goal.returns-clause-serves
returns-clause-serves g c =
    let port = g.P.BookPort.port in
    record {
      jobs = c.begin-ending.new.running.items;
      dones = c.join.ensures.dones;
      left = c.begin-ending.new.twins.items;
      begun = port c.begin-ending.new.port;
      begins = c.begin-ending.ensures;
      came = c.join.ensures.came;
      ends_are = c.join.ensures.ends_are;
      met = meet_on (port c.begin-ending.new.port) (port c.join.new.port) (port c.meet_all.new.port) (map (λ done. port done.port) c.join.ensures.dones) (map port c.begin-ending.new.twins.items) c.join.ensures.met c.meet_all.ensures;
    }

pub returns-clause-end : goal.returns-clause-end
returns-clause-end g c = ends_ended g.D.Reader.Source.seen g.D.Writer.Sink.seen g.S.Session.link (g.M.Sessions.makes c.args.sessions.now) g.P.BookPort.port g.S.Session.serves g.S.Session.unserved c.args.count c.begin-ending.result c.join.new.ends.items (g.P.BookPort.port c.args.port.now) (g.D.Door.seen c.args.door.now) (g.P.BookPort.port c.meet_all.new.port) (g.D.Door.seen c.begin-ending.new.door) (returns-clause-serves g c)

pub returns-clause-numbers : goal.returns-clause-numbers
returns-clause-numbers g c = ends_counted g.D.Reader.Source.seen g.D.Writer.Sink.seen g.S.Session.link (g.M.Sessions.makes c.args.sessions.now) g.P.BookPort.port g.S.Session.serves g.S.Session.unserved c.args.count c.begin-ending.result c.join.new.ends.items (g.P.BookPort.port c.args.port.now) (g.D.Door.seen c.args.door.now) (g.P.BookPort.port c.meet_all.new.port) (g.D.Door.seen c.begin-ending.new.door) (returns-clause-serves g c)

pub returns-clause-authors : goal.returns-clause-authors
returns-clause-authors g c = ends_rise g.D.Reader.Source.seen g.D.Writer.Sink.seen g.S.Session.link (g.M.Sessions.makes c.args.sessions.now) g.P.BookPort.port g.S.Session.serves g.S.Session.unserved c.args.count c.begin-ending.result c.join.new.ends.items (g.P.BookPort.port c.args.port.now) (g.D.Door.seen c.args.door.now) (g.P.BookPort.port c.meet_all.new.port) (g.D.Door.seen c.begin-ending.new.door) (returns-clause-serves g c)

pub returns-clause-spent : goal.returns-clause-spent
returns-clause-spent g c = spent_known g.D.Reader.Source.seen g.D.Writer.Sink.seen g.S.Session.link (g.M.Sessions.makes c.args.sessions.now) g.P.BookPort.port g.S.Session.serves g.S.Session.unserved c.args.count c.begin-ending.result c.join.new.ends.items (g.P.BookPort.port c.args.port.now) (g.D.Door.seen c.args.door.now) (g.P.BookPort.port c.meet_all.new.port) (g.D.Door.seen c.begin-ending.new.door) (returns-clause-serves g c)
