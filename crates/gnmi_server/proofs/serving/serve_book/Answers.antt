use Rattle.gnmi_server.proofs.Runs.{serves_book, serves_none}
use Rattle.gnmi_server.proofs.serving.serve_book.Goals as goal

pub returns-in-Ok-clause-serves : goal.returns-in-Ok-clause-serves
returns-in-Ok-clause-serves g c = serves_book g.D.Reader.Source.seen g.D.Writer.Sink.seen _ _ _ (λ session left is. is) c.args.count c.serve_links.result.ending c.serve_links.result.links.items c.args.port.now (g.D.Door.seen c.args.door.now) c.serve_links.new.port (g.D.Door.seen c.serve_links.new.door) c.serve_links.ensures.serves

pub returns-in-Err-clause-serves : goal.returns-in-Err-clause-serves
returns-in-Err-clause-serves g c = serves_none g.D.Reader.Source.seen g.D.Writer.Sink.seen c.args.count _ c.args.port.now (g.D.Door.seen c.args.door.now) c.new.ensures.items
