use denote.Param.Send.{sendable}
use Rattle.std.proofs.Crossing.{crosses}
use Rattle.plain_tree.specs.contracts.plain_tree.PlainTreeTreeLike.TheImpl as trees
use Rattle.shared_book.proofs.Crossing.{visit_send}
use Rattle.program.specs.Environment.{seen_disk}
use Rattle.program.proofs.BookLeft.{accepts}
use Rattle.program.proofs.Crossing.{tree_send}
use Rattle.program.proofs.serve_command.accept.Goals as goal

pub serve_book-served-requires-send-P : goal.serve_book-served-requires-send-P
serve_book-served-requires-send-P g c =
    let visit = visit_send _ _ g.D.Disk trees.ghosts _ c.type_bounds.send-D tree_send c.type_bounds.send-R in
    search (sendable, crosses) depth 60 fits 10000

pub returns : goal.returns
returns g c =
    let served = c.serve_book-served in
    accepts g.E.Reader.Source.seen g.E.Writer.Sink.seen c.args.sessions served.result.ending served.result.links.items c.args.shared.port served.new.port (g.E.Door.seen c.args.door.now) (g.E.Door.seen served.new.door) (seen_disk g.D.Disk.told g.D.Disk.faults c.disk_of.result) served.ensures.serves served.ensures.authors c.disk_of.ensures
