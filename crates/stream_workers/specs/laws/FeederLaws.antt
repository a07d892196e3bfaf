-- What others than the session did at its wire, once all feeders have ended.
use Rattle.std.specs.Prelude.{List, ◌∷◌}
use Rattle.std.specs.List.{AllByRecursion}
use Rattle.base_kinds.specs.Schema.{SchemaNode}
use Rattle.book_port.specs.Ports.{PortView}
use Rattle.shared_wire.specs.Records.{WireRecord, AreRecords}
use Rattle.shared_wire.specs.Visits.{AreOfThese, HasJustMade, VisitView, end_of, given_in, records_of_others}
use Rattle.stream_workers.specs.Ports.{IsUnused}
use Rattle.stream_workers.specs.Feeders.{AllEnd, IsOfFeeder, Started, streams_of}

-- Where the session's port had met unused ports alone before, all that others did, by records of the wire that are each of this
-- port or of one that it met then, is what feeders said, each on its stream.
abbrev pub OthersAreFeeders : Type 0
OthersAreFeeders = (schema : List SchemaNode) (started : List Started)
    (old_book new_book : PortView) (old_wire new_wire : VisitView) (all : List WireRecord)
    → (end : AllEnd schema started old_book old_wire new_book new_wire)
    → AllByRecursion IsUnused old_wire.met → AreRecords all
    → AreOfThese (end_of new_wire ∷ new_wire.met) all
    → AllByRecursion (HasJustMade all) new_wire.met
    → AllByRecursion (IsOfFeeder (streams_of end.feeders))
    (given_in (records_of_others new_wire.author all))
