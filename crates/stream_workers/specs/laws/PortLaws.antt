-- What making a twin and meeting one leave of a port.
use Rattle.std.specs.Prelude.{◌≡◌}
use Rattle.book_port.specs.Ports.{PortView, IsTwin, Meets}
use Rattle.shared_wire.specs.Visits.{VisitView, IsTwin as IsWireTwin, Meets as MeetsVisit}
use Rattle.stream_workers.specs.Ports.{own_port, own_visit}

abbrev pub TwinKeepsOwnPort : Type 0
TwinKeepsOwnPort = (old new twin : PortView) → IsTwin old new twin → own_port new ≡ own_port old

-- so it is where the one that is met has seen no more
abbrev pub MeetingKeepsOwnPort : Type 0
MeetingKeepsOwnPort = (old other new : PortView) → Meets old other new → other.seen ≡ old.seen
    → own_port new ≡ own_port old

abbrev pub TwinKeepsOwnVisit : Type 0
TwinKeepsOwnVisit = (old new twin : VisitView) → IsWireTwin old new twin
    → own_visit new ≡ own_visit old

abbrev pub MeetingKeepsOwnVisit : Type 0
MeetingKeepsOwnVisit = (old other new : VisitView) → MeetsVisit old other new
    → other.seen ≡ old.seen → own_visit new ≡ own_visit old
