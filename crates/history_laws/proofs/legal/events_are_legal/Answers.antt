use Rattle.history_laws.proofs.Given.{accepted_is_given, expiry_is_given, events_are_legal}
use Rattle.history_laws.proofs.Reached.{legal_is_reached}
use Rattle.history_laws.proofs.legal.events_are_legal.Goals as goal

pub returns : goal.returns
returns c = record { accepted = accepted_is_given; expiry = expiry_is_given; all = events_are_legal; reached = legal_is_reached }
