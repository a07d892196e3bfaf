-- What the book of a port was opened with stays, and which book it is.
use Rattle.std.proofs.Common.{◌≡◌, inl, inr, ℕ, List, [], ◌∷◌, ap, ◌∙◌}
use Rattle.base_kinds.specs.Schema.{SchemaNode}
use Rattle.book_port.specs.Opened.{Opened}
use Rattle.book_port.specs.Ports.{PortView, TakesOne}
use Rattle.session_core.specs.declared.how.How.{How}
use Rattle.session_core.specs.Deeds.{Deed, Service, AreDone}
use Rattle.session_core.specs.Runs.{Outside, RunBeside, start_of}
use Rattle.session_core.specs.Serving.{deeds_in, first_service, service_of, standing_of}
use Rattle.session_core.specs.inner.Feeders.{book_of}
use Rattle.session_core.proofs.Chains.{same_book}
use Rattle.session_core.proofs.Moves.{Moved, moves}

one_opened : (old new : PortView) (turn : _) → TakesOne old turn new → new.opened ≡ old.opened
one_opened old new turn (inl (result, taken)) = ap (λ (p : PortView). p.opened) taken.new_is
one_opened old new turn (inr (result, taken)) = ap (λ (p : PortView). p.opened) taken.new_is

pub moved_opened : (deed : Deed) (old new : PortView) → Moved deed old new → new.opened ≡ old.opened
moved_opened deed old new (inl still) = ap (λ (p : PortView). p.opened) still.same
moved_opened deed old new (inr moved) = one_opened old new moved.turn moved.takes

-- deeds leave what the book of the port was opened with
pub deeds_opened : (schema : List SchemaNode) (old : Service) (deeds : List Deed) (new : Service) → AreDone schema old deeds new → new.port.opened ≡ old.port.opened
deeds_opened schema old [] new same = ap (λ (s : Service). s.port.opened) same
deeds_opened schema old (deed ∷ deeds) new (next, first, rest) =
    deeds_opened schema next deeds new rest ∙ moved_opened deed old.port next.port (moves schema deed old next deed.doing first)

pub same_whose : (schema : List SchemaNode) (old : Service) (deeds : List Deed) (new : Service) → AreDone schema old deeds new → book_of new.port ≡ book_of old.port
same_whose schema old deeds new done =
    ap (λ (o : Opened). (o, new.port.book)) (deeds_opened schema old deeds new done) ∙ ap (λ (b : List ℕ). (old.port.opened, b)) (same_book schema old deeds new done)

pub run_opened : {fed : List ℕ} (schema : List SchemaNode) (old : Outside) (how : How) (new : Outside) → RunBeside fed schema old how new → new.port.opened ≡ old.port.opened
run_opened {fed} schema old how new run = deeds_opened schema (first_service (start_of schema old)) (deeds_in run.served) (service_of (standing_of new.port run.calls new.readings run.round)) run.served.done
