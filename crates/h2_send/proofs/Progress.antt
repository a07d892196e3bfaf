-- What a port knows of a connection that others have ports to.
use Rattle.std.proofs.Common.{◌≡◌, ℕ, ◌<◌, Bool, List, [], ◌∷◌, ◌++◌, refl, sym, ap, subst, arith}
use Rattle.environment.specs.Output.{Output}
use Rattle.h2_events.specs.Items.{said_by}
use Rattle.h2_events.specs.Ports.{FitsMessage}
use Rattle.h2_events.specs.declared.said.Piece.{Piece}
use Rattle.h2_events.specs.declared.port.Took.{Took}
use Rattle.h2_events.specs.declared.port.Took.TheVariants as took
use Rattle.h2_events.specs.declared.port.Ready.{Ready}
use Rattle.h2_events.specs.declared.port.Ready.TheVariants as ready
use Rattle.h2_send.specs.Inputs.{Input, Speech}
use Rattle.h2_send.specs.Lines.{Line, first_line}
use Rattle.h2_send.specs.Acting.{handled}
use Rattle.h2_send.specs.Orders.{line_after}
use Rattle.h2_send.specs.Accepting.{AreAccepted}
use Rattle.h2_send.specs.Port.{Progress, Ends, GoesOn, Tries, Offers, line_of, ready_in}
use Rattle.h2_send.specs.declared.condition.Condition.TheVariants as condition
use Rattle.h2_send.proofs.Holding.{accepted_more, accepts_piece, ready_free}

accepted-append : (line : Line) (inputs others : List Input) → AreAccepted line inputs → AreAccepted (line_after line inputs) others → AreAccepted line (inputs ++ others)
accepted-append line [] others are more = more
accepted-append line (i ∷ inputs) others are more = (are.0, accepted-append (handled i line).line inputs others are.1 more)

-- Inputs that were accepted stay so, whatever others give,
pub accepted_on : (old new : Progress) → AreAccepted first_line old.inputs → GoesOn old new → AreAccepted first_line new.inputs
accepted_on old new are goes = subst (λ is. AreAccepted first_line is) (sym goes.inputs) (accepted-append first_line old.inputs goes.others are goes.accepted)

spoken : (stream : ℕ) (given : Piece) (found new : Progress) → FitsMessage given → AreAccepted first_line found.inputs → ready_in stream found ≡ ready.Free → new.inputs ≡ found.inputs ++ Speech stream (said_by given) ∷ [] → AreAccepted first_line new.inputs
spoken stream given found new fits are is grows =
    subst (λ is. AreAccepted first_line is) (sym grows)
    (accepted_more first_line found.inputs (Speech stream (said_by given)) are (accepts_piece stream given (line_of found) fits (ready_free found.condition stream (line_of found) is)))

-- and with what is offered.
tried : (stream : ℕ) (given : Piece) (found new : Progress) (d : Ready) (answer : Took) → FitsMessage given → AreAccepted first_line found.inputs → ready_in stream found ≡ d → Tries d answer (Speech stream (said_by given)) found new → AreAccepted first_line new.inputs
tried stream given found new ready.Free took.Taken fits are is (wrote, grows, state) = spoken stream given found new fits are is grows
tried stream given found new ready.Free took.WriteFault fits are is (failed, grows, state) = spoken stream given found new fits are is grows
tried stream given found new ready.Free took.NoMemory fits are is (same, grows, state) = spoken stream given found new fits are is grows
tried stream given found new ready.Free took.Busy fits are is never = absurd never
tried stream given found new ready.Free took.Gone fits are is never = absurd never
tried stream given found new ready.Busy answer fits are is (e, same) = subst (λ (p : Progress). AreAccepted first_line p.inputs) (sym same) are
tried stream given found new ready.Gone answer fits are is (e, same) = subst (λ (p : Progress). AreAccepted first_line p.inputs) (sym same) are

pub accepted_by_offer : (is_alone : Bool) (answer : Took) (stream : ℕ) (given : Piece) (old new : Progress) → FitsMessage given → AreAccepted first_line old.inputs → Offers is_alone answer stream (said_by given) old new → AreAccepted first_line new.inputs
accepted_by_offer is_alone answer stream given old new fits are o =
    tried stream given o.found new (ready_in stream o.found) answer fits (accepted_on old o.found are o.goes_on) refl o.tries

-- A write fault that closed an open connection raised the count.
pub faults_rise : (old new : Progress) → GoesOn old new → old.condition ≡ condition.Open → new.condition ≡ condition.WriteFault → old.output.faults < new.output.faults
faults_rise old new goes was is = by (subst (λ state. Ends state (line_of old) goes.others old.output new.output) is (goes.ended was))
  where
    by : Ends condition.WriteFault (line_of old) goes.others old.output new.output → old.output.faults < new.output.faults
    by (code, (n, less, last)) = let e = ap (λ (o : Output). o.faults) last in omega (arith, e)
