use Rattle.std.proofs.Common.{sym, subst, ap, arith}
use Rattle.stream_workers.specs.Feeders.{AreUnder}
use Rattle.stream_workers.proofs.Ends.{started_of_more}
use Rattle.stream_workers.proofs.Jobs.{all_stay, all_under, back_can_meet, back_has_lock, back_met, is_started, same_view}
use Rattle.stream_workers.proofs.Ports.{both_stay, twins_made}
use Rattle.stream_workers.proofs.feeders.Feeders.start.Goals as goal

-- ---- no room

pub invariant_of-self : goal.invariant_of-self
invariant_of-self g c = subst (AreUnder c.self.inside.schema) (sym c.reserve.ensures.items) c.self.invariant

pub returns-in_default-clause-none : goal.returns-in_default-clause-none
returns-in_default-clause-none g c = same_view g.P.BookPort.port _ _ _ _ c.reserve.ensures.items c.self.view_is

pub returns-in_default-clause-ports : goal.returns-in_default-clause-ports
returns-in_default-clause-ports g c = both_stay (g.P.BookPort.port c.args.book.now) c.args.wire.now

pub returns-in_default-clause-all : goal.returns-in_default-clause-all
returns-in_default-clause-all g c =
    all_stay _ _ _ _ _ _ (both_stay (g.P.BookPort.port c.args.book.now) c.args.wire.now) (same_view g.P.BookPort.port _ _ _ _ c.reserve.ensures.items c.self.view_is)

-- ---- no tools

pub invariant_of-self-in_default-tools_of : goal.invariant_of-self-in_default-tools_of
invariant_of-self-in_default-tools_of g c = subst (AreUnder c.self.inside.schema) (sym c.reserve.ensures.items) c.self.invariant

pub returns-in_default-tools_of-clause-none : goal.returns-in_default-tools_of-clause-none
returns-in_default-tools_of-clause-none g c = same_view g.P.BookPort.port _ _ _ _ c.reserve.ensures.items c.self.view_is

pub returns-in_default-tools_of-clause-ports : goal.returns-in_default-tools_of-clause-ports
returns-in_default-tools_of-clause-ports g c = both_stay (g.P.BookPort.port c.args.book.now) c.args.wire.now

pub returns-in_default-tools_of-clause-all : goal.returns-in_default-tools_of-clause-all
returns-in_default-tools_of-clause-all g c =
    all_stay _ _ _ _ _ _ (both_stay (g.P.BookPort.port c.args.book.now) c.args.wire.now) (same_view g.P.BookPort.port _ _ _ _ c.reserve.ensures.items c.self.view_is)

-- ---- no twins

pub invariant_of-self-in_default-twins : goal.invariant_of-self-in_default-twins
invariant_of-self-in_default-twins g c = subst (AreUnder c.self.inside.schema) (sym c.reserve.ensures.items) c.self.invariant

pub returns-in_default-twins-clause-none : goal.returns-in_default-twins-clause-none
returns-in_default-twins-clause-none g c = same_view g.P.BookPort.port _ _ _ _ c.reserve.ensures.items c.self.view_is

pub returns-in_default-twins-clause-ports : goal.returns-in_default-twins-clause-ports
returns-in_default-twins-clause-ports g c = c.in_default-twins.ensures.none

pub returns-in_default-twins-clause-all : goal.returns-in_default-twins-clause-all
returns-in_default-twins-clause-all g c =
    all_stay _ _ _ _ _ _ c.in_default-twins.ensures.none (same_view g.P.BookPort.port _ _ _ _ c.reserve.ensures.items c.self.view_is)

-- ---- a feeder

pub push_reserved-requires : goal.push_reserved-requires
push_reserved-requires g c = let room = c.in-Ok.ensures.ok in omega (arith, room)

pub invariant_of-self-in-Ok-start : goal.invariant_of-self-in-Ok-start
invariant_of-self-in-Ok-start g c =
    all_under g.P.BookPort.port c.self.inside.schema _ _ _ _ _ c.self.invariant c.reserve.ensures.items c.push_reserved.ensures.items c.in-Ok-start.ensures.ok c.in-Ok-tools_of.ensures

pub returns-in-Ok-start-clause-ok : goal.returns-in-Ok-start-clause-ok
returns-in-Ok-start-clause-ok g c =
    is_started g.P.BookPort.port c.self.inside.schema _ _ _ _ _ _ _ _ _ _ c.reserve.ensures.items c.push_reserved.ensures.items c.in-Ok-start.ensures.ok c.self.view_is c.in-Some.ensures.book c.in-Some.ensures.wire

pub returns-in-Ok-start-clause-ports : goal.returns-in-Ok-start-clause-ports
returns-in-Ok-start-clause-ports g c = twins_made _ _ _ _ _ _ c.in-Some.ensures.book c.in-Some.ensures.wire

pub returns-in-Ok-start-clause-all : goal.returns-in-Ok-start-clause-all
returns-in-Ok-start-clause-all g c =
    started_of_more _ _ _ _ _ _ _ _ (twins_made _ _ _ _ _ _ c.in-Some.ensures.book c.in-Some.ensures.wire)
    (is_started g.P.BookPort.port c.self.inside.schema _ _ _ _ _ _ _ _ _ _ c.reserve.ensures.items c.push_reserved.ensures.items c.in-Ok-start.ensures.ok c.self.view_is c.in-Some.ensures.book c.in-Some.ensures.wire)

-- ---- the job comes back

pub meet_ports-requires-clause-book : goal.meet_ports-requires-clause-book
meet_ports-requires-clause-book g c = back_can_meet g.P.BookPort.port _ _ _ _ c.in-Err.ensures.back c.in-Some.ensures.book

pub meet_ports-requires-clause-wire : goal.meet_ports-requires-clause-wire
meet_ports-requires-clause-wire g c = back_has_lock g.P.BookPort.port _ _ _ _ c.in-Err.ensures.back c.in-Some.ensures.wire

pub invariant_of-self-in-Err : goal.invariant_of-self-in-Err
invariant_of-self-in-Err g c = subst (AreUnder c.self.inside.schema) (sym c.reserve.ensures.items) c.self.invariant

pub returns-in-Err-clause-plan : goal.returns-in-Err-clause-plan
returns-in-Err-clause-plan g c = ap (λ job. job.plan) c.in-Err.ensures.back

pub returns-in-Err-clause-none : goal.returns-in-Err-clause-none
returns-in-Err-clause-none g c = same_view g.P.BookPort.port _ _ _ _ c.reserve.ensures.items c.self.view_is

pub returns-in-Err-clause-ports : goal.returns-in-Err-clause-ports
returns-in-Err-clause-ports g c =
    back_met g.P.BookPort.port _ _ _ _ _ _ _ _ c.in-Err.ensures.back c.in-Some.ensures.book c.meet_ports.ensures.book c.in-Some.ensures.wire c.meet_ports.ensures.wire

pub returns-in-Err-clause-all : goal.returns-in-Err-clause-all
returns-in-Err-clause-all g c =
    all_stay _ _ _ _ _ _ (back_met g.P.BookPort.port _ _ _ _ _ _ _ _ c.in-Err.ensures.back c.in-Some.ensures.book c.meet_ports.ensures.book c.in-Some.ensures.wire c.meet_ports.ensures.wire)
    (same_view g.P.BookPort.port _ _ _ _ c.reserve.ensures.items c.self.view_is)
