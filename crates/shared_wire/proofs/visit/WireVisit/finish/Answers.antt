use Rattle.std.proofs.Common.{[], ◌∷◌, length, map, sym, ap, ◌∙◌, subst}
use Rattle.turn_lock.specs.Chronicles.{entries_past}
use Rattle.turn_lock.specs.Passes.{AreByOneOf}
use Rattle.shared_wire.specs.Records.{AreRecords, record_author}
use Rattle.shared_wire.specs.Visits.{AreOfPorts, AreOfThese, GivesBack, VisitView, end_of, ended_visit, visit_of}
use Rattle.shared_wire.proofs.Meeting.{same_numbers}
use Rattle.shared_wire.proofs.Owning.{of_ports, of_these}
use Rattle.shared_wire.proofs.Turning.{went_on_so, has_made, authors}
use Rattle.shared_wire.proofs.visit.WireVisit.finish.Goals as goal

pub returns : goal.returns
returns g c =
    let pass = c.self.inside.pass.seat in let e = c.last_of.ensures in let counts = c.self.inside.counts in
    subst (λ (o : VisitView). GivesBack g.S.Sink.seen o c.give.result) c.self.view_is (record {
      all = c.last_of.result.records;
      stands = c.give.ensures.stands;
      begins = went_on_so pass.table_id counts pass.me.0 e.0 c.last_of.result.records c.self.invariant.2 e.7 e.5 e.6 e.4 e.3 e.1 e.2 e.8;
      has_made = has_made pass.table_id counts pass.me.0 e.0 c.last_of.result.records c.self.invariant.2 e.7 e.5 e.6 e.4 e.3 e.1 e.2 e.8;
      differ = authors pass.table_id counts pass.me.0 e.0 c.last_of.result.records c.self.invariant.2 e.7 e.5 e.6 e.4 e.3 e.1 e.2 e.8;
      given_out = e.0.known;
      known = e.9;
      most = e.10;
      authors = subst (AreOfPorts e.0.known) (sym e.1) (of_ports e.0.first e.0.seen e.0.known (ap length (e.5 ∙ c.self.invariant.2.began)) (subst AreRecords e.1 c.give.ensures.stands.records) e.11);
      all_met = subst (AreOfThese (end_of (visit_of pass.table_id pass.me.0 counts) ∷ map ended_visit pass.me.0.ended)) (sym e.1) (of_these e.0.first e.0.seen (record { number = pass.me.0.turn.number; start = pass.me.0.start; seen = pass.me.0.seen; finds = pass.me.0.finds; made = pass.me.0.made; host_seen = [] }) pass.me.0.ended (ap length (e.5 ∙ c.self.invariant.2.began)) (subst AreRecords e.1 c.give.ensures.stands.records) (subst (λ ns. AreByOneOf record_author ns (entries_past e.0.first e.0.seen)) (same_numbers pass.me.0 e.0 e.7 e.4) e.12));
    })
