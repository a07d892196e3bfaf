use Rattle.std.proofs.Common.{◌≡◌, ◌++◌, arith}
use Rattle.generated_sets.specs.Connections.{frames_of_sets, opening, farewell}
use Rattle.generated_sets.proofs.Sets.{one_more, none_left}
use Rattle.generated_sets.proofs.connection.connection_of_sets.Goals as goal

pub sets-preserved : goal.sets-preserved
sets-preserved c = record {
  octets = one_more c.sets.out c.sets.left c.sets.stream c.sets.state c.state_behind-state.result c.drawn_at.result c.put_set.new.out (opening ++ frames_of_sets c.args.count 1 c.args.seed)
      c.sets-test.true c.state_behind-state.ensures c.drawn_at.ensures c.sets.invariant.octets c.in_ok-put_set.ensures;
  streams = omega (arith, c.sets-test.true, c.sets.invariant.streams);
}

pub returns : goal.returns
returns c =
    none_left c.sets.out c.sets.left c.sets.stream c.sets.state opening (frames_of_sets c.args.count 1 c.args.seed) farewell c.put_frame-2.new.out
    (omega (arith, c.sets-test.false)) c.sets.invariant.octets c.in_ok-put_frame-2.ensures
