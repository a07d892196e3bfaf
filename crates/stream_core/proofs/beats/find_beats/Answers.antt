use Rattle.std.proofs.Common.{arith, ◌∙◌, rules, get_or, false}
use Rattle.stream_laws.specs.Beats.{TurnInput}
use Rattle.sub_plan.specs.declared.plan.GroupSort.TheVariants.{Change}
use Rattle.stream_laws.specs.declared.kinds.GroupState.{GroupState}
use Rattle.stream_core.proofs.Beating.{beat_found, beat_written}
use Rattle.stream_core.proofs.beats.find_beats.Goals as goal

abbrev no_state : GroupState
no_state = record { group = record { sort = Change; interval = 0; suppress = false; heartbeat = 0 }; last = 0; full = 0 }

pub loop-number-preserved : goal.loop-number-preserved
loop-number-preserved c =
    let turn_input : TurnInput = record { lines = c.args.lines.now; groups = c.args.states.now; sent = c.args.sent.now; rows = c.args.rows.now; time = c.args.time } in
    record {
      room = search rules;
      found = beat_written turn_input c.args.states.now c.loop-number.beats c.loop-number.number _ _ c.loop-number.invariant.room c.loop-number-test.true c.loop-number.invariant.found
          (c.beat_of.ensures ∙ beat_found turn_input c.loop-number.number c.args.found.now c.find_rows.new.found (record { differs = false; some = false }) (get_or c.args.states.now c.loop-number.number no_state) (omega (arith, c.loop-number-test.true, c.requires.found)) c.find_rows.ensures.found);
    }
