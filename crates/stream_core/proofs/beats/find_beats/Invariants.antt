use Rattle.std.proofs.Common.{◌≡◌, take, length}
use Rattle.stream_laws.specs.Beats.{beats_from}
use Rattle.stream_core.proofs.beats.find_beats.Given as goal

-- the beats of the groups so far are there
abbrev pub invariant-loop-number : goal.invariant-loop-number
invariant-loop-number l = record {
  room : length l.beats ≡ length l.states;
  found : take l.number l.beats ≡ beats_from (record { lines = l.lines; groups = l.states; sent = l.sent; rows = l.rows; time = l.time }) 0 (take l.number l.states);
}
