use Rattle.std.proofs.Common.{◌≡◌, ◌≤◌, length, take}
use Rattle.script_run.specs.ScriptOctets.{to_last_feed}
use Rattle.script_run.proofs.limit.to_last_feed.Given as goal

-- no line feed stands behind this front
abbrev pub invariant-octets : goal.invariant-octets
invariant-octets l = record {
  within : l.end ≤ length l.text;
  front : to_last_feed (take l.end l.text) ≡ to_last_feed l.text;
}

abbrev pub decreases-octets : goal.decreases-octets
decreases-octets l = l.end
