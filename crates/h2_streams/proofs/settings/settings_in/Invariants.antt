use Rattle.std.proofs.Common.{◌≡◌, length}
use Rattle.h2_streams.specs.Payloads.{with_settings}
use Rattle.h2_streams.proofs.settings.settings_in.Given as goal

abbrev pub invariant-loop-rest : goal.invariant-loop-rest
invariant-loop-rest l = with_settings l.rest l.told ≡ with_settings l.payload l.initial.told

abbrev pub decreases-loop-rest : goal.decreases-loop-rest
decreases-loop-rest l = length l.rest
