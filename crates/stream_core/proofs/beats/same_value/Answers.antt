use Rattle.stream_laws.proofs.Equal.{tells_same}
use Rattle.stream_core.proofs.beats.same_value.Goals as goal

pub returns : goal.returns
returns c = tells_same _ _ _ c.same.ensures
