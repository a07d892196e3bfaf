-- The checksum of frames.
use Rattle.std.specs.Prelude.{ℕ}
use Rattle.h2_frame.specs.Frames.{Frame}
use Rattle.benches.specs.Checksum.{added}

-- the fields of the head, one after another
abbrev pub mixed : ℕ → Frame → ℕ
mixed before frame =
    added (added (added (added before frame.head.length) frame.head.kind) frame.head.flags)
    frame.head.stream
