use Rattle.std.proofs.Common.{◌≡◌, ℕ, List, length, fold}
use Rattle.h2_frame.specs.Frames.{Frame, FramesTo}
use Rattle.benches.specs.Frames.{mixed}
use Rattle.benches.proofs.frames.read_all.Given as goal

-- the frames of the octets are read, but for those of what is left
abbrev pub invariant-loop-head : goal.invariant-loop-head
invariant-loop-head l = (frames : List Frame) (rest : List ℕ) → FramesTo 16384 l.octets frames rest → (left : List Frame) × FramesTo 16384 l.rest left rest × (fold mixed l.before frames ≡ fold mixed l.checksum left)

abbrev pub decreases-loop-head : goal.decreases-loop-head
decreases-loop-head l = length l.rest
