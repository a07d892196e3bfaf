-- Frames as the octets that a sink gets.
use Rattle.std.specs.Prelude.{ℕ, List, Result, MatchResult}
use Rattle.std.specs.List.{flat_map}
use Rattle.environment.specs.Output.{Output, Wrote, FailedWithin}
use Rattle.h2_frame.specs.Frames.{Frame, spelling}

-- a frame as it is sent
unfoldable pub spelled : Frame → List ℕ
spelled frame = spelling frame

abbrev pub octets_of : List Frame → List ℕ
octets_of frames = flat_map spelled frames

-- all of the octets are written where a call answers Ok, and else a proper front of them, when a write failed
abbrev pub WritesOctets : {T E : Type 0} → Result T E → List ℕ → Output → Output → Type 0
WritesOctets result octets old new =
    MatchResult result (λ _. Wrote octets old new) (λ _. FailedWithin octets old new)

abbrev pub Writes : {T E : Type 0} → Result T E → List Frame → Output → Output → Type 0
Writes result frames old new = WritesOctets result (octets_of frames) old new
