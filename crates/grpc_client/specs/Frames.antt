-- Frames as a source gives their octets (RFC 9113 section 4.1).
use Rattle.std.specs.Prelude.{◌≡◌, ℕ, ◌+◌, ◌*◌, ◌%◌, ◌^◌, ◌<◌, ◌≤◌, List, ◌++◌, length, slice_index}
use Rattle.environment.specs.Input.{Input, Read, FailedAfter, IsEnded}
use Rattle.h2_frame.specs.declared.frame.Head.{Head}
use Rattle.h2_frame.specs.Frames.{IsTooLong}
use Rattle.h2_events.specs.Events.{largest_frame}
use Rattle.grpc_client.specs.declared.octets.WholeFrame.{WholeFrame}
use Rattle.grpc_client.specs.declared.octets.ReadEnd.{ReadEnd}
use Rattle.grpc_client.specs.declared.octets.ReadEnd.TheVariants as end

-- the head that the first nine octets are, whichever the reserved bit is
abbrev pub head_at : List ℕ → Head
head_at o = record {
  length = slice_index o 0 * 65536 + slice_index o 1 * 256 + slice_index o 2;
  kind = slice_index o 3;
  flags = slice_index o 4;
  stream = slice_index o 5 % 128 * 16777216 + slice_index o 6 * 65536 + slice_index o 7 * 256
      + slice_index o 8;
}

-- just so many octets were read
pub record Fills (count : ℕ) (octets : List ℕ) (old new : Input) : Type 0 where
  pub read : Read octets old new
  pub full : length octets ≡ count

-- Octets were read, and then no further one: the end was found, a read failed, or memory ran out.
abbrev pub StopsFilling : ReadEnd → Input → Input → Type 0
StopsFilling end.Ended old new = (octets : List ℕ) × Read octets old new × IsEnded new
StopsFilling end.Failed old new = (octets : List ℕ) × FailedAfter octets old new
StopsFilling end.TooLong old new = ⊥
StopsFilling end.NoMemory old new = (octets : List ℕ) × Read octets old new

-- Nine octets were read, and then as many octets of payload as they state.
pub record IsFrameOf (frame : WholeFrame) (old new : Input) : Type 0 where
  pub nine : List ℕ
  pub read : Read (nine ++ frame.payload) old new
  pub nine_are : length nine ≡ 9
  pub nine_fit : (i : ℕ) → slice_index nine i < 2 ^ 8
  pub head_is : frame.head ≡ head_at nine
  pub whole : length frame.payload ≡ frame.head.length
  pub allowed : frame.head.length ≤ largest_frame

-- No whole frame was read: because the octets ended, a read failed, the frame is too long, or memory ran out.
abbrev pub StopsReading : ReadEnd → Input → Input → Type 0
StopsReading end.Ended old new = (octets : List ℕ) × Read octets old new × IsEnded new
StopsReading end.Failed old new = (octets : List ℕ) × FailedAfter octets old new
StopsReading end.TooLong old new =
    (octets : List ℕ) × Read octets old new × IsTooLong largest_frame octets
StopsReading end.NoMemory old new = (octets : List ℕ) × Read octets old new
