-- The octets of a stream: what was said on it, what of that has gone out, and what waits.
use Rattle.std.specs.Prelude.{ℕ, if◌then◌else◌, List, [], ◌∷◌, ◌++◌}
use Rattle.grpc_core.specs.Messages.{framed}
use Rattle.h2_frame.specs.Frames.{Frame}
use Rattle.h2_windows.specs.Pacing.{is_data_on}
use Rattle.h2_windows.specs.Streams.{is_stream}
use Rattle.h2_windows.specs.declared.stream.Stream.{Stream}
use Rattle.h2_events.specs.declared.said.Said.{Said}
use Rattle.h2_events.specs.declared.said.Said.TheVariants.{Message, Finish, Status}

-- the messages, each with the five octets that gRPC puts before it (PROTOCOL-HTTP2, "Length-Prefixed-Message")
abbrev pub octets_said : List Said → List ℕ
octets_said [] = []
octets_said (Message octets ∷ others) = framed octets ++ octets_said others
octets_said (Finish refusal ∷ others) = octets_said others
octets_said (Status status ∷ others) = octets_said others

-- the payloads of the DATA on a stream, joined
abbrev pub data_on : ℕ → List Frame → List ℕ
data_on id [] = []
data_on id (frame ∷ frames) =
    if is_data_on id frame then frame.payload ++ data_on id frames else data_on id frames

-- the octets that wait on the stream that has the number
abbrev pub waiting_on : ℕ → List Stream → List ℕ
waiting_on id [] = []
waiting_on id (s ∷ streams) = if is_stream id s then s.pending else waiting_on id streams
