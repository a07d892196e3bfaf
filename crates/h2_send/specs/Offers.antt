-- Streams on which something is said.
use Rattle.std.specs.Prelude.{ℕ, ◌+◌, ◌≤◌, Bool, true, ◌&&◌, nat_lt, if◌then◌else◌, List, [], ◌∷◌, length, Option, Some, None}
use Rattle.std.specs.List.{list_any, find}
use Rattle.h2_windows.specs.Streams.{is_stream}
use Rattle.h2_windows.specs.Holding.{counted}
use Rattle.h2_windows.specs.declared.stream.Stream.{Stream}
use Rattle.h2_events.specs.declared.port.Ready.{Ready}
use Rattle.h2_events.specs.declared.port.Ready.TheVariants.{Free, Busy, Gone}

-- octets of the stream wait
abbrev pub waits : Stream → Bool
waits s = nat_lt 0 (length s.pending)

-- Octets wait on the stream that has the number, or none do, or no stream has it.
abbrev pub ready_on : ℕ → List Stream → Ready
ready_on id streams =
    if list_any (λ s. is_stream id s && waits s) streams then Busy
    else if list_any (is_stream id) streams then Free
    else Gone

-- the HEADERS of the stream that has the number are sent
abbrev pub has_begun : ℕ → List Stream → Bool
has_begun id streams = list_any (λ s. is_stream id s && s.begun) streams

-- its HEADERS are sent, and these octets are taken and wait
abbrev pub with_octets : List ℕ → Stream → Stream
with_octets octets s =
    record s { begun = true; taken = counted (s.taken + length octets); pending = octets }

-- the octets wait on the stream that has the number
abbrev pub loaded : ℕ → List ℕ → List Stream → List Stream
loaded id octets [] = []
loaded id octets (s ∷ streams) =
    if is_stream id s then with_octets octets s ∷ streams else s ∷ loaded id octets streams

-- how many octets were taken on the stream that has the number; 0 where none has it
abbrev pub taken_by : Option Stream → ℕ
taken_by None = 0
taken_by (Some s) = s.taken

abbrev pub taken_on : ℕ → List Stream → ℕ
taken_on id streams = taken_by (find (is_stream id) streams)

-- what is a status of HTTP: three digits
abbrev pub IsStatus : ℕ → Type 0
IsStatus status = (100 ≤ status) × (status ≤ 999)
