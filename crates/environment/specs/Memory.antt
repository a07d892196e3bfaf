-- What an object in memory tells, which stands in the place of one of the environment. It fails in the calls of which its
-- list has the number. The calls are numbered from 1; the number stands still at the end of its type, as counts do.
use Rattle.std.specs.Prelude.{ℕ, ◌+◌, ◌-◌, ◌^◌, min, List, drop, Bool, true, Contains, decimal, Some}
use Rattle.environment.specs.Input.{Input, input_after, input_with_fault}
use Rattle.environment.specs.Output.{Output, output_with, output_with_fault}

-- the count after one more
abbrev pub next_count : ℕ → ℕ
next_count count = min (count + 1) (2 ^ 64 - 1)

-- one of the texts is the number, in decimal and without leading zeros
abbrev pub Lists : List (List ℕ) → ℕ → Type 0
Lists texts number = Contains texts (decimal number)

-- a source: the octets that are left, what is seen of it beside them, the calls so far, and the numbers of those that fail
pub record SourceState : Type 0 where
  pub octets : List ℕ
  pub past : Input
  pub calls : ℕ
  pub fails : List (List ℕ)

-- a sink: what it has taken, the calls so far, the numbers of those that fail, and whether it has wanted memory
pub record SinkState : Type 0 where
  pub seen : Output
  pub calls : ℕ
  pub fails : List (List ℕ)
  pub starved : Bool

-- what is seen of a source, which tells what is left
abbrev pub input_of : SourceState → Input
input_of s = record s.past { left = Some s.octets }

-- after so many calls the next one fails by the list
abbrev pub IsToFail : List (List ℕ) → ℕ → Type 0
IsToFail fails calls = Lists fails (next_count calls)

-- the source after a call that gave so many octets into the buffer
abbrev pub source_after : ℕ → List ℕ → SourceState → SourceState
source_after n buffer s = record s {
  octets = drop n s.octets;
  past = input_after n buffer s.past;
  calls = next_count s.calls;
}

-- the source after a call that failed
abbrev pub source_with_fault : SourceState → SourceState
source_with_fault s = record s { past = input_with_fault s.past; calls = next_count s.calls }

-- the sink after a call that took the piece
abbrev pub sink_with : List ℕ → SinkState → SinkState
sink_with piece s = record s { seen = output_with piece s.seen; calls = next_count s.calls }

-- the sink after a call that failed by the list
abbrev pub sink_with_fault : SinkState → SinkState
sink_with_fault s = record s { seen = output_with_fault s.seen; calls = next_count s.calls }

-- the sink after a call that failed for want of memory
abbrev pub starved_sink : SinkState → SinkState
starved_sink s = record s {
  seen = output_with_fault s.seen;
  calls = next_count s.calls;
  starved = true;
}
