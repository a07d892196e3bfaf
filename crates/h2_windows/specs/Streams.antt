-- The streams of a connection that are open and that this side has not ended, by rising number.
use Rattle.std.specs.Prelude.{ℕ, ◌<◌, Bool, not, nat_eq, nat_lt, if◌then◌else◌, List, [], ◌∷◌, map, pos, ◌+ℤ◌, false}
use Rattle.std.specs.List.{AllByRecursion, filter, list_any, insert, position_or_len}
use Rattle.h2_windows.specs.declared.stream.Stream.{Stream}

abbrev pub is_stream : ℕ → Stream → Bool
is_stream id s = nat_eq s.id id

-- a stream on which nothing was sent, and to which nothing was granted beside the initial window
abbrev pub new_stream : ℕ → Stream
new_stream id = record { id = id; begun = false; credit = pos 0; taken = 0; pending = [] }

-- with a new stream, in its place
abbrev pub opened : ℕ → List Stream → List Stream
opened id streams =
    if list_any (is_stream id) streams then streams
    else insert streams (position_or_len (λ s. nat_lt id s.id) streams) (new_stream id)

-- without the stream that has the number
abbrev pub without : ℕ → List Stream → List Stream
without id streams = filter (λ s. not (is_stream id s)) streams

-- WINDOW_UPDATE of a stream (RFC 9113 section 6.9)
abbrev pub granted_to : ℕ → ℕ → Stream → Stream
granted_to id n s = if is_stream id s then record s { credit = s.credit +ℤ pos n } else s

abbrev pub granted : ℕ → ℕ → List Stream → List Stream
granted id n streams = map (granted_to id n) streams

-- all of them have higher numbers
abbrev pub AreAbove : ℕ → List Stream → Type 0
AreAbove id streams = AllByRecursion (λ s. id < s.id) streams

-- by rising number, so that each number is there once at most
abbrev pub AreRising : List Stream → Type 0
AreRising [] = Unit {0}
AreRising (s ∷ streams) = AreAbove s.id streams × AreRising streams
