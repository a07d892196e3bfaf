-- Flags and kinds of frames (RFC 9113 section 6), and what this side takes at most.
use Rattle.std.specs.Prelude.{ℕ, Bool, not, ◌==◌, bit_and, if◌then◌else◌}
use Rattle.h2_frame.specs.Kinds.{data_kind, headers_kind, priority_kind, rst_stream_kind, settings_kind, push_promise_kind, ping_kind, goaway_kind, window_update_kind, continuation_kind}
use Rattle.h2_streams.specs.declared.kind.Kind.{Kind}
use Rattle.h2_streams.specs.declared.kind.Kind.TheVariants as kind

-- a flag is set
abbrev pub has : ℕ → ℕ → Bool
has flag flags = not (bit_and flags flag == 0)

-- a frame's kind by its number
abbrev pub kind_of : ℕ → Kind
kind_of number =
    if number == data_kind then kind.Data
    else if number == headers_kind then kind.Headers
    else if number == priority_kind then kind.Priority
    else if number == rst_stream_kind then kind.RstStream
    else if number == settings_kind then kind.Settings
    else if number == push_promise_kind then kind.PushPromise
    else if number == ping_kind then kind.Ping
    else if number == goaway_kind then kind.GoAway
    else if number == window_update_kind then kind.WindowUpdate
    else if number == continuation_kind then kind.Continuation
    else kind.Unknown

-- the octets of a header block: HEADERS and the CONTINUATIONs behind it
abbrev pub largest_block : ℕ
largest_block = 65536

-- SETTINGS_MAX_CONCURRENT_STREAMS of this side (section 6.5.2)
abbrev pub most_streams : ℕ
most_streams = 32
