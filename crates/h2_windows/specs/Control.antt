-- The frames that answer what was read, and those that begin and end a connection.
use Rattle.std.specs.Prelude.{ℕ, zero, suc, Bool, true, false, List, [], ◌∷◌, ◌++◌}
use Rattle.std.specs.Int.{bytes_high_first}
use Rattle.h2_frame.specs.Frames.{Frame, frame_of}
use Rattle.h2_frame.specs.Kinds.{settings_kind, ping_kind, rst_stream_kind, window_update_kind, goaway_kind, ack_flag}

-- SETTINGS with MAX_CONCURRENT_STREAMS 32 and MAX_HEADER_LIST_SIZE 16,384 (RFC 9113 sections 3.4 and 6.5.2)
abbrev pub greeting : Frame
greeting =
    frame_of (record { length = 12; kind = settings_kind; flags = 0; stream = 0 })
    (bytes_high_first 2 3 ++ bytes_high_first 4 32 ++ bytes_high_first 2 6
    ++ bytes_high_first 4 16384)

-- SETTINGS with ACK (section 6.5)
abbrev pub settings_ack : Frame
settings_ack =
    frame_of (record { length = 0; kind = settings_kind; flags = ack_flag; stream = 0 }) []

-- PING with ACK and the same eight octets (section 6.7)
abbrev pub ping_ack : ℕ → Frame
ping_ack octets =
    frame_of (record { length = 8; kind = ping_kind; flags = ack_flag; stream = 0 })
    (bytes_high_first 8 octets)

-- RST_STREAM with an error code (section 6.4)
abbrev pub rst_stream : ℕ → ℕ → Frame
rst_stream id code =
    frame_of (record { length = 4; kind = rst_stream_kind; flags = 0; stream = id })
    (bytes_high_first 4 code)

-- WINDOW_UPDATE of a stream, or of the connection at 0 (section 6.9)
abbrev pub window_update : ℕ → ℕ → Frame
window_update id n =
    frame_of (record { length = 4; kind = window_update_kind; flags = 0; stream = id })
    (bytes_high_first 4 n)

-- What was received is granted again: to the connection, and to a stream that the peer has not ended. An increment of 0
-- would be an error (section 6.9).
abbrev pub granted_again : ℕ → ℕ → Bool → List Frame
granted_again id zero ended = []
granted_again id (suc n) true = window_update 0 (suc n) ∷ []
granted_again id (suc n) false = window_update 0 (suc n) ∷ window_update id (suc n) ∷ []

-- GOAWAY with the highest stream that was opened, and an error code (section 6.8)
abbrev pub goaway : ℕ → ℕ → Frame
goaway highest code =
    frame_of (record { length = 8; kind = goaway_kind; flags = 0; stream = 0 })
    (bytes_high_first 4 highest ++ bytes_high_first 4 code)
