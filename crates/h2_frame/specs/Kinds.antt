-- Kinds of frames and their flags (RFC 9113 section 6).
use Rattle.std.specs.Prelude.{ℕ}

abbrev pub data_kind : ℕ
data_kind = 0

abbrev pub headers_kind : ℕ
headers_kind = 1

abbrev pub priority_kind : ℕ
priority_kind = 2

abbrev pub rst_stream_kind : ℕ
rst_stream_kind = 3

abbrev pub settings_kind : ℕ
settings_kind = 4

abbrev pub push_promise_kind : ℕ
push_promise_kind = 5

abbrev pub ping_kind : ℕ
ping_kind = 6

abbrev pub goaway_kind : ℕ
goaway_kind = 7

abbrev pub window_update_kind : ℕ
window_update_kind = 8

abbrev pub continuation_kind : ℕ
continuation_kind = 9

-- ---- flags: END_STREAM and PADDED of DATA and HEADERS, END_HEADERS of HEADERS and CONTINUATION, PRIORITY of HEADERS,
-- ACK of SETTINGS and PING

abbrev pub end_stream_flag : ℕ
end_stream_flag = 1

abbrev pub ack_flag : ℕ
ack_flag = 1

abbrev pub end_headers_flag : ℕ
end_headers_flag = 4

abbrev pub padded_flag : ℕ
padded_flag = 8

abbrev pub priority_flag : ℕ
priority_flag = 32
