-- Error codes (RFC 9113 section 7).
use Rattle.std.specs.Prelude.{ℕ}

abbrev pub no_error : ℕ
no_error = 0

abbrev pub protocol_error : ℕ
protocol_error = 1

abbrev pub internal_error : ℕ
internal_error = 2

abbrev pub flow_control_error : ℕ
flow_control_error = 3

abbrev pub settings_timeout : ℕ
settings_timeout = 4

abbrev pub stream_closed : ℕ
stream_closed = 5

abbrev pub frame_size_error : ℕ
frame_size_error = 6

abbrev pub refused_stream : ℕ
refused_stream = 7

abbrev pub cancel : ℕ
cancel = 8

abbrev pub compression_error : ℕ
compression_error = 9

abbrev pub connect_error : ℕ
connect_error = 10

abbrev pub enhance_your_calm : ℕ
enhance_your_calm = 11

abbrev pub inadequate_security : ℕ
inadequate_security = 12

abbrev pub http_1_1_required : ℕ
http_1_1_required = 13
