-- gnmi.proto's Encoding: JSON, PROTO and JSON_IETF. BYTES, ASCII and the numbers that stand for none are Other.
use Rattle.std.specs.Prelude.{ℕ, ◌==◌, if◌then◌else◌}
use Rattle.gnmi_kinds.specs.declared.ask.Encoding.{Encoding}
use Rattle.gnmi_kinds.specs.declared.ask.Encoding.TheVariants as encodings

abbrev pub encoding_json : ℕ
encoding_json = 0

abbrev pub encoding_proto : ℕ
encoding_proto = 2

abbrev pub encoding_json_ietf : ℕ
encoding_json_ietf = 4

-- the encoding with this number
abbrev pub encoding_of : ℕ → Encoding
encoding_of number =
    if number == encoding_json then encodings.Json
    else if number == encoding_proto then encodings.Proto
    else if number == encoding_json_ietf then encodings.JsonIetf
    else encodings.Other
