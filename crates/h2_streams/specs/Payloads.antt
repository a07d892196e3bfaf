-- Payloads of frames (RFC 9113 section 6).
use Rattle.std.specs.Prelude.{ℕ, ◌+◌, ◌-◌, ◌*◌, List, [], ◌∷◌, Bool, ◌||◌, ◌&&◌, ◌==◌, nat_lt, length, take, drop, if◌then◌else◌, Result, Ok, Err}
use Rattle.base_lists.specs.Results.{and_then}
use Rattle.h2_streams.specs.declared.settings.Settings.{Settings}
use Rattle.h2_frame.specs.ErrorCodes.{protocol_error, flow_control_error, frame_size_error}
use Rattle.h2_frame.specs.Kinds.{padded_flag}
use Rattle.h2_events.specs.Events.{largest_window}
use Rattle.h2_streams.specs.Codes.{has}

-- what follows octets of priority, without so many octets of padding at its end
abbrev pub between : ℕ → ℕ → List ℕ → Result (List ℕ) ℕ
between skipped padding octets =
    if nat_lt (length octets) skipped then Err frame_size_error
    else if nat_lt (length octets - skipped) padding then Err protocol_error
    else Ok (take (length octets - skipped - padding) (drop skipped octets))

-- The payload of DATA or HEADERS without its padding, whose length the first octet tells where the flag is set, and
-- without its octets of priority (sections 6.1 and 6.2).
abbrev pub padded_content : ℕ → List ℕ → Result (List ℕ) ℕ
padded_content skipped [] = Err frame_size_error
padded_content skipped (padding ∷ octets) = between skipped padding octets

abbrev pub content : ℕ → ℕ → List ℕ → Result (List ℕ) ℕ
content skipped flags payload =
    if has padded_flag flags then padded_content skipped payload else between skipped 0 payload

-- a number, the highest octet first
abbrev pub number : ℕ → List ℕ → ℕ
number sum [] = sum
number sum (octet ∷ octets) = number (sum * 256 + octet) octets

abbrev pub with_window : ℕ → Settings → Result Settings ℕ
with_window value told =
    if nat_lt largest_window value then Err flow_control_error
    else Ok (record told { window = value })

-- One setting (section 6.5.2). A client's ENABLE_PUSH is 0 or 1; for a server the others change nothing that is sent.
abbrev pub with_setting : ℕ → ℕ → Settings → Result Settings ℕ
with_setting name value told =
    if name == 1 then Ok (record told { table = Bool.true })
    else if (name == 2) && nat_lt 1 value then Err protocol_error
    else if name == 4 then with_window value told
    else if (name == 5) && (nat_lt value 16384 || nat_lt 16777215 value) then Err protocol_error
    else Ok told

-- Settings are taken in their order, six octets each (section 6.5.1).
abbrev pub with_settings : List ℕ → Settings → Result Settings ℕ
with_settings (n1 ∷ n0 ∷ v3 ∷ v2 ∷ v1 ∷ v0 ∷ rest) told =
    and_then (with_setting (number 0 (n1 ∷ n0 ∷ [])) (number 0 (v3 ∷ v2 ∷ v1 ∷ v0 ∷ [])) told)
    (with_settings rest)
with_settings _ told = Ok told
