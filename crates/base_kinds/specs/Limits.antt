-- The bounds of this project's profile. Each number has a name here, and is cited by that name everywhere.
use Rattle.std.specs.Prelude.{ℕ, ◌≤◌}
use Rattle.base_kinds.specs.declared.entry.Limits.{Limits}

-- ---- time, in nanoseconds

-- the last reading of the clock that counts: 2100-01-01T00:00:00Z
abbrev pub latest_reading : ℕ
latest_reading = 4102444800000000000

abbrev pub second : ℕ
second = 1000000000

-- a trial lasts from 1 s to 86,400 s
abbrev pub shortest_duration : ℕ
shortest_duration = 1000000000

abbrev pub longest_duration : ℕ
longest_duration = 86400000000000

-- where a request gives no duration, a trial lasts 600 s (gNMI commit-confirmed extension)
abbrev pub default_duration : ℕ
default_duration = 600000000000

-- ---- paths, ids and values

abbrev pub most_elements : ℕ
most_elements = 32

-- keys of one element
abbrev pub most_keys : ℕ
most_keys = 65535

-- octets of a trial's id, which has at least one
abbrev pub most_id_octets : ℕ
most_id_octets = 64

-- digits of a decimal behind its point (RFC 7950 9.3.4), of which it has at least one
abbrev pub most_fraction_digits : ℕ
most_fraction_digits = 18

-- ---- trees

abbrev pub most_leaves : ℕ
most_leaves = 65536

abbrev pub most_weight : ℕ
most_weight = 1900000

-- ---- the commit log and its journal

-- the octet in front of an entry's record
abbrev pub gate_octets : ℕ
gate_octets = 1

-- a record without what its kind has: the kind's number, the author and the stamp
abbrev pub bare_record_octets : ℕ
bare_record_octets = 13

-- what the entry takes that closes a trial: its gate and its record
abbrev pub closing_octets : ℕ
closing_octets = 14

-- the octets of a journal without entries: 16 in front, and a gate
abbrev pub empty_log_octets : ℕ
empty_log_octets = 17

-- two entries, so that a trial can be closed
abbrev pub least_log_entries : ℕ
least_log_entries = 2

abbrev pub most_log_entries : ℕ
most_log_entries = 65536

abbrev pub least_log_octets : ℕ
least_log_octets = 4096

abbrev pub most_log_octets : ℕ
most_log_octets = 268435456

pub record AreInRange (limits : Limits) : Type 0 where
  pub least_entries : least_log_entries ≤ limits.entries
  pub most_entries : limits.entries ≤ most_log_entries
  pub least_octets : least_log_octets ≤ limits.octets
  pub most_octets : limits.octets ≤ most_log_octets

-- the limits of a log for which none are given
abbrev pub default_limits : Limits
default_limits = record { entries = most_log_entries; octets = most_log_octets }

-- ---- texts that are read

-- a script, its line feeds counted, and one line of it without its line feed
abbrev pub most_script_octets : ℕ
most_script_octets = 67108864

abbrev pub most_script_line_octets : ℕ
most_script_line_octets = 1048576

-- the text of a schema, one line of it, and the nodes that its lines give
abbrev pub most_schema_octets : ℕ
most_schema_octets = 1048576

abbrev pub most_schema_line_octets : ℕ
most_schema_line_octets = 1024

abbrev pub most_schema_nodes : ℕ
most_schema_nodes = 4096

-- the greatest number of entries or values that a schema may set as a maximum (RFC 7950 7.7.6)
abbrev pub most_maximum : ℕ
most_maximum = 65536

-- arrays and objects of a JSON text inside one another
abbrev pub most_json_depth : ℕ
most_json_depth = 127

-- ---- counts

-- the greatest number of 64 bits, at which counts stop
abbrev pub greatest_count : ℕ
greatest_count = 18446744073709551615
