-- What a target judges by, once it has a schema and limits: trees are valid by RFC 7950, limits are this project's own.
use Rattle.std.specs.Prelude.{ℕ, ◌+◌, List, Bool, ◌&&◌, nat_le, length, sum_by}
use Rattle.base_kinds.specs.declared.entry.Entry.{Entry}
use Rattle.base_kinds.specs.declared.entry.Limits.{Limits}
use Rattle.base_kinds.specs.Schema.{SchemaNode}
use Rattle.base_kinds.specs.Valid.{valid, fits}
use Rattle.base_kinds.specs.Records.{record_octets}
use Rattle.base_kinds.specs.Limits.{gate_octets, empty_log_octets}
use Rattle.base_kinds.specs.Step.{Rules}

-- the octets of the history's journal: a header, a gate before each record, and one behind the last
abbrev pub size_of : List Entry → ℕ
size_of h = empty_log_octets + sum_by (λ entry. gate_octets + record_octets entry) h

-- the log has room for so many further entries and octets
abbrev pub limited : Limits → List Entry → ℕ → ℕ → Bool
limited limits h entries octets =
    nat_le (length h + entries) limits.entries && nat_le (size_of h + octets) limits.octets

abbrev pub rules_of : List SchemaNode → Limits → Rules
rules_of schema limits =
    record {
      valid = valid schema;
      fits = fits;
      record_octets = record_octets;
      has_room = limited limits;
    }
