use Rattle.std.proofs.Common.{◌≡◌, ◌≤◌, ◌+◌, length}
use Rattle.plain_texts.specs.Splits.{parts_of}
use Rattle.base_kinds.specs.Limits.{most_schema_octets}
use Rattle.schema_text.specs.Schemas.{nothing_read, read_parts}
use Rattle.schema_text.proofs.reading.read_lines.Given as goal

abbrev pub invariant-loop-part : goal.invariant-loop-part
invariant-loop-part l = record {
  left : read_parts 1 0 nothing_read (parts_of 10 l.text) ≡ read_parts l.number l.place l.reading l.parts;
  before : l.place ≤ most_schema_octets;
  counted : l.number ≤ l.place + 1;
}

abbrev pub decreases-loop-part : goal.decreases-loop-part
decreases-loop-part l = length l.parts
