use Rattle.std.proofs.Common.{◌≡◌, ◌≤◌, ◌-◌, length}
use Rattle.std.specs.Prelude.{nat_lt}
use Rattle.std.specs.List.{list_any}
use Rattle.pb_wire.specs.declared.field.Field.{Field}
use Rattle.pb_message.specs.Fields.{fields_at}
use Rattle.pb_message.specs.Values.{has_number_above}
use Rattle.pb_message.proofs.fields.has_number_above.Given as goal

abbrev pub invariant-loop-field : goal.invariant-loop-field
invariant-loop-field l = record {
  inside : l.place ≤ length l.octets;
  above : has_number_above l.most l.octets ≡ list_any (λ (field : Field). nat_lt l.most field.number) (fields_at l.octets l.place);
}

abbrev pub decreases-loop-field : goal.decreases-loop-field
decreases-loop-field l = length l.octets - l.place
