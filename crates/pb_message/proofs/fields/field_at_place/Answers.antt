use Rattle.std.proofs.Common.{List, ℕ, ap}
use Rattle.pb_wire.specs.declared.field.Field.{Field}
use Rattle.pb_message.proofs.FieldSteps.{some_field, some_left, none_read}
use Rattle.pb_message.proofs.fields.field_at_place.Goals as goal

pub returns-clause-some : goal.returns-clause-some
returns-clause-some c = some_field c.args.octets.now c.args.place c.next_field.result c.next_field.ensures.some

pub returns-clause-left : goal.returns-clause-left
returns-clause-left c = some_left c.args.octets.now c.args.place c.next_field.result c.next_field.ensures.some

pub returns-clause-none : goal.returns-clause-none
returns-clause-none c =
    λ e. ap (λ (r : List Field × List ℕ). r.0) (none_read c.args.octets.now c.args.place c.requires (c.next_field.ensures.none e))

pub returns-clause-end : goal.returns-clause-end
returns-clause-end c =
    λ e. ap (λ (r : List Field × List ℕ). r.1) (none_read c.args.octets.now c.args.place c.requires (c.next_field.ensures.none e))
