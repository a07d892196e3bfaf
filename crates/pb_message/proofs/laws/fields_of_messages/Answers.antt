use Rattle.std.proofs.Common.{List, ℕ, [], ap, length}
use Rattle.std.specs.Prelude.{nat_eq}
use Rattle.pb_wire.specs.declared.field.Field.{Field}
use Rattle.pb_message.proofs.FieldSteps.{message_read, read_is_message}
use Rattle.pb_message.proofs.laws.fields_of_messages.Goals as goal

pub returns-clause-fields : goal.returns-clause-fields
returns-clause-fields c octets fields is = ap (λ (r : List Field × List ℕ). r.0) (message_read octets fields is)

pub returns-clause-is : goal.returns-clause-is
returns-clause-is c octets fields is = ap (λ (r : List Field × List ℕ). nat_eq (length r.1) 0) (message_read octets fields is)

pub returns-clause-whole : goal.returns-clause-whole
returns-clause-whole c = read_is_message
