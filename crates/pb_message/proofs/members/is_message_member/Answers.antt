use Rattle.std.proofs.Common.{refl, sym, ap, ◌∙◌}
use Rattle.pb_wire.specs.declared.field.Body.{Body}
use Rattle.pb_wire.specs.Message.{wire_type}
use Rattle.pb_wire.specs.Values.{has_member}
use Rattle.pb_message.specs.Values.{message_members}
use Rattle.pb_message.proofs.MemberSteps.{octets_member, other_member}
use Rattle.pb_message.proofs.members.is_message_member.Goals as goal

pub returns-in-Octets : goal.returns-in-Octets
returns-in-Octets c =
    c.has_number.ensures
    ∙ sym (ap (λ (b : Body). has_member (message_members c.args.numbers.now) c.args.field.now.number (wire_type b)) c.in-Octets.is
    ∙ octets_member c.args.numbers.now c.args.field.now.number)

pub returns-in-Varint : goal.returns-in-Varint
returns-in-Varint c =
    sym (ap (λ (b : Body). has_member (message_members c.args.numbers.now) c.args.field.now.number (wire_type b)) c.in-Varint.is
    ∙ other_member c.args.numbers.now c.args.field.now.number 0 refl)

pub returns-in-Eight : goal.returns-in-Eight
returns-in-Eight c =
    sym (ap (λ (b : Body). has_member (message_members c.args.numbers.now) c.args.field.now.number (wire_type b)) c.in-Eight.is
    ∙ other_member c.args.numbers.now c.args.field.now.number 1 refl)

pub returns-in-Four : goal.returns-in-Four
returns-in-Four c =
    sym (ap (λ (b : Body). has_member (message_members c.args.numbers.now) c.args.field.now.number (wire_type b)) c.in-Four.is
    ∙ other_member c.args.numbers.now c.args.field.now.number 5 refl)
