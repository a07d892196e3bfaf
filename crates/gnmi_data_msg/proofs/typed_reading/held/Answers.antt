use Rattle.std.proofs.Common.{sym, ap, ◌∙◌}
use Rattle.gnmi_data_msg.specs.TypedValues.{scalar_in, given_in}
use Rattle.gnmi_data_msg.proofs.Held.{scalar-members, given-members}
use Rattle.gnmi_data_msg.proofs.typed_reading.held.Goals as goal

pub returns-clause-scalar : goal.returns-clause-scalar
returns-clause-scalar c =
    sym (scalar-members c.args.octets.now _) ∙ ap (scalar_in c.args.octets.now) (rw c.members.ensures at c.one_of.ensures.members)

pub returns-clause-given : goal.returns-clause-given
returns-clause-given c =
    sym (given-members c.args.octets.now _) ∙ ap (given_in c.args.octets.now) (rw c.members.ensures at c.one_of.ensures.members)
