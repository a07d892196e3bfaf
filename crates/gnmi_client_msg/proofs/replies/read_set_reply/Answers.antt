use Rattle.std.proofs.Common.{ℕ, Option, subst}
use Rattle.gnmi_data_msg.specs.Parts.{IsReadAs}
use Rattle.gnmi_client_msg.proofs.Steps.{stamp_is}
use Rattle.gnmi_client_msg.proofs.replies.read_set_reply.Goals as goal

pub returns : goal.returns
returns c = subst (λ (told : Option ℕ). IsReadAs c.stamp_told.result told) (stamp_is c.args.octets.now) c.stamp_told.ensures
