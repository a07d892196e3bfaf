use Rattle.std.proofs.Common.{List, Option, subst}
use Rattle.base_kinds.specs.declared.request.Note.{Note}
use Rattle.gnmi_data_msg.specs.Parts.{IsReadAs}
use Rattle.gnmi_client_msg.proofs.Steps.{notes_is}
use Rattle.gnmi_client_msg.proofs.replies.read_get_reply.Goals as goal

pub returns : goal.returns
returns c = subst (λ (told : Option (List Note)). IsReadAs c.notes_told.result told) (notes_is c.args.octets.now) c.notes_told.ensures
