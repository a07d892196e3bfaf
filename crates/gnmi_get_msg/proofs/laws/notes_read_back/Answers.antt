use Rattle.gnmi_get_msg.proofs.ReadBack.{notes_found}
use Rattle.gnmi_get_msg.proofs.laws.notes_read_back.Goals as goal

pub returns : goal.returns
returns c = notes_found
