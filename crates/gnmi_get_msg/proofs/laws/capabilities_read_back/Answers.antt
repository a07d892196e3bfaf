use Rattle.gnmi_get_msg.proofs.ReadBack.{capabilities_found}
use Rattle.gnmi_get_msg.proofs.laws.capabilities_read_back.Goals as goal

pub returns : goal.returns
returns c = capabilities_found
