use Rattle.gnmi_client_msg.proofs.CapabilityLaws.{capabilities_told}
use Rattle.gnmi_client_msg.proofs.laws.capabilities_are_read.Goals as goal

pub returns : goal.returns
returns c = capabilities_told
