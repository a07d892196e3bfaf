use Rattle.gnmi_client_msg.proofs.ReadBack.{set_read}
use Rattle.gnmi_client_msg.proofs.laws.sets_read_back.Goals as goal

pub returns : goal.returns
returns c = set_read
