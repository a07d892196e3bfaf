use Rattle.gnmi_client_msg.proofs.ReadBack.{get_read}
use Rattle.gnmi_client_msg.proofs.laws.gets_read_back.Goals as goal

pub returns : goal.returns
returns c = get_read
