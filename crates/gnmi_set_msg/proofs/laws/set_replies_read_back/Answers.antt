use Rattle.gnmi_set_msg.proofs.ReadBack.{replied}
use Rattle.gnmi_set_msg.proofs.laws.set_replies_read_back.Goals as goal

pub returns : goal.returns
returns c = replied
