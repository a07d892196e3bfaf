use Rattle.gnmi_client_msg.proofs.ReplyLaws.{set_stamp_read}
use Rattle.gnmi_client_msg.proofs.laws.set_replies_are_read.Goals as goal

pub returns : goal.returns
returns c = set_stamp_read
