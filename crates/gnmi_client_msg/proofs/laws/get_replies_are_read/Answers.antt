use Rattle.gnmi_client_msg.proofs.ReplyLaws.{get_reply_read}
use Rattle.gnmi_client_msg.proofs.laws.get_replies_are_read.Goals as goal

pub returns : goal.returns
returns c = get_reply_read
