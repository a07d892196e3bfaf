use Rattle.gnmi_ext_msg.proofs.ReadBack.{commit_read}
use Rattle.gnmi_ext_msg.proofs.laws.commits_read_back.Goals as goal

pub returns : goal.returns
returns c = commit_read
