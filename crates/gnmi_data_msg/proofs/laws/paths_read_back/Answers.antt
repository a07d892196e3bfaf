use Rattle.gnmi_data_msg.proofs.ReadBack.{path_read}
use Rattle.gnmi_data_msg.proofs.laws.paths_read_back.Goals as goal

pub returns : goal.returns
returns c = path_read
