use Rattle.gnmi_data_msg.proofs.ValuesBack.{scalar_read, list_read}
use Rattle.gnmi_data_msg.proofs.laws.values_read_back.Goals as goal

pub returns-clause-scalars : goal.returns-clause-scalars
returns-clause-scalars c = scalar_read

pub returns-clause-lists : goal.returns-clause-lists
returns-clause-lists c = list_read
