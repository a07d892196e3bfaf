use Rattle.gnmi_client_msg.proofs.PathTexts.{path_is_text}
use Rattle.gnmi_client_msg.proofs.laws.spelled_paths_are_texts.Goals as goal

pub returns : goal.returns
returns c = λ text path is. path_is_text path is.elems
