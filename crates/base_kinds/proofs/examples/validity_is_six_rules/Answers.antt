use Rattle.base_kinds.proofs.SixRules.{six_facts, six_tests}
use Rattle.base_kinds.proofs.examples.validity_is_six_rules.Goals as goal

pub returns : goal.returns
returns c schema rows = (six_facts schema rows, six_tests schema rows)
