use Rattle.history_laws.proofs.Setting.{test_says_rising}
use Rattle.history_laws.proofs.trees.rising_is_tested.Goals as goal

pub returns : goal.returns
returns c = test_says_rising
