use Rattle.script_text.proofs.Ranges.{lines_are_in_range}
use Rattle.script_text.proofs.laws.lines_are_in_range.Goals as goal

pub returns : goal.returns
returns c = lines_are_in_range
