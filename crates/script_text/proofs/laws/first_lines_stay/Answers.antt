use Rattle.script_text.proofs.FirstLines.{first_line_stays}
use Rattle.script_text.proofs.laws.first_lines_stay.Goals as goal

pub returns : goal.returns
returns c = first_line_stays
