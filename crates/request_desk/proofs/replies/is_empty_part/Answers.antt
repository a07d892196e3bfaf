use Rattle.std.proofs.Common.{ap, ◌∙◌}
use Rattle.std.specs.Prelude.{not}
use Rattle.request_desk.proofs.Covered.{none_covered}
use Rattle.request_desk.proofs.replies.is_empty_part.Goals as goal

pub returns : goal.returns
returns c = ap not c.is_row_covered.ensures ∙ none_covered c.args.rows.now c.args.path.now
