use Rattle.std.proofs.Common.{sym, ◌∙◌}
use Rattle.script_text.proofs.FirstLines.{last_line, last_cut, next_lines, next_cut}
use Rattle.script_text.proofs.line_split.next_line.Goals as goal

pub returns-then-is_empty-2-clause-some : goal.returns-then-is_empty-2-clause-some
returns-then-is_empty-2-clause-some c = (last_line _ _ _ (sym c.is_empty.ensures ∙ c.if-is_empty.false) c.cut_before.ensures (sym c.is_empty-2.ensures ∙ c.if-is_empty-2.true)).0

pub returns-then-is_empty-2-clause-shorter : goal.returns-then-is_empty-2-clause-shorter
returns-then-is_empty-2-clause-shorter c = (last_line _ _ _ (sym c.is_empty.ensures ∙ c.if-is_empty.false) c.cut_before.ensures (sym c.is_empty-2.ensures ∙ c.if-is_empty-2.true)).1

pub returns-clause-some : goal.returns-clause-some
returns-clause-some c = (next_lines _ _ _ (sym c.is_empty.ensures ∙ c.if-is_empty.false) c.cut_before.ensures (sym c.is_empty-2.ensures ∙ c.if-is_empty-2.false)).0

pub returns-clause-shorter : goal.returns-clause-shorter
returns-clause-shorter c = (next_lines _ _ _ (sym c.is_empty.ensures ∙ c.if-is_empty.false) c.cut_before.ensures (sym c.is_empty-2.ensures ∙ c.if-is_empty-2.false)).1

pub returns-then-is_empty-2-clause-cut : goal.returns-then-is_empty-2-clause-cut
returns-then-is_empty-2-clause-cut c = last_cut _ _ _ c.cut_before.ensures (sym c.is_empty-2.ensures ∙ c.if-is_empty-2.true)

pub returns-clause-cut : goal.returns-clause-cut
returns-clause-cut c = next_cut _ _ _ c.cut_before.ensures (sym c.is_empty-2.ensures ∙ c.if-is_empty-2.false)
