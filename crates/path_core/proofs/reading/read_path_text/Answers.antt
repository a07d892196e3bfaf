use Rattle.std.proofs.Common.{sym, ◌∙◌}
use Rattle.path_core.proofs.Elems.{one_path, only_root}
use Rattle.path_core.proofs.reading.read_path_text.Goals as goal

pub returns-then-is_root-clause-only : goal.returns-then-is_root-clause-only
returns-then-is_root-clause-only c other at = only_root c.args.text.now (c.is_root.ensures.0 c.if-is_root.true) other at ∙ sym c.empty.ensures

pub returns-in-Ok-clause-only : goal.returns-in-Ok-clause-only
returns-in-Ok-clause-only c other at = one_path c.args.text.now other c.put_elems.new.path at c.in-Ok.ensures.ok
