use Rattle.std.proofs.Common.{sym}
use Rattle.path_core.proofs.Searches.{end_covers}
use Rattle.path_core.proofs.patterns.passes_at_end.Goals as goal

pub returns-in-Front : goal.returns-in-Front
returns-in-Front c = rw c.in-Front.is (sym (end_covers c.args.path.now))
