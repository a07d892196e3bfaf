use Rattle.std.proofs.Common.{codes}
use Rattle.std.specs.Fmt.{decimal}
use Rattle.script_run.proofs.Pieces.{three_pieces}
use Rattle.script_run.proofs.run.put_refused_line.Goals as goal

pub returns : goal.returns
returns c = three_pieces c.args.out.now (codes "script line ") (decimal c.args.number) (codes " refused\n") _ _ _ c.in_ok-extend_from_slice.ensures.ok c.in_ok-put_number.ensures.ok c.in_ok-extend_from_slice-2.ensures.ok
