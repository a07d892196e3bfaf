use Rattle.std.proofs.Common.{arith}
use Rattle.reference_model.proofs.Children.{child_known}
use Rattle.reference_model.proofs.paths.is_child.Goals as goal

pub returns-then-same_path : goal.returns-then-same_path
returns-then-same_path c =
    let e = child_known c.args.path.now c.in-Some.front.now c.args.parent.now c.in-Some.elem.now c.args.name.now c.in-Some.ensures.cases.0 in
    grind (arith, e)

pub returns-else-same_path : goal.returns-else-same_path
returns-else-same_path c =
    let e = child_known c.args.path.now c.in-Some.front.now c.args.parent.now c.in-Some.elem.now c.args.name.now c.in-Some.ensures.cases.0 in
    grind (arith, e)
