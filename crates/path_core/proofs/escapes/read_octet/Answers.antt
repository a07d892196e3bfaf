use Rattle.std.proofs.Common.{sym, ◌∙◌}
use Rattle.path_core.proofs.Spellings.{no_pair, needless_pair}
use Rattle.path_core.proofs.escapes.read_octet.Goals as goal

pub returns-in-None-clause-none : goal.returns-in-None-clause-none
returns-in-None-clause-none c =
    no_pair c.args.part c.args.text.now c.in-Some.octet.now c.in-Some.rest.now c.in-Some.ensures.cases.0 c.if-octet-ne92.false c.in-None.ensures.none

pub returns-then-stands_for_itself-2-clause-none : goal.returns-then-stands_for_itself-2-clause-none
returns-then-stands_for_itself-2-clause-none c =
    needless_pair c.args.part c.args.text.now c.in-Some.octet.now c.in-Some.rest.now c.in-Some-read_hex.octet c.in-Some-read_hex.rest.now c.in-Some.ensures.cases.0 c.if-octet-ne92.false c.in-Some-read_hex.ensures.some (sym c.stands_for_itself-in-Some-read_hex.ensures ∙ c.if-stands_for_itself-2.true)
