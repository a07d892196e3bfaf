use Rattle.std.proofs.Common.{sym, ap, ◌∙◌}
use Rattle.json_text.specs.Trees.{ends_plain}
use Rattle.json_text.proofs.Lasts.{ends_plain-last, empty_is}
use Rattle.json_text.proofs.trees.ends_plain.Goals as goal

pub returns-in-Some : goal.returns-in-Some
returns-in-Some c =
    empty_is c.in-Some.elem.now.keys c.is_empty.result c.is_empty.ensures ∙ sym (ends_plain-last c.in-Some.field-0-1.now c.in-Some.elem.now) ∙ ap ends_plain (sym c.in-Some.ensures.cases.0)
