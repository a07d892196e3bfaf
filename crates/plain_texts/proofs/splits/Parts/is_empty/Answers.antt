use Rattle.std.proofs.Common.{◌∙◌}
use Rattle.std.proofs.lemmas.Bool.{false≢true}
use Rattle.plain_texts.proofs.Cuts.{some_part}
use Rattle.plain_texts.proofs.splits.Parts.is_empty.Goals as goal

pub returns-in-Some : goal.returns-in-Some
returns-in-Some c = (λ no. absurd (false≢true no), λ none. absurd (some_part c.self.inside.separator c.in-Some.field-0.now ((rw c.in-Some.is at c.self.view_is) ∙ none)))
