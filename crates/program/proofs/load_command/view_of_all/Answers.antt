use Rattle.std.proofs.Common.{◌≡◌, [], ◌∷◌, ◌++◌, ap, ◌∙◌}
use Rattle.base_kinds.specs.Events.{view_of}
use Rattle.book_core.specs.Views.{history_in}
use Rattle.program.proofs.load_command.view_of_all.Goals as goal

pub returns-in-Ok-clause-view : goal.returns-in-Ok-clause-view
returns-in-Ok-clause-view c =
    let root : c.push.new.self ≡ [] ∷ [] = c.in_ok-push.ensures.ok ∙ ap (λ r. r ++ c.empty.result ∷ []) c.empty-root.ensures ∙ ap (λ e. e ∷ []) c.empty.ensures in
    c.in-Ok.ensures.answer.0 ∙ ap (λ r. view_of (history_in c.look.new.self) r) root

pub returns-in-Ok-clause-history : goal.returns-in-Ok-clause-history
returns-in-Ok-clause-history c = c.in-Ok.ensures.answer.1
