use Rattle.std.proofs.Common.{[], ◌∷◌, ◌∙◌, refl}
use Rattle.book_core.specs.Views.{history_in}
use Rattle.program.proofs.Loads.{if_line, line_of_look}
use Rattle.program.proofs.load_command.line_of_book.Goals as goal

pub returns-in-Ok : goal.returns-in-Ok
returns-in-Ok c =
    if_line c.line_of_view.result _ _ (line_of_look c.args.count (history_in c.args.book) (history_in c.view_of_all-view.new.book) c.items.result.now ([] ∷ []) c.in-Ok.view refl (c.in-Ok.ensures.view, c.in-Ok.ensures.history) (c.items.ensures ∙ c.entries_of-entries.ensures)) c.line_of_view.ensures
