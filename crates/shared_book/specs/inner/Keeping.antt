-- What holds of the pass of a port.
use Rattle.std.specs.Prelude.{◌<◌, ◌≤◌, [], ◌∷◌}
use mathlib.Core.List.{IsPrefix}
use Rattle.turn_lock.specs.Passes.{OwnsItsEntries}
use Rattle.turn_lock.specs.declared.view.View.{View}
use Rattle.shared_book.specs.declared.item.SharedItem.{SharedItem}
use Rattle.shared_book.specs.Items.{item_author, opened_in, opened_item}

-- The lock's list begins with what the book was opened with, and the pass knows that its own number is given out.
pub record KeepsBook (pass : View SharedItem) : Type 0 where
  pub some : 0 < pass.turn.number
  pub counted : pass.turn.number ≤ pass.known
  pub opened : IsPrefix (opened_item (opened_in pass.first) ∷ []) pass.first
  pub owner : OwnsItsEntries item_author pass
