-- What a port of a book behind a lock shows.
use Rattle.std.specs.Prelude.{◌≡◌, ℕ, ◌≤◌, List, [], ◌∷◌, false, None, map}
use Rattle.std.specs.List.{AllByRecursion}
use Rattle.atomic_table.specs.Seated.{TableId}
use Rattle.book_port.specs.Chronicles.{marks_of}
use Rattle.book_port.specs.Follows.{OthersWentOn}
use Rattle.book_port.specs.Ports.{PortEnd, PortView, end_of, HasJustMade, AuthorsDiffer}
use Rattle.book_core.specs.Views.{BookView, history_in}
use Rattle.turn_lock.specs.Passes.{occurrences}
use Rattle.turn_lock.specs.declared.view.Ended.{Ended}
use Rattle.turn_lock.specs.declared.view.View.{View}
use Rattle.shared_book.specs.declared.item.SharedItem.{SharedItem}
use Rattle.shared_book.specs.Items.{history_shared, marks_shared, opened_in}

-- a lock's name, as a list of numbers
abbrev pub book_name : TableId → List ℕ
book_name z =
    z.words ∷ z.slots ∷ z.views_name ∷ z.atom ∷ z.block ∷ z.offset ∷ z.slot_names

-- a port whose pass was joined into another
abbrev pub ended_port : Ended SharedItem → PortEnd
ended_port pass = record {
  author = pass.number;
  start = history_shared pass.start;
  seen = history_shared pass.seen;
  finds = map history_shared pass.finds;
  made = history_shared pass.made;
  marks = marks_shared pass.made;
}

-- from what a pass of the lock knows: its author is the number of the pass, and its marks are those that the pass added
abbrev pub port_of : TableId → View SharedItem → PortView
port_of table pass = record {
  opened = opened_in pass.first;
  book = book_name table;
  author = pass.turn.number;
  is_alone = false;
  start = history_shared pass.start;
  seen = history_shared pass.seen;
  finds = map history_shared pass.finds;
  made = history_shared pass.made;
  marks = marks_shared pass.made;
  met = map ended_port pass.ended;
  known = pass.known;
  faults = None;
}

-- the first port of a book
abbrev pub IsFirstPort : {D : Type 0} → BookView D → PortView → Type 0
IsFirstPort book port = port ≡ record {
  opened = book.opened;
  book = port.book;
  author = 1;
  is_alone = false;
  start = history_in book;
  seen = history_in book;
  finds = [];
  made = [];
  marks = 0;
  met = [];
  known = 1;
  faults = None;
}

-- the marks of this author in the book are at least as many as the port shows
abbrev pub HasMarks : {D : Type 0} → BookView D → PortEnd → Type 0
HasMarks book port = port.marks ≤ occurrences port.author (marks_of book.chronicle)

-- The book that the last port gives back. Its history begins with what the port has seen, and has all that the port made, and
-- all that each port that it met made, and no other entries of their authors behind what these had seen at their start. It has
-- the marks of all of them, who are different authors.
pub record GivesBack {D : Type 0} (port : PortView) (book : BookView D) : Type 0 where
  pub opened : book.opened ≡ port.opened
  pub begins : OthersWentOn port.author port.seen (history_in book)
  pub has_made : AllByRecursion (HasJustMade (history_in book)) (end_of port ∷ port.met)
  pub has_marks : AllByRecursion (HasMarks book) (end_of port ∷ port.met)
  pub differ : AuthorsDiffer (end_of port ∷ port.met)
