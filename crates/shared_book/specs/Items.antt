-- What a lock keeps of its book, as one list: what the book was opened with, and behind it all that happened to the book. So
-- whoever knows a front of the list knows what the book was opened with.
use Rattle.std.specs.Prelude.{ℕ, List, [], ◌∷◌, map, length}
use Rattle.base_kinds.specs.declared.entry.Entry.{Entry}
use Rattle.book_port.specs.declared.happening.Happening.{Happening}
use Rattle.book_port.specs.Chronicles.{history_of, marks_of, author_of}
use Rattle.book_port.specs.Opened.{Opened}
use Rattle.book_core.specs.Views.{BookView}
use Rattle.shared_book.specs.declared.item.SharedItem.{SharedItem}
use Rattle.shared_book.specs.declared.item.SharedItem.TheVariants as items

abbrev pub opened_item : Opened → SharedItem
opened_item opened = items.Opened (record {
  schema = opened.schema;
  limits = opened.limits;
  base = opened.base;
  faults = opened.faults;
})

abbrev pub happened_items : List Happening → List SharedItem
happened_items happenings = map items.Happened happenings

abbrev pub items_of : {D : Type 0} → BookView D → List SharedItem
items_of book = opened_item book.opened ∷ happened_items book.chronicle

-- whose call it was that added this, 0 for the target itself
abbrev pub item_author : SharedItem → ℕ
item_author (items.Opened opened) = 0
item_author (items.Happened happening) = author_of happening

abbrev pub happenings_in : List SharedItem → List Happening
happenings_in [] = []
happenings_in (items.Opened opened ∷ later) = happenings_in later
happenings_in (items.Happened happening ∷ later) = happening ∷ happenings_in later

-- the history that such a list has, and how many marks
abbrev pub history_shared : List SharedItem → List Entry
history_shared shared = history_of (happenings_in shared)

abbrev pub marks_shared : List SharedItem → ℕ
marks_shared shared = length (marks_of (happenings_in shared))

-- what such a list begins with; of a list that doesn't begin so nothing is said
abbrev pub opened_in : List SharedItem → Opened
opened_in (items.Opened opened ∷ later) = record {
  schema = opened.schema;
  limits = opened.limits;
  base = opened.base;
  faults = opened.faults;
}
opened_in other = record {
  schema = [];
  limits = record { entries = 0; octets = 0 };
  base = [];
  faults = 0;
}
