-- A port of a book that nobody else has.
use Rattle.std.specs.Prelude.{◌≡◌, ℕ, ◌<◌, ◌-◌, List, [], ◌++◌, true, map, length, drop, Option, Some, refl}
use Rattle.std.specs.Coded.{Coded, code_by, coded×, coded_ℕ, coded_list}
use Rattle.base_kinds.specs.declared.entry.Entry.{Entry}
use Rattle.book_port.specs.declared.happening.Happening.{Happening}
use Rattle.book_port.specs.Chronicles.{marks_of, entries_by}
use Rattle.book_port.specs.Opened.{Opened}
use Rattle.book_port.specs.Ports.{PortView}
use Rattle.book_core.specs.Views.{BookView, book_code, history_in}

pub record SingleView (D : Type 0) : Type 0 where
  pub book : BookView D
  pub author : ℕ
  -- the book as it was when the port was made, and as each turn found it
  pub start : BookView D
  pub finds : List (BookView D)

module _ {D : Type 0} (faults : D → ℕ) where
  -- Its own entries are those of its author past the start, and its marks are all that came since. It
  -- tells the faults of the disk, and its author is no number that was given out.
  abbrev pub port_of : SingleView D → PortView
  port_of single = record {
    opened = single.book.opened;
    book = [];
    author = single.author;
    is_alone = true;
    start = history_in single.start;
    seen = history_in single.book;
    finds = map history_in single.finds;
    made = entries_by single.author
        (drop (length (history_in single.start)) (history_in single.book));
    marks = length (marks_of single.book.chronicle) - length (marks_of single.start.chronicle);
    met = [];
    known = 0;
    faults = Some (faults single.book.disk);
  }

-- what came since goes on with what was there
pub record IsSingle {D : Type 0} (book : BookView D) (author : ℕ) (start : BookView D)
    : Type 0 where
  pub some : 0 < author
  pub since : List Happening
  pub goes_on : book.chronicle ≡ start.chronicle ++ since

-- how a view is kept as its parts, as the toolchain asks of the value of a model
module _ {D : Type 0} where
  abbrev pub single_code : Coded D → Coded (Opened × (List Happening × Option Entry))
      → Coded (SingleView D)
  single_code disk parts = let book : Coded (BookView D) = book_code disk parts in
      code_by (BookView D × (ℕ × (BookView D × List (BookView D))))
      (coded× book (coded× coded_ℕ (coded× book (coded_list book))))
      (λ v. (v.book, (v.author, (v.start, v.finds))))
      (λ p. record { book = p.0; author = p.1.0; start = p.1.1.0; finds = p.1.1.1 }) (λ _. refl)
