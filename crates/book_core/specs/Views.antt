-- A book as its callers see it.
use Rattle.std.specs.Prelude.{ℕ, ◌^◌, List, Option, refl}
use Rattle.std.specs.Coded.{Coded, code_by, coded×}
use Rattle.base_kinds.specs.declared.entry.Entry.{Entry}
use Rattle.book_port.specs.declared.happening.Happening.{Happening}
use Rattle.book_port.specs.Chronicles.{history_of}
use Rattle.book_port.specs.Opened.{Opened}

pub record BookView (D : Type 0) : Type 0 where
  pub disk : D
  -- what it was opened with
  pub opened : Opened
  -- all entries and marks, those of the opening first
  pub chronicle : List Happening
  -- the entry of an append that failed, where it isn't settled whether it stands behind the history
  pub doubt : Option Entry

module _ {D : Type 0} where
  abbrev pub history_in : BookView D → List Entry
  history_in book = history_of book.chronicle

-- how many marks a book has at most: a call that finds so many is refused for want of memory
abbrev pub most_marks : ℕ
most_marks = 2 ^ 63

-- how a view is kept as its parts, as the toolchain asks of the value of a model
module _ {D : Type 0} where
  abbrev pub book_code : Coded D → Coded (Opened × (List Happening × Option Entry))
      → Coded (BookView D)
  book_code disk parts = code_by (D × (Opened × (List Happening × Option Entry)))
      (coded× disk parts) (λ v. (v.disk, (v.opened, (v.chronicle, v.doubt))))
      (λ p. record { disk = p.0; opened = p.1.0; chronicle = p.1.1.0; doubt = p.1.1.1 }) (λ _. refl)
