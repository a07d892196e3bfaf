-- The entries of a log, and how many more it has room for. Private functions alone cite this.
use Rattle.std.specs.Prelude.{ℕ, List}
use Rattle.base_kinds.specs.declared.entry.Entry.{Entry}

pub record LogView : Type 0 where
  pub items : List Entry
  pub room : ℕ
