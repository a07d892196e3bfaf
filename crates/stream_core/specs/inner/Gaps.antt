-- Where a path belongs among rows.
use Rattle.std.specs.Prelude.{◌≡◌, ℕ, ◌<◌, ◌≤◌, List, length, slice_index_or}
use Rattle.std.specs.declared.cmp.Ordering.TheVariants.{Less, Greater}
use Rattle.base_kinds.specs.declared.path.Elem.{Elem}
use Rattle.base_kinds.specs.declared.operation.Row.{Row}
use Rattle.base_kinds.specs.Paths.{path_cmp}

-- The rows before `low` are below the path, and one that stands at `high` is above it.
pub record IsBetween (path : List Elem) (rows : List Row) (low high : ℕ) : Type 0 where
  pub ordered : low ≤ high
  pub inside : high ≤ length rows
  pub below : (row : Row) (place : ℕ) → place < low →
      path_cmp (slice_index_or rows place row).path path ≡ Less
  pub above : (row : Row) → high < length rows →
      path_cmp (slice_index_or rows high row).path path ≡ Greater
