-- What holds of the order of paths.
use Rattle.std.specs.Prelude.{◌≡◌, ◌↔◌, List}
use Rattle.std.specs.declared.cmp.Ordering.TheVariants.{Equal}
use Rattle.base_kinds.specs.declared.path.Elem.{Elem}
use Rattle.base_kinds.specs.Paths.{path_cmp}

-- the order tells all paths apart
abbrev pub TellsPathsApart : Type 0
TellsPathsApart = (a b : List Elem) → (path_cmp a b ≡ Equal) ↔ (a ≡ b)
