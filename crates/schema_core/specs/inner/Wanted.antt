-- The names that a look-up is for.
use Rattle.std.specs.Prelude.{ℕ, List, [], ◌∷◌, ◌++◌}
use Rattle.base_kinds.specs.Schema.{names_of}
use Rattle.schema_core.specs.declared.wanted.Wanted.{Wanted}
use Rattle.schema_core.specs.declared.wanted.Wanted.TheVariants as wanted

abbrev pub wanted_names : Wanted → List (List ℕ)
wanted_names (wanted.Path path) = names_of path.now
wanted_names (wanted.Names names) = names.now
wanted_names (wanted.Below above name) = above.now ++ name.now ∷ []
