-- What was remembered, as a list, the oldest first.
use Rattle.std.specs.Prelude.{List, [], ◌∷◌, ◌++◌}
use Rattle.base_lists.specs.declared.remembered.Past.{Past}
use Rattle.base_lists.specs.declared.remembered.Past as past

abbrev pub values : {T : Type 0} → Past T → List T
values past.Nothing = []
values (past.After' marker earlier value) = values earlier ++ value.value ∷ []
