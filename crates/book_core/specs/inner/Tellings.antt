-- What was told, as a list, the oldest first.
use Rattle.std.specs.Prelude.{List, [], ◌∷◌, ◌++◌}
use Rattle.book_port.specs.declared.happening.Happening.{Happening}
use Rattle.book_port.specs.declared.happening.Happening.TheVariants.{Entered, Marked}
use Rattle.book_core.specs.declared.chronicle.Told.{Told}
use Rattle.book_core.specs.declared.chronicle.Told as told

abbrev pub happenings : Told → List Happening
happenings told.Nothing = []
happenings (told.Entry' marker earlier entry) = happenings earlier ++ Entered entry.value ∷ []
happenings (told.Mark' marker earlier author) = happenings earlier ++ Marked author.value ∷ []
