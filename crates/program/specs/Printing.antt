-- What stands on the output at the end of a run, and how the run then ends.
use Rattle.std.specs.Prelude.{◌≡◌, ℕ, List, ◌⊎◌, codes}
use Rattle.environment.specs.Output.{Output, Wrote, FailedWithin}
use Rattle.program.specs.declared.ending.Ending.{Ending}
use Rattle.program.specs.declared.ending.Ending.TheVariants.{NoMemory, OutputFault}

-- a last line, as far as the output takes it
abbrev pub SaysLast : List ℕ → Output → Output → Type 0
SaysLast line old new = Wrote line old new ⊎ FailedWithin line old new

-- memory was wanting, and that alone is said
pub record OutOfMemory (old new : Output) (ending : Ending) : Type 0 where
  pub ends : ending ≡ NoMemory
  pub line : SaysLast (codes "no memory\n") old new

-- the text was written, all of it and nothing else, and the run ends so
pub record PrintsWhole
    (text : List ℕ) (good : Ending) (old new : Output) (ending : Ending) : Type 0 where
  pub ends : ending ≡ good
  pub whole : Wrote text old new

-- the output failed when a proper prefix of the text was written, and nothing else
pub record PrintsPrefix (text : List ℕ) (old new : Output) (ending : Ending) : Type 0 where
  pub ends : ending ≡ OutputFault
  pub prefix : FailedWithin text old new

-- the text is printed and the run ends so, unless the output fails
abbrev pub PrintsText : List ℕ → Ending → Output → Output → Ending → Type 0
PrintsText text good old new ending =
    PrintsWhole text good old new ending ⊎ PrintsPrefix text old new ending

-- and unless memory is wanting for the text
abbrev pub MakesText : List ℕ → Ending → Output → Output → Ending → Type 0
MakesText text good old new ending =
    PrintsText text good old new ending ⊎ OutOfMemory old new ending
