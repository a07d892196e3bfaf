-- What a step of matching finds out about a pattern and a path. Private functions alone cite this.
use Rattle.std.specs.Prelude.{◌≡◌, ◌+◌, ◌<◌, List, Bool, true, false, length}
use Rattle.std.specs.List.{list_any}
use Rattle.base_kinds.specs.declared.path.Elem.{Elem}
use Rattle.base_kinds.specs.Match.{suffixes, matches, covers}
use Rattle.path_core.specs.declared.patterns.Extent.{Extent}
use Rattle.path_core.specs.declared.patterns.Extent.TheVariants.{Whole, Front}
use Rattle.path_core.specs.declared.patterns.Step.{Step}
use Rattle.path_core.specs.declared.patterns.Step.TheVariants.{Match, Differs, Never, Skips}

-- the pattern matches the whole path, or some front of it
abbrev pub test_by : Extent → List Elem → List Elem → Bool
test_by Whole = matches
test_by Front = covers

-- the pattern passes on the path, and on some rest of the path, exactly where the others pass on some rest of what is left
pub record IsSkip (extent : Extent) (pattern path others left : List Elem) : Type 0 where
  pub here : test_by extent pattern path ≡ list_any (test_by extent others) (suffixes left)
  pub below : list_any (test_by extent pattern) (suffixes path) ≡
      list_any (test_by extent others) (suffixes left)
  pub shorter : length others + length left < length pattern + length path

-- `Never` says that none of the path's rests passes either
abbrev pub IsStep : Step → Extent → List Elem → List Elem → Type 0
IsStep Match extent pattern path = test_by extent pattern path ≡ true
IsStep Differs extent pattern path = test_by extent pattern path ≡ false
IsStep Never extent pattern path = list_any (test_by extent pattern) (suffixes path) ≡ false
IsStep (Skips others left) extent pattern path = IsSkip extent pattern path others.now left.now
