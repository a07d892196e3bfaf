-- What a call that gave up may have added to a list.
use Rattle.std.specs.Prelude.{◌≡◌, List, ◌++◌}

-- a prefix of the whole was added at the end
pub record AppendsFront {A : Type 0} (old new whole : List A) : Type 0 where
  pub front : List A
  pub rest : List A
  pub parts : whole ≡ front ++ rest
  pub is : new ≡ old ++ front
