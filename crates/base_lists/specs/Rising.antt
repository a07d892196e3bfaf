-- Lists in which each item is above the one before it.
use Rattle.std.specs.Prelude.{Bool, true, ◌&&◌, List, [], ◌∷◌}
use Rattle.std.specs.Ordering.{is_lt}
use Rattle.std.specs.declared.cmp.Ordering.{Ordering}

abbrev pub rises : {A : Type 0} → (A → A → Ordering) → List A → Bool
rises cmp [] = true
rises cmp (item ∷ []) = true
rises cmp (item ∷ other ∷ others) = is_lt (cmp item other) && rises cmp (other ∷ others)
