use Rattle.std.proofs.Common.{◌≡◌, ◌++◌, map, take}
use Rattle.base_kinds.specs.Texts.{value_text, comma_separated}
use Rattle.value_core.proofs.value_texts.+values.Given as goal

-- the texts so far are added
abbrev pub invariant-put_values-loop-place : goal.invariant-put_values-loop-place
invariant-put_values-loop-place l = l.out ≡ l.fn.out ++ comma_separated (map value_text (take l.place l.values))
