use Rattle.std.proofs.Common.{◌≡◌, drop}
use Rattle.std.specs.List.{list_all}
use Rattle.base_kinds.specs.Match.{key_matches}
use Rattle.path_core.proofs.patterns.matches_keys.Given as goal

-- the keys so far match
abbrev pub invariant-loop-key : goal.invariant-loop-key
invariant-loop-key l = list_all (key_matches l.elem) (drop l.key-index l.keys) ≡ list_all (key_matches l.elem) l.keys
