use Rattle.std.proofs.Common.{◌≡◌, ◌++◌, take}
use Rattle.std.specs.List.{flat_map}
use Rattle.base_kinds.specs.Texts.{key_part}
use Rattle.path_core.proofs.writing.write_keys.Given as goal

abbrev pub invariant-loop-key : goal.invariant-loop-key
invariant-loop-key l = l.out ≡ l.fn.out ++ flat_map key_part (take l.key-index l.keys)
