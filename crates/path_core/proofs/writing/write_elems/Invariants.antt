use Rattle.std.proofs.Common.{◌≡◌, ◌++◌, take}
use Rattle.std.specs.List.{flat_map}
use Rattle.base_kinds.specs.Texts.{elem_text}
use Rattle.path_core.proofs.writing.write_elems.Given as goal

abbrev pub invariant-loop-elem : goal.invariant-loop-elem
invariant-loop-elem l = l.out ≡ l.fn.out ++ flat_map elem_text (take l.elem-index l.elems)
