use Rattle.std.proofs.Common.{◌≡◌, ◌++◌, take}
use Rattle.base_kinds.specs.Texts.{escaped}
use Rattle.path_core.specs.inner.Reading.{test_of}
use Rattle.path_core.proofs.writing.write_octets.Given as goal

abbrev pub invariant-loop-octet : goal.invariant-loop-octet
invariant-loop-octet l = l.out ≡ l.fn.out ++ escaped (test_of l.part) (take l.octet-index l.octets)
