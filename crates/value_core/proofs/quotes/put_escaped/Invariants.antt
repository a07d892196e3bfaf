use Rattle.std.proofs.Common.{◌≡◌, ◌++◌, take}
use Rattle.base_kinds.specs.Texts.{escaped, is_quoted_octet}
use Rattle.value_core.proofs.quotes.put_escaped.Given as goal

-- the octets so far are added
abbrev pub invariant-loop-octet : goal.invariant-loop-octet
invariant-loop-octet l = l.out ≡ l.fn.out ++ escaped is_quoted_octet (take l.octet-index l.octets)
