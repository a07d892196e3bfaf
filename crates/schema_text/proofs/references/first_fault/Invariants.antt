use Rattle.std.proofs.Common.{◌≡◌, drop}
use Rattle.schema_text.specs.Schemas.{first_fault}
use Rattle.schema_text.proofs.references.first_fault.Given as goal

abbrev pub invariant-loop-number : goal.invariant-loop-number
invariant-loop-number l = first_fault l.schema l.schema l.lines ≡ first_fault l.schema (drop l.number l.schema) (drop l.number l.lines)
