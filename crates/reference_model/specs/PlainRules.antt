-- What is judged by limits alone, without a schema.
use Rattle.std.specs.Prelude.{ℕ, [], true}
use Rattle.base_kinds.specs.declared.entry.Limits.{Limits}
use Rattle.base_kinds.specs.declared.entry.Ask.{Ask}
use Rattle.base_kinds.specs.declared.entry.Ask.TheVariants as asks
use Rattle.base_kinds.specs.Rules.{rules_of}
use Rattle.base_kinds.specs.Step.{Rules}

-- every tree is valid and small enough
abbrev pub plain_rules : Limits → Rules
plain_rules limits = record (rules_of [] limits) { valid = λ tree. true; fits = λ tree. true }

-- how long a trial is asked to last, in nanoseconds; 0 where none is asked for
abbrev pub duration_of : Ask → ℕ
duration_of (asks.Trial id ops duration) = duration
duration_of (asks.Extend id duration) = duration
duration_of (asks.Apply ops) = 0
duration_of (asks.Confirm id) = 0
duration_of (asks.Cancel id) = 0
