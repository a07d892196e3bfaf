-- What the calls of a script may take for granted.
use Rattle.std.specs.Prelude.{Option, Some}
use Rattle.script_run.specs.declared.calls.OpenCall.{OpenCall}
use Rattle.script_run.specs.declared.calls.OpenCall.TheVariants as opened

-- the call is there, and of mode STREAM
abbrev pub IsStreamOf : Option OpenCall → Type 0
IsStreamOf (Some (opened.Stream call)) = Unit {0}
IsStreamOf _ = ⊥
