-- The Subscribe calls that a script has open, by their names (gNMI 3.5).
use Rattle.std.specs.Prelude.{ℕ, suc, List, [], ◌∷◌, ◌++◌, Bool, take, drop, Option, Some, None, option_map, position, slice_get}
use Rattle.std.specs.Str.{bytes_eq}
use Rattle.script_run.specs.declared.calls.OpenCall.{OpenCall}
use Rattle.script_run.specs.declared.calls.NamedCall.{NamedCall}

abbrev pub has_name : List ℕ → NamedCall → Bool
has_name name call = bytes_eq call.name name

abbrev pub call_at : Option ℕ → List NamedCall → Option OpenCall
call_at None calls = None
call_at (Some place) calls = option_map (λ (call : NamedCall). call.call) (slice_get calls place)

-- the call of this name
abbrev pub call_named : List ℕ → List NamedCall → Option OpenCall
call_named name calls = call_at (position (has_name name) calls) calls

abbrev pub without_place : Option ℕ → List NamedCall → List NamedCall
without_place None calls = calls
without_place (Some place) calls = take place calls ++ drop (suc place) calls

-- the calls without the one of this name
abbrev pub without_call : List ℕ → List NamedCall → List NamedCall
without_call name calls = without_place (position (has_name name) calls) calls

-- and with this one behind the others
abbrev pub with_call : List ℕ → OpenCall → List NamedCall → List NamedCall
with_call name call calls = calls ++ record { name = name; call = call } ∷ []
