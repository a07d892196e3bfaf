-- What a script prints under a schema and the limits of a log: the answers to its lines, in order, as those of one commit
-- history, and then that history's log.
use Rattle.std.specs.Prelude.{◌≡◌, ℕ, ◌+◌, List, [], ◌∷◌, ◌++◌, Bool, true, false, codes, ◌⊎◌, Option, Some, None}
use Rattle.std.specs.Fmt.{decimal}
use Rattle.base_kinds.specs.declared.entry.Limits.{Limits}
use Rattle.base_kinds.specs.Schema.{SchemaNode}
use Rattle.log_text.specs.Logs.{log_text}
use Rattle.script_text.specs.declared.line.Line.{Line}
use Rattle.script_text.specs.Grammar.{IsLine}
use Rattle.script_text.specs.Lines.{lines_of}
use Rattle.script_run.specs.ScriptOctets.{is_too_long, within_limit}
use Rattle.script_run.specs.ScriptStates.{ScriptState, new_state}
use Rattle.script_run.specs.Restarts.{Takes}
use Rattle.script_run.specs.declared.run.ScriptEnd.{ScriptEnd}
use Rattle.script_run.specs.declared.run.ScriptEnd.TheVariants.{Whole, Refused, DiskFault}

abbrev pub refused_line : ℕ → List ℕ
refused_line number = codes "script line " ++ (decimal number ++ codes " refused\n")

-- the octets are a line, it is taken, and what follows prints the rest
pub record IsTaken
    (octets : List ℕ) (state : ScriptState) (text : List ℕ)
    (follows : Option ScriptState → List ℕ → Type 0) : Type 0 where
  pub line : Line
  pub meaning : IsLine octets line
  pub printed : List ℕ
  pub next : Option ScriptState
  pub takes : Takes line state printed next
  pub rest : List ℕ
  pub whole : text ≡ printed ++ rest
  pub goes_on : follows next rest

-- the other lines follow, unless no book could be opened behind a stop
abbrev pub Follows : (ScriptState → List ℕ → Type 0) → ScriptEnd → Option ScriptState → List ℕ
    → Type 0
Follows others ending (Some next) text = others next text
Follows others ending None text = (text ≡ codes "disk fault\n") × (ending ≡ DiskFault)

-- At the end the log is printed, and all lines were taken; but where the script goes on past the limit of its octets, its
-- next line is refused.
abbrev pub Ends : Bool → ℕ → ScriptState → List ℕ → ScriptEnd → Type 0
Ends false number state text ending =
    (text ≡ codes "log\n" ++ log_text state.history) × (ending ≡ Whole)
Ends true number state text ending = (text ≡ refused_line number) × (ending ≡ Refused)

-- the lines from this number on print this text in this state, and each of them is taken, or the first that is no line of
-- a script is refused, or no book could be opened behind a stop
abbrev pub Prints : Bool → ℕ → List (List ℕ) → ScriptState → List ℕ → ScriptEnd → Type 0
Prints goes_on number [] state text ending = Ends goes_on number state text ending
Prints goes_on number (octets ∷ others) state text ending =
    IsTaken octets state text
    (Follows (λ next rest. Prints goes_on (number + 1) others next rest ending) ending)
    ⊎ (((line : Line) → IsLine octets line → ⊥) × (text ≡ refused_line number) × (ending ≡ Refused))

-- under this schema and these limits a script prints this text, and ends so
unfoldable pub RunsScript : List SchemaNode → Limits → List ℕ → List ℕ → ScriptEnd → Type 0
RunsScript schema limits script text ending =
    Prints (is_too_long script) 1 (lines_of (within_limit script)) (new_state schema limits) text
    ending
