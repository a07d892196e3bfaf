-- Which octets are a line of a script, and what it says: a keyword and what belongs to it, with one space between two
-- words. The lines are this project's own.
use Rattle.std.specs.Prelude.{◌≡◌, ℕ, ◌≤◌, List, [], ◌∷◌, ◌++◌, Bool, false, length}
use Rattle.base_kinds.specs.declared.path.Elem.{Elem}
use Rattle.base_kinds.specs.declared.operation.Act.{Act}
use Rattle.base_kinds.specs.declared.operation.Act.TheVariants as acts
use Rattle.base_kinds.specs.declared.request.SubLine.{SubLine}
use Rattle.base_kinds.specs.declared.request.SubMode.{SubMode}
use Rattle.base_kinds.specs.declared.request.SubMode.TheVariants as sub_modes
use Rattle.base_kinds.specs.declared.request.Span.{Span}
use Rattle.base_kinds.specs.Limits.{most_script_line_octets}
use Rattle.path_core.specs.PathText.{IsPathText, IsValueText}
use Rattle.script_text.specs.declared.keywords.Keyword.{Keyword}
use Rattle.script_text.specs.declared.keywords.Keyword.TheVariants as keywords
use Rattle.script_text.specs.declared.line.Line.{Line}
use Rattle.script_text.specs.declared.line.Line.TheVariants as lines
use Rattle.script_text.specs.Words.{IsKeyword, IsNumber, IsAuthor, IsName, IsSpan, IsSubMode, IsListMode, IsFlag, IsFill, IsRest}

-- a word that says this, a space, and the rest
pub record IsFront {A : Type 0} (Word : List ℕ → A → Type 0)
    (octets : List ℕ) (value : A) (rest : List ℕ) : Type 0 where
  pub word : List ℕ
  pub whole : octets ≡ word ++ 32 ∷ rest
  pub is : Word word value

-- such a word, and a rest that makes it this line
pub record Then {A : Type 0} (Word : List ℕ → A → Type 0)
    (Next : A → List ℕ → Line → Type 0) (octets : List ℕ) (line : Line) : Type 0 where
  pub value : A
  pub rest : List ℕ
  pub front : IsFront Word octets value rest
  pub next : Next value rest line

-- all of the octets say the last value of the line
pub record Last {A : Type 0} (Word : List ℕ → A → Type 0) (make : A → Line)
    (octets : List ℕ) (line : Line) : Type 0 where
  pub value : A
  pub is : Word octets value
  pub made : line ≡ make value

-- `PATH VALUE`, the value being the rest of the line
abbrev pub IsChange : Act → List ℕ → Line → Type 0
IsChange act = Then IsPathText (λ path. Last IsRest (λ value. lines.Add act path value))

-- `A ID`
abbrev pub IsNamed : (ℕ → List ℕ → Line) → List ℕ → Line → Type 0
IsNamed make = Then IsAuthor (λ author. Last IsValueText (λ id. make author id))

-- `A ID SECONDS`; the id may be empty
abbrev pub IsTimed : (ℕ → List ℕ → Span → Line) → List ℕ → Line → Type 0
IsTimed make =
    Then IsAuthor (λ author. Then IsValueText (λ id. Last IsSpan (λ span. make author id span)))

-- a subscription that sends on a change, and one that sends in intervals; times are in nanoseconds
abbrev pub on_change : List Elem → ℕ → SubLine
on_change path heartbeat = record {
  path = path;
  mode = sub_modes.Change;
  interval = 0;
  suppress = false;
  heartbeat = heartbeat;
}

abbrev pub on_sample : List Elem → ℕ → ℕ → Bool → SubLine
on_sample path interval heartbeat suppress = record {
  path = path;
  mode = sub_modes.Sample;
  interval = interval;
  suppress = suppress;
  heartbeat = heartbeat;
}

-- `HEARTBEAT` behind `change`, and `INTERVAL HEARTBEAT SUPPRESS` behind `sample`
abbrev pub IsSubscription : List Elem → SubMode → List ℕ → Line → Type 0
IsSubscription path sub_modes.Change =
    Last IsNumber (λ heartbeat. lines.Sub (on_change path heartbeat))
IsSubscription path sub_modes.Sample =
    Then IsNumber (λ interval. Then IsNumber (λ heartbeat. Last IsFlag (λ suppress.
    lines.Sub (on_sample path interval heartbeat suppress))))
IsSubscription path sub_modes.Other = λ octets line. ⊥

-- what follows each keyword
abbrev pub Says : Keyword → List ℕ → Line → Type 0
Says keywords.At = Last IsNumber (λ reading. lines.At reading)
Says keywords.Delete = Last IsPathText (λ path. lines.Add acts.Delete path [])
Says keywords.Replace = IsChange acts.Replace
Says keywords.Update = IsChange acts.Update
Says keywords.Set = Last IsAuthor (λ author. lines.Set author)
Says keywords.Trial = IsTimed (λ author id span. lines.Trial author id span)
Says keywords.Confirm = IsNamed (λ author id. lines.Confirm author id)
Says keywords.Cancel = IsNamed (λ author id. lines.Cancel author id)
Says keywords.Extend = IsTimed (λ author id span. lines.Extend author id span)
Says keywords.Get = Then IsAuthor (λ author. Last IsPathText (λ path. lines.Get author path))
Says keywords.Sub = Then IsPathText (λ path. Then IsSubMode (λ mode. IsSubscription path mode))
Says keywords.Open =
    Then IsAuthor (λ author. Then IsName (λ name. Then IsListMode (λ mode. Last IsFlag (λ only.
    lines.Open author name mode only))))
Says keywords.Turn = Last IsName (λ name. lines.Turn name)
Says keywords.Poll = Last IsName (λ name. lines.Poll name)
Says keywords.End = Last IsName (λ name. lines.End name)
Says keywords.Stop = Then IsNumber (λ calls. Last IsFill (λ fill. lines.Stop calls fill))
Says keywords.Fail = Last IsNumber (λ calls. lines.Fail calls)

-- the octets are this line
pub record IsLine (octets : List ℕ) (line : Line) : Type 0 where
  pub short : length octets ≤ most_script_line_octets
  pub said : Then IsKeyword Says octets line
