-- The words of a script's line, and what each says. The forms are this project's own.
use Rattle.std.specs.Prelude.{◌≡◌, ℕ, ◌-◌, ◌<◌, ◌≤◌, ◌^◌, min, ℤ, pos, List, Bool, true, false, codes, IsTrue}
use Rattle.std.specs.Fmt.{decimal}
use Rattle.plain_texts.specs.Names.{is_name}
use Rattle.base_kinds.specs.declared.fill.Fill.{Fill}
use Rattle.base_kinds.specs.declared.fill.Fill.TheVariants as fills
use Rattle.base_kinds.specs.declared.request.ListMode.{ListMode}
use Rattle.base_kinds.specs.declared.request.ListMode.TheVariants as modes
use Rattle.base_kinds.specs.declared.request.Span.{Span}
use Rattle.base_kinds.specs.declared.request.Span.TheVariants as spans
use Rattle.base_kinds.specs.declared.request.SubMode.{SubMode}
use Rattle.base_kinds.specs.declared.request.SubMode.TheVariants as sub_modes
use Rattle.script_text.specs.declared.keywords.Keyword.{Keyword}
use Rattle.script_text.specs.declared.keywords.Keyword.TheVariants as keywords

abbrev pub keyword_text : Keyword → List ℕ
keyword_text keywords.At = codes "at"
keyword_text keywords.Delete = codes "delete"
keyword_text keywords.Replace = codes "replace"
keyword_text keywords.Update = codes "update"
keyword_text keywords.Set = codes "set"
keyword_text keywords.Trial = codes "trial"
keyword_text keywords.Confirm = codes "confirm"
keyword_text keywords.Cancel = codes "cancel"
keyword_text keywords.Extend = codes "extend"
keyword_text keywords.Get = codes "get"
keyword_text keywords.Sub = codes "sub"
keyword_text keywords.Open = codes "open"
keyword_text keywords.Turn = codes "turn"
keyword_text keywords.Poll = codes "poll"
keyword_text keywords.End = codes "end"
keyword_text keywords.Stop = codes "stop"
keyword_text keywords.Fail = codes "fail"

abbrev pub IsKeyword : List ℕ → Keyword → Type 0
IsKeyword text keyword = text ≡ keyword_text keyword

-- a number of 64 bits in decimal, without sign and leading zeros
abbrev pub IsNumber : List ℕ → ℕ → Type 0
IsNumber text number = (number < 2 ^ 64) × (text ≡ decimal number)

-- from 1 to 4,294,967,295
abbrev pub IsAuthor : List ℕ → ℕ → Type 0
IsAuthor text author = (1 ≤ author) × (author < 2 ^ 32) × (text ≡ decimal author)

-- the name of a call
abbrev pub IsName : List ℕ → List ℕ → Type 0
IsName text name = IsTrue (is_name name) × (text ≡ name)

-- seconds in decimal, read as 9,223,372,036,854,775,807 where they are more
pub record IsSeconds (text : List ℕ) (seconds : ℤ) : Type 0 where
  pub number : ℕ
  pub is : IsNumber text number
  pub bounded : seconds ≡ pos (min number (2 ^ 63 - 1))

-- seconds, or `-` for none
abbrev pub IsSpan : List ℕ → Span → Type 0
IsSpan text spans.Absent = text ≡ codes "-"
IsSpan text (spans.Of seconds nanos) = IsSeconds text seconds × (nanos ≡ pos 0)

abbrev pub IsSubMode : List ℕ → SubMode → Type 0
IsSubMode text sub_modes.Change = text ≡ codes "change"
IsSubMode text sub_modes.Sample = text ≡ codes "sample"
IsSubMode text sub_modes.Other = ⊥

abbrev pub IsListMode : List ℕ → ListMode → Type 0
IsListMode text modes.Stream = text ≡ codes "stream"
IsListMode text modes.Once = text ≡ codes "once"
IsListMode text modes.Poll = text ≡ codes "poll"
IsListMode text modes.Other = ⊥

-- 0 or 1
abbrev pub IsFlag : List ℕ → Bool → Type 0
IsFlag text true = text ≡ codes "1"
IsFlag text false = text ≡ codes "0"

-- `old`, `new`, or an octet in decimal
abbrev pub IsFill : List ℕ → Fill → Type 0
IsFill text fills.Old = text ≡ codes "old"
IsFill text fills.New = text ≡ codes "new"
IsFill text (fills.Octet octet) = (octet < 256) × (text ≡ decimal octet)

-- the octets as they are
abbrev pub IsRest : List ℕ → List ℕ → Type 0
IsRest text octets = text ≡ octets
