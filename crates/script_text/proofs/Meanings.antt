-- Octets are one line at most.
use Rattle.std.proofs.Common.{◌≡◌, ℕ, List, [], Bool, false}
use Rattle.base_kinds.specs.declared.path.Elem.{Elem}
use Rattle.base_kinds.specs.declared.operation.Act.{Act}
use Rattle.base_kinds.specs.declared.operation.Act.TheVariants as acts
use Rattle.base_kinds.specs.declared.request.Span.{Span}
use Rattle.base_kinds.specs.declared.request.SubMode.{SubMode}
use Rattle.base_kinds.specs.declared.request.SubMode.TheVariants as sub_modes
use Rattle.path_core.specs.PathText.{IsPathText, IsValueText}
use Rattle.script_text.specs.declared.keywords.Keyword.{Keyword}
use Rattle.script_text.specs.declared.keywords.Keyword.TheVariants as keywords
use Rattle.script_text.specs.declared.line.Line.{Line}
use Rattle.script_text.specs.declared.line.Line.TheVariants as lines
use Rattle.script_text.specs.Words.{IsKeyword, IsNumber, IsAuthor, IsName, IsSpan, IsSubMode, IsListMode, IsFlag, IsFill, IsRest}
use Rattle.script_text.specs.Grammar.{Then, Last, IsChange, IsNamed, IsTimed, IsSubscription, Says, IsLine}
use Rattle.script_text.proofs.OneMeanings.{one_number, number_kind, author_kind, name_kind, one_fill, one_span, sub_mode_kind, list_mode_kind, one_flag, keyword_kind, one_rest}
use Rattle.script_text.proofs.Spaceless.{path_kind, id_kind}
use Rattle.script_text.proofs.WordByWord.{OneLine, one_then, one_last}

one_change : (act : Act) → OneLine (IsChange act)
one_change act = one_then IsPathText path_kind (λ path. Last IsRest (λ value. lines.Add act path value)) (λ path. one_last IsRest one_rest (λ value. lines.Add act path value))

one_named : (make : ℕ → List ℕ → Line) → OneLine (IsNamed make)
one_named make = one_then IsAuthor author_kind (λ author. Last IsValueText (λ id. make author id)) (λ author. one_last IsValueText id_kind.one (λ id. make author id))

one_timed : (make : ℕ → List ℕ → Span → Line) → OneLine (IsTimed make)
one_timed make =
    one_then IsAuthor author_kind (λ author. Then IsValueText (λ id. Last IsSpan (λ span. make author id span)))
    (λ author. one_then IsValueText id_kind (λ id. Last IsSpan (λ span. make author id span)) (λ id. one_last IsSpan one_span (λ span. make author id span)))

abbrev sampled : List Elem → ℕ → ℕ → Bool → Line
sampled path interval heartbeat suppress = lines.Sub (record { path = path; mode = sub_modes.Sample; interval = interval; suppress = suppress; heartbeat = heartbeat })

one_subscription : (path : List Elem) (mode : SubMode) → OneLine (IsSubscription path mode)
one_subscription path sub_modes.Change = one_last IsNumber one_number (λ heartbeat. lines.Sub (record { path = path; mode = sub_modes.Change; interval = 0; suppress = false; heartbeat = heartbeat }))
one_subscription path sub_modes.Sample =
    one_then IsNumber number_kind (λ interval. Then IsNumber (λ heartbeat. Last IsFlag (sampled path interval heartbeat)))
    (λ interval. one_then IsNumber number_kind (λ heartbeat. Last IsFlag (sampled path interval heartbeat)) (λ heartbeat. one_last IsFlag one_flag (sampled path interval heartbeat)))
one_subscription path sub_modes.Other = λ octets a b is is'. absurd is

one_open : OneLine (Says keywords.Open)
one_open =
    one_then IsAuthor author_kind (λ author. Then IsName (λ name. Then IsListMode (λ mode. Last IsFlag (λ only. lines.Open author name mode only))))
    (λ author. one_then IsName name_kind (λ name. Then IsListMode (λ mode. Last IsFlag (λ only. lines.Open author name mode only)))
    (λ name. one_then IsListMode list_mode_kind (λ mode. Last IsFlag (λ only. lines.Open author name mode only))
    (λ mode. one_last IsFlag one_flag (λ only. lines.Open author name mode only))))

one_said : (keyword : Keyword) → OneLine (Says keyword)
one_said keywords.At = one_last IsNumber one_number (λ reading. lines.At reading)
one_said keywords.Delete = one_last IsPathText path_kind.one (λ path. lines.Add acts.Delete path [])
one_said keywords.Replace = one_change acts.Replace
one_said keywords.Update = one_change acts.Update
one_said keywords.Set = one_last IsAuthor author_kind.one (λ author. lines.Set author)
one_said keywords.Trial = one_timed (λ author id span. lines.Trial author id span)
one_said keywords.Confirm = one_named (λ author id. lines.Confirm author id)
one_said keywords.Cancel = one_named (λ author id. lines.Cancel author id)
one_said keywords.Extend = one_timed (λ author id span. lines.Extend author id span)
one_said keywords.Get = one_then IsAuthor author_kind (λ author. Last IsPathText (λ path. lines.Get author path)) (λ author. one_last IsPathText path_kind.one (λ path. lines.Get author path))
one_said keywords.Sub =
    one_then IsPathText path_kind (λ path. Then IsSubMode (λ mode. IsSubscription path mode))
    (λ path. one_then IsSubMode sub_mode_kind (λ mode. IsSubscription path mode) (λ mode. one_subscription path mode))
one_said keywords.Open = one_open
one_said keywords.Turn = one_last IsName name_kind.one (λ name. lines.Turn name)
one_said keywords.Poll = one_last IsName name_kind.one (λ name. lines.Poll name)
one_said keywords.End = one_last IsName name_kind.one (λ name. lines.End name)
one_said keywords.Stop = one_then IsNumber number_kind (λ calls. Last IsFill (λ fill. lines.Stop calls fill)) (λ calls. one_last IsFill one_fill (λ fill. lines.Stop calls fill))
one_said keywords.Fail = one_last IsNumber one_number (λ calls. lines.Fail calls)

pub one_meaning : (octets : List ℕ) (a b : Line) → IsLine octets a → IsLine octets b → a ≡ b
one_meaning octets a b is is' = one_then IsKeyword keyword_kind Says one_said octets a b is.said is'.said
