-- What a line's words say is what its parts may be.
use Rattle.std.proofs.Common.{◌≡◌, ◌≢◌, ℕ, ◌-◌, ◌^◌, List, [], refl, sym, arith, subst, min}
use Rattle.base_kinds.specs.declared.fill.Fill.{Fill}
use Rattle.base_kinds.specs.declared.fill.Fill.TheVariants as fills
use Rattle.base_kinds.specs.declared.operation.Act.{Act}
use Rattle.base_kinds.specs.declared.operation.Act.TheVariants as acts
use Rattle.base_kinds.specs.declared.path.Elem.{Elem}
use Rattle.base_kinds.specs.declared.request.ListMode.{ListMode}
use Rattle.base_kinds.specs.declared.request.ListMode.TheVariants as modes
use Rattle.base_kinds.specs.declared.request.Span.{Span}
use Rattle.base_kinds.specs.declared.request.Span.TheVariants as spans
use Rattle.base_kinds.specs.declared.request.SubMode.{SubMode}
use Rattle.base_kinds.specs.declared.request.SubMode.TheVariants as sub_modes
use Rattle.path_core.specs.PathText.{AreElems}
use Rattle.script_text.specs.declared.keywords.Keyword.{Keyword}
use Rattle.script_text.specs.declared.keywords.Keyword.TheVariants as keywords
use Rattle.script_text.specs.declared.line.Line.{Line}
use Rattle.script_text.specs.declared.line.Line.TheVariants as lines
use Rattle.script_text.specs.Words.{IsAuthor, IsListMode, IsSpan, IsFill}
use Rattle.script_text.specs.Grammar.{IsSubscription, IsChange, Says, IsLine}
use Rattle.script_text.specs.Ranges.{IsFitAuthor, IsWhole, IsOctetFill, IsInRange}

made_so : (line other : Line) → line ≡ other → IsInRange other → IsInRange line
made_so line other made meant = subst IsInRange (sym made) meant

of_author : (text : List ℕ) (author : ℕ) → IsAuthor text author → IsFitAuthor author
of_author text author is = (is.0, is.1)

whole : (text : List ℕ) (span : Span) → IsSpan text span → IsWhole span
whole text spans.Absent is = tt
whole text (spans.Of seconds nanos) is = record { number = min is.0.number (2 ^ 63 - 1); small = omega arith; whole = is.0.bounded; none = is.1 }

octet_fill : (text : List ℕ) (fill : Fill) → IsFill text fill → IsOctetFill fill
octet_fill text fills.Old is = tt
octet_fill text fills.New is = tt
octet_fill text (fills.Octet octet) is = is.0

known_mode : (text : List ℕ) (mode : ListMode) → IsListMode text mode → mode ≢ modes.Other
known_mode text mode is other = subst (IsListMode text) other is

no_delete : (act : Act) (value : List ℕ) → act ≢ acts.Delete → act ≡ acts.Delete → value ≡ []
no_delete act value other is = absurd (other is)

change_meant : (act : Act) → act ≢ acts.Delete → (octets : List ℕ) (line : Line) → IsChange act octets line → IsInRange line
change_meant act other octets line is =
    made_so line (lines.Add act is.value is.next.value) is.next.made (is.front.is.elems, no_delete act is.next.value other)

subscription_meant : (path : List Elem) (mode : SubMode) → AreElems path → (octets : List ℕ) (line : Line) → IsSubscription path mode octets line → IsInRange line
subscription_meant path sub_modes.Change elems octets line is =
    made_so line _ is.made (record { path = elems; mode = λ other. absurd (cc); interval = omega arith; heartbeat = is.is.0 })
subscription_meant path sub_modes.Sample elems octets line is =
    made_so line _ is.next.next.made (record { path = elems; mode = λ other. absurd (cc); interval = is.front.is.0; heartbeat = is.next.front.is.0 })
subscription_meant path sub_modes.Other elems octets line is = absurd is

said_meant : (keyword : Keyword) (octets : List ℕ) (line : Line) → Says keyword octets line → IsInRange line
said_meant keywords.At octets line is = made_so line (lines.At is.value) is.made is.is.0
said_meant keywords.Delete octets line is = made_so line (lines.Add acts.Delete is.value []) is.made (is.is.elems, λ act. refl)
said_meant keywords.Replace octets line is = change_meant acts.Replace (λ same. absurd (cc)) octets line is
said_meant keywords.Update octets line is = change_meant acts.Update (λ same. absurd (cc)) octets line is
said_meant keywords.Set octets line is = made_so line (lines.Set is.value) is.made (of_author octets is.value is.is)
said_meant keywords.Trial octets line is =
    made_so line (lines.Trial is.value is.next.value is.next.next.value) is.next.next.made (of_author is.front.word is.value is.front.is, is.next.front.is.utf8, whole is.next.rest is.next.next.value is.next.next.is)
said_meant keywords.Confirm octets line is = made_so line (lines.Confirm is.value is.next.value) is.next.made (of_author is.front.word is.value is.front.is, is.next.is.utf8)
said_meant keywords.Cancel octets line is = made_so line (lines.Cancel is.value is.next.value) is.next.made (of_author is.front.word is.value is.front.is, is.next.is.utf8)
said_meant keywords.Extend octets line is =
    made_so line (lines.Extend is.value is.next.value is.next.next.value) is.next.next.made (of_author is.front.word is.value is.front.is, is.next.front.is.utf8, whole is.next.rest is.next.next.value is.next.next.is)
said_meant keywords.Get octets line is = made_so line (lines.Get is.value is.next.value) is.next.made (of_author is.front.word is.value is.front.is, is.next.is.elems)
said_meant keywords.Sub octets line is = subscription_meant is.value is.next.value is.front.is.elems is.next.rest line is.next.next
said_meant keywords.Open octets line is =
    made_so line (lines.Open is.value is.next.value is.next.next.value is.next.next.next.value) is.next.next.next.made
    (of_author is.front.word is.value is.front.is, is.next.front.is.0, known_mode is.next.next.front.word is.next.next.value is.next.next.front.is)
said_meant keywords.Turn octets line is = made_so line (lines.Turn is.value) is.made is.is.0
said_meant keywords.Poll octets line is = made_so line (lines.Poll is.value) is.made is.is.0
said_meant keywords.End octets line is = made_so line (lines.End is.value) is.made is.is.0
said_meant keywords.Stop octets line is = made_so line (lines.Stop is.value is.next.value) is.next.made (is.front.is.0, octet_fill is.rest is.next.value is.next.is)
said_meant keywords.Fail octets line is = made_so line (lines.Fail is.value) is.made is.is.0

pub lines_are_in_range : (octets : List ℕ) (line : Line) → IsLine octets line → IsInRange line
lines_are_in_range octets line is = said_meant is.said.value is.said.rest line is.said.next
