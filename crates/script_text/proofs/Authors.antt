-- The author of a Set's line is 1 or more.
use Rattle.std.proofs.Common.{◌≡◌, ◌≤◌, List, ℕ, sym, subst}
use Rattle.base_kinds.specs.declared.path.Elem.{Elem}
use Rattle.base_kinds.specs.declared.request.SubMode.{SubMode}
use Rattle.base_kinds.specs.declared.request.SubMode.TheVariants as sub_modes
use Rattle.script_text.specs.declared.keywords.Keyword.{Keyword}
use Rattle.script_text.specs.declared.keywords.Keyword.TheVariants as keywords
use Rattle.script_text.specs.declared.line.Line.{Line}
use Rattle.script_text.specs.declared.line.Line.TheVariants as lines
use Rattle.script_text.specs.Grammar.{IsLine, IsSubscription, Says}

-- a Set has an author
abbrev HasFitAuthor : Line → Type 0
HasFitAuthor (lines.Set author) = 1 ≤ author
HasFitAuthor _ = Unit {0}

uncounted : (line other : Line) → line ≡ other → HasFitAuthor other → HasFitAuthor line
uncounted line other is counts = subst HasFitAuthor (sym is) counts

of_subscription : (path : List Elem) (mode : SubMode) (rest : List ℕ) (line : Line) → IsSubscription path mode rest line → HasFitAuthor line
of_subscription path sub_modes.Change rest line said = uncounted line _ said.made tt
of_subscription path sub_modes.Sample rest line said = uncounted line _ said.next.next.made tt
of_subscription path sub_modes.Other rest line said = absurd said

of_keyword : (keyword : Keyword) (rest : List ℕ) (line : Line) → Says keyword rest line → HasFitAuthor line
of_keyword keywords.At rest line said = uncounted line _ said.made tt
of_keyword keywords.Delete rest line said = uncounted line _ said.made tt
of_keyword keywords.Replace rest line said = uncounted line _ said.next.made tt
of_keyword keywords.Update rest line said = uncounted line _ said.next.made tt
of_keyword keywords.Set rest line said = uncounted line (lines.Set said.value) said.made said.is.0
of_keyword keywords.Trial rest line said = uncounted line _ said.next.next.made tt
of_keyword keywords.Confirm rest line said = uncounted line _ said.next.made tt
of_keyword keywords.Cancel rest line said = uncounted line _ said.next.made tt
of_keyword keywords.Extend rest line said = uncounted line _ said.next.next.made tt
of_keyword keywords.Get rest line said = uncounted line _ said.next.made tt
of_keyword keywords.Sub rest line said = of_subscription said.value said.next.value said.next.rest line said.next.next
of_keyword keywords.Open rest line said = uncounted line _ said.next.next.next.made tt
of_keyword keywords.Turn rest line said = uncounted line _ said.made tt
of_keyword keywords.Poll rest line said = uncounted line _ said.made tt
of_keyword keywords.End rest line said = uncounted line _ said.made tt
of_keyword keywords.Stop rest line said = uncounted line _ said.next.made tt
of_keyword keywords.Fail rest line said = uncounted line _ said.made tt

pub set_author : (octets : List ℕ) (author : ℕ) → IsLine octets (lines.Set author) → 1 ≤ author
set_author octets author is = of_keyword is.said.value is.said.rest (lines.Set author) is.said.next
