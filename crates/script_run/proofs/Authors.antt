-- The author of a line that sets or reads is 1 or more.
use Rattle.std.proofs.Common.{List, ℕ, arith}
use Rattle.script_text.specs.declared.line.Line.{Line}
use Rattle.script_text.specs.declared.line.Line.TheVariants as lines
use Rattle.script_text.specs.Grammar.{IsLine}
use Rattle.script_text.proofs.Ranges.{lines_are_in_range}
use Rattle.script_run.specs.ScriptStates.{HasFitAuthor}

pub has_fit_author : (octets : List ℕ) (line : Line) → IsLine octets line → HasFitAuthor line
has_fit_author octets (lines.Set author) is = let range = lines_are_in_range octets (lines.Set author) is in omega (arith, range.0)
has_fit_author octets (lines.At reading) is = tt
has_fit_author octets (lines.Add act path value) is = tt
has_fit_author octets (lines.Trial author id span) is = let range = lines_are_in_range octets (lines.Trial author id span) is in omega (arith, range.0.0)
has_fit_author octets (lines.Confirm author id) is = let range = lines_are_in_range octets (lines.Confirm author id) is in omega (arith, range.0.0)
has_fit_author octets (lines.Cancel author id) is = let range = lines_are_in_range octets (lines.Cancel author id) is in omega (arith, range.0.0)
has_fit_author octets (lines.Extend author id span) is = let range = lines_are_in_range octets (lines.Extend author id span) is in omega (arith, range.0.0)
has_fit_author octets (lines.Get author pattern) is = let range = lines_are_in_range octets (lines.Get author pattern) is in omega (arith, range.0.0)
has_fit_author octets (lines.Sub line) is = tt
has_fit_author octets (lines.Open author name mode only) is = let range = lines_are_in_range octets (lines.Open author name mode only) is in omega (arith, range.0.0)
has_fit_author octets (lines.Turn name) is = tt
has_fit_author octets (lines.Poll name) is = tt
has_fit_author octets (lines.End name) is = tt
has_fit_author octets (lines.Stop calls fill) is = tt
has_fit_author octets (lines.Fail calls) is = tt
