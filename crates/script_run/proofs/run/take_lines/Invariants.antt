use Rattle.std.proofs.Common.{◌+◌, ◌≤◌, length}
use Rattle.script_text.specs.Lines.{lines_of}
use Rattle.script_run.proofs.Runs.{Leads}
use Rattle.script_run.proofs.run.take_lines.Given as goal

-- the lines that are left lead to what the whole script prints
abbrev pub invariant-lines : goal.invariant-lines
invariant-lines l = record {
  few : l.number + length l.rest ≤ length l.script + 1;
  leads : Leads l.goes_on (lines_of l.script) l.fn.state l.number (lines_of l.rest) l.state l.text;
}

abbrev pub decreases-lines : goal.decreases-lines
decreases-lines l = length l.rest
