use Rattle.std.proofs.Common.{◌≡◌, ◌≤◌, drop}
use Rattle.program.specs.inner.Loads.{counted_on}
use Rattle.program.proofs.load_command.count_by.Given as goal

abbrev pub invariant-entries : goal.invariant-entries
invariant-entries l = record {
  counted : counted_on l.author l.count (drop l.entry-index l.entries) ≡ counted_on l.author 0 l.entries;
  few : l.count ≤ l.entry-index;
}
