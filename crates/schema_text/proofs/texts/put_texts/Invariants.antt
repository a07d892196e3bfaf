use Rattle.std.proofs.Common.{◌≡◌, ◌≤◌, ◌++◌, true, length}
use Rattle.std.specs.List.{list_all}
use Rattle.schema_text.specs.inner.Kinds.{passes}
use Rattle.schema_text.proofs.texts.put_texts.Given as goal

abbrev pub invariant-loop-part : goal.invariant-loop-part
invariant-loop-part l = record {
  read : l.fn.parts ≡ l.texts ++ l.parts;
  each : list_all (passes l.word) l.texts ≡ true;
  few : length l.texts ≤ l.most;
}

abbrev pub decreases-loop-part : goal.decreases-loop-part
decreases-loop-part l = length l.parts
