use Rattle.std.proofs.Common.{◌≡◌, ◌++◌, take}
use Rattle.std.specs.List.{flat_map}
use Rattle.base_kinds.specs.Tree.{with_act}
use Rattle.log_text.specs.Logs.{op_lines}
use Rattle.log_text.proofs.log.append_ops_with.Given as goal

-- the operations so far with this act are added
abbrev pub invariant-loop-op : goal.invariant-loop-op
invariant-loop-op l = l.out ≡ l.fn.out ++ flat_map op_lines (with_act l.act (take l.op-index l.ops))
