use Rattle.std.proofs.Common.{◌≡◌, drop}
use Rattle.base_kinds.specs.Tree.{set_rows}
use Rattle.set_request.proofs.key_merge.with_keys.Given as goal

-- setting the keys that are left gives what setting all gives
abbrev pub invariant-loop-key : goal.invariant-loop-key
invariant-loop-key l = set_rows (drop l.key-index l.keys) l.stored.items ≡ set_rows l.keys l.fn.rows
