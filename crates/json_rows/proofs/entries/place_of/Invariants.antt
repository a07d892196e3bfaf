use Rattle.std.proofs.Common.{◌≡◌, ◌+◌, drop}
use Rattle.std.specs.List.{position_or_len}
use Rattle.std.specs.Ordering.{is_gt}
use Rattle.base_kinds.specs.Paths.{text_cmp}
use Rattle.json_rows.proofs.entries.place_of.Given as goal

-- no key so far has a name above this one
abbrev pub invariant-loop-i : goal.invariant-loop-i
invariant-loop-i l = l.i + position_or_len (λ other. is_gt (text_cmp other.0 l.name)) (drop l.i l.other-items) ≡ position_or_len (λ other. is_gt (text_cmp other.0 l.name)) l.other-items
