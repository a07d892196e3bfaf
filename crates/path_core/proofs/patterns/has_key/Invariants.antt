use Rattle.std.proofs.Common.{◌≡◌, ◌&&◌, drop}
use Rattle.std.specs.List.{list_any}
use Rattle.std.specs.Str.{bytes_eq}
use Rattle.path_core.proofs.patterns.has_key.Given as goal

-- no key so far is this one
abbrev pub invariant-loop-other : goal.invariant-loop-other
invariant-loop-other l = list_any (λ other. bytes_eq l.key.0 other.0 && bytes_eq l.key.1 other.1) (drop l.other-index l.keys) ≡ list_any (λ other. bytes_eq l.key.0 other.0 && bytes_eq l.key.1 other.1) l.keys
