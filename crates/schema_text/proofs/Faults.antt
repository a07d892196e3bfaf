-- The faults of the nodes from one on.
use Rattle.std.proofs.Common.{◌≡◌, ℕ, zero, suc, ◌+◌, ◌<◌, ◌≤◌, List, [], ◌∷◌, Option, Some, None, length, drop, get_or, slice_get, refl, ap, ◌∙◌, arith}
use Rattle.std.specs.Option.{option_map}
use Rattle.base_kinds.specs.Schema.{SchemaNode}
use Rattle.schema_text.specs.declared.cause.Cause.{Cause}
use Rattle.schema_text.specs.Schemas.{node_fault, or_fault, first_fault}

no_lines : (all nodes : List SchemaNode) → first_fault all nodes [] ≡ None
no_lines all [] = refl
no_lines all (node ∷ nodes) = refl

past : (n : ℕ) (lines : List ℕ) → length lines ≤ n → drop n lines ≡ []
past zero [] h = refl
past zero (line ∷ lines) h = absurd (omega arith)
past (suc n) [] h = refl
past (suc n) (line ∷ lines) h = past n lines (omega arith)

-- no line is left
pub no_line : (all nodes : List SchemaNode) (lines : List ℕ) (n : ℕ) → length lines ≤ n → first_fault all (drop n nodes) (drop n lines) ≡ None
no_line all nodes lines n h = ap (first_fault all (drop n nodes)) (past n lines h) ∙ no_lines all (drop n nodes)

-- this node on its line, and those behind it
pub here : (all nodes : List SchemaNode) (lines : List ℕ) (n line : ℕ) (fault : Option Cause) → option_map (node_fault all) (slice_get nodes n) ≡ Some fault → n < length lines → line ≡ get_or lines n line → first_fault all (drop n nodes) (drop n lines) ≡ or_fault line fault (first_fault all (drop (n + 1) nodes) (drop (n + 1) lines))
here all [] lines n line fault is below at = absurd (cc)
here all (node ∷ nodes) [] n line fault is below at = absurd (omega arith)
here all (node ∷ nodes) (other ∷ lines) zero line fault is below at =
    let same : node_fault all node ≡ fault = cc in
    rw (← same, at) refl
here all (node ∷ nodes) (other ∷ lines) (suc n) line fault is below at =
    let up : suc n + 1 ≡ suc (n + 1) = omega arith in
    rw up (here all nodes lines n line fault is (omega arith) at)
