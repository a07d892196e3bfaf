use Rattle.std.proofs.Common.{◌≡◌, ◌<◌, ℕ, List, length, take, slice_get, IsTrue, subst}
use Rattle.base_kinds.specs.Schema.{SchemaNode, node_of}
use Rattle.schema_core.specs.Nodes.{names_at, has_parent}
use Rattle.schema_core.proofs.IndexLemmas.{own_names, names_distinct, parent_before}
use Rattle.schema_core.proofs.schema.Schema.each_has_its_place.Goals as goal

pub returns-clause-own : goal.returns-clause-own
returns-clause-own c =
    let P : List SchemaNode → Type 0 = λ nodes. (number : ℕ) → number < length nodes → node_of nodes (names_at nodes number) ≡ slice_get nodes number in
    subst P c.self.view_is (own_names _ _ c.self.invariant)

pub returns-clause-distinct : goal.returns-clause-distinct
returns-clause-distinct c =
    let P : List SchemaNode → Type 0 = λ nodes. (i j : ℕ) → i < length nodes → j < length nodes → names_at nodes i ≡ names_at nodes j → i ≡ j in
    subst P c.self.view_is (names_distinct _ _ c.self.invariant)

pub returns-clause-parent : goal.returns-clause-parent
returns-clause-parent c =
    let P : List SchemaNode → Type 0 = λ nodes. (number : ℕ) → number < length nodes → IsTrue (has_parent (take number nodes) (names_at nodes number)) in
    subst P c.self.view_is (parent_before _ _ c.self.invariant)
