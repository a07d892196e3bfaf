use Rattle.std.proofs.Common.{◌≡◌, ℕ, ◌+◌, ◌++◌, ◌∷◌, [], List, take, ap, sym, ◌∙◌, subst, true≢false, arith}
use Rattle.std.proofs.lemmas.List.{take_more, take_all}
use Rattle.base_kinds.specs.declared.operation.Row.{Row}
use Rattle.value_core.specs.declared.scalar.Scalar.{Scalar}
use Rattle.tree_check.specs.inner.LeafrefTargets.{AreTargets}
use Rattle.tree_check.proofs.Targets.{with_target, without_target}
use Rattle.tree_check.proofs.leafref.put_targets.Goals as goal
use Rattle.tree_check.proofs.leafref.put_targets.Goals.{in-Some-scalar_of+in_ok-push, in_default-scalar_of}

pub loop-row-preserved : goal.loop-row-preserved
loop-row-preserved c =
    let row = c.row-item.result in
    let i = c.loop-row.row-index in
    let rows = c.args.rows.now in
    let more : take i rows ++ row ∷ [] ≡ take (i + 1) rows = ap (λ r. take i rows ++ r ∷ []) c.row-item.is ∙ sym (take_more rows i row (omega arith)) in
    subst (λ (some : List Row). AreTargets c.args.schema.now some c.match-scalar_of.targets.items) more
    (elim c.match-scalar_of.branch [
      | in-Some-scalar_of+in_ok-push w ↦
          subst (λ (targets : List (ℕ × Scalar)). AreTargets c.args.schema.now (take i rows ++ row ∷ []) targets) (sym (ap (λ v. v.items) w.targets-is ∙ w.in_ok-push.ensures.items))
          (with_target c.args.schema.now (take i rows) c.loop-row.targets.items row c.in-Some.id.0 w.in-Some-scalar_of.scalar c.loop-row.invariant c.in-Some.ensures.within c.in-Some.ensures.named w.in-Some-scalar_of.ensures)
      | in_default-scalar_of w ↦
          subst (λ (targets : List (ℕ × Scalar)). AreTargets c.args.schema.now (take i rows ++ row ∷ []) targets) (sym (ap (λ v. v.items) w.targets-is))
          (without_target c.args.schema.now (take i rows) c.loop-row.targets.items row c.loop-row.invariant w.in_default-scalar_of.ensures)
    ])

pub returns : goal.returns
returns c =
    let whole : take c.loop-row.row-index c.args.rows.now ≡ c.args.rows.now = take_all c.loop-row.row-index c.args.rows.now (omega arith) in
    record {
      targets = λ is. subst (λ (rows : List Row). AreTargets c.args.schema.now rows c.loop-row.targets.items) whole c.loop-row.invariant;
      unknown = λ is. absurd (true≢false is);
    }
