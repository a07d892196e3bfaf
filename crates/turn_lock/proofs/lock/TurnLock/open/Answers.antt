use Rattle.std.proofs.Common.{rules, ◌≡◌, List, [], ◌∷◌, length, Option, None, sym, subst}
use Rattle.atomic_table.specs.Table.{opening}
use Rattle.turn_lock.specs.inner.Rule.{KeepsRule}
use Rattle.turn_lock.specs.Passes.{opening_view}
use Rattle.turn_lock.proofs.AllowedSteps.{may_start, may_take}
use Rattle.turn_lock.proofs.lock.TurnLock.open.Goals as goal

pub new-requires : goal.new-requires
new-requires g c = let e : c.push_reserved.new.self.items ≡ None ∷ [] = search rules in let first = g.V.Chronicle.entries c.of-about.result.value in
    let long : c.count-count.result ≡ length first = search rules in
    subst (λ (xs : List (Option g.row.V.Denot)). KeepsRule g.V.Chronicle.entries g.V.Chronicle.author first (opening (1 ∷ 0 ∷ c.count-count.result ∷ 1 ∷ []) xs (opening_view first))) (sym e)
    (may_start g.V.Chronicle.entries g.V.Chronicle.author first c.count-count.result long)

pub load-requires : goal.load-requires
load-requires g c = (search rules, search rules, may_take _ _ _ _ _ _ (search rules))
