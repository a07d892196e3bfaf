use Rattle.std.proofs.Common.{sym, subst}
use Rattle.json_rows.specs.inner.Indexes.{IsIndexed}
use Rattle.json_rows.proofs.KeySets.{said, indexed_more}
use Rattle.json_rows.proofs.seen_keys.SeenKeys.add.Goals as goal

pub invariant_of-self-then-added : goal.invariant_of-self-then-added
invariant_of-self-then-added c =
    subst (IsIndexed c.insert.new.self) (sym c.remember.ensures)
    (indexed_more c.self.inside.index c.insert.new.self c.self.inside.seen c.args.keys.now c.in_ok-copy.copy c.in_ok-copy.ensures c.self.invariant c.in-Ok.ensures.updates.0)

pub returns-then-added-clause-added : goal.returns-then-added-clause-added
returns-then-added-clause-added c =
    let says = said c.self.inside.index c.self.inside.seen c.args.keys.now c.in_ok-copy.copy c.in-Ok.added c.in_ok-copy.ensures c.self.invariant c.in-Ok.ensures.added in
    cc

pub returns-else-added-clause-added : goal.returns-else-added-clause-added
returns-else-added-clause-added c =
    let says = said c.self.inside.index c.self.inside.seen c.args.keys.now c.in_ok-copy.copy c.in-Ok.added c.in_ok-copy.ensures c.self.invariant c.in-Ok.ensures.added in
    cc
