use Rattle.std.proofs.Common.{◌≡◌, List, ℕ, ◌++◌, OnOk, subst}
use Rattle.base_lists.specs.Fronts.{AppendsFront}
use Rattle.base_lists.proofs.Fronts.{OnErr-map}
use Rattle.hpack_block.proofs.WrittenLemmas.{groups_few}
use Rattle.hpack_block.proofs.encoder.put_above.Goals as goal

pub returns-clause-ok : goal.returns-clause-ok
returns-clause-ok c = subst (λ (s : List ℕ). OnOk c.put_groups.result (c.put_groups.new.out ≡ c.args.out.now ++ s)) (groups_few c.args.n c.requires) c.put_groups.ensures.ok

pub returns-clause-err : goal.returns-clause-err
returns-clause-err c = OnErr-map c.put_groups.result (subst (λ (s : List ℕ). AppendsFront c.args.out.now c.put_groups.new.out s) (groups_few c.args.n c.requires)) c.put_groups.ensures.err
