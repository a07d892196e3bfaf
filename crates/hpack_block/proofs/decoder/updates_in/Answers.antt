use Rattle.std.proofs.Common.{sym, subst}
use Rattle.hpack_block.specs.Tables.{Table}
use Rattle.hpack_block.specs.inner.Steps.{Leads}
use Rattle.hpack_block.proofs.BlockLemmas.{Leads-more, bad_integer, bad_size}
use Rattle.hpack_block.proofs.decoder.updates_in.Goals as goal

pub returns-in_err-size-clause-none : goal.returns-in_err-size-clause-none
returns-in_err-size-clause-none c =
    λ _. bad_integer c.args.octets.now c.args.table.now c.loop-rest.rest.now c.loop-rest.table c.loop-rest.invariant (c.is_update.ensures.update c.loop-rest-test.true)
    (sym c.in_err-size.ensures.value)

pub returns-then-size-gt-LARGEST_TABLE-clause-none : goal.returns-then-size-gt-LARGEST_TABLE-clause-none
returns-then-size-gt-LARGEST_TABLE-clause-none c =
    λ _. bad_size c.args.octets.now c.args.table.now c.loop-rest.rest.now c.loop-rest.table c.in_ok-size.size c.in_ok-size.after.now c.loop-rest.invariant
    (c.is_update.ensures.update c.loop-rest-test.true) (sym c.in_ok-size.ensures.value) c.if-size-gt-LARGEST_TABLE.true

pub loop-rest-preserved : goal.loop-rest-preserved
loop-rest-preserved c =
    subst (λ (t : Table). Leads c.args.octets.now c.args.table.now c.in_ok-size.after.now t) (sym c.resize.ensures)
    (Leads-more c.args.octets.now c.args.table.now c.loop-rest.rest.now c.loop-rest.table c.in_ok-size.size c.in_ok-size.after.now c.loop-rest.invariant
    (c.is_update.ensures.update c.loop-rest-test.true) (sym c.in_ok-size.ensures.value) c.if-size-gt-LARGEST_TABLE.false)
