use Rattle.std.proofs.Common.{arith, ap, sym, ◌∙◌, ◌++◌, List, ℕ, append-nil}
use Rattle.base_lists.proofs.Fronts.{OnErr-any}
use Rattle.hpack_block.proofs.WrittenLemmas.{block_of-none, fields_next, fields_front}
use Rattle.hpack_block.proofs.encoder.put_fields.Goals as goal

pub loop-header-init : goal.loop-header-init
loop-header-init c = sym (ap (λ (s : List ℕ). c.args.out.now ++ s) block_of-none ∙ append-nil c.args.out.now)

pub returns-in_err-put_field-clause-err : goal.returns-in_err-put_field-clause-err
returns-in_err-put_field-clause-err c =
    OnErr-any c.from_residual.result
    (fields_front c.args.headers.now c.loop-header.header-index c.header-item.result c.args.out.now c.loop-header.out c.put_field.new.out (omega arith) c.header-item.is
    c.loop-header.invariant c.in_err-put_field.ensures.err)

pub loop-header-preserved : goal.loop-header-preserved
loop-header-preserved c =
    fields_next c.args.headers.now c.loop-header.header-index c.header-item.result c.args.out.now c.loop-header.out c.put_field.new.out (omega arith) c.header-item.is
    c.loop-header.invariant c.in_ok-put_field.ensures.ok
