use Rattle.std.proofs.Common.{List, Option, refl}
use Rattle.std.proofs.lemmas.Result.{IfOk-weaker}
use Rattle.hpack_block.specs.declared.header.Header.{Header}
use Rattle.hpack_block.specs.inner.Steps.{TakesFields, TakesBlock}
use Rattle.hpack_block.proofs.BlockLemmas.{TakesBlock-from, IsBad-from}
use Rattle.hpack_block.proofs.decoder.block_in.Goals as goal

pub returns-in_default-clause-bad : goal.returns-in_default-clause-bad
returns-in_default-clause-bad c = λ _. c.in_default.ensures.none refl

pub returns-clause-ok : goal.returns-clause-ok
returns-clause-ok c =
    IfOk-weaker c.fields_in.result (λ (list : Option (List Header)). TakesFields c.updates_in.new.table c.in-Some.rest.now c.fields_in.new.table list)
    (λ (list : Option (List Header)). TakesBlock c.args.table.now c.args.octets.now c.fields_in.new.table list)
    (λ list f. TakesBlock-from c.args.octets.now c.args.table.now c.in-Some.rest.now c.updates_in.new.table c.fields_in.new.table list c.in-Some.ensures.some f)
    c.fields_in.ensures.ok

pub returns-clause-bad : goal.returns-clause-bad
returns-clause-bad c =
    λ bad. IsBad-from c.args.octets.now c.args.table.now c.in-Some.rest.now c.updates_in.new.table c.in-Some.ensures.some (c.fields_in.ensures.bad bad)
