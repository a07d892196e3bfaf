use Rattle.hpack_block.specs.declared.header.Ended.TheVariants.{Bad}
use Rattle.hpack_block.proofs.BlockLemmas.{Answers-fault, err_of}
use Rattle.hpack_block.proofs.decoder.Decoder.block.Goals as goal

pub returns-in-Err : goal.returns-in-Err
returns-in-Err c =
    Answers-fault c.args.self.now c.self.inside.ended c.self.inside.table c.args.octets.now c.in-Err.end c.from-in-Err.result c.self.view_is c.in_default.not-Some c.from-in-Err.ensures
    (λ e. c.in-Err.ensures.bad (err_of c.in-Err.end Bad e))
