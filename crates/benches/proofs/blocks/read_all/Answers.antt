use Rattle.std.proofs.Common.{◌∷◌, ◌+◌, Ok, Err, fold, drop, ap, sym, ◌∙◌, subst, arith}
use Rattle.std.proofs.lemmas.List.{drop_more}
use Rattle.hpack_block.specs.declared.header.BlockFault.TheVariants.{Bad, TooLong}
use Rattle.hpack_block.specs.Answers.{Answers}
use Rattle.benches.specs.Blocks.{mixed}
use Rattle.benches.proofs.BlockLemmas.{Reading-none, Reading-more, Reading-bad, Reading-too_long}
use Rattle.benches.proofs.blocks.read_all.Goals as goal

pub loop-block-init : goal.loop-block-init
loop-block-init c = Reading-none c.args.before c.args.blocks.now c.make-decoder.result c.make-decoder.ensures

pub returns-in-Err-Bad : goal.returns-in-Err-Bad
returns-in-Err-Bad c = record {
  read = tt {0};
  bad = λ is. Reading-bad c.args.before c.args.blocks.now c.loop-block.decoder (drop c.loop-block.block-index c.args.blocks.now) c.loop-block.checksum c.block-item.result (drop (c.loop-block.block-index + 1) c.args.blocks.now) c.block.new.self c.loop-block.invariant
      (drop_more c.args.blocks.now c.loop-block.block-index _ (omega arith) ∙ ap (λ block. block ∷ drop (c.loop-block.block-index + 1) c.args.blocks.now) (sym c.block-item.is))
      (subst (λ octets. Answers c.loop-block.decoder octets (Err Bad) c.block.new.self) c.items.ensures
      (subst (λ fault. Answers c.loop-block.decoder c.items.result.now (Err fault) c.block.new.self) c.in-Err-Bad.field-0-is c.in-Err-Bad.ensures));
}

pub returns-in-Err-TooLong : goal.returns-in-Err-TooLong
returns-in-Err-TooLong c = record {
  read = tt {0};
  bad = λ is. Reading-too_long c.args.before c.args.blocks.now c.loop-block.decoder (drop c.loop-block.block-index c.args.blocks.now) c.loop-block.checksum c.block-item.result (drop (c.loop-block.block-index + 1) c.args.blocks.now) c.block.new.self c.loop-block.invariant
      (drop_more c.args.blocks.now c.loop-block.block-index _ (omega arith) ∙ ap (λ block. block ∷ drop (c.loop-block.block-index + 1) c.args.blocks.now) (sym c.block-item.is))
      (subst (λ octets. Answers c.loop-block.decoder octets (Err TooLong) c.block.new.self) c.items.ensures
      (subst (λ fault. Answers c.loop-block.decoder c.items.result.now (Err fault) c.block.new.self) c.in-Err-TooLong.field-0-is c.in-Err-TooLong.ensures));
}

pub loop-block-preserved : goal.loop-block-preserved
loop-block-preserved c =
    Reading-more c.args.before c.args.blocks.now c.loop-block.decoder (drop c.loop-block.block-index c.args.blocks.now) c.loop-block.checksum c.block-item.result (drop (c.loop-block.block-index + 1) c.args.blocks.now) c.in-Ok.headers c.block.new.self c.checksum_of-checksum.result c.loop-block.invariant
    (drop_more c.args.blocks.now c.loop-block.block-index _ (omega arith) ∙ ap (λ block. block ∷ drop (c.loop-block.block-index + 1) c.args.blocks.now) (sym c.block-item.is))
    (subst (λ octets. Answers c.loop-block.decoder octets (Ok c.in-Ok.headers) c.block.new.self) c.items.ensures c.in-Ok.ensures)
    (c.checksum_of-checksum.ensures ∙ ap (λ headers. fold mixed c.loop-block.checksum headers) c.items-in-Ok.ensures)
