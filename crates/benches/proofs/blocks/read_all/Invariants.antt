use Rattle.std.proofs.Common.{drop}
use Rattle.benches.proofs.BlockLemmas.{Reading}
use Rattle.benches.proofs.blocks.read_all.Given as goal

-- what the blocks give is what those that are left give with the table that is left
abbrev pub invariant-loop-block : goal.invariant-loop-block
invariant-loop-block l = Reading l.before l.blocks l.decoder (drop l.block-index l.blocks) l.checksum
