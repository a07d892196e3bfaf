use Rattle.hpack_block.specs.Written.{block_of}
use Rattle.hpack_block.proofs.BlockLemmas.{answered_read}
use Rattle.hpack_block.proofs.WrittenLemmas.{block_written}
use Rattle.hpack_block.proofs.laws.read_back.Goals as goal

pub returns : goal.returns
returns c table headers result new short le a ample = answered_read table (block_of headers) result new headers table a ample (block_written table headers short) le
