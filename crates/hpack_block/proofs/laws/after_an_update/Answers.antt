use Rattle.std.proofs.Common.{◌++◌, refl}
use Rattle.hpack_block.specs.Tables.{with_maximum}
use Rattle.hpack_block.specs.Written.{block_of, update_of}
use Rattle.hpack_block.proofs.BlockLemmas.{answered_read}
use Rattle.hpack_block.proofs.WrittenLemmas.{updated_block}
use Rattle.hpack_block.proofs.laws.after_an_update.Goals as goal

pub returns-clause-is_block : goal.returns-clause-is_block
returns-clause-is_block c = updated_block

pub returns-clause-read_back : goal.returns-clause-read_back
returns-clause-read_back c table size headers result new short allowed le a ample =
    answered_read table (update_of size ++ block_of headers) result new headers (with_maximum size table) a ample (updated_block table size headers short allowed) le
