use Rattle.std.proofs.Common.{refl}
use Rattle.std.specs.Fmt.{digits}
use Rattle.hpack_block.specs.StaticTable.{static_table}
use Rattle.hpack_block.specs.Written.{block_of}
use Rattle.h2_windows.specs.Written.{spelled}
use Rattle.h2_send.proofs.reply_laws.replies_of_http.Goals as goal

pub returns-clause-plain : goal.returns-clause-plain
unfolding block_of static_table digits spelled
returns-clause-plain c = refl

pub returns-clause-updated : goal.returns-clause-updated
unfolding block_of static_table digits spelled
returns-clause-updated c = refl
