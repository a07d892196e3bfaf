use Rattle.hpack_block.proofs.TableLemmas.{kept_all, kept_fewer, kept_within}
use Rattle.hpack_block.proofs.laws.kept_entries.Goals as goal

pub returns-clause-room : goal.returns-clause-room
returns-clause-room c = kept_within

pub returns-clause-all : goal.returns-clause-all
returns-clause-all c = kept_all

pub returns-clause-oldest : goal.returns-clause-oldest
returns-clause-oldest c = kept_fewer
