use Rattle.std.proofs.Common.{arith}
use Rattle.hpack_huff.proofs.CodeLemmas.{place_within, has_rank}
use Rattle.hpack_huff.proofs.table.symbol_of.Goals as goal

pub overflow_add-result : goal.overflow_add-result
overflow_add-result c =
    let within = place_within c.args.length c.args.rank (omega arith) c.requires.has_code in
    omega arith

pub offset_bounds-rank : goal.offset_bounds-rank
offset_bounds-rank c =
    let within = place_within c.args.length c.args.rank (omega arith) c.requires.has_code in
    omega arith

pub bounds-rank : goal.bounds-rank
bounds-rank c = place_within c.args.length c.args.rank (omega arith) c.requires.has_code

pub returns : goal.returns
returns c = has_rank c.args.length c.args.rank (omega arith) c.requires.has_code
