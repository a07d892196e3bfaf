use Rattle.std.proofs.Common.{sym, ◌∙◌, arith}
use Rattle.hpack_block.specs.Written.{is_pair}
use Rattle.hpack_block.proofs.WrittenLemmas.{place_found, no_place, static_length-lt, static_length-le}
use Rattle.hpack_block.proofs.static_table.place_of_pair.Goals as goal

pub returns-then-is_pair-clause-value : goal.returns-then-is_pair-clause-value
returns-then-is_pair-clause-value c =
    place_found (is_pair c.args.header.now) c.loop-place.place (static_length-lt c.loop-place.place (omega arith)) (sym c.is_pair.ensures ∙ c.if-is_pair.true) c.loop-place.invariant

pub returns-clause-value : goal.returns-clause-value
returns-clause-value c = no_place (is_pair c.args.header.now) c.loop-place.place (static_length-le c.loop-place.place (omega arith)) c.loop-place.invariant
