use Rattle.pb_wire.proofs.NextLemmas.{one_more, first_is, no_fields, nothing_left, at_the_end}
use Rattle.pb_wire.proofs.laws.read_in_turn.Goals as goal

pub returns-clause-whole : goal.returns-clause-whole
returns-clause-whole c octets fields are = record { are_fields = are }

pub returns-clause-of_whole : goal.returns-clause-of_whole
returns-clause-of_whole c octets fields is = is.are_fields

pub returns-clause-more : goal.returns-clause-more
returns-clause-more c = one_more

pub returns-clause-first : goal.returns-clause-first
returns-clause-first c = first_is

pub returns-clause-bad : goal.returns-clause-bad
returns-clause-bad c = no_fields

pub returns-clause-at_the_end : goal.returns-clause-at_the_end
returns-clause-at_the_end c = nothing_left

pub returns-clause-no_more : goal.returns-clause-no_more
returns-clause-no_more c = at_the_end
