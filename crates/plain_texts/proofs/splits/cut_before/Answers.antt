use Rattle.std.proofs.lemmas.List.Sums.{prefix_len-le-length}
use Rattle.plain_texts.proofs.Cuts.{cut_there}
use Rattle.plain_texts.proofs.splits.cut_before.Goals as goal

pub split_at-requires : goal.split_at-requires
split_at-requires c = rw c.length_before.ensures (prefix_len-le-length _ c.args.octets.now)

pub returns : goal.returns
returns c = rw (c.split_at.ensures.front, c.split_at.ensures.back, c.length_before.ensures) (cut_there c.args.separator c.args.octets.now)
