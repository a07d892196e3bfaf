use Rattle.hpack_huff.proofs.HuffmanLemmas.{one_text}
use Rattle.hpack_huff.proofs.laws.one_text.Goals as goal

pub returns : goal.returns
returns c = one_text
