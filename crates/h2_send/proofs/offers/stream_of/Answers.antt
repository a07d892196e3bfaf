use Rattle.std.proofs.Common.{rules, tests}
use Rattle.std.proofs.lemmas.Iterator.{YieldsList-from_slice}
use Rattle.std.proofs.lemmas.Iterator.Search.{find_from_yields_List}
use Rattle.h2_windows.specs.Streams.{is_stream}
use Rattle.h2_send.proofs.offers.stream_of.Goals as goal

pub returns : goal.returns
returns c = find_from_yields_List (is_stream c.args.id) _ _ _ c.find.ensures.ran (YieldsList-from_slice c.args.streams.now cc) (λ x b q k. search (rules, tests))
