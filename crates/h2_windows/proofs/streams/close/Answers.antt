use Rattle.std.proofs.Common.{not, rules}
use Rattle.std.proofs.lemmas.Fn.{filter_same}
use Rattle.h2_windows.specs.declared.stream.Stream.{Stream}
use Rattle.h2_windows.specs.Streams.{is_stream}
use Rattle.h2_windows.proofs.streams.close.Goals as goal

pub returns : goal.returns
returns c = filter_same _ (λ (s : Stream). not (is_stream c.args.id s)) _ (λ s b f k. search rules) _ _ c.retain.ensures.filtered
