use Rattle.std.proofs.Common.{rules, not}
use Rattle.std.proofs.lemmas.Fn.{filter_same}
use Rattle.std.specs.Prelude.{◌==◌}
use Rattle.h2_streams.specs.declared.streams.Stream.{Stream}
use Rattle.h2_streams.proofs.streams.Streams.remove.Goals as goal

pub returns : goal.returns
returns c = rw (← c.self.view_is) (filter_same _ (λ (stream : Stream). not (stream.id == c.args.id)) _ (λ stream b f called. search rules) _ _ c.retain.ensures.filtered)
