use Rattle.std.proofs.Common.{length, sym, ap, ◌∙◌, arith}
use Rattle.std.specs.Prelude.{nat_lt}
use Rattle.std.proofs.lemmas.Bool.{lt-ltb}
use Rattle.std.proofs.lemmas.List.Sums.{position_or_len_is}
use Rattle.h2_windows.specs.declared.stream.Stream.{Stream}
use Rattle.h2_windows.specs.Streams.{new_stream}
use Rattle.h2_windows.proofs.streams.place_for.Goals as goal

pub returns-then-id-stream-clause-place : goal.returns-then-id-stream-clause-place
returns-then-id-stream-clause-place c =
    let d = c.index-streams-place.result in
    sym (position_or_len_is (λ (s : Stream). nat_lt c.args.id s.id) c.args.streams.now c.loop-place.place d (omega (arith, c.loop-place-test.true)) (λ k less. c.loop-place.invariant k d less) (λ less. ap (λ (s : Stream). nat_lt c.args.id s.id) (sym c.index-streams-place.is) ∙ lt-ltb c.args.id d.id c.if-id-stream.true))

pub returns-clause-place : goal.returns-clause-place
returns-clause-place c = sym (position_or_len_is (λ (s : Stream). nat_lt c.args.id s.id) c.args.streams.now (length c.args.streams.now) (new_stream 0) (omega arith) (λ k less. c.loop-place.invariant k (new_stream 0) (omega (arith, c.loop-place-test.false))) (λ less. absurd (omega (arith, less))))
