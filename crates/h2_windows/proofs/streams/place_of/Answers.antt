use Rattle.std.proofs.Common.{length, sym, ap, ◌∙◌, rules, arith}
use Rattle.std.proofs.lemmas.List.Sums.{position_or_len_is}
use Rattle.h2_windows.specs.Streams.{is_stream, new_stream}
use Rattle.h2_windows.proofs.streams.place_of.Goals as goal

pub returns-then-stream-id-clause-place : goal.returns-then-stream-id-clause-place
returns-then-stream-id-clause-place c =
    let d = c.index-streams-place.result in
    sym (position_or_len_is (is_stream c.args.id) c.args.streams.now c.loop-place.place d (omega (arith, c.loop-place-test.true)) (λ k less. c.loop-place.invariant k d less) (λ less. ap (is_stream c.args.id) (sym c.index-streams-place.is) ∙ search rules))

pub returns-clause-place : goal.returns-clause-place
returns-clause-place c = sym (position_or_len_is (is_stream c.args.id) c.args.streams.now (length c.args.streams.now) (new_stream 0) (omega arith) (λ k less. c.loop-place.invariant k (new_stream 0) (omega (arith, c.loop-place-test.false))) (λ less. absurd (omega (arith, less))))
