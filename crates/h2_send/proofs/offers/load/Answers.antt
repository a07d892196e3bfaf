use Rattle.std.proofs.Common.{rules, ◌≡◌, get_or, ◌+◌, ap, ◌∙◌, arith}
use Rattle.std.specs.List.{position_or_len}
use Rattle.h2_windows.specs.Streams.{is_stream}
use Rattle.h2_windows.specs.Holding.{counted}
use Rattle.h2_send.specs.Offers.{with_octets}
use Rattle.h2_send.proofs.Loading.{with_parts, loaded_at, loaded_none}
use Rattle.h2_send.proofs.offers.load.Goals as goal

pub returns-then-place-len : goal.returns-then-place-len
returns-then-place-len c =
    let streams = c.args.streams.now.items in
    let s = c.index_mut-stream.result.now in
    let place : c.place_of-place.result ≡ position_or_len (is_stream c.args.id) streams = search rules in
    let is : s ≡ get_or streams c.place_of-place.result s = search rules in
    loaded_at c.args.id c.args.octets c.place_of-place.result _ s streams place (with_parts c.args.octets s _ _ (c.saturating_add-stream.ensures ∙ ap (λ n. counted (s.taken + n)) c.len-then-place-len.ensures) c.of.ensures ∙ ap (with_octets c.args.octets) is)

pub returns-else-place-len : goal.returns-else-place-len
returns-else-place-len c =
    let streams = c.args.streams.now.items in
    let place : c.place_of-place.result ≡ position_or_len (is_stream c.args.id) streams = search rules in
    loaded_none c.args.id c.args.octets streams (omega (arith, place, c.if-place-len.false, c.len.ensures, c.deref.ensures.len))
