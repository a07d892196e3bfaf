use Rattle.json_rows.proofs.KeyPlaces.{put_there}
use Rattle.json_rows.proofs.entries.with_key.Goals as goal

pub returns : goal.returns
returns c =
    let there = put_there c.args.key c.args.keys in
    let place = c.place_of-place.ensures.place in
    let put = c.in_ok-insert.ensures.items in
    cc
