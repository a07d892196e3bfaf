-- Without a schema there are no models.
use Rattle.std.proofs.Common.{◌≡◌, [], ◌∷◌, refl}
use Rattle.pb_wire.specs.Varint.{shortest}
use Rattle.gnmi_get_msg.specs.Replies.{capabilities}

pub no_schema : capabilities [] ≡
    18 ∷ 3 ∷ 0 ∷ 4 ∷ 2 ∷ 26 ∷ 6 ∷ 48 ∷ 46 ∷ 49 ∷ 48 ∷ 46 ∷ 48 ∷ []
unfolding shortest
no_schema = refl
