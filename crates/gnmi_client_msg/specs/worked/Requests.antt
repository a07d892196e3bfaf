-- Requests in octets.
use Rattle.std.proofs.Common.{◌≡◌, [], ◌∷◌, false, refl}
use Rattle.base_kinds.specs.declared.request.Action.TheVariants as actions
use Rattle.base_kinds.specs.declared.request.Given.TheVariants as given
use Rattle.base_kinds.specs.declared.value.Value.TheVariants as values
use Rattle.pb_wire.specs.Varint.{shortest}
use Rattle.gnmi_client_msg.specs.Requests.{set_message, get_message}

-- the root, in PROTO
pub the_root : get_message [] ≡ 18 ∷ 0 ∷ 40 ∷ 2 ∷ []
unfolding shortest
the_root = refl

-- a confirm of the trial "t"
pub a_confirm : set_message (record {
  prefix = [];
  target = [];
  deletes = [];
  replaces = [];
  updates = [];
  action = actions.Confirm (116 ∷ []);
  unsupported = false;
}) ≡ 42 ∷ 7 ∷ 34 ∷ 5 ∷ 10 ∷ 1 ∷ 116 ∷ 26 ∷ 0 ∷ []
unfolding shortest
a_confirm = refl

-- behind a prefix with the target "d" alone, an update of "a" to 1400
pub an_update : set_message (record {
  prefix = [];
  target = 100 ∷ [];
  deletes = [];
  replaces = [];
  updates = record {
    path = record { name = 97 ∷ []; keys = [] } ∷ [];
    given = given.Scalar (values.Uint 1400);
  } ∷ [];
  action = actions.Plain;
  unsupported = false;
}) ≡
    10 ∷ 3 ∷ 34 ∷ 1 ∷ 100 ∷ 34 ∷ 12 ∷ 10 ∷ 5 ∷ 26 ∷ 3 ∷ 10 ∷ 1 ∷ 97 ∷ 26 ∷ 3 ∷ 24 ∷ 248 ∷ 10 ∷ []
unfolding shortest
an_update = refl
