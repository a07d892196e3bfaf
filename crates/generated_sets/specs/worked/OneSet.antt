-- The Set of 1500 as the mtu of eth0, octet for octet.
use Rattle.std.specs.Prelude.{◌≡◌, List, ℕ, [], ◌∷◌, ◌++◌, codes, refl}
use Rattle.std.specs.Fmt.{digits}
use Rattle.hpack_block.specs.StaticTable.{static_table}
use Rattle.hpack_block.specs.Written.{block_of}
use Rattle.pb_wire.specs.Varint.{shortest}
use Rattle.generated_sets.specs.Draws.{interface_of, mtu_of}
use Rattle.generated_sets.specs.Messages.{set_request}
use Rattle.generated_sets.specs.Connections.{head_frame, message_frame}

pub interface : interface_of 14080 ≡ codes "eth0"
unfolding digits
interface = refl

pub mtu : mtu_of 14080 ≡ 1500
mtu = refl

abbrev request : List ℕ
request = 34 ∷ 65 ∷ 10 ∷ 58 ∷ 26 ∷ 12 ∷ 10 ∷ 10 ∷ codes "interfaces"
    ++ 26 ∷ 25 ∷ 10 ∷ 9 ∷ codes "interface" ++ 18 ∷ 12 ∷ 10 ∷ 4 ∷ codes "name" ++ 18 ∷ 4
    ∷ codes "eth0"
    ++ 26 ∷ 8 ∷ 10 ∷ 6 ∷ codes "config" ++ 26 ∷ 5 ∷ 10 ∷ 3 ∷ codes "mtu" ++ 26 ∷ 3 ∷ 24 ∷ 220
    ∷ 11 ∷ []

pub request_is : set_request 14080 ≡ request
unfolding digits shortest
request_is = refl

pub message_is : message_frame 1 14080
    ≡ 0 ∷ 0 ∷ 72 ∷ 0 ∷ 1 ∷ 0 ∷ 0 ∷ 0 ∷ 1 ∷ 0 ∷ 0 ∷ 0 ∷ 0 ∷ 67 ∷ request
unfolding digits shortest
message_is = refl

pub head_is : head_frame 1
    ≡ 0 ∷ 0 ∷ 74 ∷ 1 ∷ 4 ∷ 0 ∷ 0 ∷ 0 ∷ 1 ∷ 131 ∷ 134 ∷ 4 ∷ 14 ∷ codes "/gnmi.gNMI/Set" ++ 1 ∷ 1
    ∷ codes "x"
    ++ 15 ∷ 16 ∷ 16 ∷ codes "application/grpc" ++ 0 ∷ 2 ∷ codes "te" ++ 8 ∷ codes "trailers"
    ++ 15 ∷ 43 ∷ 1 ∷ codes "g" ++ 0 ∷ 12 ∷ codes "grpc-timeout" ++ 2 ∷ codes "5S"
unfolding block_of static_table digits
head_is = refl
