-- Messages are small.
use Rattle.std.proofs.Common.{◌≡◌, ℕ, ◌+◌, ◌%◌, ◌^◌, ◌<◌, ◌≤◌, List, ◌∷◌, ◌++◌, length, codes, arith}
use Rattle.std.specs.Fmt.{decimal}
use Rattle.std.proofs.lemmas.Fmt.{length-decimal-le}
use Rattle.std.proofs.lemmas.List.{length-append}
use Rattle.base_lists.proofs.SevenBits.{length-groups_of}
use Rattle.pb_wire.specs.Varint.{shortest}
use Rattle.pb_wire.specs.Writing.{octets_field, varint_field}
use Rattle.grpc_core.specs.Messages.{framed}
use Rattle.generated_sets.specs.Draws.{interface_of, mtu_of}
use Rattle.generated_sets.specs.Messages.{element, element_with_key, path_of_mtu, update_of_mtu, set_request}

short : (n : ℕ) → length (shortest n) ≤ 10
unfolding shortest
short n = length-groups_of 9 n

-- a field has at most 11 octets more than what it holds
field : (number : ℕ) (octets : List ℕ) (most : ℕ) → length octets ≤ most → length (octets_field number octets) ≤ 11 + most
field number octets most less = omega (arith, length-append (shortest (length octets)) octets, short (length octets), less)

number_field : (number value : ℕ) → length (varint_field number value) ≤ 11
number_field number value = omega (arith, short value)

both : (a b : List ℕ) (most more : ℕ) → length a ≤ most → length b ≤ more → length (a ++ b) ≤ most + more
both a b most more less fewer = omega (arith, length-append a b, less, fewer)

name : (drawn : ℕ) → length (interface_of drawn) ≤ 5
name drawn = omega (arith, length-decimal-le 2 (drawn % 64) (omega arith) (omega arith) (omega arith))

keyed : (drawn : ℕ) → length (element_with_key (codes "interface") (codes "name") (interface_of drawn)) ≤ 62
keyed drawn =
    let key = field 1 (codes "name") 4 (omega arith) in
    let value = field 2 (interface_of drawn) 5 (name drawn) in
    let entry = both (octets_field 1 (codes "name")) (octets_field 2 (interface_of drawn)) 15 16 key value in
    let whole = field 2 (octets_field 1 (codes "name") ++ octets_field 2 (interface_of drawn)) 31 entry in
    both (element (codes "interface")) (octets_field 2 (octets_field 1 (codes "name") ++ octets_field 2 (interface_of drawn))) 20 42
    (field 1 (codes "interface") 9 (omega arith)) whole

named : (octets : List ℕ) (most : ℕ) → length octets ≤ most → length (octets_field 3 (element octets)) ≤ 22 + most
named octets most less = omega (arith, field 3 (element octets) (11 + most) (field 1 octets most less))

path : (drawn : ℕ) → length (path_of_mtu (interface_of drawn)) ≤ 158
path drawn =
    let first = octets_field 3 (element (codes "interfaces")) in
    let second = octets_field 3 (element_with_key (codes "interface") (codes "name") (interface_of drawn)) in
    let third = octets_field 3 (element (codes "config")) in
    let fourth = octets_field 3 (element (codes "mtu")) in
    both (first ++ second ++ third) fourth 133 25
    (both (first ++ second) third 105 28
    (both first second 32 73 (named (codes "interfaces") 10 (omega arith))
    (field 3 (element_with_key (codes "interface") (codes "name") (interface_of drawn)) 62 (keyed drawn)))
    (named (codes "config") 6 (omega arith)))
    (named (codes "mtu") 3 (omega arith))

pub request_size : (drawn : ℕ) → length (set_request drawn) ≤ 202
request_size drawn =
    field 4 (update_of_mtu (interface_of drawn) (mtu_of drawn)) 191
    (both (octets_field 1 (path_of_mtu (interface_of drawn))) (octets_field 3 (varint_field 3 (mtu_of drawn))) 169 22
    (field 1 (path_of_mtu (interface_of drawn)) 158 (path drawn))
    (field 3 (varint_field 3 (mtu_of drawn)) 11 (number_field 3 (mtu_of drawn))))

pub framed_size : (drawn : ℕ) → length (framed (set_request drawn)) ≤ 207
framed_size drawn = omega (arith, request_size drawn)
