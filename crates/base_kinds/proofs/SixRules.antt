-- The test of validity and the six facts.
use Rattle.std.proofs.Common.{List, IsTrue, ◌&&◌}
use Rattle.std.proofs.lemmas.Bool.{and_parts, and_from}
use Rattle.base_kinds.specs.declared.operation.Row.{Row}
use Rattle.base_kinds.specs.Schema.{SchemaNode}
use Rattle.base_kinds.specs.Valid.{valid, IsValid, nodes_exist, types_hold, keys_hold, mandatory_present, leafrefs_resolve, max_elements_hold}

pub six_facts : (schema : List SchemaNode) (rows : List Row) → IsTrue (valid schema rows) → IsValid schema rows
six_facts schema rows is =
    let five = and_parts (nodes_exist schema rows && types_hold schema rows && keys_hold rows && mandatory_present schema rows && leafrefs_resolve schema rows) (max_elements_hold schema rows) is in
    let four = and_parts (nodes_exist schema rows && types_hold schema rows && keys_hold rows && mandatory_present schema rows) (leafrefs_resolve schema rows) five.0 in
    let three = and_parts (nodes_exist schema rows && types_hold schema rows && keys_hold rows) (mandatory_present schema rows) four.0 in
    let two = and_parts (nodes_exist schema rows && types_hold schema rows) (keys_hold rows) three.0 in
    let one = and_parts (nodes_exist schema rows) (types_hold schema rows) two.0 in
    record { known = one.0; shaped = one.1; keyed = two.1; mandatory = three.1; referring = four.1; within = five.1 }

pub six_tests : (schema : List SchemaNode) (rows : List Row) → IsValid schema rows → IsTrue (valid schema rows)
six_tests schema rows facts =
    and_from _ _ (and_from _ _ (and_from _ _ (and_from _ _ (and_from _ _ facts.known facts.shaped) facts.keyed) facts.mandatory) facts.referring) facts.within
