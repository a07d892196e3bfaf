use Rattle.std.proofs.Common.{refl}
use Rattle.hpack_block.specs.StaticTable.{pair}
use Rattle.hpack_block.proofs.FieldLemmas.{indexed_none, indexed_past, indexed_is}
use Rattle.hpack_block.proofs.field.indexed_in.Goals as goal

pub returns-in_default-clause-bad : goal.returns-in_default-clause-bad
returns-in_default-clause-bad c = λ _. indexed_none c.args.table.now c.args.octets.now c.in_default.ensures.value

pub returns-in_default-entry-clause-bad : goal.returns-in_default-entry-clause-bad
returns-in_default-entry-clause-bad c =
    λ _. indexed_past c.args.table.now c.args.octets.now c.in-Some.index c.in-Some.rest.now c.in-Some.ensures.value c.in_default-entry.ensures

pub returns-clause-ok : goal.returns-clause-ok
returns-clause-ok c = record {
  header = pair c.in-Some-entry.name.now c.in-Some-entry.value.now;
  is_field = (indexed_is c.args.table.now c.args.octets.now c.in-Some.index c.in-Some.rest.now (pair c.in-Some-entry.name.now c.in-Some-entry.value.now) c.in-Some.ensures.value c.in-Some-entry.ensures, refl);
  listed = c.in_ok-push_copy.ensures;
}
