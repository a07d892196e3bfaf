use Rattle.std.proofs.Common.{◌≡◌, ◌+◌, ◌≤◌, ◌++◌, drop, sum_by, vec_len, vec_capacity}
use Rattle.std.specs.List.{flat_map, AllByRecursion}
use Rattle.base_kinds.specs.Records.{value_octets}
use Rattle.journal_record.specs.Spelling.{value_spelling}
use Rattle.journal_record.specs.Representable.{IsRepresentableValue}
use Rattle.journal_record.proofs.writing.+values.Given as goal

abbrev pub invariant-put_values-loop-value : goal.invariant-put_values-loop-value
invariant-put_values-loop-value l =
    let left = drop l.value-index l.values in
    record {
      items : l.out.items ++ flat_map value_spelling left ≡ l.fn.out.items ++ flat_map value_spelling l.values;
      len : vec_len l.out + sum_by value_octets left ≡ vec_len l.fn.out + sum_by value_octets l.values;
      capacity : vec_capacity l.fn.out ≤ vec_capacity l.out;
      kept : AllByRecursion IsRepresentableValue left → AllByRecursion IsRepresentableValue l.values;
    }
