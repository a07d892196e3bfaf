use Rattle.std.proofs.Common.{◌≡◌, ◌+◌, ◌≤◌, ◌++◌, drop, sum_by, vec_len, vec_capacity}
use Rattle.std.specs.List.{flat_map, AllByRecursion}
use Rattle.journal_record.proofs.putting.put_all.Given as goal

-- what is still written, and what is still known, leaves what all of it leaves
abbrev pub invariant-loop-part : goal.invariant-loop-part
invariant-loop-part g l =
    let left = drop l.part-index l.parts in
    record {
      items : l.out.items ++ flat_map g.T.Spelled.spelling left ≡ l.fn.out.items ++ flat_map g.T.Spelled.spelling l.parts;
      len : vec_len l.out + sum_by g.T.Spelled.octets left ≡ vec_len l.fn.out + sum_by g.T.Spelled.octets l.parts;
      capacity : vec_capacity l.fn.out ≤ vec_capacity l.out;
      kept : AllByRecursion g.T.Spelled.is_representable left → AllByRecursion g.T.Spelled.is_representable l.parts;
    }
