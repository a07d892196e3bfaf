use Rattle.std.proofs.Common.{◌≡◌, sym, ◌∙◌, arith}
use Rattle.std.proofs.lemmas.Bool.{false≢true}
use Rattle.std.proofs.lemmas.Fmt.{decimal_injective}
use Rattle.program.proofs.arguments.limits_of.Goals as goal

pub returns-clause-none : goal.returns-clause-none
returns-clause-none c = λ limits are.
    let entries : c.in_ok-entries.entries ≡ limits.entries = decimal_injective _ _ (omega (arith, c.in_ok-entries.ensures.small)) (omega (arith, are.in_range.most_entries)) (sym c.in_ok-entries.ensures.some ∙ are.entries_are) in
    let octets : c.in_ok-octets.octets ≡ limits.octets = decimal_injective _ _ (omega (arith, c.in_ok-octets.ensures.small)) (omega (arith, are.in_range.most_octets)) (sym c.in_ok-octets.ensures.some ∙ are.octets_are) in
    false≢true (c.if-in_range.ensures.1 (record {
      least_entries = omega (arith, entries, are.in_range.least_entries);
      most_entries = omega (arith, entries, are.in_range.most_entries);
      least_octets = omega (arith, octets, are.in_range.least_octets);
      most_octets = omega (arith, octets, are.in_range.most_octets);
    }))
