use Rattle.std.proofs.Common.{sym}
use Rattle.std.proofs.lemmas.List.{take_rest}
use Rattle.pb_wire.proofs.NextLemmas.{read_is, none_there, next_within}
use Rattle.pb_wire.proofs.reading.next_field.Goals as goal

pub returns-in_err-field-clause-none : goal.returns-in_err-field-clause-none
returns-in_err-field-clause-none c = λ _. none_there c.args.octets.now c.args.place (rw take_rest at (sym c.in_err-field.ensures.value))

pub returns-clause-some : goal.returns-clause-some
returns-clause-some c =
    read_is c.args.octets.now c.args.place c.in_ok-field.field c.in_ok-field.rest.now c.requires
    (rw take_rest at c.in_ok-field.ensures.shorter) (rw take_rest at (sym c.in_ok-field.ensures.value))

pub returns-clause-within : goal.returns-clause-within
returns-clause-within c = next_within c.args.octets.now c.args.place c.in_ok-field.field _ (returns-clause-some c)
