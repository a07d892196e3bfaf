use Rattle.std.proofs.Common.{◌≡◌, ◌∙◌, sym, ap, inl, inr}
use Rattle.std.specs.Prelude.{slice_index}
use Rattle.hpack_block.specs.declared.form.Form.TheVariants.{Indexed, WithIndexing, WithoutIndexing, NeverIndexed}
use Rattle.hpack_block.specs.Fields.{form_of}
use Rattle.hpack_block.proofs.BlockLemmas.{NoField-as, NoField-never}
use Rattle.hpack_block.proofs.field.field_in.Goals as goal

pub returns-in-Indexed-clause-bad : goal.returns-in-Indexed-clause-bad
returns-in-Indexed-clause-bad c =
    λ bad. NoField-as Indexed (form_of (slice_index c.args.octets.now 0)) c.args.table.now c.args.octets.now (c.in-Indexed.ensures ∙ ap form_of c.first_octet.ensures) (c.indexed_in.ensures.bad bad)

pub returns-in-WithIndexing-clause-bad : goal.returns-in-WithIndexing-clause-bad
returns-in-WithIndexing-clause-bad c =
    λ bad. NoField-as WithIndexing (form_of (slice_index c.args.octets.now 0)) c.args.table.now c.args.octets.now (c.in-WithIndexing.ensures ∙ ap form_of c.first_octet.ensures) (c.with_indexing_in.ensures.bad bad)

pub returns-in-WithoutIndexing-clause-bad : goal.returns-in-WithoutIndexing-clause-bad
returns-in-WithoutIndexing-clause-bad c =
    λ bad.
    let h = c.without_indexing_in.ensures.bad bad in
    let f : c.form_of.result ≡ form_of (slice_index c.args.octets.now 0) = c.form_of.ensures ∙ ap form_of c.first_octet.ensures in
    elim c.in-WithoutIndexing.is [
      | inl e ↦ NoField-as WithoutIndexing (form_of (slice_index c.args.octets.now 0)) c.args.table.now c.args.octets.now (sym e ∙ f) h
      | inr e ↦ NoField-as NeverIndexed (form_of (slice_index c.args.octets.now 0)) c.args.table.now c.args.octets.now (sym e ∙ f) (NoField-never c.args.table.now c.args.octets.now h)
    ]
