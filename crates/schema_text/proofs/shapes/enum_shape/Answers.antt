use Rattle.std.proofs.Common.{sym, ap, ◌∙◌}
use Rattle.std.specs.Option.{option_map}
use Rattle.base_kinds.specs.declared.schema.Shape.TheVariants as shapes
use Rattle.schema_text.proofs.Enums.{spelled}
use Rattle.schema_text.proofs.shapes.enum_shape.Goals as goal

pub returns : goal.returns
returns c = sym (spelled c.args.field.now c.in-Some.opened.now c.in-Some-before.texts.now c.in-Some.ensures c.in-Some-before.ensures ∙ ap (option_map (λ texts. shapes.Enum texts)) (sym c.in_ok-texts.ensures ∙ c.in-Some-2.is))
