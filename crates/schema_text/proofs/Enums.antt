-- An enum's texts between their front and their end.
use Rattle.std.proofs.Common.{◌≡◌, ℕ, ◌-◌, List, ◌++◌, take, length, codes, refl, sym, ap, ◌∙◌, arith, length-append}
use Rattle.std.specs.Option.{option_map}
use Rattle.std.proofs.Math.Seq.{take-append_seam}
use Rattle.std.proofs.lemmas.Slice.Eq.{bytes_eq-Decides}
use Rattle.base_kinds.specs.declared.schema.Shape.TheVariants as shapes
use Rattle.schema_text.specs.Words.{middle, enum_texts, enum_shape}

middle_is : (texts : List ℕ) → middle (codes "enum(" ++ (texts ++ codes ")")) ≡ texts
middle_is texts =
    let long : length (codes "enum(" ++ (texts ++ codes ")")) - 6 ≡ length texts = omega (arith, length-append texts (codes ")")) in
    ap (λ n. take n (texts ++ codes ")")) long ∙ take-append_seam texts (codes ")")

pub spelled : (field opened texts : List ℕ) → field ≡ codes "enum(" ++ opened → opened ≡ texts ++ codes ")" → enum_shape field ≡ option_map (λ texts. shapes.Enum texts) (enum_texts texts)
spelled field opened texts begins ends =
    let is : field ≡ codes "enum(" ++ (texts ++ codes ")") = begins ∙ ap (λ r. codes "enum(" ++ r) ends in
    let inside : middle field ≡ texts = ap middle is ∙ middle_is texts in
    let same : field ≡ codes "enum(" ++ (middle field ++ codes ")") = is ∙ ap (λ r. codes "enum(" ++ (r ++ codes ")")) (sym inside) in
    let yes = (bytes_eq-Decides field (codes "enum(" ++ (middle field ++ codes ")"))).1 same in
    rw (yes, inside) refl
