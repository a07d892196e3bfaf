use Rattle.std.proofs.Common.{◌≡◌, [], ◌∷◌, string_bytes, sym, ap, ◌∙◌}
use Rattle.std.specs.Bool.{Decides}
use Rattle.std.proofs.lemmas.Bool.Decides.{Decides-eqb}
use Rattle.std.proofs.lemmas.Slice.Eq.{slice_eq-Decides}
use Rattle.program.proofs.WordLists.{one_word, same_word}
use Rattle.program.proofs.arguments.only_word.Goals as goal

pub returns-in-len1 : goal.returns-in-len1
returns-in-len1 c =
    let decides : Decides c.eq.result (c.as_str.result.now ≡ c.args.word.now) = slice_eq-Decides Decides-eqb _ _ _ c.eq.ensures in
    let shown = one_word (λ word. string_bytes word) c.args.words.now c.only-item.result c.in-len1.len_at_least c.in-len1.len_below c.only-item.is in (
      λ t. shown ∙ ap (λ w. w ∷ []) (sym c.as_str.ensures.value ∙ decides.0 t),
      λ is. decides.1 (c.as_str.ensures.value ∙ same_word _ _ (sym shown ∙ is)),
    )
