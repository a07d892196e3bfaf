use Rattle.std.proofs.Common.{◌≡◌, [], ◌∷◌, string_bytes, sym, ap, ◌∙◌}
use Rattle.std.specs.Bool.{Decides}
use Rattle.std.proofs.lemmas.Bool.Decides.{Decides-eqb}
use Rattle.std.proofs.lemmas.Bool.{false≢true}
use Rattle.std.proofs.lemmas.Slice.Eq.{slice_eq-Decides}
use Rattle.program.proofs.WordLists.{three_words, no_three}
use Rattle.program.proofs.arguments.two_names_behind.Goals as goal

pub returns-then-eq-clause-names : goal.returns-then-eq-clause-names
returns-then-eq-clause-names c =
    let decides : Decides c.eq.result (c.as_str.result.now ≡ c.args.word.now) = slice_eq-Decides Decides-eqb _ _ _ c.eq.ensures in
    three_words (λ word. string_bytes word) c.args.words.now c.first-item.result c.name-item.result c.other-item.result c.in-len3.len_at_least c.in-len3.len_below c.first-item.is c.name-item.is c.other-item.is
    ∙ ap (λ t. t ∷ string_bytes c.name-item.result ∷ string_bytes c.other-item.result ∷ []) (sym c.as_str.ensures.value ∙ decides.0 c.if-eq.true)
    ∙ ap (λ t. c.args.word.now ∷ t ∷ string_bytes c.other-item.result ∷ []) (sym c.as_str-then-eq.ensures.value)
    ∙ ap (λ t. c.args.word.now ∷ c.as_str-then-eq.result.now ∷ t ∷ []) (sym c.as_str-then-eq-2.ensures.value)

pub returns-else-eq-clause-none : goal.returns-else-eq-clause-none
returns-else-eq-clause-none c =
    let decides : Decides c.eq.result (c.as_str.result.now ≡ c.args.word.now) = slice_eq-Decides Decides-eqb _ _ _ c.eq.ensures in
    let shown = three_words (λ word. string_bytes word) c.args.words.now c.first-item.result c.name-item.result c.other-item.result c.in-len3.len_at_least c.in-len3.len_below c.first-item.is c.name-item.is c.other-item.is in
    no_three _ _ _ _ _ shown (λ same. false≢true (sym c.if-eq.false ∙ decides.1 (c.as_str.ensures.value ∙ same)))
