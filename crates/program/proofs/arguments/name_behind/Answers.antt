use Rattle.std.proofs.Common.{◌≡◌, [], ◌∷◌, string_bytes, sym, ap, ◌∙◌}
use Rattle.std.specs.Bool.{Decides}
use Rattle.std.proofs.lemmas.Bool.Decides.{Decides-eqb}
use Rattle.std.proofs.lemmas.Bool.{false≢true}
use Rattle.std.proofs.lemmas.Slice.Eq.{slice_eq-Decides}
use Rattle.program.proofs.WordLists.{two_words, no_name}
use Rattle.program.proofs.arguments.name_behind.Goals as goal

pub returns-then-eq-clause-name : goal.returns-then-eq-clause-name
returns-then-eq-clause-name c =
    let decides : Decides c.eq.result (c.as_str.result.now ≡ c.args.word.now) = slice_eq-Decides Decides-eqb _ _ _ c.eq.ensures in
    two_words (λ word. string_bytes word) c.args.words.now c.first-item.result c.name-item.result c.in-len2.len_at_least c.in-len2.len_below c.first-item.is c.name-item.is
    ∙ ap (λ t. t ∷ string_bytes c.name-item.result ∷ []) (sym c.as_str.ensures.value ∙ decides.0 c.if-eq.true)
    ∙ ap (λ t. c.args.word.now ∷ t ∷ []) (sym c.as_str-then-eq.ensures.value)

pub returns-else-eq-clause-none : goal.returns-else-eq-clause-none
returns-else-eq-clause-none c =
    let decides : Decides c.eq.result (c.as_str.result.now ≡ c.args.word.now) = slice_eq-Decides Decides-eqb _ _ _ c.eq.ensures in
    let shown = two_words (λ word. string_bytes word) c.args.words.now c.first-item.result c.name-item.result c.in-len2.len_at_least c.in-len2.len_below c.first-item.is c.name-item.is in
    no_name _ _ _ _ shown (λ same. false≢true (sym c.if-eq.false ∙ decides.1 (c.as_str.ensures.value ∙ same)))
