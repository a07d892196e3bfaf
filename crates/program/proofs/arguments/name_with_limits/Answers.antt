use Rattle.std.proofs.Common.{◌≡◌, [], ◌∷◌, string_bytes, sym, ap, ◌∙◌, inl, inr}
use Rattle.std.specs.Bool.{Decides}
use Rattle.std.proofs.lemmas.Bool.Decides.{Decides-eqb}
use Rattle.std.proofs.lemmas.Bool.{false≢true}
use Rattle.std.proofs.lemmas.Slice.Eq.{slice_eq-Decides}
use Rattle.program.proofs.WordLists.{two_words, four_words, four_are, if_none_all, no_form, no_two, no_four}
use Rattle.program.proofs.arguments.name_with_limits.Goals as goal

pub returns-then-eq-clause-some : goal.returns-then-eq-clause-some
returns-then-eq-clause-some c =
    let decides : Decides c.eq.result (c.as_str.result.now ≡ c.args.word.now) = slice_eq-Decides Decides-eqb _ _ _ c.eq.ensures in
    inl (
      two_words (λ word. string_bytes word) c.args.words.now c.first-item.result c.name-item.result c.in-len2.len_at_least c.in-len2.len_below c.first-item.is c.name-item.is
          ∙ ap (λ t. t ∷ string_bytes c.name-item.result ∷ []) (sym c.as_str.ensures.value ∙ decides.0 c.if-eq.true)
          ∙ ap (λ t. c.args.word.now ∷ t ∷ []) (sym c.as_str-then-eq.ensures.value),
      c.default_limits.ensures,
    )

pub returns-in_err-limits-in-len4-clause-none : goal.returns-in_err-limits-in-len4-clause-none
returns-in_err-limits-in-len4-clause-none c =
    let shown = four_words (λ word. string_bytes word) c.args.words.now c.first-item-then-words-lt5.result c.name-item-then-words-lt5.result c.entries-item.result c.octets-item.result c.in-len4.len_at_least c.in-len4.len_below c.first-item-then-words-lt5.is c.name-item-then-words-lt5.is c.entries-item.is c.octets-item.is in
    if_none_all c.from_residual.result
    (no_form c.args.word.now _ _ _ _ _ c.as_str-then-eq-2.result.now c.as_str-then-eq-2-2.result.now shown c.as_str-then-eq-2.ensures.value c.as_str-then-eq-2-2.ensures.value c.in_err-limits-in-len4.ensures.none)

pub returns-then-eq-2-clause-some : goal.returns-then-eq-2-clause-some
returns-then-eq-2-clause-some c =
    let decides : Decides c.eq-in-len4.result (c.as_str-in-len4.result.now ≡ c.args.word.now) = slice_eq-Decides Decides-eqb _ _ _ c.eq-in-len4.ensures in
    let shown = four_words (λ word. string_bytes word) c.args.words.now c.first-item-then-words-lt5.result c.name-item-then-words-lt5.result c.entries-item.result c.octets-item.result c.in-len4.len_at_least c.in-len4.len_below c.first-item-then-words-lt5.is c.name-item-then-words-lt5.is c.entries-item.is c.octets-item.is in
    let words = shown ∙ four_are _ _ _ _ (c.args.word.now) c.as_str-then-eq-2-3.result.now c.as_str-then-eq-2.result.now c.as_str-then-eq-2-2.result.now (sym c.as_str-in-len4.ensures.value ∙ decides.0 c.if-eq-2.true) (sym c.as_str-then-eq-2-3.ensures.value) (sym c.as_str-then-eq-2.ensures.value) (sym c.as_str-then-eq-2-2.ensures.value) in
    inr (c.as_str-then-eq-2.result.now, (c.as_str-then-eq-2-2.result.now, (words, c.in_ok-limits-in-len4.ensures.some)))

pub returns-else-eq-clause-none : goal.returns-else-eq-clause-none
returns-else-eq-clause-none c =
    let decides : Decides c.eq.result (c.as_str.result.now ≡ c.args.word.now) = slice_eq-Decides Decides-eqb _ _ _ c.eq.ensures in
    let shown = two_words (λ word. string_bytes word) c.args.words.now c.first-item.result c.name-item.result c.in-len2.len_at_least c.in-len2.len_below c.first-item.is c.name-item.is in
    no_two _ _ _ _ shown (λ same. false≢true (sym c.if-eq.false ∙ decides.1 (c.as_str.ensures.value ∙ same)))

pub returns-else-eq-2-clause-none : goal.returns-else-eq-2-clause-none
returns-else-eq-2-clause-none c =
    let decides : Decides c.eq-in-len4.result (c.as_str-in-len4.result.now ≡ c.args.word.now) = slice_eq-Decides Decides-eqb _ _ _ c.eq-in-len4.ensures in
    let shown = four_words (λ word. string_bytes word) c.args.words.now c.first-item-then-words-lt5.result c.name-item-then-words-lt5.result c.entries-item.result c.octets-item.result c.in-len4.len_at_least c.in-len4.len_below c.first-item-then-words-lt5.is c.name-item-then-words-lt5.is c.entries-item.is c.octets-item.is in
    no_four _ _ _ _ _ _ shown (λ same. false≢true (sym c.if-eq-2.false ∙ decides.1 (c.as_str-in-len4.ensures.value ∙ same)))
