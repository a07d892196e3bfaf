use Rattle.std.proofs.Common.{◌≡◌, codes, string_bytes, sym, ◌∙◌}
use Rattle.std.specs.Bool.{Decides}
use Rattle.std.specs.Fmt.{decimal}
use Rattle.std.proofs.lemmas.Bool.Decides.{Decides-eqb}
use Rattle.std.proofs.lemmas.Slice.Eq.{slice_eq-Decides}
use Rattle.program.proofs.WordLists.{five_words, five_are, last_of_five, if_none_all}
use Rattle.program.proofs.arguments.serve_words.Goals as goal

pub returns-in_err-sessions-in-len5-clause-none : goal.returns-in_err-sessions-in-len5-clause-none
returns-in_err-sessions-in-len5-clause-none c =
    let shown = five_words (λ word. string_bytes word) c.args.words.now c.first-item.result c.schema-item.result c.journal-item.result c.address-item.result c.sessions-item.result c.in-len5.len_at_least c.in-len5.len_below c.first-item.is c.schema-item.is c.journal-item.is c.address-item.is c.sessions-item.is in
    if_none_all c.from_residual.result (λ schema journal address sessions is. c.in_err-sessions-in-len5.ensures.none sessions is.some is.few (c.as_str-then-eq.ensures.value ∙ last_of_five _ _ _ _ _ _ _ _ _ _ (sym shown ∙ is.words_are)))

pub returns-then-eq-clause-some : goal.returns-then-eq-clause-some
returns-then-eq-clause-some c =
    let decides : Decides c.eq.result (c.as_str.result.now ≡ codes "serve") = slice_eq-Decides Decides-eqb _ _ _ c.eq.ensures in
    let shown = five_words (λ word. string_bytes word) c.args.words.now c.first-item.result c.schema-item.result c.journal-item.result c.address-item.result c.sessions-item.result c.in-len5.len_at_least c.in-len5.len_below c.first-item.is c.schema-item.is c.journal-item.is c.address-item.is c.sessions-item.is in
    record {
      words_are = shown ∙ five_are _ _ _ _ _ (codes "serve") c.as_str-then-eq-2.result.now c.as_str-then-eq-3.result.now c.as_str-then-eq-4.result.now (decimal c.in_ok-sessions-in-len5.sessions) (sym c.as_str.ensures.value ∙ decides.0 c.if-eq.true) (sym c.as_str-then-eq-2.ensures.value) (sym c.as_str-then-eq-3.ensures.value) (sym c.as_str-then-eq-4.ensures.value) (sym c.as_str-then-eq.ensures.value ∙ c.in_ok-sessions-in-len5.ensures.some);
      some = c.in_ok-sessions-in-len5.ensures.in_range.0;
      few = c.in_ok-sessions-in-len5.ensures.in_range.1;
    }
