use Rattle.std.proofs.Common.{string_bytes}
use Rattle.ask_command.proofs.WordLists.{if_none_all, four_words, six_words, no_four_words, no_six_words, is_six_words}
use Rattle.ask_command.proofs.words.form_of.Goals as goal

pub returns-in_err-ask-in-len4-clause-none : goal.returns-in_err-ask-in-len4-clause-none
returns-in_err-ask-in-len4-clause-none c =
    let shown = four_words (λ word. string_bytes word) c.args.words.now c.address-item-then-words-lt5.result c.word-item-then-words-lt5.result c.path-item.result c.json-item.result c.in-len4.len_at_least c.in-len4.len_below c.address-item-then-words-lt5.is c.word-item-then-words-lt5.is c.path-item.is c.json-item.is in
    if_none_all _ (no_four_words _ _ _ _ _ _ _ _ shown c.as_str-in-len4.ensures.value c.as_str-in-len4-2.ensures.value c.as_str-in-len4-3.ensures.value c.in_err-ask-in-len4.ensures.none)

pub returns-in_err-ask-in-len6-clause-none : goal.returns-in_err-ask-in-len6-clause-none
returns-in_err-ask-in-len6-clause-none c =
    let shown = six_words (λ word. string_bytes word) c.args.words.now c.address-item-then-words-lt7.result c.word-item-then-words-lt7.result c.id-item.result c.seconds-item.result c.path-item-then-words-lt7.result c.json-item-then-words-lt7.result c.in-len6.len_at_least c.in-len6.len_below c.address-item-then-words-lt7.is c.word-item-then-words-lt7.is c.id-item.is c.seconds-item.is c.path-item-then-words-lt7.is c.json-item-then-words-lt7.is in
    if_none_all _ (no_six_words _ _ _ _ _ _ _ _ _ _ _ _ shown c.as_str-in-len6.ensures.value c.as_str-in-len6-2.ensures.value c.as_str-in-len6-3.ensures.value c.as_str-in-len6-4.ensures.value c.as_str-in-len6-5.ensures.value c.in_err-ask-in-len6.ensures.none)

pub returns-in_ok-ask-in-len6-clause-some : goal.returns-in_ok-ask-in-len6-clause-some
returns-in_ok-ask-in-len6-clause-some c =
    let shown = six_words (λ word. string_bytes word) c.args.words.now c.address-item-then-words-lt7.result c.word-item-then-words-lt7.result c.id-item.result c.seconds-item.result c.path-item-then-words-lt7.result c.json-item-then-words-lt7.result c.in-len6.len_at_least c.in-len6.len_below c.address-item-then-words-lt7.is c.word-item-then-words-lt7.is c.id-item.is c.seconds-item.is c.path-item-then-words-lt7.is c.json-item-then-words-lt7.is in
    is_six_words _ _ _ _ _ _ _ _ _ _ _ _ _ _ shown c.as_str-in-len6-6.ensures.value c.as_str-in-len6.ensures.value c.as_str-in-len6-2.ensures.value c.as_str-in-len6-3.ensures.value c.as_str-in-len6-4.ensures.value c.as_str-in-len6-5.ensures.value c.in_ok-ask-in-len6.ensures.some
