use Rattle.std.proofs.lemmas.Bool.{false≢true}
use Rattle.program.proofs.WordLists.{gives_none}
use Rattle.program.proofs.command.command_of.Goals as goal

pub returns-clause-none : goal.returns-clause-none
returns-clause-none c = gives_none _ c.in_default.ensures.none c.in_default-name_with_limits.ensures.none c.in_default-name_behind.ensures.none c.in_default-name_behind-2.ensures.none c.in_default-two_names_behind.ensures.none c.in_default-serve_words.ensures.none c.in_default-seed_and_count.ensures.none (λ is. false≢true (c.if-only_word.ensures.1 is)) (λ is. false≢true (c.if-only_word-2.ensures.1 is))
