use Rattle.std.proofs.Common.{sym, ◌∙◌}
use Rattle.plain_texts.proofs.NameTexts.{name_is_utf8}
use Rattle.plain_texts.proofs.names.name_text.Goals as goal

pub text_of-requires : goal.text_of-requires
text_of-requires c = name_is_utf8 _ (sym c.is_name.ensures ∙ c.if-not-is_name.false)
