use Rattle.std.proofs.Common.{sym, ◌∙◌}
use Rattle.std.proofs.lemmas.Str.{IsUtf8-from_ascii}
use Rattle.std.proofs.lemmas.Fmt.{IsAscii-decimal}
use Rattle.plain_texts.proofs.Decimals.{no_decimal, read_some, read_none}
use Rattle.plain_texts.proofs.numbers.read_natural.Goals as goal

pub returns-then-not-begins_plainly-clause-none : goal.returns-then-not-begins_plainly-clause-none
returns-then-not-begins_plainly-clause-none c = no_decimal c.args.octets.now (sym c.begins_plainly.ensures ∙ c.if-not-begins_plainly.true)

pub returns-in-Ok-clause-some : goal.returns-in-Ok-clause-some
returns-in-Ok-clause-some c = read_some c.args.octets.now c.parse.result c.ok.result (sym c.begins_plainly.ensures ∙ c.if-not-begins_plainly.false) (rw c.in-Ok.ensures.cases.0 at c.parse.ensures.value.0) c.ok.ensures.value

pub returns-in-Ok-clause-none : goal.returns-in-Ok-clause-none
returns-in-Ok-clause-none c = read_none c.args.octets.now c.parse.result c.ok.result (sym c.begins_plainly.ensures ∙ c.if-not-begins_plainly.false) (rw c.in-Ok.ensures.cases.0 at c.parse.ensures.value.0) c.ok.ensures.value

pub returns-in-Err-clause-none : goal.returns-in-Err-clause-none
returns-in-Err-clause-none c number small is = c.in-Err.ensures.cases.0 (rw is (IsUtf8-from_ascii _ (IsAscii-decimal number small)))
