-- How a cause is printed. The texts are this project's own.
use Rattle.std.specs.Prelude.{ℕ, List, codes}
use Rattle.schema_text.specs.declared.cause.Cause.{Cause}
use Rattle.schema_text.specs.declared.cause.Cause.TheVariants.{Syntax, NoModule, NoParent, Twice, TooLarge, NoKey, BadRef}

abbrev pub cause_text : Cause → List ℕ
cause_text Syntax = codes "syntax"
cause_text NoModule = codes "no module"
cause_text NoParent = codes "no parent"
cause_text Twice = codes "twice"
cause_text TooLarge = codes "too large"
cause_text NoKey = codes "no key"
cause_text BadRef = codes "bad ref"
