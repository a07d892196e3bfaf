use Rattle.std.proofs.Common.{ℕ, List, ◌++◌, sym, ap, ◌∙◌}
use Rattle.schema_text.specs.inner.Kinds.{passes}
use Rattle.schema_text.proofs.Taken.{too_many, refused}
use Rattle.schema_text.proofs.Utf8.{passes_is_utf8}
use Rattle.schema_text.proofs.texts.put_texts.Goals as goal

pub returns-then-len-most : goal.returns-then-len-most
returns-then-len-most c =
    let is = c.loop-part.invariant.read ∙ ap (λ (r : List (List ℕ)). c.loop-part.texts ++ r) c.in-Some.ensures in
    too_many (passes c.args.word) c.args.most c.args.parts c.loop-part.texts c.next.new.self c.in-Some.part.now is (sym c.len.ensures ∙ c.if-len-most.true)

pub returns-then-not-is : goal.returns-then-not-is
returns-then-not-is c =
    let is = c.loop-part.invariant.read ∙ ap (λ (r : List (List ℕ)). c.loop-part.texts ++ r) c.in-Some.ensures in
    refused (passes c.args.word) c.args.most c.args.parts c.loop-part.texts c.next.new.self c.in-Some.part.now is (sym c.is.ensures ∙ c.if-not-is.true)

pub text_of-requires : goal.text_of-requires
text_of-requires c = passes_is_utf8 c.args.word _ (sym c.is.ensures ∙ c.if-not-is.false)
