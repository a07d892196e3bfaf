use Rattle.std.proofs.Common.{[], sym, ◌∙◌, arith}
use Rattle.std.proofs.lemmas.List.{append-nil}
use Rattle.hpack_huff.specs.Code.{code_of}
use Rattle.hpack_huff.proofs.CodeLemmas.{same_symbol}
use Rattle.hpack_huff.proofs.laws.no_code_begins_another.Goals as goal

pub returns : goal.returns
returns c = λ symbol other rest low high e.
    same_symbol symbol other rest [] (omega arith) (omega arith) (sym e ∙ sym (append-nil (code_of other)))
