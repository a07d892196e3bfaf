use Rattle.script_text.proofs.Faults.{passed}
use Rattle.script_text.proofs.WordByWord.{no_word}
use Rattle.script_text.proofs.first_word.first.Goals as goal

pub returns-in_err-value-clause-no_line : goal.returns-in_err-value-clause-no_line
returns-in_err-value-clause-no_line g c fault = no_word _ c.has_no_space.ensures c.args.octets.now c.in-Some.word.now c.in-Some.rest.now c.in-Some.ensures.some (c.in_err-value.ensures.no_line (passed c.from_residual.ensures.1 fault))
