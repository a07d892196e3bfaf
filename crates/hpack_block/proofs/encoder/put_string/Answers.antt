use Rattle.std.proofs.Common.{ℕ, sym, ap, ◌++◌}
use Rattle.hpack_block.specs.Written.{integer_of, string_of}
use Rattle.base_lists.proofs.Fronts.{AppendsFront-longer, OnErr-any}
use Rattle.hpack_block.proofs.encoder.put_string.Goals as goal

pub returns-in_err-put_integer-clause-err : goal.returns-in_err-put_integer-clause-err
returns-in_err-put_integer-clause-err c =
    OnErr-any c.from_residual.result
    (AppendsFront-longer c.args.out.now c.put_integer.new.out (integer_of 7 0 c.len.result) c.args.text.now (string_of c.args.text.now)
    (ap (λ (n : ℕ). integer_of 7 0 n ++ c.args.text.now) (sym c.len.ensures)) c.in_err-put_integer.ensures.err)
