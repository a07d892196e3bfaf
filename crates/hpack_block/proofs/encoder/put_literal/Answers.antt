use Rattle.std.proofs.Common.{refl}
use Rattle.hpack_block.specs.Written.{name_of, string_of, literal_of}
use Rattle.base_lists.proofs.Fronts.{AppendsFront-more, AppendsFront-longer, OnErr-map, OnErr-any}
use Rattle.hpack_block.proofs.encoder.put_literal.Goals as goal

pub returns-in_err-put_name-clause-err : goal.returns-in_err-put_name-clause-err
returns-in_err-put_name-clause-err c =
    OnErr-any c.from_residual.result
    (AppendsFront-longer c.args.out.now c.put_name.new.out (name_of c.args.header.now.name) (string_of c.args.header.now.value) (literal_of c.args.header.now) refl
    c.in_err-put_name.ensures.err)

pub returns-clause-err : goal.returns-clause-err
returns-clause-err c =
    OnErr-map c.put_string.result
    (AppendsFront-more c.args.out.now c.put_name.new.out c.put_string.new.out (name_of c.args.header.now.name) (string_of c.args.header.now.value) (literal_of c.args.header.now)
    c.in_ok-put_name.ensures.ok refl)
    c.put_string.ensures.err
