use Rattle.std.proofs.Common.{rules, inl, inr}
use Rattle.program.proofs.init_command.prepare.Goals as goal

pub returns-in-Err-NotEmpty : goal.returns-in-Err-NotEmpty
returns-in-Err-NotEmpty g c = inr (inl (
  search rules,
  inl (record {
    octets = c.in-Err-NotEmpty.ensures.not_empty (search rules);
    output = c.print-in-Err-NotEmpty.ensures;
  }),
))
