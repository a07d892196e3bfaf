use Rattle.std.proofs.Common.{inl, inr, refl}
use Rattle.program.proofs.load_command.load.Goals as goal

pub returns-in-Err-clause-run : goal.returns-in-Err-clause-run
returns-in-Err-clause-run g c = record { files = refl; input = refl; clock = refl; does = inr (inl (record { counts_none = c.in-Err.ensures.err; output = refl })) }
