use Rattle.h2_frame.specs.declared.frame.Got.TheVariants as got
use Rattle.h2_frame.specs.ErrorCodes.{frame_size_error}
use Rattle.std.proofs.Common.{refl}
use Rattle.h2_frame.proofs.Reading.{only}
use Rattle.h2_frame.proofs.read.read_frame.Goals as goal

pub returns-clause-frame : goal.returns-clause-frame
returns-clause-frame c head used h = only c.args.max c.args.octets.now _ (got.Frame head used) c.first.ensures h

pub returns-clause-more : goal.returns-clause-more
returns-clause-more c h = only c.args.max c.args.octets.now _ got.More c.first.ensures h

pub returns-clause-bad : goal.returns-clause-bad
returns-clause-bad c h = only c.args.max c.args.octets.now _ (got.Bad frame_size_error) c.first.ensures (refl, h)
