use Rattle.h2_frame.specs.Frames.{frame_of}
use Rattle.h2_windows.proofs.Fronts.{writes_one}
use Rattle.h2_windows.proofs.control.put_one.Goals as goal

pub returns : goal.returns
returns g c = writes_one c.put_frame.result _ _ (frame_of c.args.head.now c.args.payload.now) c.put_frame.ensures
