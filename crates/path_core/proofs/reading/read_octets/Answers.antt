use Rattle.std.proofs.Common.{◌<◌, arith}
use Rattle.base_kinds.specs.Texts.{octet_text}
use Rattle.path_core.specs.inner.Reading.{test_of}
use Rattle.path_core.proofs.Runs.{run_more, all_more}
use Rattle.path_core.proofs.reading.read_octets.Goals as goal

pub loop-octet-preserved : goal.loop-octet-preserved
loop-octet-preserved c =
    let was = c.loop-octet.invariant in
    rw c.in_ok-push.ensures.items (record {
      spelled = run_more (octet_text (test_of c.args.part)) c.args.text.now c.loop-octet.octets.items c.loop-octet.rest.now c.in-Some.octet c.in-Some.others.now was.spelled c.in-Some.ensures.some;
      small = all_more (λ octet. octet < 256) c.loop-octet.octets.items c.in-Some.octet was.small c.in-Some.ensures.small;
      shorter = omega (arith, was.shorter, c.in-Some.ensures.shorter);
    })
