use Rattle.std.proofs.Common.{rules, ◌≡◌, arith, sym}
use Rattle.h2_streams.specs.Payloads.{number}
use Rattle.h2_streams.proofs.FrameLemmas.{two_halves}
use Rattle.h2_responses.proofs.server.Server.ping.Goals as goal

pub returns : goal.returns
returns c =
    let e : c.of_8-octets.result ≡ number 0 c.args.payload.now =
    rw (c.of_8-octets.ensures, c.of_4.ensures, c.of_4-2.ensures) (sym (two_halves c.args.payload.now (omega arith))) in
    rw e (search rules)
