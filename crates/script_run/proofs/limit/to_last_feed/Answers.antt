use Rattle.std.proofs.Common.{arith}
use Rattle.script_run.proofs.LastFeeds.{feed_found, other_found}
use Rattle.script_run.proofs.limit.to_last_feed.Goals as goal

pub returns-then-text-end-eq10-clause-front : goal.returns-then-text-end-eq10-clause-front
returns-then-text-end-eq10-clause-front c = feed_found c.args.text.now c.octets.end c.octets-test.true c.octets.invariant.within c.if-text-end-eq10.true c.octets.invariant.front

pub octets-preserved : goal.octets-preserved
octets-preserved c = record {
  within = omega (arith, c.octets.invariant.within);
  front = other_found c.args.text.now c.octets.end c.octets-test.true c.octets.invariant.within c.if-text-end-eq10.false c.octets.invariant.front;
}
