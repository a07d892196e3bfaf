use Rattle.base_kinds.specs.Limits.{most_script_octets}
use Rattle.std.proofs.Common.{sym, arith}
use Rattle.std.proofs.lemmas.List.{length-take-le}
use Rattle.script_run.proofs.LastFeeds.{front_is_short}
use Rattle.script_run.proofs.limit.within_limit.Goals as goal

pub slice_bounds-front-end : goal.slice_bounds-front-end
slice_bounds-front-end c = sym (length-take-le most_script_octets c.args.script.now (omega arith))

pub returns-then-script-clause-short : goal.returns-then-script-clause-short
returns-then-script-clause-short c = omega (arith, c.to_last_feed.ensures.short, front_is_short most_script_octets c.args.script.now)
