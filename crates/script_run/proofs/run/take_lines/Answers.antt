use Rattle.std.proofs.Common.{IfSome, subst}
use Rattle.script_text.specs.Lines.{lines_of}
use Rattle.script_text.specs.Grammar.{IsLine}
use Rattle.script_run.specs.inner.Replies.{Acts}
use Rattle.script_run.proofs.Runs.{stuck}
use Rattle.script_run.proofs.run.take_lines.Goals as goal

pub returns-then-not-branch : goal.returns-then-not-branch
returns-then-not-branch c =
    let state = c.lines.state in
    let meaning = subst (λ found. IfSome found (IsLine c.in-Some.octets.now)) c.in-Some-2.is c.in_ok-line.ensures.line in
    let acts = subst (λ b. Acts c.in-Some-2.line state c.act.new.self c.lines.text c.act.new.out b) c.if-not-branch.true c.in_ok-act-in-Some-2.ensures in
    stuck c.args.goes_on (lines_of c.args.script.now) c.args.state.now c.lines.number (lines_of c.lines.rest.now) c.in-Some.octets.now (lines_of c.in-Some.others.now) state c.act.new.self c.lines.text c.act.new.out c.extend_from_slice.new.self c.in-Some-2.line c.lines.invariant.leads c.in-Some.ensures.some meaning acts c.in_ok-extend_from_slice-in-Some-2.ensures.ok
