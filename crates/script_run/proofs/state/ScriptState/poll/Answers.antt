use Rattle.std.proofs.Common.{◌≡◌, subst}
use Rattle.script_text.specs.declared.line.Line.TheVariants.{Poll}
use Rattle.script_run.specs.ScriptStates.{ScriptState, state_after}
use Rattle.script_run.proofs.Books.{state_seen}
use Rattle.script_run.proofs.Subscribed.{polled}
use Rattle.script_run.proofs.state.ScriptState.poll.Goals as goal

pub returns-clause-state : goal.returns-clause-state
returns-clause-state c =
    let inside = c.self.inside in
    subst (λ (s : ScriptState). state_seen c.poll.new.book inside.reading inside.pending inside.subs c.poll.new.calls.items ≡ state_after (Poll c.args.name) s) c.self.view_is
    (polled inside.book inside.reading inside.pending inside.subs inside.calls.items c.args.name c.poll.new.book c.in_ok-reply.reply c.poll.new.calls.items c.in_ok-reply.ensures.left c.in_ok-reply.ensures.step)
