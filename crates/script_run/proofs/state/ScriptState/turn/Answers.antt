use Rattle.std.proofs.Common.{◌≡◌, subst}
use Rattle.script_text.specs.declared.line.Line.TheVariants.{Turn}
use Rattle.script_run.specs.ScriptStates.{ScriptState, state_after}
use Rattle.script_run.proofs.Books.{state_seen}
use Rattle.script_run.proofs.Subscribed.{turned}
use Rattle.script_run.proofs.state.ScriptState.turn.Goals as goal

pub returns-clause-state : goal.returns-clause-state
returns-clause-state c =
    let inside = c.self.inside in
    subst (λ (s : ScriptState). state_seen c.turn.new.book inside.reading inside.pending inside.subs c.turn.new.calls.items ≡ state_after (Turn c.args.name) s) c.self.view_is
    (turned inside.book inside.reading inside.pending inside.subs inside.calls.items c.args.name c.turn.new.book c.in_ok-reply.reply c.turn.new.calls.items c.in_ok-reply.ensures.left c.in_ok-reply.ensures.step)
