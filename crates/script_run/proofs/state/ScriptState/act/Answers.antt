use Rattle.std.proofs.Common.{sym, ap, ◌∙◌}
use Rattle.script_run.specs.ScriptStates.{ScriptState}
use Rattle.script_run.proofs.Acting.{answers}
use Rattle.script_run.proofs.state.ScriptState.act.Goals as goal

pub returns : goal.returns
returns c =
    let running = ap (λ (s : ScriptState). s.arming.stopped) (sym c.self.view_is) ∙ sym c.stopped.ensures ∙ c.if-stopped.false in
    answers c.args.line c.args.self.now c.take.new.self c.in_ok-reply.reply c.args.out.now c.put_reply.new.out c.in_ok-reply.ensures.state running c.in_ok-reply.ensures.reply c.in_ok-put_reply.ensures
