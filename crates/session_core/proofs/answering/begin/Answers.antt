use Rattle.std.proofs.Common.{List, [], ◌∷◌, ◌++◌, ap, false, refl, ◌∙◌}
use Rattle.session_core.specs.declared.served.Served.{Served}
use Rattle.session_core.specs.Deeds.{others_than}
use Rattle.subscribe_calls.specs.Calls.{CallView}
use Rattle.session_core.proofs.Subscribing.{begins, starved}
use Rattle.session_core.proofs.answering.begin.Goals as goal

pub returns-in-Err : goal.returns-in-Err
returns-in-Err c = λ schema body port readings is in_mode. starved schema c.args.stream body port port c.args.calls readings readings refl refl

pub returns : goal.returns
returns c = λ schema body port readings is in_mode.
    begins schema c.args.stream body port port c.args.calls readings readings c.args.plan c.push.new.self refl refl is in_mode
    (c.in_ok-push.ensures.ok ∙ ap (λ (others : List Served). others ++ record { stream = c.args.stream; call = c.in-Ok.call; polls = 0; ended = false } ∷ []) c.in_ok-calls.ensures ∙ ap (λ (call : CallView). others_than c.args.stream c.args.calls ++ record { stream = c.args.stream; call = call; polls = 0; ended = false } ∷ []) c.in-Ok.ensures)
