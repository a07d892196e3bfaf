use Rattle.std.proofs.Common.{◌≡◌, ℕ, List, [], false, None, refl, sym, ◌∙◌, subst}
use Rattle.std.specs.Prelude.{IfOk}
use Rattle.grpc_requests.specs.Calls.{asks_over}
use Rattle.grpc_requests.proofs.Calls.{opened_over, opened_asks}
use Rattle.grpc_requests.proofs.open_call.opened.Goals as goal

pub returns-then-ended-clause-kept : goal.returns-then-ended-clause-kept
returns-then-ended-clause-kept c =
    opened_over c.args.headers.now c.in-Call.method c.args.ended (sym c.head_of.ensures ∙ c.in-Call.is) c.if-ended.true c.over.result (subst (λ (ms : List (List ℕ)). IfOk c.over.result (λ step. (step.call ≡ None) × (step.asked ≡ asks_over c.in-Call.method false ms [] None))) c.empty.ensures (c.over.ensures [] refl))

pub returns-then-ended-clause-asked : goal.returns-then-ended-clause-asked
returns-then-ended-clause-asked c =
    opened_asks c.args.headers.now c.in-Call.method c.args.ended (sym c.head_of.ensures ∙ c.in-Call.is) c.if-ended.true c.over.result (subst (λ (ms : List (List ℕ)). IfOk c.over.result (λ step. (step.call ≡ None) × (step.asked ≡ asks_over c.in-Call.method false ms [] None))) c.empty.ensures (c.over.ensures [] refl))
