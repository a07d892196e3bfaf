use Rattle.std.proofs.Common.{◌≡◌, ◌+◌, ◌-◌, ℕ, length, ap}
use Rattle.std.proofs.lemmas.Result.{IfOk-weaker, IfErr-weaker}
use Rattle.grpc_client.specs.declared.connection.Connection.{Connection}
use Rattle.grpc_client.proofs.Joining.{listened, unheard_frame}
use Rattle.grpc_client.proofs.connection.Connection.listen.Goals as goal

pub returns-clause-ok : goal.returns-clause-ok
returns-clause-ok g c =
    let self = c.args.self.now in
    let is = ap (λ (n : ℕ). let x : Connection = record self { left = self.left - (9 + n) } in x) c.len.ensures in
    IfOk-weaker c.hear.result _ _ (λ reply h. listened reply c.in-Ok.frame c.items.result.now self _ c.hear.new.self _ _ c.requires c.in-Ok.ensures.ok c.items.ensures c.hear.ensures.fit is h) c.hear.ensures.ok

pub returns-clause-err : goal.returns-clause-err
returns-clause-err g c =
    let self = c.args.self.now in
    let is = ap (λ (n : ℕ). let x : Connection = record self { left = self.left - (9 + n) } in x) c.len.ensures in
    IfErr-weaker c.hear.result _ _ (λ why h. unheard_frame why c.in-Ok.frame c.items.result.now self _ _ _ c.in-Ok.ensures.ok c.items.ensures c.hear.ensures.fit is h) c.hear.ensures.err
