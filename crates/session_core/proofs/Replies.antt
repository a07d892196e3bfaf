-- What was asked is answered.
use Rattle.std.proofs.Common.{◌≡◌, ℕ, List, [], ◌∷◌, ◌++◌, false, refl, sym, ap, ◌∙◌, subst, append-nil}
use Rattle.std.specs.Prelude.{None, Result, Err}
use Rattle.base_kinds.specs.declared.refusal.Refusal.{Refusal}
use Rattle.base_kinds.specs.Schema.{SchemaNode}
use Rattle.grpc_core.specs.declared.method.Method.{Method}
use Rattle.grpc_requests.specs.declared.request.Asked.{Asked}
use Rattle.grpc_requests.specs.declared.request.Asked.TheVariants as asks
use Rattle.book_port.specs.Ports.{PortView}
use Rattle.request_desk.specs.Answers.{IsAnsweredBy}
use Rattle.request_desk.specs.Services.{task_of}
use Rattle.session_core.specs.declared.reply.Reply.TheVariants as replies
use Rattle.session_core.specs.declared.served.Served.{Served}
use Rattle.session_core.specs.Deeds.{has_failed}
use Rattle.session_core.specs.inner.Steps.{IsReplied, service}

module _ (schema : List SchemaNode) (stream : ℕ) (asked : Asked) (old new : PortView) (calls : List Served) (before after : List ℕ) where
  pub called : (method : Method) (body octets : List ℕ) (now : ℕ) (result : Result (List ℕ) Refusal) → asked ≡ asks.Call method body → octets ≡ body
      → IsAnsweredBy (task_of schema method octets) old now result new → after ≡ before ++ now ∷ [] → IsReplied schema stream asked (replies.Of result) (service old calls) (service new calls) before after
  called method body octets now result is same answered read =
      let a = subst (λ (o : List ℕ). IsAnsweredBy (task_of schema method o) old now result new) same answered in
      subst (λ (a : Asked). IsReplied schema stream a (replies.Of result) (service old calls) (service new calls) before after) (sym is) (record {
        readings = now ∷ [];
        turn = a.turn;
        failed = has_failed result;
        clock = read;
        deed = λ given. record { now = now; result = result; answered = a; read = refl; turned = refl; failed = refl; says = refl; calls_are = refl };
      })

  pub sent_away : (status : ℕ) → asked ≡ asks.Http status → new ≡ old → after ≡ before → IsReplied schema stream asked (replies.Http status) (service old calls) (service new calls) before after
  sent_away status is same still =
      subst (λ (a : Asked). IsReplied schema stream a (replies.Http status) (service old calls) (service new calls) before after) (sym is) (record {
        readings = [];
        turn = None;
        failed = false;
        clock = still ∙ sym (append-nil before);
        deed = λ given. record { says = refl; unread = refl; unturned = refl; unfailed = refl; new_is = ap (λ (p : PortView). service p calls) same };
      })

  pub turned_down : (refusal : Refusal) → asked ≡ asks.Refused refusal → new ≡ old → after ≡ before → IsReplied schema stream asked (replies.Of (Err refusal)) (service old calls) (service new calls) before after
  turned_down refusal is same still =
      subst (λ (a : Asked). IsReplied schema stream a (replies.Of (Err refusal)) (service old calls) (service new calls) before after) (sym is) (record {
        readings = [];
        turn = None;
        failed = false;
        clock = still ∙ sym (append-nil before);
        deed = λ given. record { says = refl; unread = refl; unturned = refl; unfailed = refl; new_is = ap (λ (p : PortView). service p calls) same };
      })
