-- What is asked for, done.
use Rattle.std.proofs.Common.{ℕ, List, length, ◌≤◌, inl, inr}
use Rattle.environment.specs.Input.{Input}
use Rattle.environment.specs.Output.{Output}
use Rattle.base_kinds.specs.declared.request.Change.{Change}
use Rattle.ask_command.specs.declared.request.Request.{Request}
use Rattle.ask_command.specs.Requests.{IsRequest, IsChangeTo}
use Rattle.ask_command.specs.Words.{Ask, Trial}
use Rattle.ask_command.specs.Run.{Ran, Sends, Obeys, longest_address}

-- what is done for the request of the words is done for the words
pub obeyed : {R W : Type 0} (reads : R → Input) (writes : W → Output) (address : List ℕ) (ask : Ask) (request : Request) (run : Ran R W) → length address ≤ longest_address → IsRequest ask request → Sends reads writes address request run → Obeys reads writes address ask run
obeyed reads writes address ask request run short is (inl serves) = inl (short, (request, is, serves))
obeyed reads writes address ask request run short is (inr (inl refused)) = inr (inl (inr (inr (request, is, refused.0)), refused.1))
obeyed reads writes address ask request run short is (inr (inr stops)) = inr (inr stops)

-- words of a trial whose update can't be made are of no request
pub no_trial : (id seconds path json : List ℕ) → ((changes : List Change) → IsChangeTo path json changes → ⊥) → (request : Request) → IsRequest (Trial id seconds path json) request → ⊥
no_trial id seconds path json none request is = none is.2.0 is.2.1
