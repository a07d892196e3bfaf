-- A port without what it knows of other ports of its book: what is done at it is done at that.
use Rattle.std.proofs.Common.{List, ℕ, ap}
use Rattle.std.specs.Prelude.{Option, Some, None, Result}
use Rattle.std.proofs.lemmas.Bool.{false≢true}
use Rattle.base_kinds.specs.declared.refusal.Refusal.{Refusal}
use Rattle.base_kinds.specs.Schema.{SchemaNode}
use Rattle.book_port.specs.Follows.{Turn}
use Rattle.book_port.specs.Ports.{PortView, TakesTurn}
use Rattle.request_desk.specs.Answers.{IsAnsweredBy, Moves}
use Rattle.request_desk.specs.Tasks.{Task}
use Rattle.subscribe_calls.specs.Calls.{CallView}
use Rattle.subscribe_calls.specs.Turns.{TurnsOnce}
use Rattle.stream_workers.specs.Ports.{own_port}

own_turn : {T : Type 0} (old new : PortView) (turn : Turn) (result : Result T Refusal) → TakesTurn old turn result new → TakesTurn (own_port old) turn result (own_port new)
own_turn old new turn result t = record {
  own = t.own;
  begins = t.begins;
  has_made = (t.has_made.0, tt);
  alone = λ is. absurd (false≢true is);
  found_run = t.found_run;
  left_run = t.left_run;
  more = t.more;
  goes_on = t.goes_on;
  fault = t.fault;
  new_is = ap own_port t.new_is;
}

own_moves : (old new : PortView) (now : ℕ) (turn : Option Turn) (result : Result (List ℕ) Refusal) → Moves old now turn result new → Moves (own_port old) now turn result (own_port new)
own_moves old new now None result is = ap own_port is
own_moves old new now (Some turn) result is = (is.0, own_turn old new turn result is.1)

pub answered_apart : (task : Task) (old new : PortView) (now : ℕ) (result : Result (List ℕ) Refusal) → IsAnsweredBy task old now result new → IsAnsweredBy task (own_port old) now result (own_port new)
answered_apart task old new now result is = record {
  turn = is.turn;
  answers = is.answers;
  moves = own_moves old new now is.turn result is.moves;
}

pub turned_apart : (schema : List SchemaNode) (now : ℕ) (call after : CallView) (old new : PortView) (result : Result (List (List ℕ)) Refusal) → TurnsOnce schema now call old result after new → TurnsOnce schema now call (own_port old) result after (own_port new)
turned_apart schema now call after old new result is = record {
  look = is.look;
  looks = record {
    turn = is.looks.turn;
    reading = is.looks.reading;
    taken = own_turn old new is.looks.turn is.look is.looks.taken;
    answer = is.looks.answer;
  };
  answers = is.answers;
}
