-- The turns of a session's deeds.
use Rattle.std.proofs.Common.{◌≡◌, inl, inr, ℕ, ◌+◌, List, [], ◌∷◌, ◌++◌, sym, ap, ◌∙◌, subst, add_assoc, arith}
use Rattle.std.specs.Prelude.{Option}
use Rattle.std.specs.List.{AllByRecursion}
use Rattle.base_kinds.specs.declared.entry.Entry.{Entry}
use Rattle.base_kinds.specs.Schema.{SchemaNode}
use Rattle.book_port.specs.Chronicles.{entries_by}
use Rattle.book_port.specs.Follows.{Turn, Follows, GoesOn, made_by}
use Rattle.book_port.specs.Opened.{Opened}
use Rattle.book_port.specs.Ports.{PortView, TakesOne, TakesTurns}
use Rattle.book_port.proofs.Following.{own_are_made}
use Rattle.session_core.specs.Deeds.{Deed, Service, AreDone, turn_in, turns_in, fault_in, faults_in}
use Rattle.session_core.specs.laws.RunLaws.{IsAllowed}
use Rattle.session_core.proofs.Moves.{Moved, moves}

pub one_taken : (deed : Deed) (turns : List Turn) (old next new : PortView) → Moved deed old next → TakesTurns next turns new → TakesTurns old (turn_in deed.turn ++ turns) new
one_taken deed turns old next new (inl still) taken =
    subst (λ (t : Option Turn). TakesTurns old (turn_in t ++ turns) new) (sym still.unturned) (subst (λ (p : PortView). TakesTurns p turns new) still.same taken)
one_taken deed turns old next new (inr moved) taken =
    subst (λ (t : Option Turn). TakesTurns old (turn_in t ++ turns) new) (sym moved.turned) (next, moved.takes, taken)

pub turns_taken : (schema : List SchemaNode) (old new : Service) (deeds : List Deed) → AreDone schema old deeds new → TakesTurns old.port (turns_in deeds) new.port
turns_taken schema old new [] is = ap (λ (s : Service). s.port) is
turns_taken schema old new (deed ∷ deeds) is =
    one_taken deed (turns_in deeds) old.port is.0.port new.port (moves schema deed old is.0 deed.doing is.1) (turns_taken schema is.0 new deeds is.2)

-- ---- every history is allowed

one_allowed : (old new : PortView) (turn : Turn) → TakesOne old turn new → IsAllowed old.opened turn × (new.opened ≡ old.opened)
one_allowed old new turn (inl (result, t)) = ((t.found_run, t.left_run), ap (λ (p : PortView). p.opened) t.new_is)
one_allowed old new turn (inr (result, t)) = ((t.found_run, t.left_run), ap (λ (p : PortView). p.opened) t.new_is)

pub all_allowed : (old new : PortView) (turns : List Turn) → TakesTurns old turns new → AllByRecursion (IsAllowed old.opened) turns
all_allowed old new [] taken = tt
all_allowed old new (turn ∷ turns) taken =
    let one = one_allowed old taken.0 turn taken.1 in
    (one.0, subst (λ (o : Opened). AllByRecursion (IsAllowed o) turns) one.1 (all_allowed taken.0 new turns taken.2))

-- ---- earlier entries

front_follows : (author : ℕ) (seen : List Entry) (before after : List Turn) (turn : Turn) (last : List Entry) → Follows author seen (before ++ turn ∷ after) last → Follows author seen before turn.found
front_follows author seen [] after turn last follows = follows.0
front_follows author seen (first ∷ before) after turn last follows = (follows.0, front_follows author first.left before after turn last follows.1)

front_goes_on : (before after : List Turn) → AllByRecursion GoesOn (before ++ after) → AllByRecursion GoesOn before
front_goes_on [] after all = tt
front_goes_on (first ∷ before) after all = (all.0, front_goes_on before after all.1)

pub earlier_stand : (author : ℕ) (seen : List Entry) (turns before after : List Turn) (turn : Turn) (last : List Entry) → turns ≡ before ++ turn ∷ after → AllByRecursion GoesOn turns → Follows author seen turns last
    → entries_by author turn.found ≡ entries_by author seen ++ made_by author before
earlier_stand author seen turns before after turn last cut go follows =
    own_are_made author seen before turn.found (front_goes_on before (turn ∷ after) (subst (λ (ts : List Turn). AllByRecursion GoesOn ts) cut go))
    (front_follows author seen before after turn last (subst (λ (ts : List Turn). Follows author seen ts last) cut follows))

-- ---- faults are marked

one_marked : (deed : Deed) (old next : PortView) → Moved deed old next → next.marks ≡ old.marks + fault_in deed.turn deed.failed
one_marked deed old next (inl still) =
    ap (λ (p : PortView). p.marks) still.same ∙ subst (λ (t : Option Turn). old.marks ≡ old.marks + fault_in t deed.failed) (sym still.unturned) (omega arith)
one_marked deed old next (inr moved) = moved.marks ∙ ap (λ (t : Option Turn). old.marks + fault_in t deed.failed) (sym moved.turned)

pub all_marked : (schema : List SchemaNode) (old new : Service) (deeds : List Deed) → AreDone schema old deeds new → new.port.marks ≡ old.port.marks + faults_in deeds
all_marked schema old new [] is = ap (λ (s : Service). s.port.marks) is ∙ omega arith
all_marked schema old new (deed ∷ deeds) is =
    all_marked schema is.0 new deeds is.2 ∙ ap (λ m. m + faults_in deeds) (one_marked deed old.port is.0.port (moves schema deed old is.0 deed.doing is.1))
    ∙ add_assoc old.port.marks (fault_in deed.turn deed.failed) (faults_in deeds)
