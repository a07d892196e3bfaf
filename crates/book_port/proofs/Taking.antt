-- Turns that a port takes one after the other.
use Rattle.std.proofs.Common.{◌≡◌, ◌≢◌, ◌≤◌, arith, inl, inr, ℕ, List, [], ◌∷◌, ◌++◌, Bool, map, length, drop, Result, IsTrue, refl, sym, ap, ◌∙◌, subst, append-nil, append_assoc}
use Rattle.std.specs.List.{AllByRecursion}
use Rattle.base_kinds.specs.declared.entry.Entry.{Entry}
use Rattle.base_kinds.specs.declared.entry.View.{View}
use Rattle.base_kinds.specs.declared.refusal.Refusal.{Refusal}
use Rattle.book_port.specs.Chronicles.{entries_by}
use Rattle.book_port.specs.Follows.{Turn, OthersWentOn, Follows, FollowsAlone, GoesOn, made_in, made_by}
use Rattle.book_port.specs.Ports.{PortView, TakesTurn, TakesOne, TakesTurns, IsTwin}
use Rattle.book_port.proofs.Following.{dropped}

-- what a turn does, whatever it is answered
record Takes (old : PortView) (turn : Turn) (new : PortView) : Type 0 where
  pub begins : OthersWentOn old.author old.seen turn.found
  pub alone : IsTrue old.is_alone → turn.found ≡ old.seen
  pub more : List Entry
  pub goes_on : turn.left ≡ turn.found ++ more
  pub author_is : new.author ≡ old.author
  pub alone_is : new.is_alone ≡ old.is_alone
  pub seen_is : new.seen ≡ turn.left
  pub finds_are : new.finds ≡ old.finds ++ turn.found ∷ []
  pub made_is : new.made ≡ old.made ++ entries_by old.author more
  pub known_is : new.known ≡ old.known

takes : (T : Type 0) (old : PortView) (turn : Turn) (result : Result T Refusal) (new : PortView) → TakesTurn old turn result new → Takes old turn new
takes T old turn result new taken = record {
  begins = taken.begins;
  alone = taken.alone;
  more = taken.more;
  goes_on = taken.goes_on;
  author_is = ap (λ (p : PortView). p.author) taken.new_is;
  alone_is = ap (λ (p : PortView). p.is_alone) taken.new_is;
  seen_is = ap (λ (p : PortView). p.seen) taken.new_is;
  finds_are = ap (λ (p : PortView). p.finds) taken.new_is;
  made_is = ap (λ (p : PortView). p.made) taken.new_is;
  known_is = ap (λ (p : PortView). p.known) taken.new_is;
}

takes_one : (old : PortView) (turn : Turn) (new : PortView) → TakesOne old turn new → Takes old turn new
takes_one old turn new (inl set) = takes ℕ old turn set.0 new set.1
takes_one old turn new (inr look) = takes View old turn look.0 new look.1

pub taken_alone : (old new : PortView) (turns : List Turn) → IsTrue old.is_alone → TakesTurns old turns new → FollowsAlone old.seen turns new.seen
taken_alone old new [] alone is = ap (λ (p : PortView). p.seen) is
taken_alone old new (turn ∷ turns) alone is =
    let one = takes_one old turn is.0 is.1 in
    let still : IsTrue (is.0.is_alone) = subst (λ (b : Bool). IsTrue b) (sym one.alone_is) alone in
    (one.alone alone, subst (λ seen. FollowsAlone seen turns new.seen) one.seen_is (taken_alone is.0 new turns still is.2))

pub taken_follow : (old new : PortView) (turns : List Turn) → TakesTurns old turns new → Follows old.author old.seen turns new.seen
taken_follow old new [] is = record { others = []; whole = ap (λ (p : PortView). p.seen) is ∙ sym (append-nil old.seen); none = refl }
taken_follow old new (turn ∷ turns) is =
    let one = takes_one old turn is.0 is.1 in
    (one.begins, subst (λ seen. Follows old.author seen turns new.seen) one.seen_is (subst (λ author. Follows author is.0.seen turns new.seen) one.author_is (taken_follow is.0 new turns is.2)))

pub taken_go_on : (old new : PortView) (turns : List Turn) → TakesTurns old turns new → AllByRecursion GoesOn turns
taken_go_on old new [] is = tt
taken_go_on old new (turn ∷ turns) is =
    let one = takes_one old turn is.0 is.1 in
    (record { more = one.more; whole = one.goes_on }, taken_go_on is.0 new turns is.2)

pub taken_are_found : (old new : PortView) (turns : List Turn) → TakesTurns old turns new → new.finds ≡ old.finds ++ map (λ turn. turn.found) turns
taken_are_found old new [] is = ap (λ (p : PortView). p.finds) is ∙ sym (append-nil old.finds)
taken_are_found old new (turn ∷ turns) is =
    let one = takes_one old turn is.0 is.1 in
    let rest : List (List Entry) = map (λ turn. turn.found) turns in
    taken_are_found is.0 new turns is.2 ∙ ap (λ l. l ++ rest) one.finds_are ∙ append_assoc old.finds (turn.found ∷ []) rest

pub taken_are_made : (old new : PortView) (turns : List Turn) → TakesTurns old turns new → new.made ≡ old.made ++ made_by old.author turns
taken_are_made old new [] is = ap (λ (p : PortView). p.made) is ∙ sym (append-nil old.made)
taken_are_made old new (turn ∷ turns) is =
    let one = takes_one old turn is.0 is.1 in
    let mine : entries_by old.author one.more ≡ made_in old.author turn = ap (entries_by old.author) (sym (ap (drop (length turn.found)) one.goes_on ∙ dropped turn.found one.more)) in
    taken_are_made is.0 new turns is.2
    ∙ ap (λ author. is.0.made ++ made_by author turns) one.author_is
    ∙ ap (λ l. l ++ made_by old.author turns) (one.made_is ∙ ap (λ l. old.made ++ l) mine)
    ∙ append_assoc old.made (made_in old.author turn) (made_by old.author turns)

pub taken_one_more : (old mid new : PortView) (turns : List Turn) (turn : Turn) → TakesTurns old turns mid → TakesOne mid turn new → TakesTurns old (turns ++ turn ∷ []) new
taken_one_more old mid new [] turn is one = (new, subst (λ (p : PortView). TakesOne p turn new) is one, refl)
taken_one_more old mid new (first ∷ turns) turn is one = (is.0, is.1, taken_one_more is.0 mid new turns turn is.2 one)

pub taken_know : (old new : PortView) (turns : List Turn) → TakesTurns old turns new → new.known ≡ old.known
taken_know old new [] is = ap (λ (p : PortView). p.known) is
taken_know old new (turn ∷ turns) is = taken_know is.0 new turns is.2 ∙ (takes_one old turn is.0 is.1).known_is

pub twins_differ : (old mid one later new two : PortView) → IsTwin old mid one → mid.known ≤ later.known → IsTwin later new two → two.author ≢ one.author
twins_differ old mid one later new two first le second is = let a = first.given_out in let b = second.later in omega (arith, a, b, le, is)
