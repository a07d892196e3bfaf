-- What deeds, one after the other, leave of the port, and what is read off them.
use Rattle.std.proofs.Common.{◌≡◌, inl, inr, ℕ, List, [], ◌∷◌, ◌++◌, refl, sym, ap, ◌∙◌, append-nil, append_assoc}
use Rattle.std.specs.Prelude.{Option}
use Rattle.base_kinds.specs.declared.entry.Entry.{Entry}
use Rattle.base_kinds.specs.Schema.{SchemaNode}
use Rattle.book_port.specs.Follows.{Turn}
use Rattle.book_port.specs.Ports.{PortView, TakesOne}
use Rattle.session_core.specs.Deeds.{Deed, Service, AreDone, handed_by, handed_in, turn_in, turns_in}
use Rattle.session_core.specs.Feeding.{left_last}
use Rattle.session_core.proofs.Moves.{Moved, moves}

-- ---- the port is one of the same book

one_book : (old new : PortView) (turn : Turn) → TakesOne old turn new → new.book ≡ old.book
one_book old new turn (inl (result, taken)) = ap (λ (p : PortView). p.book) taken.new_is
one_book old new turn (inr (result, taken)) = ap (λ (p : PortView). p.book) taken.new_is

moved_book : (deed : Deed) (old new : PortView) → Moved deed old new → new.book ≡ old.book
moved_book deed old new (inl still) = ap (λ (p : PortView). p.book) still.same
moved_book deed old new (inr moved) = one_book old new moved.turn moved.takes

pub same_book : (schema : List SchemaNode) (old : Service) (deeds : List Deed) (new : Service) → AreDone schema old deeds new → new.port.book ≡ old.port.book
same_book schema old [] new same = ap (λ (s : Service). s.port.book) same
same_book schema old (deed ∷ deeds) new (next, first, rest) =
    same_book schema next deeds new rest ∙ moved_book deed old.port next.port (moves schema deed old next deed.doing first)

-- ---- it has seen what the last turn left

one_left : (old new : PortView) (turn : Turn) → TakesOne old turn new → new.seen ≡ turn.left
one_left old new turn (inl (result, taken)) = ap (λ (p : PortView). p.seen) taken.new_is
one_left old new turn (inr (result, taken)) = ap (λ (p : PortView). p.seen) taken.new_is

moved_seen : (deed : Deed) (turns : List Turn) (old new : PortView) → Moved deed old new → left_last new.seen turns ≡ left_last old.seen (turn_in deed.turn ++ turns)
moved_seen deed turns old new (inl still) =
    ap (λ (p : PortView). left_last p.seen turns) still.same ∙ ap (λ (t : Option Turn). left_last old.seen (turn_in t ++ turns)) (sym still.unturned)
moved_seen deed turns old new (inr moved) =
    ap (λ (h : List Entry). left_last h turns) (one_left old new moved.turn moved.takes) ∙ ap (λ (t : Option Turn). left_last old.seen (turn_in t ++ turns)) (sym moved.turned)

pub last_seen : (schema : List SchemaNode) (old : Service) (deeds : List Deed) (new : Service) → AreDone schema old deeds new → new.port.seen ≡ left_last old.port.seen (turns_in deeds)
last_seen schema old [] new same = ap (λ (s : Service). s.port.seen) same
last_seen schema old (deed ∷ deeds) new (next, first, rest) =
    last_seen schema next deeds new rest ∙ moved_seen deed (turns_in deeds) old.port next.port (moves schema deed old next deed.doing first)

-- ---- deeds and more deeds

pub handed_both : (deeds more : List Deed) → handed_in (deeds ++ more) ≡ handed_in deeds ++ handed_in more
handed_both [] more = refl
handed_both (deed ∷ deeds) more =
    ap (λ (streams : List ℕ). handed_by deed.stream deed.doing ++ streams) (handed_both deeds more)
    ∙ sym (append_assoc (handed_by deed.stream deed.doing) (handed_in deeds) (handed_in more))

pub handed_more : (deeds : List Deed) (deed : Deed) → handed_in (deeds ++ deed ∷ []) ≡ handed_in deeds ++ handed_by deed.stream deed.doing
handed_more deeds deed =
    handed_both deeds (deed ∷ []) ∙ ap (λ (streams : List ℕ). handed_in deeds ++ streams) (append-nil (handed_by deed.stream deed.doing))

pub turns_both : (deeds more : List Deed) → turns_in (deeds ++ more) ≡ turns_in deeds ++ turns_in more
turns_both [] more = refl
turns_both (deed ∷ deeds) more =
    ap (λ (turns : List Turn). turn_in deed.turn ++ turns) (turns_both deeds more) ∙ sym (append_assoc (turn_in deed.turn) (turns_in deeds) (turns_in more))

pub turns_more : (deeds : List Deed) (deed : Deed) → turns_in (deeds ++ deed ∷ []) ≡ turns_in deeds ++ turn_in deed.turn
turns_more deeds deed =
    turns_both deeds (deed ∷ []) ∙ ap (λ (turns : List Turn). turns_in deeds ++ turns) (append-nil (turn_in deed.turn))

pub left_both : (seen : List Entry) (turns more : List Turn) → left_last seen (turns ++ more) ≡ left_last (left_last seen turns) more
left_both seen [] more = refl
left_both seen (turn ∷ turns) more = left_both turn.left turns more
