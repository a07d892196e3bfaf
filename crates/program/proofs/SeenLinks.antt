-- Connections that were served over a book, as both halves of each are seen.
use Rattle.std.proofs.Common.{◌≡◌, ℕ, List, [], ◌∷◌, ◌++◌, length, map, Option, Some, None, option_map, inl, inr, refl, sym, ap, ◌∙◌, subst}
use Rattle.std.proofs.lemmas.List.{map-append, length-map}
use Rattle.std.specs.List.{AllByRecursion}
use Rattle.environment.specs.Input.{Input}
use Rattle.environment.specs.Output.{Output}
use Rattle.listening.specs.Doors.{DoorView, IsFresh, IsAtEnd}
use Rattle.book_port.specs.Ports.{PortView}
use Rattle.session_core.specs.declared.how.How.{How}
use Rattle.connection_server.specs.declared.accepting.Ending.{Ending}
use Rattle.connection_server.specs.declared.accepting.Ending.TheVariants as ending
use Rattle.connection_server.specs.declared.link.Link.{Link}
use Rattle.connection_server.specs.declared.link.LinkEnd.{LinkEnd}
use Rattle.connection_server.specs.declared.link.LinkLeft.{LinkLeft}
use Rattle.connection_server.specs.Accepting.{IsEnded, LeavesBehindAll}
use Rattle.connection_server.specs.Jobs.{IsEndOf}
use Rattle.connection_server.specs.Joining.{AreCounted, authors_of}
use Rattle.connection_server.specs.Serving.{behind_twins}
use Rattle.connection_server.specs.Twins.{AreTwins, MeetEach, RiseAbove}
use Rattle.gnmi_server.specs.Serving.{Served, IsServedOrClosed, ServesBook, AreEndsOf, halves_of}
use Rattle.program.specs.Environment.{SeenDisk, seen_halves, seen_door}
use Rattle.program.specs.Links.{seen_end, seen_links}
use Rattle.program.specs.inner.SharedBook.{Accepts}

module _ {I O : Type 0} (reads : I → Input) (writes : O → Output) where
  abbrev same_input : Input → Input
  same_input = λ (input : Input). input

  abbrev same_output : Output → Output
  same_output = λ (output : Output). output

  abbrev seen_link : Link I O PortView → Link Input Output PortView
  seen_link link = record { number = link.number; input = reads link.input; output = writes link.output; port = link.port }

  abbrev seen_left : LinkLeft I O PortView How → LinkLeft Input Output PortView How
  seen_left left = record { how = left.how; input = reads left.input; output = writes left.output; port = left.port }

  abbrev seen_one : Served I O → Served Input Output
  seen_one one = record { link = seen_link one.link; left = seen_left one.left }

  abbrev seen_all : List (Served I O) → List (Served Input Output)
  seen_all served = map seen_one served

  abbrev both : List (I × O) → List (Input × Output)
  both links = map (seen_halves reads writes) links

  halves_seen : (served : List (Served I O)) → both (map halves_of served) ≡ map halves_of (seen_all served)
  halves_seen [] = refl
  halves_seen (one ∷ served) = ap (λ l. (reads one.link.input, writes one.link.output) ∷ l) (halves_seen served)

  ports_seen : (served : List (Served I O)) → map (λ (one : Served Input Output). one.link.port) (seen_all served) ≡ map (λ (one : Served I O). one.link.port) served
  ports_seen [] = refl
  ports_seen (one ∷ served) = ap (λ l. one.link.port ∷ l) (ports_seen served)

  left_seen : (served : List (Served I O)) → map (λ (one : Served Input Output). one.left.port) (seen_all served) ≡ map (λ (one : Served I O). one.left.port) served
  left_seen [] = refl
  left_seen (one ∷ served) = ap (λ l. one.left.port ∷ l) (left_seen served)

  numbers_seen : (served : List (Served I O)) → map (λ (one : Served Input Output). one.link.number) (seen_all served) ≡ map (λ (one : Served I O). one.link.number) served
  numbers_seen [] = refl
  numbers_seen (one ∷ served) = ap (λ l. one.link.number ∷ l) (numbers_seen served)

  told_seen : (links : List (I × O)) (old new : Option (List (I × O))) → LeavesBehindAll links old new → LeavesBehindAll (both links) (option_map (λ l. both l) old) (option_map (λ l. both l) new)
  told_seen links None new is = ap (λ o. option_map (λ l. both l) o) is
  told_seen links (Some left) new is = (both is.0, ap (λ l. both l) is.1 ∙ map-append (seen_halves reads writes) links is.0, ap (λ o. option_map (λ l. both l) o) is.2)

  fresh_seen : (links : List (I × O)) → AllByRecursion (IsFresh reads writes) links → AllByRecursion (IsFresh same_input same_output) (both links)
  fresh_seen [] all = tt
  fresh_seen (link ∷ links) all = (all.0, fresh_seen links all.1)

  at_end : (left : Option (List (I × O))) → IsAtEnd left → IsAtEnd (option_map (λ l. both l) left)
  at_end None is = absurd is
  at_end (Some left) is = ap (λ l. both l) is

  ended_seen : (count : ℕ) (how : Ending) (number : ℕ) (old new : DoorView I O) → IsEnded count how number old new → IsEnded count how number (seen_door reads writes old) (seen_door reads writes new)
  ended_seen count ending.All number old new is = is
  ended_seen count ending.DoorEnd number old new is = (is.0, at_end new.left is.1, is.2)
  ended_seen count ending.DoorFault number old new is = is
  ended_seen count ending.Spent number old new is = (is.0, ap (λ d. seen_door reads writes d) is.1)
  ended_seen count ending.NoMemory number old new is = (is.0, ap (λ d. seen_door reads writes d) is.1)

  one_seen : (one : Served I O) → IsServedOrClosed reads writes one → IsServedOrClosed same_input same_output (seen_one one)
  one_seen one (inl serves) = inl (record { readings = serves.readings; run = serves.run })
  one_seen one (inr closed) = inr (ap seen_left closed)

  each_seen : (served : List (Served I O)) → AllByRecursion (IsServedOrClosed reads writes) served → AllByRecursion (IsServedOrClosed same_input same_output) (seen_all served)
  each_seen [] all = tt
  each_seen (one ∷ served) all = (one_seen one all.0, each_seen served all.1)

  end_seen : (number author : ℕ) (left : LinkLeft I O PortView How) (end : LinkEnd I O How) → IsEndOf number author left end → IsEndOf number author (seen_left left) (seen_end reads writes end)
  end_seen number author left end is = record {
    number_is = is.number_is;
    author_is = is.author_is;
    how_is = is.how_is;
    input_is = ap reads is.input_is;
    output_is = ap writes is.output_is;
  }

  ends_seen : (served : List (Served I O)) (ends : List (LinkEnd I O How)) → AreEndsOf served ends → AreEndsOf (seen_all served) (seen_links reads writes ends)
  ends_seen [] [] is = tt
  ends_seen [] (end ∷ ends) is = absurd is
  ends_seen (one ∷ served) [] is = absurd is
  ends_seen (one ∷ served) (end ∷ ends) is = (end_seen one.link.number one.link.port.author one.left end is.0, ends_seen served ends is.1)

  pub served_seen : (count : ℕ) (how : Ending) (ends : List (LinkEnd I O How)) (old : PortView) (door_old : DoorView I O) (new : PortView) (door_new : DoorView I O) → ServesBook reads writes count how ends old door_old new door_new → ServesBook same_input same_output count how (seen_links reads writes ends) old (seen_door reads writes door_old) new (seen_door reads writes door_new)
  served_seen count how ends old door_old new door_new is = record {
    served = seen_all is.served;
    unused = is.unused;
    last = is.last;
    twins = subst (λ l. AreTwins old (l ++ is.unused) is.last) (sym (ports_seen is.served)) is.twins;
    given = ap (λ l. both l) is.given ∙ map-append (seen_halves reads writes) door_old.given (map halves_of is.served) ∙ ap (λ l. both door_old.given ++ l) (halves_seen is.served);
    told = subst (λ l. LeavesBehindAll l (option_map (λ l. both l) door_old.left) (option_map (λ l. both l) door_new.left)) (halves_seen is.served) (told_seen (map halves_of is.served) door_old.left door_new.left is.told);
    fresh = subst (λ l. AllByRecursion (IsFresh same_input same_output) l) (halves_seen is.served) (fresh_seen (map halves_of is.served) is.fresh);
    ended = subst (λ n. IsEnded count how n (seen_door reads writes door_old) (seen_door reads writes door_new)) (sym (length-map is.served seen_one)) (ended_seen count how (length is.served) door_old door_new is.ended);
    numbered = subst (λ l. AreCounted 1 l) (sym (numbers_seen is.served)) is.numbered;
    each = each_seen is.served is.each;
    ends_are = ends_seen is.served ends is.ends_are;
    met = subst (λ l. MeetEach (behind_twins how is.last) (l ++ is.unused) new) (sym (left_seen is.served)) is.met;
  }

  authors_seen : (ends : List (LinkEnd I O How)) → authors_of (seen_links reads writes ends) ≡ authors_of ends
  authors_seen [] = refl
  authors_seen (end ∷ ends) = ap (λ l. end.author ∷ l) (authors_seen ends)

  pub as_many_seen : (ends : List (LinkEnd I O How)) → length (seen_links reads writes ends) ≡ length ends
  as_many_seen ends = length-map ends (seen_end reads writes)

  pub accepts_seen : (count : ℕ) (how : Ending) (ends : List (LinkEnd I O How)) (first : PortView) (door_old door_new : DoorView I O) (final : SeenDisk) → Accepts reads writes count how ends first door_old door_new final → Accepts same_input same_output count how (seen_links reads writes ends) first (seen_door reads writes door_old) (seen_door reads writes door_new) final
  accepts_seen count how ends first door_old door_new final is = record {
    last = is.last;
    served = served_seen count how ends first door_old is.last door_new is.served;
    authors = subst (λ l. RiseAbove first.known l) (sym (authors_seen ends)) is.authors;
    left = is.left;
  }
