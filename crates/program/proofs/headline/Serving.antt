-- All connections have their parts in one history.
use Rattle.std.proofs.Common.{◌≡◌, ◌⊎◌, inl, inr, ℕ, List, [], ◌∷◌, ◌++◌, refl, sym, ap, ◌∙◌, subst, append_assoc, map, Option, Some, None}
use Rattle.std.specs.List.{AllByRecursion}
use Rattle.base_kinds.specs.declared.entry.Entry.{Entry}
use Rattle.disk_model.specs.Content.{Content, Tells}
use Rattle.disk_model.specs.Moments.{LeavesNow}
use Rattle.commit_journal.specs.Images.{IsJournalOr}
use Rattle.base_kinds.specs.declared.entry.Limits.{Limits}
use Rattle.environment.specs.Input.{Input}
use Rattle.environment.specs.Output.{Output}
use Rattle.book_port.specs.Opened.{Opened, IsRun, rules_in}
use Rattle.book_port.specs.Ports.{PortView, IsTwin}
use Rattle.session_core.specs.declared.how.How.{How}
use Rattle.listening.specs.Doors.{DoorView}
use Rattle.connection_server.specs.declared.accepting.Ending.{Ending}
use Rattle.connection_server.specs.declared.link.LinkEnd.{LinkEnd}
use Rattle.connection_server.specs.Joining.{authors_of}
use Rattle.connection_server.specs.Twins.{AreTwins, MeetEach, RiseAbove}
use Rattle.connection_server.specs.Serving.{behind_twins}
use Rattle.gnmi_server.specs.Histories.{GoesOnFrom}
use Rattle.gnmi_server.specs.Serving.{Served, ServesBook, IsServedOrClosed}
use Rattle.gnmi_server.specs.laws.HistoryLaws.{Stands}
use Rattle.program.specs.ServeCommand.{shared_port}
use Rattle.program.specs.headline.Terms.{IsPrefix}
use Rattle.program.specs.headline.Crashes.{SurvivesCrash}
use Rattle.program.proofs.headline.Prefixes.{prefix_again}
use Rattle.program.proofs.headline.Crashing.{prefix_itself, crashes_leave_prefixes}
use Rattle.program.specs.headline.Connections.{Converses}
use Rattle.program.specs.headline.OneHistory.{HasItsPart, OneHistory}
use Rattle.program.proofs.headline.Below.{itself, sessions_have_parts}
use Rattle.program.proofs.headline.Conversing.{converses_beside, crashes_so}

-- ---- ports

-- what a port was made with: the book's opening, and the history that was seen by then
abbrev starts : PortView → Opened × List Entry
starts port = (port.opened, port.seen)

same_start : (old : PortView) (twins : List PortView) (new : PortView) → AreTwins old twins new → AllByRecursion (λ (twin : PortView). starts twin ≡ starts old) twins
same_start old [] new is = tt
same_start old (twin ∷ twins) new (next, first, rest) =
    (ap starts first.twin_is, subst (λ (w : Opened × List Entry). AllByRecursion (λ (twin : PortView). starts twin ≡ w) twins) (ap starts first.new_is) (same_start next twins new rest))

seen_on : (old : PortView) (others : List PortView) (new : PortView) → MeetEach old others new → IsPrefix old.seen new.seen
seen_on old [] new is = subst (λ (p : PortView). IsPrefix old.seen p.seen) (sym is) (prefix_itself old.seen)
seen_on old (other ∷ others) new (next, first, rest) =
    prefix_again old.seen next.seen new.seen (first.has_own.others, first.has_own.whole) (seen_on next others new rest)

all_seen : (old : PortView) (others : List PortView) (new : PortView) → MeetEach old others new → AllByRecursion (λ (other : PortView). IsPrefix other.seen new.seen) others
all_seen old [] new is = tt
all_seen old (other ∷ others) new (next, first, rest) =
    (prefix_again other.seen next.seen new.seen (first.has_other.others, first.has_other.whole) (seen_on next others new rest), all_seen next others new rest)

first_of : (P : PortView → Type 0) (xs ys : List PortView) → AllByRecursion P (xs ++ ys) → AllByRecursion P xs
first_of P [] ys all = tt
first_of P (x ∷ xs) ys all = (all.0, first_of P xs ys all.1)

-- ---- connections

parts : (opened : Opened) (seen h : List Entry) (served : List (Served Input Output)) → IsPrefix seen h → AllByRecursion (IsServedOrClosed (itself {A = Input}) (itself {A = Output})) served → AllByRecursion (Stands (itself {A = Input}) (itself {A = Output}) h) served → AllByRecursion (λ (twin : PortView). starts twin ≡ (opened, opened.base)) (map (λ (one : Served Input Output). one.link.port) served) → AllByRecursion (λ (other : PortView). IsPrefix other.seen seen) (map (λ (one : Served Input Output). one.left.port) served) → AllByRecursion (HasItsPart opened h) served
parts opened seen h [] prefix each stands same prefixes = tt
parts opened seen h (one ∷ served) prefix each stands same prefixes =
    (by_case each.0, parts opened seen h served prefix each.1 stands.1 same.1 prefixes.1)
  where
    by_case : IsServedOrClosed (itself {A = Input}) (itself {A = Output}) one → HasItsPart opened h one
    by_case (inl run) = inl (subst (λ (w : Opened × List Entry). Converses w.0.schema (rules_in w.0) h one.link.port.author w.1 one.left.how one.link.input one.link.output one.left.input one.left.output) same.0 (converses_beside one h (prefix_again one.left.port.seen seen h prefixes.0 prefix) run (stands.0 run)))
    by_case (inr closed) = inr closed

pub serve_keeps : (opened : Opened) (name : List ℕ) (count : ℕ) (how : Ending) (links : List (LinkEnd Input Output How)) (door_old : DoorView Input Output) (new : PortView) (door_new : DoorView Input Output) (told : Option Content) (h : List Entry) (doubt : Option Entry) → ServesBook (itself {A = Input}) (itself {A = Output}) count how links (shared_port opened name) door_old new door_new → RiseAbove 1 (authors_of links) → GoesOnFrom new h → IsRun opened h → LeavesNow (IsJournalOr opened.limits h doubt) told → OneHistory opened door_old door_new links told
serve_keeps opened name count how links door_old new door_new told h doubt serves apart goes_on run leaves =
    let old = shared_port opened name in
    let ports = map (λ (one : Served Input Output). one.link.port) serves.served in
    let left = map (λ (one : Served Input Output). one.left.port) serves.served in
    record {
      h = h;
      legal = run;
      connections = serves.served;
      given = serves.given;
      ends = serves.ends_are;
      each = parts opened new.seen h serves.served (goes_on.more, goes_on.whole) serves.each (sessions_have_parts count how links old door_old new door_new serves h goes_on)
          (first_of (λ (twin : PortView). starts twin ≡ (opened, opened.base)) ports serves.unused (same_start old (ports ++ serves.unused) serves.last serves.twins))
          (first_of (λ (other : PortView). IsPrefix other.seen new.seen) left serves.unused (all_seen (behind_twins how serves.last) (left ++ serves.unused) new serves.met));
      apart = apart;
      doubt = doubt;
      survives = crashes_so opened.limits h doubt told leaves;
    }
