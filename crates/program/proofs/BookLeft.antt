-- What a book with several ports leaves.
use Rattle.std.proofs.Common.{◌≡◌, ◌≢◌, ℕ, ◌+◌, ◌≤◌, List, [], ◌∷◌, ◌++◌, ◌⊎◌, length, map, false, Option, None, inl, inr, refl, sym, ap, ◌∙◌, subst, arith}
use mathlib.Core.Logic.{dite}
use native.Mathlib.Decide.{ℕ_discrete}
use Rattle.std.specs.List.{AllByRecursion}
use Rattle.base_kinds.specs.declared.entry.Entry.{Entry}
use Rattle.base_kinds.specs.Schema.{SchemaNode}
use Rattle.environment.specs.Input.{Input}
use Rattle.environment.specs.Output.{Output}
use Rattle.listening.specs.Doors.{DoorView}
use Rattle.disk_model.specs.Calls.{Fuse}
use Rattle.disk_model.specs.Content.{Content, WhereTold}
use Rattle.disk_model.specs.Moments.{LeavesNow}
use Rattle.journal_format.specs.Journal.{IsJournal}
use Rattle.commit_journal.specs.Images.{IsJournalOr}
use Rattle.book_port.specs.declared.happening.Happening.{Happening}
use Rattle.book_port.specs.Chronicles.{history_of, marks_of}
use Rattle.book_port.specs.Opened.{Opened, IsRun, reopened}
use Rattle.book_port.specs.Ports.{PortView, PortEnd, AuthorsDiffer, end_of}
use Rattle.book_core.specs.Openings.{IsReady, SyncsThen, opening_stages}
use Rattle.book_core.specs.Views.{BookView, history_in}
use Rattle.turn_lock.specs.Passes.{occurrences}
use Rattle.turn_lock.proofs.Counts.{times_hit, times_miss}
use Rattle.shared_book.specs.Visits.{GivesBack, HasMarks, IsFirstPort}
use Rattle.session_core.specs.declared.how.How.{How}
use Rattle.connection_server.specs.declared.accepting.Ending.{Ending as Accepting}
use Rattle.connection_server.specs.declared.accepting.Ending.TheVariants as accepting
use Rattle.connection_server.specs.declared.link.LinkEnd.{LinkEnd}
use Rattle.connection_server.specs.Joining.{authors_of}
use Rattle.connection_server.specs.Serving.{behind_twins}
use Rattle.connection_server.specs.Twins.{AreTwins, MeetEach, RiseAbove}
use Rattle.gnmi_server.specs.Serving.{Served, ServesBook}
use Rattle.program.specs.declared.ending.Ending.{Ending}
use Rattle.program.specs.Environment.{Environment, SeenDisk, seen_disk, seen_door}
use Rattle.program.specs.Links.{SeenLinks, seen_links}
use Rattle.program.specs.ServeCommand.{LeavesBook, OnDisk, SaysEnd, ServesAll, SharesNone, all_marks, opened_on, shared_port}
use Rattle.program.specs.inner.SharedBook.{Accepts, Serves, Starves, port_to}
use Rattle.program.proofs.SeenLinks.{accepts_seen, as_many_seen}
use Rattle.program.proofs.Sessions.{of_entered}

-- ---- marks

-- how many of these ports have this author
abbrev hits : List PortEnd → ℕ → ℕ
hits [] author = 0
hits (port ∷ ports) author = occurrences port.author (author ∷ []) + hits ports author

abbrev among : List PortEnd → List ℕ → ℕ
among [] authors = 0
among (port ∷ ports) authors = occurrences port.author authors + among ports authors

one_more : (n x : ℕ) (xs : List ℕ) → occurrences n (x ∷ xs) ≡ occurrences n (x ∷ []) + occurrences n xs
one_more n x xs = dite (ℕ_discrete x n)
    (λ same. let a = times_hit n x xs same in let b = times_hit n x [] same in omega (arith, a, b))
    (λ other. let a = times_miss n x xs other in let b = times_miss n x [] other in omega (arith, a, b))

among_none : (ports : List PortEnd) → among ports [] ≡ 0
among_none [] = refl
among_none (port ∷ ports) = let a = among_none ports in omega (arith, a)

among_more : (ports : List PortEnd) (author : ℕ) (authors : List ℕ) → among ports (author ∷ authors) ≡ hits ports author + among ports authors
among_more [] author authors = refl
among_more (port ∷ ports) author authors =
    let a = one_more port.author author authors in
    let b = among_more ports author authors in
    omega (arith, a, b)

no_hit : (ports : List PortEnd) (author : ℕ) → AllByRecursion (λ (port : PortEnd). port.author ≢ author) ports → hits ports author ≡ 0
no_hit [] author all = refl
no_hit (port ∷ ports) author all =
    let a = times_miss port.author author [] (λ same. all.0 (sym same)) in
    let b = no_hit ports author all.1 in
    omega (arith, a, b)

one_hit : (ports : List PortEnd) (author : ℕ) → AuthorsDiffer ports → hits ports author ≤ 1
one_hit [] author differ = omega arith
one_hit (port ∷ ports) author differ = dite (ℕ_discrete author port.author)
    (λ same.
    let a = times_hit port.author author [] same in
    let b = no_hit ports author (subst (λ n. AllByRecursion (λ (other : PortEnd). other.author ≢ n) ports) (sym same) differ.0) in
    omega (arith, a, b))
    (λ other.
    let a = times_miss port.author author [] other in
    let b = one_hit ports author differ.1 in
    omega (arith, a, b))

among_all : (ports : List PortEnd) (authors : List ℕ) → AuthorsDiffer ports → among ports authors ≤ length authors
among_all ports [] differ = let a = among_none ports in omega (arith, a)
among_all ports (author ∷ authors) differ =
    let a = among_more ports author authors in
    let b = one_hit ports author differ in
    let c = among_all ports authors differ in
    omega (arith, a, b, c)

module _ {D : Type 0} (book : BookView D) where
  marks_among : (ports : List PortEnd) → AllByRecursion (HasMarks book) ports → all_marks ports ≤ among ports (marks_of book.chronicle)
  marks_among [] all = omega arith
  marks_among (port ∷ ports) all =
      let a = all.0 in
      let b = marks_among ports all.1 in
      omega (arith, a, b)

  all_marked : (ports : List PortEnd) → AllByRecursion (HasMarks book) ports → AuthorsDiffer ports → all_marks ports ≤ length (marks_of book.chronicle)
  all_marked ports all differ =
      let a = marks_among ports all in
      let b = among_all ports (marks_of book.chronicle) differ in
      omega (arith, a, b)

-- what the book that the last port gave back leaves
pub book_left : {D : Type 0} (told : D → Option Content) (faults : D → ℕ) (port : PortView) (book : BookView D) (disk : D) → GivesBack port book → disk ≡ book.disk → IsRun book.opened (history_in book) → book.opened.faults + length (marks_of book.chronicle) ≤ faults book.disk → LeavesNow (IsJournalOr book.opened.limits (history_in book) book.doubt) (told book.disk) → LeavesBook port.opened port (seen_disk told faults disk)
book_left {D = D} told faults port book disk gives at run risen images =
    let few = all_marked book (end_of port ∷ port.met) gives.has_marks gives.differ in
    let marks : book.opened.faults + all_marks (end_of port ∷ port.met) ≤ faults book.disk = omega (arith, few, risen) in
    let left : LeavesBook book.opened port (seen_disk told faults book.disk) = record {
      history = history_in book;
      goes_on = record { more = gives.begins.others; whole = gives.begins.whole; has_made = gives.has_made.1 };
      own = gives.has_made.0;
      run = run;
      doubt = book.doubt;
      images = images;
      marks = marks;
    } in
    let opened : LeavesBook port.opened port (seen_disk told faults book.disk) = subst (λ (o : Opened). LeavesBook o port (seen_disk told faults book.disk)) gives.opened left in
    subst (λ (d : D). LeavesBook port.opened port (seen_disk told faults d)) (sym at) opened

-- ---- ports keep what their book was opened with

twins_keep : (old new : PortView) (twins : List PortView) → AreTwins old twins new → new.opened ≡ old.opened
twins_keep old new [] is = ap (λ (p : PortView). p.opened) is
twins_keep old new (twin ∷ twins) is = twins_keep is.0 new twins is.2 ∙ ap (λ (p : PortView). p.opened) is.1.new_is

meetings_keep : (old new : PortView) (others : List PortView) → MeetEach old others new → new.opened ≡ old.opened
meetings_keep old new [] is = ap (λ (p : PortView). p.opened) is
meetings_keep old new (other ∷ others) is = meetings_keep is.0 new others is.2 ∙ ap (λ (p : PortView). p.opened) is.1.new_is

behind_keeps : (how : Accepting) (port : PortView) → (behind_twins how port).opened ≡ port.opened
behind_keeps accepting.All port = refl
behind_keeps accepting.DoorEnd port = refl
behind_keeps accepting.DoorFault port = refl
behind_keeps accepting.Spent port = refl
behind_keeps accepting.NoMemory port = refl

pub served_keeps : (how : Accepting) (old last new : PortView) (twins others : List PortView) → AreTwins old twins last → MeetEach (behind_twins how last) others new → new.opened ≡ old.opened
served_keeps how old last new twins others made met = meetings_keep (behind_twins how last) new others met ∙ behind_keeps how last ∙ twins_keep old last twins made

-- what was served from a port on, and what the book leaves
pub accepts : {I O : Type 0} (reads : I → Input) (writes : O → Output) (sessions : ℕ) (how : Accepting) (links : List (LinkEnd I O How)) (first last : PortView) (old new : DoorView I O) (final : SeenDisk) → ServesBook reads writes sessions how links first old last new → RiseAbove first.known (authors_of links) → LeavesBook last.opened last final → Accepts reads writes sessions how links first old new final
accepts {I} {O} reads writes sessions how links first last old new final serves rise left = record {
  last = last;
  served = serves;
  authors = rise;
  left = subst (λ (o : Opened). LeavesBook o last final) (served_keeps how first serves.last last (map (λ (one : Served I O). one.link.port) serves.served ++ serves.unused) (map (λ (one : Served I O). one.left.port) serves.served ++ serves.unused) serves.twins serves.met) left;
}

-- so it is from the book on, with the last line
pub serves_from : {I O D : Type 0} (reads : I → Input) (writes : O → Output) (book : BookView D) (sessions : ℕ) (how : Accepting) (links : List (LinkEnd I O How)) (first : PortView) (door_old door_new : DoorView I O) (final : SeenDisk) (old new : Output) (ending : Ending) → IsFirstPort book first → Accepts reads writes sessions how links first door_old door_new final → SaysEnd how (length links) old new ending → Serves book sessions final old new (seen_door reads writes door_old) (seen_door reads writes door_new) (seen_links reads writes links) ending
serves_from reads writes book sessions how links first door_old door_new final old new ending is accepted says = record {
  name = first.book;
  how = how;
  accepts = accepts_seen reads writes sessions how links (port_to book first.book) door_old door_new final (subst (λ (p : PortView). Accepts reads writes sessions how links p door_old door_new final) is accepted);
  output = subst (λ n. SaysEnd how n old new ending) (sym (as_many_seen reads writes links)) says;
}

-- ---- a book that was opened

abbrev port_with : Opened → List Entry → List ℕ → PortView
port_with opened h name = record {
  opened = opened;
  book = name;
  author = 1;
  is_alone = false;
  start = h;
  seen = h;
  finds = [];
  made = [];
  marks = 0;
  met = [];
  known = 1;
  faults = None;
}

same_port : (o o' : Opened) (h h' : List Entry) (name : List ℕ) → o ≡ o' → h ≡ h' → port_with o h name ≡ port_with o' h' name
same_port o o' h h' name p q = ap (λ x. port_with x h name) p ∙ ap (λ x. port_with o' x name) q

module _ {D : Type 0} (told : D → Option Content) (faults : D → ℕ) (fuse : D → Fuse) (disk : D) (schema : List SchemaNode) (now : ℕ) (book : BookView D) (ready : IsReady told faults fuse disk schema now book) where
  abbrev initial : SeenDisk
  initial = seen_disk told faults disk

  history_is : history_in book ≡ reopened ready.found now
  history_is = ap (λ (c : List Happening). history_of c) ready.chronicle ∙ of_entered (reopened ready.found now)

  -- the first port is that of a book that was just opened
  just_shared : (sessions : ℕ) (final : SeenDisk) (before after : Environment) (links : SeenLinks) (ending : Ending) (name : List ℕ) → port_to book name ≡ shared_port (opened_on sessions schema now initial final before after links ending book.opened.limits ready.found) name
  just_shared sessions final before after links ending name =
      same_port book.opened _ (history_in book) (reopened ready.found now) name ready.opened history_is

  -- connections were served
  serves_all : (sessions : ℕ) (final : SeenDisk) (before after : Environment) (links : SeenLinks) (ending : Ending) → Serves book sessions final before.output after.output before.door after.door links ending → ServesAll sessions schema now initial final before after links ending
  serves_all sessions final before after links ending is =
      let first = just_shared sessions final before after links ending is.name in
      let accepts = subst (λ (p : PortView). Accepts (λ (input : Input). input) (λ (output : Output). output) sessions is.how links p before.door after.door final) first is.accepts in
      record {
        limits = book.opened.limits;
        found = ready.found;
        has_journal = ready.has_journal;
        name = is.name;
        how = is.how;
        last = accepts.last;
        served = accepts.served;
        authors = accepts.authors;
        left = accepts.left;
        output = is.output;
      }

  -- memory was wanting for the lock
  shares_none : (sessions : ℕ) (final : SeenDisk) (before after : Environment) (links : SeenLinks) (ending : Ending) → Starves book sessions final before.output after.output before.door after.door links ending (seen_disk told faults book.disk) → SharesNone sessions schema now initial final before after links ending
  shares_none sessions final before after links ending is = record {
    limits = book.opened.limits;
    found = ready.found;
    has_journal = ready.has_journal;
    moments = subst (λ (d : SeenDisk). WhereTold (told disk) d.told (SyncsThen book.opened.limits (opening_stages ready.found now))) (sym is.disk_is) ready.moments;
    images = subst (λ (d : SeenDisk). LeavesNow (λ octets. IsJournal octets book.opened.limits (reopened ready.found now)) d.told) (sym is.disk_is) ready.images;
    quiet = ap (λ (d : SeenDisk). d.faults) is.disk_is ∙ ready.quiet;
    output = is.output;
    door = is.door;
    links_are = is.links_are;
  }

  -- what was done over the book was done from the opening on
  pub over_ready : (sessions : ℕ) (final : SeenDisk) (before after : Environment) (links : SeenLinks) (ending : Ending) → after.input ≡ before.input → after.clock ≡ before.clock ++ now ∷ [] → Serves book sessions final before.output after.output before.door after.door links ending ⊎ Starves book sessions final before.output after.output before.door after.door links ending (seen_disk told faults book.disk) → OnDisk sessions schema initial final before after links ending
  over_ready sessions final before after links ending input clock (inl is) = record { now = now; input = input; clock = clock; serves = inl (serves_all sessions final before after links ending is) }
  over_ready sessions final before after links ending input clock (inr is) = record { now = now; input = input; clock = clock; serves = inr (inl (shares_none sessions final before after links ending is)) }
