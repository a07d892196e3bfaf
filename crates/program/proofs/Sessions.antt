-- A connection that is served on a book.
use Rattle.std.proofs.Common.{◌≡◌, ℕ, ◌+◌, ◌-◌, ◌≤◌, List, [], ◌∷◌, ◌++◌, true, length, drop, Option, Some, None, inl, inr, refl, sym, ap, ◌∙◌, subst, arith}
use Rattle.base_kinds.specs.declared.entry.Entry.{Entry}
use Rattle.base_kinds.specs.Schema.{SchemaNode}
use Rattle.environment.specs.Input.{Input}
use Rattle.environment.specs.Output.{Output}
use Rattle.listening.specs.Doors.{DoorView}
use Rattle.disk_model.specs.Content.{Content}
use Rattle.disk_model.specs.Moments.{LeavesNow}
use Rattle.commit_journal.specs.Images.{IsJournalOr}
use Rattle.book_port.specs.declared.happening.Happening.{Happening}
use Rattle.book_port.specs.Chronicles.{entered, entries_by, history_of, marks_of}
use Rattle.book_port.specs.Opened.{Opened, IsRun, reopened}
use Rattle.book_port.specs.Ports.{PortView}
use Rattle.book_core.specs.Openings.{IsReady, IsFaulty}
use Rattle.book_core.specs.Singles.{SingleView, port_of}
use Rattle.book_core.specs.Views.{BookView, history_in}
use Rattle.disk_model.specs.Calls.{Fuse}
use Rattle.session_core.specs.declared.how.How.{How}
use Rattle.session_core.specs.Runs.{SessionRun, outside_of}
use Rattle.session_core.proofs.Opened.{run_opened}
use Rattle.program.specs.declared.ending.Ending.{Ending}
use Rattle.program.specs.declared.ending.Ending.TheVariants.{DiskFault}
use Rattle.program.specs.Environment.{Environment, SeenDisk, SeenFiles, GaveDisk, seen_disk, files_after_disk}
use Rattle.program.specs.SchemaGiven.{GaveSchema}
use Rattle.program.specs.SessionCommand.{Streams, FailsToOpen, IsLeft, OnDisk, OpensNone, SessionCommand, after_reading, ending_of, first_port, opened, streams_of}
use Rattle.program.specs.inner.ServedBook.{Served, environment_of}

few_marks : (before all earlier faults : ℕ) → before + all ≤ faults → all - earlier ≤ faults
few_marks before all earlier faults risen = omega (arith, risen)

-- what the book behind a port leaves
pub book_left : {D : Type 0} (told : D → Option Content) (faults : D → ℕ) (port : SingleView D) (book : BookView D) (disk : D) → book ≡ port.book → disk ≡ book.disk → IsRun book.opened (history_in book) → book.opened.faults + length (marks_of book.chronicle) ≤ faults book.disk → LeavesNow (IsJournalOr book.opened.limits (history_in book) book.doubt) (told book.disk) → IsLeft port.book.opened (port_of faults port) (seen_disk told faults disk)
book_left {D = D} told faults port book disk is at run risen images =
    let risen : port.book.opened.faults + length (marks_of port.book.chronicle) ≤ faults port.book.disk = subst (λ (b : BookView D). b.opened.faults + length (marks_of b.chronicle) ≤ faults b.disk) is risen in
    let left : IsLeft port.book.opened (port_of faults port) (seen_disk told faults port.book.disk) = record {
      opened_is = refl;
      run = subst (λ (b : BookView D). IsRun b.opened (history_in b)) is run;
      doubt = port.book.doubt;
      images = subst (λ (b : BookView D). LeavesNow (IsJournalOr b.opened.limits (history_in b) b.doubt) (told b.disk)) is images;
      faults = refl;
      marks = few_marks _ _ _ _ risen;
    } in
    subst (λ (d : D). IsLeft port.book.opened (port_of faults port) (seen_disk told faults d)) (sym (at ∙ ap (λ (b : BookView D). b.disk) is)) left

-- ---- serving

-- what was served from a port on
pub served : (schema : List SchemaNode) (start port : PortView) (final : SeenDisk) (old new : Streams) (how : How) (ending : Ending) → SessionRun schema (outside_of old.input old.output start old.clock) how (outside_of new.input new.output port new.clock) → IsLeft port.opened port final → ending ≡ ending_of how → Served schema start final old new (Some how) ending
served schema start port final old new how ending run left is = record {
  connection = how;
  port = port;
  run = run;
  left = subst (λ (o : Opened). IsLeft o port final) (run_opened schema _ how _ run) left;
  how_is = refl;
  is = is;
}

-- ---- the port of a book that was just opened

abbrev port_with : Opened → List Entry → List Entry → ℕ → ℕ → PortView
port_with opened h made marks faults = record {
  opened = opened;
  book = [];
  author = 1;
  is_alone = true;
  start = h;
  seen = h;
  finds = [];
  made = made;
  marks = marks;
  met = [];
  known = 0;
  faults = Some faults;
}

same_port : (o o' : Opened) (h h' made : List Entry) (marks faults faults' : ℕ) → o ≡ o' → h ≡ h' → made ≡ [] → marks ≡ 0 → faults ≡ faults' → port_with o h made marks faults ≡ port_with o' h' [] 0 faults'
same_port o o' h h' made marks faults faults' p q r s t =
    ap (λ x. port_with x h made marks faults) p ∙ ap (λ x. port_with o' x made marks faults) q ∙ ap (λ x. port_with o' h' x marks faults) r
    ∙ ap (λ x. port_with o' h' [] x faults) s ∙ ap (λ x. port_with o' h' [] 0 x) t

pub of_entered : (entries : List Entry) → history_of (entered entries) ≡ entries
of_entered [] = refl
of_entered (entry ∷ entries) = ap (λ es. entry ∷ es) (of_entered entries)

nothing_past : (h : List Entry) → drop (length h) h ≡ []
nothing_past [] = refl
nothing_past (entry ∷ h) = nothing_past h

none_more : (n : ℕ) → n - n ≡ 0
none_more n = omega arith

just_opened : {D : Type 0} (told : D → Option Content) (faults : D → ℕ) (fuse : D → Fuse) (disk : D) (final : SeenDisk) (schema : List SchemaNode) (now : ℕ) (ending : Ending) (book : BookView D) → (ready : IsReady told faults fuse disk schema now book) → port_of faults (record { book = book; author = 1; start = book; finds = [] }) ≡ first_port (opened schema now (seen_disk told faults disk) final ending book.opened.limits ready.found)
just_opened told faults fuse disk final schema now ending book ready =
    let history : history_in book ≡ reopened ready.found now = ap (λ (c : List Happening). history_of c) ready.chronicle ∙ of_entered (reopened ready.found now) in
    same_port book.opened _ (history_in book) (reopened ready.found now) _ _ (faults book.disk) (faults disk) ready.opened history (ap (λ (h : List Entry). entries_by 1 h) (nothing_past (history_in book))) (none_more (length (marks_of book.chronicle))) ready.quiet

-- a connection was served on a book that was opened at a reading of the clock
pub serves_one : {D : Type 0} (told : D → Option Content) (faults : D → ℕ) (fuse : D → Fuse) (disk : D) (final : SeenDisk) (schema : List SchemaNode) (now : ℕ) (book : BookView D) (old read new : Streams) (how : Option How) (ending : Ending) → IsReady told faults fuse disk schema now book → read ≡ after_reading now old → Served schema (port_of faults (record { book = book; author = 1; start = book; finds = [] })) final read new how ending → OnDisk schema (seen_disk told faults disk) final old new how ending
serves_one told faults fuse disk final schema now book old read new how ending ready read_is one =
    let start = just_opened told faults fuse disk final schema now ending book ready in
    let run = subst (λ (s : Streams). SessionRun schema (outside_of s.input s.output (port_of faults (record { book = book; author = 1; start = book; finds = [] })) s.clock) one.connection (outside_of new.input new.output one.port new.clock)) read_is one.run in
    record {
      now = now;
      serves = inl (record {
        limits = book.opened.limits;
        found = ready.found;
        has_journal = ready.has_journal;
        connection = one.connection;
        port = one.port;
        run = subst (λ (p : PortView). SessionRun schema (outside_of old.input old.output p (old.clock ++ now ∷ [])) one.connection (outside_of new.input new.output one.port new.clock)) start run;
        left = subst (λ (p : PortView). IsLeft p.opened one.port final) start one.left;
        how_is = one.how_is;
        is = one.is;
      });
    }

-- an opening that a fault of the disk ended
pub fault_found : {D : Type 0} (told : D → Option Content) (faults : D → ℕ) (fuse : D → Fuse) (disk left : D) (schema : List SchemaNode) (now : ℕ) (ending : Ending) → ending ≡ DiskFault → IsFaulty told faults fuse disk schema now left → FailsToOpen schema now (seen_disk told faults disk) (seen_disk told faults left) ending
fault_found told faults fuse disk left schema now ending is faulty = record {
  is = is;
  fault = faulty.rose;
  content = elim faulty.cause [
    | inl unread ↦ elim unread.moments [ inl same ↦ inl same | inr synced ↦ inr (inl synced) ]
    | inr cut ↦ inr (inr (record { limits = cut.limits; found = cut.found; has_journal = cut.has_journal; was_open = cut.was_open; moments = cut.moments }))
  ];
}

pub fails_to_open : {D : Type 0} (told : D → Option Content) (faults : D → ℕ) (fuse : D → Fuse) (disk left : D) (schema : List SchemaNode) (now : ℕ) → IsFaulty told faults fuse disk schema now left → OpensNone schema now (seen_disk told faults disk) (seen_disk told faults left) DiskFault
fails_to_open told faults fuse disk left schema now faulty = inr (inr (inl (fault_found told faults fuse disk left schema now DiskFault refl faulty)))

pub serves_none : (schema : List SchemaNode) (now : ℕ) (initial final : SeenDisk) (old new : Streams) (how : Option How) (ending : Ending) → OpensNone schema now initial final ending → new ≡ after_reading now old → how ≡ None → OnDisk schema initial final old new how ending
serves_none schema now initial final old new how ending none streams how_is = record {
  now = now;
  serves = inr (record { opens_none = none; streams = streams; how_is = how_is });
}

-- both files were given
pub on_disk : (schema_name journal_name : List ℕ) (schema : List SchemaNode) (before : Environment) (between files : SeenFiles) (streams : Streams) (door : DoorView Input Output) (initial final : SeenDisk) (how : Option How) (ending : Ending) → GaveSchema schema_name schema before.files between → GaveDisk files_after_disk journal_name initial between files → OnDisk schema initial final (streams_of before) streams how ending → SessionCommand schema_name journal_name before (environment_of files streams door) (Some final) how ending
on_disk schema_name journal_name schema before between files streams door initial final how ending gave given on = inl (record {
  schema = schema;
  between = between;
  gave_schema = gave;
  initial = initial;
  gave_disk = given;
  final = final;
  returned_is = refl;
  goes_on = on;
})
