-- What the promise refuses: wrong answers over a history of one or two commits. That each of them breaks it is the contract of
-- `wrong_answers_break_the_promise` (src/laws.rt), so that nobody weakens the page unseen.
use Rattle.std.specs.Prelude.{◌≡◌, ℕ, List, [], ◌∷◌, false, codes, Option, Some, Err}
use Rattle.base_kinds.specs.declared.entry.Entry.{Entry}
use Rattle.base_kinds.specs.declared.entry.Kind.TheVariants as kinds
use Rattle.base_kinds.specs.declared.entry.Limits.{Limits}
use Rattle.base_kinds.specs.declared.operation.Act.TheVariants.{Delete, Update}
use Rattle.base_kinds.specs.declared.operation.Row.{Row}
use Rattle.base_kinds.specs.declared.path.Elem.{Elem}
use Rattle.base_kinds.specs.declared.refusal.Refusal.{Refusal}
use Rattle.base_kinds.specs.declared.request.ListMode.TheVariants.{Stream}
use Rattle.base_kinds.specs.declared.value.Value.TheVariants as values
use Rattle.base_kinds.specs.Schema.{SchemaNode}
use Rattle.base_kinds.specs.Step.{Rules}
use Rattle.book_port.specs.Follows.{Turn}
use Rattle.disk_model.specs.Images.{IsImage}
use Rattle.gnmi_kinds.specs.declared.ask.Encoding.TheVariants.{Json}
use Rattle.gnmi_kinds.specs.declared.reply.SubReply.{SubReply}
use Rattle.gnmi_kinds.specs.declared.reply.SubReply.TheVariants as replies
use Rattle.grpc_core.specs.declared.method.Method.{Method}
use Rattle.journal_format.specs.Journal.{IsJournal}
use Rattle.grpc_requests.specs.declared.request.Asked.TheVariants.{Call}
use Rattle.session_core.specs.Deeds.{Deed, Answering, told, turns_in}
use Rattle.sub_plan.specs.declared.plan.GroupSort.TheVariants.{Change}
use Rattle.sub_plan.specs.declared.plan.Plan.{Plan}
use Rattle.program.specs.headline.Crashes.{SurvivesCrash}
use Rattle.program.specs.headline.Marks.{FoldsAtMarks}
use Rattle.program.specs.headline.Sessions.{IsAnswered, TakesPart}

-- ---- a history: author 2 sets the host's name, and deletes it

abbrev pub hostname : List Elem
hostname = record { name = codes "hostname"; keys = [] } ∷ []

abbrev pub row : List ℕ → Row
row name = record { path = hostname; value = values.Text name }

abbrev pub named : Entry
named = record {
  number = 1;
  author = 2;
  stamp = 1000;
  kind = kinds.Apply
      (record { act = Update; path = hostname; rows = row (codes "r1") ∷ [] } ∷ []);
}

abbrev pub cleared : Entry
cleared = record {
  number = 2;
  author = 2;
  stamp = 2000;
  kind = kinds.Apply (record { act = Delete; path = hostname; rows = [] } ∷ []);
}

-- ---- turns of the session of author 2

-- a Set
abbrev pub set_turn : Turn
set_turn = record { reading = 1000; found = []; left = named ∷ [] }

-- a read at the empty history
abbrev pub early_turn : Turn
early_turn = record { reading = 1001; found = []; left = [] }

-- a read at a history that never was
abbrev pub strange_turn : Turn
strange_turn = record { reading = 2000; found = cleared ∷ []; left = cleared ∷ [] }

-- a session that took these turns has no part in this history
abbrev pub HasNoPart : List Turn → List Entry → Type 0
HasNoPart turns h = (schema : List SchemaNode) (rules : Rules) (deeds : List Deed) →
    turns_in deeds ≡ turns → TakesPart schema rules h 2 [] deeds → ⊥

-- A reply isn't of another history,
abbrev pub OfAnotherHistory : Type 0
OfAnotherHistory = HasNoPart (strange_turn ∷ []) (named ∷ [])

-- a Get not of the state before the session's own Set,
abbrev pub BeforeTheOwnSet : Type 0
BeforeTheOwnSet = HasNoPart (set_turn ∷ early_turn ∷ []) (named ∷ [])

-- and one commit isn't acknowledged for two Sets.
abbrev pub AcknowledgedTwice : Type 0
AcknowledgedTwice = HasNoPart (set_turn ∷ set_turn ∷ []) (named ∷ [])

-- A call that is answered with a refusal leaves no commit.
abbrev pub RefusedAndDone : Type 0
RefusedAndDone = (schema : List SchemaNode) (rules : Rules) (author : ℕ) (method : Method)
    (body : List ℕ) (refusal : Refusal) (deed : Deed) →
    deed.doing ≡ Answering (Call method body) → deed.said ≡ told (Err refusal) →
    deed.turn ≡ Some set_turn → IsAnswered schema rules author deed → ⊥

-- ---- a stream of all paths, told on change

abbrev pub everything : Plan
everything = record {
  lines = record { pattern = []; group = 0 } ∷ [];
  groups = record { sort = Change; interval = 0; suppress = false; heartbeat = 0 } ∷ [];
  mode = Stream;
  updates_only = false;
  encoding = Json;
  target = [];
}

-- a notification of the host's name with this stamp
abbrev pub note_of_name : ℕ → List ℕ → SubReply
note_of_name stamp name =
    replies.Note (record { stamp = stamp; deletes = []; updates = row name ∷ [] })

-- It tells of no name that never was,
abbrev pub OfNoState : Type 0
OfNoState =
    FoldsAtMarks everything (named ∷ []) 0 (note_of_name 1000 (codes "r2") ∷ replies.Sync ∷ []) → ⊥

-- and doesn't go back to the name after it told that there is none.
abbrev pub GoesBack : Type 0
GoesBack =
    FoldsAtMarks everything (named ∷ cleared ∷ []) 0
    (replies.Note (record { stamp = 2000; deletes = []; updates = [] })
    ∷ replies.Sync ∷ note_of_name 1000 (codes "r1") ∷ []) → ⊥

-- ---- a crash

-- Where a crash may leave a journal without the commit, the commit doesn't survive.
abbrev pub LostInACrash : Type 0
LostInACrash = (limits : Limits) (doubt : Option Entry) (mask : List (Option ℕ))
    (octets : List ℕ) → IsImage mask octets → IsJournal octets limits [] →
    SurvivesCrash limits (named ∷ []) doubt mask → ⊥
