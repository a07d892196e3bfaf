-- Generated Sets that are served over memory.
use Rattle.std.proofs.Common.{◌≡◌, ℕ, ◌+◌, ◌==◌, Bool, true, false, List, [], ◌∷◌, ◌++◌, length, ◌⊎◌, Option, Some, IfOk, IfErr, Result, Ok, Err, inl, inr, refl, sym, ap, ◌∙◌, subst, arith}
use Rattle.std.specs.Prelude.{if◌then◌else◌}
use Rattle.environment.specs.Input.{unread_input}
use Rattle.environment.specs.Memory.{SinkState, SourceState, input_of}
use Rattle.environment.specs.Output.{unwritten_output}
use Rattle.base_kinds.specs.declared.entry.Entry.{Entry}
use Rattle.base_kinds.specs.declared.entry.View.{View}
use Rattle.base_kinds.specs.declared.path.Elem.{Elem}
use Rattle.base_kinds.specs.Events.{view_of}
use Rattle.base_kinds.specs.History.{stamp_of, world_of}
use Rattle.base_kinds.specs.Parts.{part}
use Rattle.base_kinds.specs.Schema.{SchemaNode}
use Rattle.base_kinds.specs.Step.{after_expiry}
use Rattle.disk_model.specs.Content.{Content}
use Rattle.disk_model.specs.Images.{IsImage}
use Rattle.base_kinds.specs.Limits.{AreInRange, default_limits}
use Rattle.schema_text.specs.Schemas.{schema_of}
use Rattle.journal_format.specs.Histories.{IsJournalHistory}
use Rattle.journal_format.specs.Journal.{IsJournal}
use Rattle.memory_disks.specs.Views.{DiskView, fuse_of}
use Rattle.book_port.specs.declared.happening.Happening.{Happening}
use Rattle.book_port.specs.Chronicles.{entries_by, history_of}
use Rattle.book_port.specs.Opened.{reopened}
use Rattle.book_port.proofs.Chronicled.{history_of_entered}
use Rattle.book_core.specs.Openings.{HasJournal, IsDamagedAt, IsFaulty, IsReady, IsUnfit}
use Rattle.book_core.specs.Views.{BookView, history_in}
use Rattle.generated_sets.specs.Connections.{connection_of_sets}
use Rattle.generated_sets.specs.Schemas.{schema_text}
use Rattle.session_core.specs.declared.how.How.{How}
use Rattle.program.specs.declared.ending.Ending.{Ending}
use Rattle.program.specs.declared.ending.Ending.TheVariants.{DiskFault, Done, JournalDamaged, NoMemory, SchemaUnfit}
use Rattle.program.specs.LoadRun.{AreSteady, Counts, CountsNone, IsMemory, Serves, line_of, load_line, load_reading}
use Rattle.program.specs.SessionCommand.{OnDisk, OpensNone, Streams}
use Rattle.program.specs.Environment.{SeenDisk}
use Rattle.program.specs.inner.Loads.{CannotRead, CountsDisk, ServesOctets, counted_on, one_if, seen_memory, streams_of_octets}
use Rattle.program.proofs.Sessions.{fails_to_open}

counts_one : (holds : Bool) (count more rest : ℕ) (entry : Entry) (later : List Entry) → length later ≡ rest → count + one_if holds + rest ≡ count + length (if holds then entry ∷ later else later)
counts_one true count more rest entry later is = omega (arith, is)
counts_one false count more rest entry later is = omega (arith, is)

pub counted_entries : (author count : ℕ) (entries : List Entry) → counted_on author count entries ≡ count + length (entries_by author entries)
counted_entries author count [] = omega arith
counted_entries author count (entry ∷ later) =
    counted_entries author (count + one_if (entry.author == author)) later
    ∙ counts_one (entry.author == author) count 0 (length (entries_by author later)) entry (entries_by author later) refl

pub empty_journal : (disk : DiskView) → IsJournal disk.content.seen default_limits [] → HasJournal (Some disk.content) default_limits []
empty_journal disk journal = record {
  journal = journal;
  legal = record {
    in_range = record { least_entries = omega arith; most_entries = omega arith; least_octets = omega arith; most_octets = omega arith };
    in_turn = tt;
  };
}

-- ---- serving

-- what a source, a sink and a clock in memory are seen as
abbrev pub streams_over : SourceState → SinkState → List ℕ → Streams
streams_over source sink clock = record { input = input_of source; output = sink.seen; clock = clock }

abbrev new_source : List ℕ → List (List ℕ) → SourceState
new_source octets fails = record { octets = octets; past = unread_input; calls = 0; fails = fails }

abbrev new_sink : List (List ℕ) → SinkState
new_sink fails = record { seen = unwritten_output; calls = 0; fails = fails; starved = false }

over_octets : (source : SourceState) (sink : SinkState) (clock octets : List ℕ) (fails others : List (List ℕ)) → source ≡ new_source octets fails → sink ≡ new_sink others → clock ≡ [] → streams_over source sink clock ≡ streams_of_octets octets
over_octets source sink clock octets fails others source_is sink_is clock_is =
    ap (λ (s : SourceState). streams_over s sink clock) source_is
    ∙ ap (λ (s : SinkState). streams_over (new_source octets fails) s clock) sink_is
    ∙ ap (λ (c : List ℕ). streams_over (new_source octets fails) (new_sink others) c) clock_is

pub serves_octets : (schema : List SchemaNode) (source : SourceState) (sink : SinkState) (clock octets : List ℕ) (disk left_disk : DiskView) (left : Streams) (how : Option How) (ending : Ending) {fails others : List (List ℕ)}
    → source ≡ new_source octets fails → sink ≡ new_sink others → clock ≡ [] → AreSteady left.clock
    → OnDisk schema (seen_memory disk) (seen_memory left_disk) (streams_over source sink clock) left how ending
    → ServesOctets octets schema (seen_memory disk) (seen_memory left_disk) ending
serves_octets schema source sink clock octets disk left_disk left how ending {fails} {others} source_is sink_is clock_is steady on =
    record {
      left = left;
      how = how;
      on_disk = subst (λ (s : Streams). OnDisk schema (seen_memory disk) (seen_memory left_disk) s left how ending) (over_octets source sink clock octets fails others source_is sink_is clock_is) on;
      readings = steady;
    }

pub serves : (seed count : ℕ) (schema : List SchemaNode) (octets : List ℕ) (initial final : SeenDisk) (ending : Ending) → octets ≡ connection_of_sets seed count
    → schema_of schema_text ≡ Ok schema → IsMemory initial → HasJournal initial.told default_limits []
    → ServesOctets octets schema initial final ending
    → Serves seed count schema final ending
serves seed count schema octets initial final ending octets_are schema_is memory journal served =
    record {
      schema_is = schema_is;
      initial = initial;
      memory = memory;
      journal = journal;
      left = served.left;
      how = served.how;
      on_disk = subst (λ (o : List ℕ). OnDisk schema initial final (streams_of_octets o) served.left served.how ending) octets_are served.on_disk;
      readings = served.readings;
    }

-- what a call of the disk tells of it
pub memory_of : (disk : DiskView) → IsImage disk.content.mask disk.content.seen → IsMemory (seen_memory disk)
memory_of disk sees = record { content = disk.content; told = refl; sees = sees }

-- ---- the line

-- the numbers of what was looked at are those of the history that the look found
pub same_line : (count reading : ℕ) (h left entries : List Entry) (root : List (List Elem)) (view : View) → root ≡ [] ∷ [] → view ≡ view_of left root → left ≡ after_expiry h reading → entries ≡ left
    → line_of count (length (entries_by 1 entries)) (length entries) (length view.rows) view.stamp ≡ load_line count (after_expiry h reading)
same_line count reading h left entries root view root_is view_is left_is entries_are =
    ap (λ (es : List Entry). line_of count (length (entries_by 1 es)) (length es) (length view.rows) view.stamp) entries_are
    ∙ ap (λ (v : View). line_of count (length (entries_by 1 left)) (length left) (length v.rows) v.stamp) view_is
    ∙ ap (λ (r : List (List Elem)). line_of count (length (entries_by 1 left)) (length left) (length (part r (world_of left).tree)) (stamp_of left)) root_is
    ∙ ap (λ (l : List Entry). load_line count l) left_is

pub if_line : {E : Type 0} (result : Result (List ℕ) E) (text other : List ℕ) → text ≡ other → IfOk result (λ line. line ≡ text) → IfOk result (λ line. line ≡ other)
if_line (Ok line) text other same is = is ∙ same
if_line (Err error) text other same is = tt

from_none : (n : ℕ) → 0 + n ≡ n
from_none n = omega arith

-- the line of a look at a book that then ended
pub line_of_look : (count : ℕ) (h left entries : List Entry) (root : List (List Elem)) (view : View) → root ≡ [] ∷ [] → (view ≡ view_of left root) × (left ≡ after_expiry h load_reading) → entries ≡ left
    → line_of count (counted_on 1 0 entries) (length entries) (length view.rows) view.stamp ≡ load_line count (after_expiry h load_reading)
line_of_look count h left entries root view root_is answer entries_are =
    ap (λ (n : ℕ). line_of count n (length entries) (length view.rows) view.stamp) (counted_entries 1 0 entries ∙ from_none (length (entries_by 1 entries)))
    ∙ same_line count load_reading h left entries root view root_is answer.0 answer.1 entries_are

module _ (schema : List SchemaNode) (disk : DiskView) where
  abbrev told : DiskView → Option Content
  told d = Some d.content

  abbrev faults : DiskView → ℕ
  faults d = d.faults

  -- the line of the book that was opened is that of the disk's journal
  pub counts_disk : (count : ℕ) (book : BookView DiskView) (line : List ℕ) → IsReady told faults fuse_of disk schema load_reading book → line ≡ load_line count (after_expiry (history_in book) load_reading) → CountsDisk count (seen_memory disk) line
  counts_disk count book line ready is =
      let history : history_in book ≡ reopened ready.found load_reading = ap (λ (c : List Happening). history_of c) ready.chronicle ∙ history_of_entered (reopened ready.found load_reading) in
      record {
        limits = book.opened.limits;
        found = ready.found;
        has_journal = ready.has_journal;
        line_is = is ∙ ap (λ (h : List Entry). load_line count (after_expiry h load_reading)) history;
      }

  pub reads_damage : (place : ℕ) (left : DiskView) → IsDamagedAt told faults fuse_of disk schema load_reading place left → CannotRead schema (seen_memory disk) JournalDamaged
  reads_damage place left is = record {
    after = seen_memory left;
    opens_none = inl (record { is = refl; place = place; damaged = is.damaged.damaged; synced = record { content = is.damaged.was_synced; quiet = is.damaged.quiet } });
  }

  pub reads_unfit : (left : DiskView) → IsUnfit told faults fuse_of disk schema load_reading left → CannotRead schema (seen_memory disk) SchemaUnfit
  reads_unfit left is = record {
    after = seen_memory left;
    opens_none = inr (inl (record { is = refl; limits = is.limits; found = is.found; has_journal = is.has_journal; unsound = is.unsound; synced = record { content = is.was_synced; quiet = is.quiet } }));
  }

  pub reads_faulty : (left : DiskView) → IsFaulty told faults fuse_of disk schema load_reading left → CannotRead schema (seen_memory disk) DiskFault
  reads_faulty left is = record { after = seen_memory left; opens_none = fails_to_open told faults fuse_of disk left schema load_reading is }

-- ---- the report

module _ (seed count : ℕ) (schema : List SchemaNode) (disk : DiskView) (ending : Ending) (closed : ending ≡ Done) (served : Serves seed count schema (seen_memory disk) ending) (memory : IsMemory (seen_memory disk)) where
  served_whole : Serves seed count schema (seen_memory disk) Done
  served_whole = subst (λ (e : Ending). Serves seed count schema (seen_memory disk) e) closed served

  pub reports : (result : Result (List ℕ) Ending) → IfOk result (λ line. CountsDisk count (seen_memory disk) line) → IfOk result (λ line. Counts seed count line)
  reports (Ok line) counts = record {
    schema = schema;
    final = seen_memory disk;
    serves = served_whole;
    memory = memory;
    limits = counts.limits;
    found = counts.found;
    has_journal = counts.has_journal;
    line_is = counts.line_is;
  }
  reports (Err error) counts = tt

  pub reports_none : (copy : List SchemaNode) (result : Result (List ℕ) Ending) → copy ≡ schema → IfErr result (λ e. (e ≡ NoMemory) ⊎ CannotRead copy (seen_memory disk) e) → IfErr result (λ e. CountsNone seed count e)
  reports_none copy (Ok line) same cause = tt
  reports_none copy (Err error) same cause =
      elim cause [
        | inl starved ↦ inl starved
        | inr none ↦ inr (inr (inr (record {
          schema = schema;
          final = seen_memory disk;
          serves = served_whole;
          after = none.after;
          opens_none = subst (λ (s : List SchemaNode). OpensNone s load_reading (seen_memory disk) none.after error) same none.opens_none;
        })))
      ]
