-- THE PROMISE of `serve` and `session`. All answers on all connections are those of one history.
use Rattle.std.specs.Prelude.{◌≡◌, ◌⊎◌, ℕ, List, ◌++◌, map, Option}
use Rattle.std.specs.List.{AllByRecursion}
use Rattle.base_kinds.specs.declared.entry.Entry.{Entry}
use Rattle.disk_model.specs.Content.{Content, Tells}
use Rattle.environment.specs.Input.{Input}
use Rattle.environment.specs.Output.{Output}
use Rattle.listening.specs.Doors.{DoorView}
use Rattle.book_port.specs.Follows.{FollowsAlone}
use Rattle.book_port.specs.Opened.{Opened, IsRun, rules_in}
use Rattle.session_core.specs.declared.how.How.{How}
use Rattle.session_core.specs.declared.how.How.TheVariants.{NoMemory}
use Rattle.session_core.specs.Deeds.{readings_in, turns_in}
use Rattle.connection_server.specs.declared.link.LinkEnd.{LinkEnd}
use Rattle.connection_server.specs.Jobs.{left_unserved}
use Rattle.connection_server.specs.Joining.{authors_of}
use Rattle.connection_server.specs.Twins.{RiseAbove}
use Rattle.gnmi_server.specs.Serving.{Served, AreEndsOf, halves_of}
use Rattle.program.specs.headline.Connections.{Converses}
use Rattle.program.specs.headline.Crashes.{SurvivesCrash}

-- the connection was served; or memory ran out for its session, and it was closed at once
abbrev pub HasItsPart : Opened → List Entry → Served Input Output → Type 0
HasItsPart opened h one =
    Converses opened.schema (rules_in opened) h one.link.port.author opened.base
    one.left.how one.link.input one.link.output one.left.input one.left.output
    ⊎ (one.left ≡ left_unserved NoMemory one.link)

-- There is one history, which goes on from the one that the opening gave by steps that the rules of the target allow (`IsRun`), and each
-- connection that the door gave, in order, has its part in it. No two sessions have one author. A crash after the run leaves all of
-- the history, or that and the one commit in doubt.
pub record OneHistory (opened : Opened) (door_old door_new : DoorView Input Output)
    (links : List (LinkEnd Input Output How)) (told : Option Content) : Type 0 where
  pub h : List Entry
  pub legal : IsRun opened h
  pub connections : List (Served Input Output)
  pub given : door_new.given ≡ door_old.given ++ map halves_of connections
  pub ends : AreEndsOf connections links
  pub each : AllByRecursion (HasItsPart opened h) connections
  pub apart : RiseAbove 1 (authors_of links)
  pub doubt : Option Entry
  pub survives : Tells told (λ content. SurvivesCrash opened.limits h doubt content.mask)

-- One connection over the program's own input and output, with author 1: nobody else commits anything, so that each turn finds just
-- what the turn before left. Its turns are at the readings of the program's clock, in order.
pub record OneConnection (opened : Opened) (how : How) (input : Input) (output : Output)
    (clock : List ℕ) (input_left : Input) (output_left : Output) (clock_left : List ℕ)
    (told : Option Content) : Type 0 where
  pub h : List Entry
  pub legal : IsRun opened h
  pub part : Converses opened.schema (rules_in opened) h 1 opened.base how input output
      input_left output_left
  pub alone : FollowsAlone opened.base (turns_in part.deeds) h
  pub readings : clock_left ≡ clock ++ readings_in part.deeds
  pub doubt : Option Entry
  pub survives : Tells told (λ content. SurvivesCrash opened.limits h doubt content.mask)
