-- Runs over objects in memory: they lose no octet, and two that go well over fresh and equal objects write the same.
use Rattle.std.specs.Prelude.{◌≡◌, ℕ, List, ◌++◌, Option, Some}
use Rattle.environment.specs.Input.{Input, unread_input}
use Rattle.environment.specs.Output.{Output, Wrote, unwritten_output}
use Rattle.session_core.specs.declared.how.How.{How}
use Rattle.program.specs.declared.ending.Ending.TheVariants.{NoMemory}
use Rattle.program.specs.Ending.{exit_status}
use Rattle.program.specs.Environment.{Environment, SeenDisk, unread_files, texts_of}
use Rattle.program.specs.Links.{SeenLinks}
use Rattle.script_run.specs.laws.ScriptLaws.{HaveNoStops}
use Rattle.program.specs.Commands.{IsNoLoad, IsNoServe, IsNoSession}
use Rattle.program.specs.Run.{Run}
use Rattle.program.specs.laws.RunLaws.{NothingFailed}
use Rattle.program.specs.laws.WordLaws.{AreDecided}

-- what memory holds for a run: one text under its name, or none, one disk's octets under their name, or none, and the input
pub record Memory : Type 0 where
  pub name : List ℕ
  pub text : Option (List ℕ)
  pub disk_name : List ℕ
  pub disk : Option (List ℕ)
  pub octets : List ℕ

-- nothing was asked for, read or written as yet, and files and input hold this
pub record IsFreshMemory (memory : Memory) (environment : Environment) : Type 0 where
  pub files : environment.files ≡ record unread_files {
    held = Some (texts_of memory.name memory.text);
    disks_held = Some (texts_of memory.disk_name memory.disk);
  }
  pub input : environment.input ≡ record unread_input { left = Some memory.octets }
  pub output : environment.output ≡ unwritten_output

-- what the input has given and what it has left, together, are these octets
pub record IsInputOf (octets : List ℕ) (input : Input) : Type 0 where
  pub rest : List ℕ
  pub left : input.left ≡ Some rest
  pub whole : input.given ++ rest ≡ octets

-- a run loses no octet of an input in memory: what it read and what it left are what there was
abbrev pub LosesNoOctet : Type 0
LosesNoOctet =
    (words : List (List ℕ)) (octets : List ℕ) (before after : Environment)
    (returned : Option SeenDisk) (how : Option How) (links : SeenLinks) (status : ℕ) →
    AreDecided words → Run words before after returned how links status →
    IsInputOf octets before.input → IsInputOf octets after.input

-- the run ended with this status, nothing failed and memory was there
pub record WentWell
    (before after : Environment) (returned : Option SeenDisk) (status : ℕ) : Type 0 where
  pub quiet : NothingFailed before after returned
  pub memory : status ≡ exit_status NoMemory → ⊥

-- both runs wrote this text, and nothing else, and ended alike
pub record WroteAlike (one other : Output) (status status' : ℕ) : Type 0 where
  pub text : List ℕ
  pub first : Wrote text unwritten_output one
  pub second : Wrote text unwritten_output other
  pub statuses : status ≡ status'

-- Two runs with the same words over fresh and equal objects in memory, which both go well, write the same, where no line of the
-- input is one of a script that lets its disk stop. The words are no session's, no server's and no load's: what these answer
-- stands on the clock and on the memory that each call finds.
abbrev pub RunsAlike : Type 0
RunsAlike =
    (words : List (List ℕ)) (memory : Memory) (a b c d : Environment)
    (returned returned' : Option SeenDisk) (how how' : Option How) (links links' : SeenLinks)
    (status status' : ℕ) →
    AreDecided words → IsNoSession words → IsNoServe words → IsNoLoad words →
    HaveNoStops memory.octets →
    IsFreshMemory memory a → IsFreshMemory memory c →
    Run words a b returned how links status → Run words c d returned' how' links' status' →
    WentWell a b returned status → WentWell c d returned' status' →
    WroteAlike b.output d.output status status'
