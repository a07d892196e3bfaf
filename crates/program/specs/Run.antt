-- THE THEOREM. What every run of the program is, whatever its words, its files and its input hold. What follows of it for whoever uses
-- `serve`, `session` and `script` is the promise, headline/Headline.antt.
-- Commands.antt says how a command is written, Environment.antt what is seen of the files, a disk, the streams and the clock,
-- Ending.antt what a status means, and one file a command what it does. docs/THEOREM.md says the same in words.
use Rattle.std.specs.Prelude.{◌≡◌, ℕ, List, [], codes, Option, None}
use Rattle.session_core.specs.declared.how.How.{How}
use Rattle.program.specs.declared.ending.Ending.{Ending}
use Rattle.program.specs.declared.ending.Ending.TheVariants.{BadWords}
use Rattle.program.specs.Ending.{exit_status}
use Rattle.program.specs.Environment.{Environment, SeenDisk}
use Rattle.program.specs.Printing.{SaysLast}
use Rattle.program.specs.Commands.{Command, Check, Script, Init, Log, Session, Serve, Load, Help, Version, Gives, GivesNone}
use Rattle.program.specs.Commands.{IsNoSession, IsNoServe}
use Rattle.program.specs.CheckRun.{CheckRun}
use Rattle.program.specs.HelpRun.{PrintsAlone, help_text, version_text}
use Rattle.program.specs.InitRun.{InitRun}
use Rattle.program.specs.LoadRun.{LoadRun}
use Rattle.program.specs.LogRun.{LogRun}
use Rattle.program.specs.Links.{SeenLinks}
use Rattle.program.specs.ScriptRun.{ScriptRun}
use Rattle.program.specs.ServeCommand.{ServeCommand}
use Rattle.program.specs.SessionCommand.{SessionCommand}

-- the work is done, and no disk is handed back
abbrev pub WithoutDisk : Type 0 → Option SeenDisk → Type 0
WithoutDisk Work returned = Work × (returned ≡ None)

-- what each command does; `returned` is the disk that is handed back, as it is then, `how` tells how a connection over the input and
-- the output ended that was served, and `links` what came of the connections that the door gave
abbrev pub Does : Command → Environment → Environment → Option SeenDisk → Option How → SeenLinks
    → Ending → Type 0
Does (Check schema) before after returned how links ending =
    WithoutDisk (CheckRun schema before after ending) returned
Does (Script schema limits) before after returned how links ending =
    WithoutDisk (ScriptRun schema limits before after ending) returned
Does (Init journal limits) before after returned how links ending =
    InitRun journal limits before after returned ending
Does (Log journal) before after returned how links ending =
    LogRun journal before after returned ending
Does (Session schema journal) before after returned how links ending =
    SessionCommand schema journal before after returned how ending
Does (Serve schema journal address sessions) before after returned how links ending =
    ServeCommand schema journal sessions before after returned links ending
Does (Load seed count) before after returned how links ending =
    WithoutDisk (LoadRun seed count before after ending) returned
Does Help before after returned how links ending =
    WithoutDisk (PrintsAlone help_text before after ending) returned
Does Version before after returned how links ending =
    WithoutDisk (PrintsAlone version_text before after ending) returned

-- words that give no command are refused, and nothing is read
pub record Refuses
    (before after : Environment) (returned : Option SeenDisk) (ending : Ending) : Type 0 where
  pub ends : ending ≡ BadWords
  pub no_disk : returned ≡ None
  pub files : after.files ≡ before.files
  pub input : after.input ≡ before.input
  pub line : SaysLast (codes "bad words\n") before.output after.output

pub record Run
    (words : List (List ℕ)) (before after : Environment) (returned : Option SeenDisk)
    (how : Option How) (links : SeenLinks) (status : ℕ) : Type 0 where
  pub ending : Ending
  pub status_is : status ≡ exit_status ending
  pub done : (command : Command) → Gives words command →
      Does command before after returned how links ending
  pub refused : GivesNone words → Refuses before after returned ending
  -- a connection over the input and the output is served for `session` alone
  pub unserved : IsNoSession words → how ≡ None
  -- the door is opened, and connections are accepted, for `serve` alone
  pub unopened : IsNoServe words → (after.door ≡ before.door) × (links ≡ [])
