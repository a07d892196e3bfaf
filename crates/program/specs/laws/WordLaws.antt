-- What the words of a run decide.
use Rattle.std.specs.Prelude.{◌≡◌, ℕ, List, ◌⊎◌, codes, Option}
use Rattle.session_core.specs.declared.how.How.{How}
use Rattle.program.specs.declared.ending.Ending.TheVariants.{Done, BadWords}
use Rattle.program.specs.Ending.{exit_status}
use Rattle.program.specs.Environment.{Environment, SeenDisk}
use Rattle.program.specs.Links.{SeenLinks}
use Rattle.program.specs.Commands.{Command, Help, Version, Gives, GivesNone}
use Rattle.program.specs.HelpRun.{help_text, version_text}
use Rattle.program.specs.Run.{Run}
use Rattle.program.specs.laws.RunLaws.{NothingFailed, WroteAndEnded}

-- words give a command, or they give none
abbrev pub AreDecided : List (List ℕ) → Type 0
AreDecided words = ((command : Command) × Gives words command) ⊎ GivesNone words

-- words give one command at most
abbrev pub GiveOneCommand : Type 0
GiveOneCommand =
    (words : List (List ℕ)) (one other : Command) → Gives words one → Gives words other →
    one ≡ other

-- a run that needs nothing of the environment but the output writes this text, where that doesn't fail
abbrev pub CompletesAlone : Command → List ℕ → Type 0
CompletesAlone command text =
    (words : List (List ℕ)) (before after : Environment)
    (returned : Option SeenDisk) (how : Option How) (links : SeenLinks) (status : ℕ) →
    Gives words command → Run words before after returned how links status →
    NothingFailed before after returned →
    WroteAndEnded text (exit_status Done) before.output after.output status

abbrev pub CompletesHelp : Type 0
CompletesHelp = CompletesAlone Help help_text

abbrev pub CompletesVersion : Type 0
CompletesVersion = CompletesAlone Version version_text

-- words that give no command are answered with `bad words`, where the output doesn't fail
abbrev pub CompletesRefusals : Type 0
CompletesRefusals =
    (words : List (List ℕ)) (before after : Environment)
    (returned : Option SeenDisk) (how : Option How) (links : SeenLinks) (status : ℕ) →
    GivesNone words → Run words before after returned how links status →
    NothingFailed before after returned →
    WroteAndEnded (codes "bad words\n") (exit_status BadWords) before.output after.output status
