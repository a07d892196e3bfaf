-- `--help` prints the forms of the words and what they do, `--version` the program's name and version. Neither reads anything.
use Rattle.std.specs.Prelude.{◌≡◌, ℕ, List, codes}
use Rattle.program.specs.declared.ending.Ending.{Ending}
use Rattle.program.specs.declared.ending.Ending.TheVariants.{Done}
use Rattle.program.specs.Environment.{Environment}
use Rattle.program.specs.Printing.{PrintsText}

-- a line for each form
abbrev pub help_text : List ℕ
help_text = codes
    "check SCHEMA: print how many nodes the schema in the file SCHEMA has, or its first fault\ninit JOURNAL: write a journal without entries into the file JOURNAL, which must be empty or not there yet\ninit JOURNAL ENTRIES OCTETS: the same, for a log of at most ENTRIES entries and OCTETS octets\nlog JOURNAL: print the commit log in the journal in the file JOURNAL\nscript SCHEMA: run the script on standard input under the schema, and print its answers and its log\nscript SCHEMA ENTRIES OCTETS: the same, with a log of at most ENTRIES entries and OCTETS octets\nsession SCHEMA JOURNAL: serve one gNMI connection over standard input and output, on the journal in the file JOURNAL\nserve SCHEMA JOURNAL ADDRESS SESSIONS: accept SESSIONS gNMI connections at ADDRESS, a host and a port, and serve them side by side, on the journal in the file JOURNAL\nload SEED COUNT: serve a client that makes COUNT generated Sets over memory, and print what came of them\n--help: print these lines\n--version: print the name and the version of the program\n"

abbrev pub version_text : List ℕ
version_text = codes "gnmid 0.1.0\n"

-- this text is printed, and neither a file nor the input is touched
pub record PrintsAlone (text : List ℕ) (before after : Environment) (ending : Ending) : Type 0 where
  pub files : after.files ≡ before.files
  pub input : after.input ≡ before.input
  pub output : PrintsText text Done before.output after.output ending
