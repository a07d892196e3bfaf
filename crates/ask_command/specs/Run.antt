-- What every run is, whatever its words, the connection and the output. Words.antt has the forms of the words, Requests.antt what is
-- sent for them, Printing.antt what is printed and what a status means. What happens on the connection is `Asked` (grpc_client).
use Rattle.std.specs.Prelude.{◌≡◌, ◌⊎◌, ℕ, ◌≤◌, ◌<◌, List, length, codes, Option, Some, None, Result}
use Rattle.environment.specs.Input.{Input}
use Rattle.environment.specs.Output.{Output}
use Rattle.dialing.specs.Dialing.{DialView, Connects, ConnectsNot}
use Rattle.grpc_core.specs.Messages.{largest_message}
use Rattle.grpc_client.specs.declared.connection.Connection.{Connection}
use Rattle.grpc_client.specs.declared.fault.CallFault.{CallFault}
use Rattle.grpc_client.specs.Asked.{Asked}
use Rattle.grpc_client.specs.Connections.{new_connection}
use Rattle.ask_command.specs.declared.ending.Ending.{Ending}
use Rattle.ask_command.specs.declared.ending.Ending.TheVariants as endings
use Rattle.ask_command.specs.declared.request.Request.{Request}
use Rattle.ask_command.specs.Printing.{exit_status, Prints, MakesText, OutOfMemory, SaysLast, done, said_of, no_answer}
use Rattle.ask_command.specs.Requests.{IsRequest, message_of, method_of}
use Rattle.ask_command.specs.Words.{Ask, Form, Call, Help, Version, form_words}

-- an address has at most so many octets
abbrev pub longest_address : ℕ
longest_address = 1000

-- the lines of `--help`, one for each form
abbrev pub help_text : List ℕ
help_text = codes
    "ADDRESS get PATH: print the rows under PATH, and the stamp of the state that they are of\nADDRESS set PATH JSON: update PATH by a value in JSON, and print the commit's stamp\nADDRESS delete PATH: delete what is under PATH, and print the commit's stamp\nADDRESS trial ID SECONDS PATH JSON: update PATH as a trial that is cancelled after SECONDS unless it is confirmed\nADDRESS confirm ID: confirm the trial ID\nADDRESS cancel ID: cancel the trial ID\nADDRESS capabilities: print the version of gNMI, the models and the encodings of the target\n--help: print these lines\n--version: print the name and the version of the program\n"

abbrev pub version_text : List ℕ
version_text = codes "gnmi_ask 0.1.0\n"

-- The dial and the output before a run and after it, the connection that the dial gave, and how the run ended.
pub record Ran (R W : Type 0) : Type 0 where
  pub dial : DialView R W
  pub dialled : DialView R W
  pub output : Output
  pub printed : Output
  pub link : Option (R × W)
  pub ending : Ending

abbrev pub ran : {R W : Type 0} → DialView R W → DialView R W → Output → Output → Option (R × W)
    → Ending → Ran R W
ran dial dialled output printed link ending = record {
  dial = dial;
  dialled = dialled;
  output = output;
  printed = printed;
  link = link;
  ending = ending;
}

-- One call is made on a new connection, the request's, with the address as its authority. What is printed is said of the answer that
-- this call gets.
pub record Talks {R W : Type 0} (reads : R → Input) (writes : W → Output) (address : List ℕ)
    (request : Request) (first last : R × W) (output printed : Output) (ending : Ending)
    : Type 0 where
  pub connection : Connection
  pub answer : Result (List ℕ) CallFault
  pub asked : Asked address (method_of request) (message_of request) answer new_connection
      connection (reads first.0) (reads last.0) (writes first.1) (writes last.1)
  pub says : MakesText (said_of request answer) output printed ending

-- What the words of a call ask for can't be sent: the address is too long, they give no request, or its message is too long.
abbrev pub NoRequest : Ask → Type 0
NoRequest ask = (request : Request) → IsRequest ask request → ⊥

abbrev pub IsTooLong : Request → Type 0
IsTooLong request = largest_message < length (message_of request)

abbrev pub AreUnfit : List ℕ → Ask → Type 0
AreUnfit address ask =
    (longest_address < length address)
    ⊎ (NoRequest ask ⊎ ((request : Request) × IsRequest ask request × IsTooLong request))

module _ {R W : Type 0} (reads : R → Input) (writes : W → Output) where
  -- nothing is dialled
  pub record DialsNothing (run : Ran R W) : Type 0 where
    pub dial : run.dialled ≡ run.dial
    pub link : run.link ≡ None

  -- a text alone is printed
  pub record PrintsAlone (text : List ℕ) (run : Ran R W) : Type 0 where
    pub nothing : DialsNothing run
    pub prints : Prints (done text) run.output run.printed run.ending

  -- the words are refused
  pub record Refuses (run : Ran R W) : Type 0 where
    pub nothing : DialsNothing run
    pub ends : run.ending ≡ endings.BadWords
    pub line : SaysLast (codes "bad words\n") run.output run.printed

  -- memory was wanting before the address was dialled
  pub record StopsEarly (run : Ran R W) : Type 0 where
    pub nothing : DialsNothing run
    pub says : OutOfMemory run.output run.printed run.ending

  -- the address can't be dialled
  pub record DialsInVain (run : Ran R W) : Type 0 where
    pub fails : ConnectsNot run.dial run.dialled
    pub link : run.link ≡ None
    pub says : Prints no_answer run.output run.printed run.ending

  -- the dial gave a connection, on which the call is made
  pub record Calls (address : List ℕ) (request : Request) (run : Ran R W) : Type 0 where
    pub first : R × W
    pub last : R × W
    pub connects : Connects reads writes first run.dial run.dialled
    pub link : run.link ≡ Some last
    pub talks : Talks reads writes address request first last run.output run.printed run.ending

  -- what is done for a request that a message has room for
  pub record Serves (address : List ℕ) (request : Request) (run : Ran R W) : Type 0 where
    pub fits : length (message_of request) ≤ largest_message
    pub does : Calls address request run ⊎ DialsInVain run

  -- what is done for a request
  abbrev pub Sends : List ℕ → Request → Ran R W → Type 0
  Sends address request run =
      Serves address request run ⊎ ((IsTooLong request × Refuses run) ⊎ StopsEarly run)

  -- what is done for the words of a call
  abbrev pub Obeys : List ℕ → Ask → Ran R W → Type 0
  Obeys address ask run =
      ((length address ≤ longest_address)
      × ((request : Request) × IsRequest ask request × Serves address request run))
      ⊎ ((AreUnfit address ask × Refuses run) ⊎ StopsEarly run)

  -- what is done for words of this form
  abbrev pub Does : Form → Ran R W → Type 0
  Does (Call address ask) run = Obeys address ask run
  Does Help run = PrintsAlone help_text run
  Does Version run = PrintsAlone version_text run

  -- the words have no form
  abbrev pub HasNoForm : List (List ℕ) → Type 0
  HasNoForm words = (form : Form) → words ≡ form_words form → ⊥

  -- Words have at most one form, since no two forms have the same words.
  abbrev pub Obeyed : List (List ℕ) → Ran R W → Type 0
  Obeyed words run =
      ((form : Form) × (words ≡ form_words form) × Does form run)
      ⊎ (HasNoForm words × Refuses run)

  pub record AskRun (words : List (List ℕ)) (dial dialled : DialView R W) (link : Option (R × W))
      (output printed : Output) (status : ℕ) : Type 0 where
    pub ending : Ending
    pub status_is : status ≡ exit_status ending
    pub does : Obeyed words (ran dial dialled output printed link ending)
