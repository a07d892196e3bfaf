-- What is printed of an answer, and the status that goes with it.
use Rattle.std.specs.Prelude.{◌≡◌, ◌⊎◌, ℕ, List, [], ◌∷◌, ◌++◌, codes, Option, Some, None, option_map, Result, Ok, Err}
use Rattle.std.specs.List.{flat_map}
use Rattle.std.specs.Fmt.{decimal}
use Rattle.environment.specs.Output.{Output, Wrote, FailedWithin}
use Rattle.base_kinds.specs.declared.operation.Row.{Row}
use Rattle.base_kinds.specs.declared.request.Note.{Note}
use Rattle.base_kinds.specs.Texts.{quoted}
use Rattle.log_text.specs.Logs.{row_text}
use Rattle.grpc_client.specs.declared.fault.CallFault.{CallFault}
use Rattle.grpc_client.specs.declared.fault.CallFault.TheVariants as faults
use Rattle.gnmi_client_msg.specs.declared.capabilities.Capabilities.{Capabilities}
use Rattle.gnmi_client_msg.specs.declared.capabilities.ServedModel.{ServedModel}
use Rattle.gnmi_client_msg.specs.declared.capabilities.ServedEncoding.{ServedEncoding}
use Rattle.gnmi_client_msg.specs.declared.capabilities.ServedEncoding.TheVariants as served
use Rattle.gnmi_client_msg.specs.Capabilities.{capabilities_of}
use Rattle.gnmi_client_msg.specs.Replies.{set_stamp_of, notes_of}
use Rattle.ask_command.specs.declared.ending.Ending.{Ending}
use Rattle.ask_command.specs.declared.ending.Ending.TheVariants as endings
use Rattle.ask_command.specs.declared.request.Request.{Request}
use Rattle.ask_command.specs.declared.request.Request.TheVariants as requests

abbrev pub exit_status : Ending → ℕ
exit_status endings.Done = 0
exit_status endings.NoMemory = 1
exit_status endings.BadWords = 2
exit_status endings.Refused = 3
exit_status endings.BadAnswer = 4
exit_status endings.NoAnswer = 5
exit_status endings.OutputFault = 7

-- ---- texts

-- a word, a number and the end of the line
abbrev pub number_line : List ℕ → ℕ → List ℕ
number_line front number = front ++ (decimal number ++ 10 ∷ [])

abbrev pub stamp_line : ℕ → List ℕ
stamp_line stamp = number_line (codes "ok ") stamp

abbrev pub row_line : Row → List ℕ
row_line row = codes "row " ++ row_text row

-- the rows of a Notification, and then its stamp
abbrev pub note_lines : Note → List ℕ
note_lines note = flat_map row_line note.updates ++ number_line (codes "state ") note.stamp

abbrev pub notes_text : List Note → List ℕ
notes_text notes = flat_map note_lines notes

abbrev pub quoted_line : List ℕ → List ℕ → List ℕ
quoted_line front text = front ++ (quoted text ++ 10 ∷ [])

abbrev pub model_line : ServedModel → List ℕ
model_line model = quoted_line (codes "model ") model.name

abbrev pub encoding_line : ServedEncoding → List ℕ
encoding_line served.Json = codes "encoding JSON\n"
encoding_line served.Bytes = codes "encoding BYTES\n"
encoding_line served.Proto = codes "encoding PROTO\n"
encoding_line served.Ascii = codes "encoding ASCII\n"
encoding_line served.JsonIetf = codes "encoding JSON_IETF\n"
encoding_line (served.Other number) = number_line (codes "encoding ") number

-- the version of gNMI's specification, the models by their names, and the encodings
abbrev pub capabilities_text : Capabilities → List ℕ
capabilities_text c =
    quoted_line (codes "version ") c.version
    ++ (flat_map model_line c.models ++ flat_map encoding_line c.encodings)

-- What is printed of a reply; None where the octets are no reply to such a request.
abbrev pub reply_text : Request → List ℕ → Option (List ℕ)
reply_text requests.Capabilities octets = option_map capabilities_text (capabilities_of octets)
reply_text (requests.Get path) octets = option_map notes_text (notes_of octets)
reply_text (requests.Set ask) octets = option_map stamp_line (set_stamp_of octets)

-- ---- what is said of an answer, and how the run then ends

pub record Said : Type 0 where
  pub text : List ℕ
  pub ending : Ending

abbrev pub saying : List ℕ → Ending → Said
saying text ending = record { text = text; ending = ending }

abbrev pub no_answer : Said
no_answer = saying (codes "no answer\n") endings.NoAnswer

abbrev pub bad_answer : Said
bad_answer = saying (codes "bad answer\n") endings.BadAnswer

abbrev pub done : List ℕ → Said
done text = saying text endings.Done

abbrev pub said_of_fault : CallFault → Said
said_of_fault (faults.Refused code) =
    saying (number_line (codes "refused ") code) endings.Refused
said_of_fault (faults.Http status) = bad_answer
said_of_fault faults.NoStatus = bad_answer
said_of_fault faults.BadReply = bad_answer
said_of_fault (faults.Protocol code) = bad_answer
said_of_fault faults.Closed = no_answer
said_of_fault faults.ReadFault = no_answer
said_of_fault faults.WriteFault = no_answer
said_of_fault faults.Spent = no_answer
said_of_fault faults.NoMemory = saying (codes "no memory\n") endings.NoMemory

-- of a reply, what it tells
abbrev pub said_of_text : Option (List ℕ) → Said
said_of_text None = bad_answer
said_of_text (Some text) = done text

abbrev pub said_of_reply : Request → List ℕ → Said
said_of_reply request octets = said_of_text (reply_text request octets)

abbrev pub said_of : Request → Result (List ℕ) CallFault → Said
said_of request (Ok octets) = said_of_reply request octets
said_of request (Err why) = said_of_fault why

-- ---- printing

-- a last line, as far as the output takes it
abbrev pub SaysLast : List ℕ → Output → Output → Type 0
SaysLast line old new = Wrote line old new ⊎ FailedWithin line old new

-- memory was wanting, and that alone is said
pub record OutOfMemory (old new : Output) (ending : Ending) : Type 0 where
  pub ends : ending ≡ endings.NoMemory
  pub line : SaysLast (codes "no memory\n") old new

-- the text was written, all of it and nothing else, and the run ends so
pub record PrintsWhole (said : Said) (old new : Output) (ending : Ending) : Type 0 where
  pub ends : ending ≡ said.ending
  pub whole : Wrote said.text old new

-- the output failed when a proper prefix of the text was written, and nothing else
pub record PrintsPrefix (said : Said) (old new : Output) (ending : Ending) : Type 0 where
  pub ends : ending ≡ endings.OutputFault
  pub prefix : FailedWithin said.text old new

-- the text is printed, unless the output fails
abbrev pub Prints : Said → Output → Output → Ending → Type 0
Prints said old new ending = PrintsWhole said old new ending ⊎ PrintsPrefix said old new ending

-- and unless memory is wanting for the text
abbrev pub MakesText : Said → Output → Output → Ending → Type 0
MakesText said old new ending = Prints said old new ending ⊎ OutOfMemory old new ending
