-- What is parsed of the words, as the pages of specs/ have it.
use Rattle.path_core.specs.declared.fault.PathFault.{PathFault}
use Rattle.path_core.specs.declared.fault.PathFault.TheVariants as paths
use Rattle.ask_command.specs.declared.words.Ask.{Ask}
use Rattle.ask_command.specs.declared.words.Ask.TheVariants as asks
use Rattle.ask_command.specs.declared.words.Form.{Form}
use Rattle.ask_command.specs.declared.words.Form.TheVariants as forms
use Rattle.ask_command.specs.declared.request.RequestFault.{RequestFault}
use Rattle.ask_command.specs.declared.request.RequestFault.TheVariants as faults
use Rattle.ask_command.specs.Words as words

abbrev pub ask_parsed : Ask → words.Ask
ask_parsed asks.Capabilities = words.Capabilities
ask_parsed (asks.Get path) = words.Get path.now
ask_parsed (asks.Set path json) = words.Set path.now json.now
ask_parsed (asks.Delete path) = words.Delete path.now
ask_parsed (asks.Trial id seconds path json) =
    words.Trial id.now seconds.now path.now json.now
ask_parsed (asks.Confirm id) = words.Confirm id.now
ask_parsed (asks.Cancel id) = words.Cancel id.now

abbrev pub form_parsed : Form → words.Form
form_parsed (forms.Call address ask) = words.Call address.now (ask_parsed ask)
form_parsed forms.Help = words.Help
form_parsed forms.Version = words.Version

abbrev pub of_path_fault : PathFault → RequestFault
of_path_fault paths.BadPath = faults.BadWords
of_path_fault paths.NoMemory = faults.NoMemory
