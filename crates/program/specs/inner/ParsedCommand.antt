-- The command that the program has parsed, as the page of commands has it.
use Rattle.program.specs.Commands as commands
use Rattle.program.specs.declared.command.Command.{Command}
use Rattle.program.specs.declared.command.Command.TheVariants.{Check, Script, Init, Log, Session, Serve, Load, Help, Version}

abbrev pub command_parsed : Command → commands.Command
command_parsed (Check schema) = commands.Check schema.now
command_parsed (Script schema limits) = commands.Script schema.now limits
command_parsed (Init journal limits) = commands.Init journal.now limits
command_parsed (Log journal) = commands.Log journal.now
command_parsed (Session schema journal) = commands.Session schema.now journal.now
command_parsed (Serve words) =
    commands.Serve words.schema.now words.journal.now words.address.now words.sessions
command_parsed (Load seed count) = commands.Load seed count
command_parsed Help = commands.Help
command_parsed Version = commands.Version
