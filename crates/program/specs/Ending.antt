-- How a run ends, and with which exit status.
use Rattle.std.specs.Prelude.{ℕ}
use Rattle.program.specs.declared.ending.Ending.{Ending}
use Rattle.program.specs.declared.ending.Ending.TheVariants.{Done, NoMemory, BadWords, NoSchema, JournalNotEmpty, JournalDamaged}
use Rattle.program.specs.declared.ending.Ending.TheVariants.{DiskFault, InputFault, OutputFault, DoorFault, BadLine, SchemaUnfit, ConnectionBroken}

abbrev pub exit_status : Ending → ℕ
exit_status Done = 0
exit_status NoMemory = 1
exit_status BadWords = 2
exit_status NoSchema = 3
exit_status SchemaUnfit = 3
exit_status JournalNotEmpty = 4
exit_status JournalDamaged = 4
exit_status DiskFault = 5
exit_status InputFault = 6
exit_status OutputFault = 7
exit_status DoorFault = 8
exit_status BadLine = 9
exit_status ConnectionBroken = 10
