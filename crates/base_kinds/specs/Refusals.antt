-- The number of each refusal, and the gRPC status code (grpc/status.md) and message that go with it.
use Rattle.std.specs.Prelude.{ℕ, List, codes}
use Rattle.base_kinds.specs.declared.refusal.Refusal.{Refusal}
use Rattle.base_kinds.specs.declared.refusal.Refusal.TheVariants.{BadMessage, TooLarge, Compressed, NoMethod, BadPath, NotInSchema, BadValue, NotFound, Unsupported, TrialOpen, NoTrial, WrongId, BadDuration, MixedAction, BadId, TreeInvalid, TreeFull, LogFull, DiskFault, BadSubscribe, NoMemory}

abbrev pub number_of : Refusal → ℕ
number_of BadMessage = 1
number_of TooLarge = 2
number_of Compressed = 3
number_of NoMethod = 4
number_of BadPath = 5
number_of NotInSchema = 6
number_of BadValue = 7
number_of NotFound = 8
number_of Unsupported = 9
number_of TrialOpen = 10
number_of NoTrial = 11
number_of WrongId = 12
number_of BadDuration = 13
number_of MixedAction = 14
number_of BadId = 15
number_of TreeInvalid = 16
number_of TreeFull = 17
number_of LogFull = 18
number_of DiskFault = 19
number_of BadSubscribe = 21
number_of NoMemory = 22

-- 3 is INVALID_ARGUMENT, 5 NOT_FOUND, 8 RESOURCE_EXHAUSTED, 9 FAILED_PRECONDITION, 10 ABORTED, 12 UNIMPLEMENTED, 13 INTERNAL, 14 UNAVAILABLE
abbrev pub code_of : Refusal → ℕ
code_of BadMessage = 13
code_of TooLarge = 8
code_of Compressed = 12
code_of NoMethod = 12
code_of BadPath = 3
code_of NotInSchema = 3
code_of BadValue = 3
code_of NotFound = 5
code_of Unsupported = 12
code_of TrialOpen = 9
code_of NoTrial = 9
code_of WrongId = 3
code_of BadDuration = 3
code_of MixedAction = 3
code_of BadId = 3
code_of TreeInvalid = 3
code_of TreeFull = 8
code_of LogFull = 8
code_of DiskFault = 14
code_of BadSubscribe = 3
code_of NoMemory = 10

abbrev pub text_of : Refusal → List ℕ
text_of BadMessage = codes "bad message"
text_of TooLarge = codes "too large"
text_of Compressed = codes "compressed message"
text_of NoMethod = codes "no such method"
text_of BadPath = codes "bad path"
text_of NotInSchema = codes "not in schema"
text_of BadValue = codes "bad value"
text_of NotFound = codes "not found"
text_of Unsupported = codes "unsupported"
text_of TrialOpen = codes "trial open"
text_of NoTrial = codes "no trial"
text_of WrongId = codes "wrong id"
text_of BadDuration = codes "bad duration"
text_of MixedAction = codes "mixed action"
text_of BadId = codes "bad id"
text_of TreeInvalid = codes "tree invalid"
text_of TreeFull = codes "tree full"
text_of LogFull = codes "log full"
text_of DiskFault = codes "disk fault"
text_of BadSubscribe = codes "bad subscribe"
text_of NoMemory = codes "no memory"
