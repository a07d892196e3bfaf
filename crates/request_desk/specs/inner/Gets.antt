-- A Get before it is looked for.
use Rattle.std.specs.Prelude.{Option, Some, None, Result, Ok, Err, if◌then◌else◌}
use Rattle.base_kinds.specs.declared.refusal.Refusal.{Refusal}
use Rattle.base_kinds.specs.declared.refusal.Refusal.TheVariants.{BadMessage, Unsupported}
use Rattle.gnmi_kinds.specs.declared.ask.GetAsk.{GetAsk}
use Rattle.request_desk.specs.Gets.{is_unsupported}

-- what is asked, or why the request isn't one that this target serves
abbrev pub get_ask : Option GetAsk → Result GetAsk Refusal
get_ask None = Err BadMessage
get_ask (Some ask) = if is_unsupported ask then Err Unsupported else Ok ask
