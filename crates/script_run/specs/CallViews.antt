-- What is kept of an open Subscribe call (gNMI 3.5.1.5).
use Rattle.std.specs.Prelude.{ℕ, List}
use Rattle.base_kinds.specs.declared.path.Elem.{Elem}
use Rattle.sub_plan.specs.declared.plan.Plan.{Plan}
use Rattle.sub_plan.specs.Groups.{patterns_of}
use Rattle.stream_laws.specs.Streams.{StreamView}

-- a call of mode STREAM, and one of mode POLL: whose it is, and its stream or its plan
pub record StreamCall : Type 0 where
  pub author : ℕ
  pub stream : StreamView

pub record PollCall : Type 0 where
  pub author : ℕ
  pub plan : Plan

-- what is looked at for it
abbrev pub stream_patterns : StreamCall → List (List Elem)
stream_patterns call = patterns_of call.stream.lines

abbrev pub poll_patterns : PollCall → List (List Elem)
poll_patterns call = patterns_of call.plan.lines
