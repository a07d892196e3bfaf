use Rattle.std.proofs.Common.{◌≡◌, List, ℕ, ◌++◌, take, drop}
use Rattle.environment.specs.Output.{Wrote}
use Rattle.h2_windows.specs.Written.{octets_of}
use Rattle.h2_windows.specs.Sending.{sent}
use Rattle.h2_windows.proofs.sending.send_allowed.Given as goal

-- the streams before the place have sent, and those from it on are as they were
abbrev pub invariant-loop-stream : goal.invariant-loop-stream
invariant-loop-stream g l =
    let seen = g.S.Sink.seen in
    let left = drop l.stream-index l.fn.streams in
    record {
      done : List ℕ;
      parts : octets_of (sent l.fn.initial l.fn.window l.fn.streams).frames ≡ done ++ octets_of (sent l.fn.initial l.window left).frames;
      wrote : Wrote done (seen l.fn.sink) (seen l.sink);
      window : (sent l.fn.initial l.fn.window l.fn.streams).window ≡ (sent l.fn.initial l.window left).window;
      streams : (sent l.fn.initial l.fn.window l.fn.streams).streams ≡ take l.stream-index l.streams ++ (sent l.fn.initial l.window left).streams;
      left : drop l.stream-index l.streams ≡ left;
    }
