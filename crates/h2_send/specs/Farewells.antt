-- How a connection ends.
use Rattle.std.specs.Prelude.{ℕ, zero, suc, List, [], ◌∷◌}
use Rattle.h2_frame.specs.Frames.{Frame}
use Rattle.h2_windows.specs.Control.{goaway}
use Rattle.h2_send.specs.Lines.{Line}

-- GOAWAY where the connection ends with an error (RFC 9113 section 5.4.1)
abbrev pub farewell : ℕ → Line → List Frame
farewell zero line = []
farewell (suc code) line = goaway line.highest (suc code) ∷ []
