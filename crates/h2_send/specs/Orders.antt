-- What inputs, one after another, make of the line and of the order.
use Rattle.std.specs.Prelude.{List, [], ◌∷◌, ◌++◌, map}
use Rattle.h2_events.specs.Items.{Item}
use Rattle.h2_events.specs.Items as item
use Rattle.h2_send.specs.Inputs.{Input, item_of}
use Rattle.h2_send.specs.Lines.{Line, first_line}
use Rattle.h2_send.specs.Acting.{handled}

-- The line is what the inputs make of the first one, each in turn,
abbrev pub line_after : Line → List Input → Line
line_after line [] = line
line_after line (input ∷ inputs) = line_after (handled input line).line inputs

-- and the order has behind each the frames that are written for it.
abbrev pub order_after : Line → List Input → List Item
order_after line [] = []
order_after line (input ∷ inputs) =
    let a = handled input line in
    item_of input ∷ map item.Wrote a.frames ++ order_after a.line inputs

-- of a connection
abbrev pub order_of : List Input → List Item
order_of inputs = order_after first_line inputs
