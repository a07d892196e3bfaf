-- The order that inputs make.
use Rattle.std.proofs.Common.{◌≡◌, ℕ, zero, suc, Bool, true, false, List, [], ◌∷◌, ◌++◌, length, take, drop, map, ℤ, pos, ◌-ℤ◌, refl, sym, ap, ◌∙◌, append_assoc, append-nil}
use Rattle.std.specs.Prelude.{Option, Some, None, ◌==◌, if◌then◌else◌}
use Rattle.std.specs.List.{filter, flat_map}
use Rattle.std.proofs.lemmas.List.Elements.{filter-append}
use Rattle.std.proofs.lemmas.List.Concat.{flat_map-append}
use Rattle.environment.specs.Output.{Output, Wrote, FailedWithin}
use Rattle.h2_windows.specs.Control.{greeting}
use Rattle.h2_windows.specs.Written.{spelled, octets_of}
use Rattle.h2_windows.proofs.Fronts.{wrote_both, failed_behind}
use Rattle.h2_frame.specs.Frames.{Frame}
use Rattle.h2_windows.specs.Shares.{share}
use Rattle.h2_windows.specs.Sending.{sent, data_frame, data_frames, payloads_in, largest_payload}
use Rattle.h2_windows.specs.declared.stream.Stream.{Stream}
use Rattle.h2_events.specs.declared.event.RecvEvent.{RecvEvent}
use Rattle.h2_events.specs.declared.event.RecvEvent.TheVariants as event
use Rattle.h2_events.specs.Items.{Item, heard, said_on, written}
use Rattle.h2_events.specs.Items as item
use Rattle.h2_events.proofs.Orders.{heard-append, said_on-append, said_on-wrote, written-append}
use Rattle.h2_events.specs.declared.said.Said.{Said}
use Rattle.h2_events.specs.declared.said.Said.TheVariants.{Message, Finish, Status}
use Rattle.base_kinds.specs.declared.refusal.Refusal.{Refusal}
use Rattle.h2_send.specs.Headers.{opening, ending}
use Rattle.h2_send.specs.Inputs.{Input, Event, Speech, item_of, events_of}
use Rattle.h2_send.specs.Farewells.{farewell}
use Rattle.h2_send.specs.Lines.{Line, first_line}
use Rattle.h2_send.specs.Offers.{has_begun}
use Rattle.h2_send.specs.Acting.{replies, first_frames, taken_in, handled}
use Rattle.h2_send.specs.Orders.{line_after, order_after}
use Rattle.h2_send.specs.Wires.{is_control}

-- DATA answers nothing.
data_answers_nothing : (id k : ℕ) (octets : List ℕ) → filter is_control (map (data_frame id) (payloads_in k octets)) ≡ []
data_answers_nothing id zero octets = refl
data_answers_nothing id (suc k) [] = refl
data_answers_nothing id (suc k) (o ∷ octets) = data_answers_nothing id k (drop largest_payload (o ∷ octets))

sent_answers_nothing : (initial : ℕ) (window : ℤ) (streams : List Stream) → filter is_control (sent initial window streams).frames ≡ []
sent_answers_nothing initial window [] = refl
sent_answers_nothing initial window (s ∷ streams) =
    let n = share initial window s in
    let octets = take n s.pending in
    filter-append is_control (data_frames s.id octets) (sent initial (window -ℤ pos n) streams).frames ∙ ap (λ fs. fs ++ filter is_control (sent initial (window -ℤ pos n) streams).frames) (data_answers_nothing s.id (length octets) octets) ∙ sent_answers_nothing initial (window -ℤ pos n) streams

replies_answer : (e : RecvEvent) → filter is_control (replies e) ≡ replies e
replies_answer (event.Settings initial resizes) = refl
replies_answer event.SettingsAck = refl
replies_answer (event.Ping octets) = refl
replies_answer (event.Window id n) = refl
replies_answer (event.Call id headers ends) = refl
replies_answer (event.TooLong id) = refl
replies_answer (event.Piece id octets zero ends) = refl
replies_answer (event.Piece id octets (suc n) true) = refl
replies_answer (event.Piece id octets (suc n) false) = refl
replies_answer (event.Trailers id) = refl
replies_answer (event.Reset id) = refl
replies_answer (event.StreamFault id code) = refl
replies_answer event.GoAway = refl

opening_answers_nothing : (begun owes : Bool) (id : ℕ) → filter is_control (opening begun owes id) ≡ []
opening_answers_nothing true owes id = refl
opening_answers_nothing false owes id = refl

ending_answers_nothing : (begun owes : Bool) (id : ℕ) (refusal : Option Refusal) → filter is_control (ending begun owes id refusal) ≡ []
ending_answers_nothing true owes id refusal = refl
ending_answers_nothing false owes id (Some refusal) = refl
ending_answers_nothing false owes id None = refl

-- what answers events, among what is written for an input
abbrev control : Input → List Frame
control (Event event) = replies event
control (Speech id said) = []

first_answers : (input : Input) (line : Line) → filter is_control (first_frames input line) ≡ control input
first_answers (Event event) line = replies_answer event
first_answers (Speech id (Message octets)) line = opening_answers_nothing (has_begun id line.streams) line.owes_update id
first_answers (Speech id (Finish refusal)) line = ending_answers_nothing (has_begun id line.streams) line.owes_update id refusal
first_answers (Speech id (Status status)) line = refl

handled_answers : (input : Input) (line : Line) → filter is_control (handled input line).frames ≡ control input
handled_answers input line =
    let l = taken_in input line in
    let frames = (sent l.initial l.window l.streams).frames in
    filter-append is_control (first_frames input line) frames ∙ ap (λ fs. filter is_control (first_frames input line) ++ fs) (sent_answers_nothing l.initial l.window l.streams) ∙ append-nil (filter is_control (first_frames input line)) ∙ first_answers input line

pub written_all : (frames : List Frame) → written (map item.Wrote frames) ≡ frames
written_all [] = refl
written_all (f ∷ frames) = ap (λ fs. f ∷ fs) (written_all frames)

unheard : (frames : List Frame) → heard (map item.Wrote frames) ≡ []
unheard [] = refl
unheard (f ∷ frames) = unheard frames

-- nothing is written by an input itself
pub written_input : (input : Input) (items : List Item) → written (item_of input ∷ items) ≡ written items
written_input (Event event) items = refl
written_input (Speech id said) items = refl

controls : (inputs : List Input) → flat_map control inputs ≡ flat_map replies (events_of inputs)
controls [] = refl
controls (Event event ∷ inputs) = ap (λ fs. replies event ++ fs) (controls inputs)
controls (Speech id said ∷ inputs) = controls inputs

answered_on : (line : Line) (inputs : List Input) → filter is_control (written (order_after line inputs)) ≡ flat_map control inputs
answered_on line [] = refl
answered_on line (i ∷ inputs) =
    let frames = (handled i line).frames in
    let others = order_after (handled i line).line inputs in
    ap (λ fs. filter is_control fs) (written_input i (map item.Wrote frames ++ others) ∙ written-append (map item.Wrote frames) others) ∙ filter-append is_control (written (map item.Wrote frames)) (written others) ∙ ap (λ fs. filter is_control fs ++ filter is_control (written others)) (written_all frames) ∙ ap (λ fs. fs ++ filter is_control (written others)) (handled_answers i line) ∙ ap (λ fs. control i ++ fs) (answered_on (handled i line).line inputs)

pub answered : (line : Line) (inputs : List Input) → filter is_control (written (order_after line inputs)) ≡ flat_map replies (events_of inputs)
answered line inputs = answered_on line inputs ∙ controls inputs

said_behind : (id : ℕ) (frames : List Frame) (others : List Item) → said_on id (map item.Wrote frames ++ others) ≡ said_on id others
said_behind id frames others = said_on-append id (map item.Wrote frames) others ∙ ap (λ (words : List Said). words ++ said_on id others) (said_on-wrote id frames)

heard_behind : (line : Line) (i : Input) (inputs : List Input) → heard (order_after (handled i line).line inputs) ≡ events_of inputs → heard (map item.Wrote (handled i line).frames ++ order_after (handled i line).line inputs) ≡ events_of inputs
heard_behind line i inputs is =
    let frames = (handled i line).frames in
    let others = order_after (handled i line).line inputs in
    heard-append (map item.Wrote frames) others ∙ ap (λ es. es ++ heard others) (unheard frames) ∙ is

pub heard_again : (line : Line) (inputs : List Input) → heard (order_after line inputs) ≡ events_of inputs
heard_again line [] = refl
heard_again line (Event event ∷ inputs) = ap (λ es. event ∷ es) (heard_behind line (Event event) inputs (heard_again (handled (Event event) line).line inputs))
heard_again line (Speech id said ∷ inputs) = heard_behind line (Speech id said) inputs (heard_again (handled (Speech id said) line).line inputs)

-- what is said is what the inputs say
pub said_again : (id : ℕ) (line : Line) (inputs : List Input) → said_on id (order_after line inputs) ≡ said_on id (map item_of inputs)
said_again id line [] = refl
said_again id line (Event event ∷ inputs) = said_behind id (handled (Event event) line).frames (order_after (handled (Event event) line).line inputs) ∙ said_again id (handled (Event event) line).line inputs
said_again id line (Speech on said ∷ inputs) =
    ap (λ (words : List Said). if on == id then said ∷ words else words)
    (said_behind id (handled (Speech on said) line).frames (order_after (handled (Speech on said) line).line inputs) ∙ said_again id (handled (Speech on said) line).line inputs)

pub grows : (line : Line) (inputs : List Input) (i : Input) → order_after line (inputs ++ i ∷ []) ≡ order_after line inputs ++ item_of i ∷ map item.Wrote (handled i (line_after line inputs)).frames
grows line [] i = ap (λ items. item_of i ∷ items) (append-nil (map item.Wrote (handled i line).frames))
grows line (x ∷ inputs) i =
    let first = map item.Wrote (handled x line).frames in
    let next = (handled x line).line in
    ap (λ items. item_of x ∷ first ++ items) (grows next inputs i) ∙ ap (λ items. item_of x ∷ items) (sym (append_assoc first (order_after next inputs) (item_of i ∷ map item.Wrote (handled i (line_after next inputs)).frames)))

-- ---- what is written for one input more

written_grows : (inputs : List Input) (i : Input) → written (order_after first_line (inputs ++ i ∷ [])) ≡ written (order_after first_line inputs) ++ (handled i (line_after first_line inputs)).frames
written_grows inputs i =
    let before = order_after first_line inputs in
    let frames = (handled i (line_after first_line inputs)).frames in
    ap written (grows first_line inputs i) ∙ written-append before (item_of i ∷ map item.Wrote frames) ∙ ap (λ fs. written before ++ fs) (written_input i (map item.Wrote frames) ∙ written_all frames)

octets_grow : (inputs : List Input) (i : Input) → octets_of (greeting ∷ written (order_after first_line (inputs ++ i ∷ []))) ≡ octets_of (greeting ∷ written (order_after first_line inputs)) ++ octets_of (handled i (line_after first_line inputs)).frames
octets_grow inputs i =
    ap (λ fs. octets_of (greeting ∷ fs)) (written_grows inputs i) ∙ flat_map-append spelled (greeting ∷ written (order_after first_line inputs)) (handled i (line_after first_line inputs)).frames

pub output_grows : (inputs : List Input) (i : Input) (start old new : Output) → Wrote (octets_of (greeting ∷ written (order_after first_line inputs))) start old → Wrote (octets_of (handled i (line_after first_line inputs)).frames) old new → Wrote (octets_of (greeting ∷ written (order_after first_line (inputs ++ i ∷ [])))) start new
output_grows inputs i start old new first second = wrote_both start old new (octets_of (greeting ∷ written (order_after first_line inputs))) (octets_of (handled i (line_after first_line inputs)).frames) (octets_of (greeting ∷ written (order_after first_line (inputs ++ i ∷ [])))) (octets_grow inputs i) first second

pub output_fails : (inputs : List Input) (i : Input) (start old new : Output) → Wrote (octets_of (greeting ∷ written (order_after first_line inputs))) start old → FailedWithin (octets_of (handled i (line_after first_line inputs)).frames) old new → FailedWithin (octets_of (greeting ∷ written (order_after first_line (inputs ++ i ∷ [])))) start new
output_fails inputs i start old new first second = failed_behind start old new (octets_of (greeting ∷ written (order_after first_line inputs))) (octets_of (handled i (line_after first_line inputs)).frames) (octets_of (greeting ∷ written (order_after first_line (inputs ++ i ∷ [])))) (octets_grow inputs i) first second

-- ---- what is written at the end

abbrev last_line : List Input → Line
last_line inputs = line_after first_line inputs

octets_end : (inputs : List Input) (code : ℕ) → octets_of (greeting ∷ written (order_after first_line inputs) ++ farewell code (last_line inputs)) ≡ octets_of (greeting ∷ written (order_after first_line inputs)) ++ octets_of (farewell code (last_line inputs))
octets_end inputs code = flat_map-append spelled (greeting ∷ written (order_after first_line inputs)) (farewell code (last_line inputs))

pub output_ends : (inputs : List Input) (code : ℕ) (start old new : Output) → Wrote (octets_of (greeting ∷ written (order_after first_line inputs))) start old → Wrote (octets_of (farewell code (last_line inputs))) old new → Wrote (octets_of (greeting ∷ written (order_after first_line inputs) ++ farewell code (last_line inputs))) start new
output_ends inputs code start old new first second = wrote_both start old new (octets_of (greeting ∷ written (order_after first_line inputs))) (octets_of (farewell code (last_line inputs))) (octets_of (greeting ∷ written (order_after first_line inputs) ++ farewell code (last_line inputs))) (octets_end inputs code) first second

pub output_breaks : (inputs : List Input) (code : ℕ) (start old new : Output) → Wrote (octets_of (greeting ∷ written (order_after first_line inputs))) start old → FailedWithin (octets_of (farewell code (last_line inputs))) old new → FailedWithin (octets_of (greeting ∷ written (order_after first_line inputs) ++ farewell code (last_line inputs))) start new
output_breaks inputs code start old new first second = failed_behind start old new (octets_of (greeting ∷ written (order_after first_line inputs))) (octets_of (farewell code (last_line inputs))) (octets_of (greeting ∷ written (order_after first_line inputs) ++ farewell code (last_line inputs))) (octets_end inputs code) first second
