-- What one input more adds to the order.
use Rattle.std.proofs.Common.{◌≡◌, ℕ, ◌==◌, List, [], ◌∷◌, ◌++◌, Bool, true, false, map, refl, sym, ap, ◌∙◌, cond, append-nil}
use Rattle.h2_frame.specs.Frames.{Frame}
use Rattle.h2_events.specs.declared.event.RecvEvent.{RecvEvent}
use Rattle.h2_events.specs.declared.said.Said.{Said}
use Rattle.h2_events.specs.Items.{Read, Ended, heard, said_on, is_last, as_read, can_say, can_say_from, can_say_after}
use Rattle.h2_events.specs.Items as item
use Rattle.h2_events.proofs.Orders.{heard-append, heard-wrote, said_on-append, said_on-wrote, as_read-append, as_read-wrote}
use Rattle.h2_events.proofs.Streams.{can_say-append}
use Rattle.h2_send.specs.Inputs.{Input, Event, Speech, item_of}
use Rattle.h2_send.specs.Lines.{first_line}
use Rattle.h2_send.specs.Acting.{handled}
use Rattle.h2_send.specs.Orders.{line_after, order_of}
use Rattle.h2_send.proofs.Orders.{grows}
use Rattle.stream_workers.specs.Feeders.{is_fed}
use Rattle.session_core.specs.Serving.{without_fed}

pub one_more : (inputs : List Input) (i : Input) → order_of (inputs ++ i ∷ []) ≡ order_of inputs ++ item_of i ∷ map item.Wrote (handled i (line_after first_line inputs)).frames
one_more inputs i = grows first_line inputs i

-- ---- what is said

said_with : (s on : ℕ) (said : Said) (frames : List Frame) → said_on s (item.Accepted on said ∷ map item.Wrote frames) ≡ cond (on == s) (said ∷ []) []
said_with s on said frames = ap (λ t. cond (on == s) (said ∷ t) t) (said_on-wrote s frames)

pub said_by_event : (s : ℕ) (inputs : List Input) (event : RecvEvent) → said_on s (order_of (inputs ++ Event event ∷ [])) ≡ said_on s (order_of inputs)
said_by_event s inputs event =
    let frames = (handled (Event event) (line_after first_line inputs)).frames in
    ap (said_on s) (one_more inputs (Event event))
    ∙ said_on-append s (order_of inputs) (item.Meant event ∷ map item.Wrote frames)
    ∙ ap (λ t. said_on s (order_of inputs) ++ t) (said_on-wrote s frames)
    ∙ append-nil (said_on s (order_of inputs))

pub said_by_speech : (s on : ℕ) (inputs : List Input) (said : Said) → said_on s (order_of (inputs ++ Speech on said ∷ [])) ≡ said_on s (order_of inputs) ++ cond (on == s) (said ∷ []) []
said_by_speech s on inputs said =
    let frames = (handled (Speech on said) (line_after first_line inputs)).frames in
    ap (said_on s) (one_more inputs (Speech on said))
    ∙ said_on-append s (order_of inputs) (item.Accepted on said ∷ map item.Wrote frames)
    ∙ ap (λ t. said_on s (order_of inputs) ++ t) (said_with s on said frames)

-- ---- what was heard

pub heard_by_event : (inputs : List Input) (event : RecvEvent) → heard (order_of (inputs ++ Event event ∷ [])) ≡ heard (order_of inputs) ++ event ∷ []
heard_by_event inputs event =
    let frames = (handled (Event event) (line_after first_line inputs)).frames in
    ap heard (one_more inputs (Event event))
    ∙ heard-append (order_of inputs) (item.Meant event ∷ map item.Wrote frames)
    ∙ ap (λ t. heard (order_of inputs) ++ event ∷ t) (heard-wrote frames)

pub heard_by_speech : (inputs : List Input) (on : ℕ) (said : Said) → heard (order_of (inputs ++ Speech on said ∷ [])) ≡ heard (order_of inputs)
heard_by_speech inputs on said =
    let frames = (handled (Speech on said) (line_after first_line inputs)).frames in
    ap heard (one_more inputs (Speech on said))
    ∙ heard-append (order_of inputs) (item.Accepted on said ∷ map item.Wrote frames)
    ∙ ap (λ t. heard (order_of inputs) ++ t) (heard-wrote frames)
    ∙ append-nil (heard (order_of inputs))

-- ---- the reader's order

pub read_by_event : (inputs : List Input) (event : RecvEvent) → as_read (order_of (inputs ++ Event event ∷ [])) ≡ as_read (order_of inputs) ++ item.Event event ∷ []
read_by_event inputs event =
    let frames = (handled (Event event) (line_after first_line inputs)).frames in
    ap as_read (one_more inputs (Event event))
    ∙ as_read-append (order_of inputs) (item.Meant event ∷ map item.Wrote frames)
    ∙ ap (λ t. as_read (order_of inputs) ++ item.Event event ∷ t) (as_read-wrote frames)

pub read_by_speech : (inputs : List Input) (on : ℕ) (said : Said) → as_read (order_of (inputs ++ Speech on said ∷ [])) ≡ as_read (order_of inputs) ++ cond (is_last said) (Ended on ∷ []) []
read_by_speech inputs on said =
    let frames = (handled (Speech on said) (line_after first_line inputs)).frames in
    ap as_read (one_more inputs (Speech on said))
    ∙ as_read-append (order_of inputs) (item.Accepted on said ∷ map item.Wrote frames)
    ∙ ap (λ t. as_read (order_of inputs) ++ cond (is_last said) (Ended on ∷ t) t) (as_read-wrote frames)

-- ---- without the ends of the calls that feeders serve

end_more : (b : Bool) (stream : ℕ) (all first second : List Read) → all ≡ first ++ second → cond b all (Ended stream ∷ all) ≡ cond b first (Ended stream ∷ first) ++ second
end_more true stream all first second is = is
end_more false stream all first second is = ap (λ (rs : List Read). Ended stream ∷ rs) is

pub without_more : (fed : List ℕ) (reads others : List Read) → without_fed fed (reads ++ others) ≡ without_fed fed reads ++ without_fed fed others
without_more fed [] others = refl
without_more fed (item.Event event ∷ reads) others = ap (λ (rs : List Read). item.Event event ∷ rs) (without_more fed reads others)
without_more fed (Ended stream ∷ reads) others =
    end_more (is_fed fed stream) stream (without_fed fed (reads ++ others)) (without_fed fed reads) (without_fed fed others) (without_more fed reads others)

-- both orders go on in one way
pub both_more : (fed : List ℕ) (first second more : List Read) → without_fed fed first ≡ without_fed fed second → without_fed fed (first ++ more) ≡ without_fed fed (second ++ more)
both_more fed first second more same =
    without_more fed first more ∙ ap (λ (rs : List Read). rs ++ without_fed fed more) same ∙ sym (without_more fed second more)

end_untold : (last : Bool) (fed : List ℕ) (on : ℕ) → is_fed fed on ≡ true → without_fed fed (cond last (Ended on ∷ []) []) ≡ []
end_untold true fed on theirs = ap (λ (b : Bool). cond b [] (Ended on ∷ [])) theirs
end_untold false fed on theirs = refl

-- the end of such a call isn't told
pub read_by_feeder : (fed : List ℕ) (inputs : List Input) (on : ℕ) (said : Said) → is_fed fed on ≡ true → without_fed fed (as_read (order_of (inputs ++ Speech on said ∷ []))) ≡ without_fed fed (as_read (order_of inputs))
read_by_feeder fed inputs on said theirs =
    ap (without_fed fed) (read_by_speech inputs on said)
    ∙ without_more fed (as_read (order_of inputs)) (cond (is_last said) (Ended on ∷ []) [])
    ∙ ap (λ (rs : List Read). without_fed fed (as_read (order_of inputs)) ++ rs) (end_untold (is_last said) fed on theirs)
    ∙ append-nil (without_fed fed (as_read (order_of inputs)))

-- ---- what can be said

wrote_says_nothing : (s : ℕ) (before : Bool) (frames : List Frame) → can_say_from s before (map item.Wrote frames) ≡ before
wrote_says_nothing s before [] = refl
wrote_says_nothing s before (f ∷ frames) = wrote_says_nothing s before frames

pub can_say_more : (s : ℕ) (inputs : List Input) (i : Input) → can_say s (order_of (inputs ++ i ∷ [])) ≡ can_say_after s (can_say s (order_of inputs)) (item_of i)
can_say_more s inputs i =
    let frames = (handled i (line_after first_line inputs)).frames in
    ap (can_say s) (one_more inputs i)
    ∙ can_say-append s false (order_of inputs) (item_of i ∷ map item.Wrote frames)
    ∙ wrote_says_nothing s (can_say_after s (can_say s (order_of inputs)) (item_of i)) frames
