-- Marks of one stream don't fall, and a stamp names one position.
use Rattle.std.proofs.Common.{◌≡◌, ℕ, zero, suc, ◌+◌, ◌≤◌, List, [], ◌∷◌, ◌++◌, Bool, true, false, true≢false, refl, sym, ap, ◌∙◌, arith, Option, Some, None, map, take, length, append_assoc, if◌then◌else◌}
use Rattle.std.proofs.lemmas.List.{length-map, append_cancel_left}
use Rattle.base_kinds.specs.declared.request.Note.{Note}
use Rattle.base_kinds.specs.declared.entry.Entry.{Entry}
use Rattle.base_kinds.specs.History.{IsNumberedFrom, IsHistory, stamp_of}
use Rattle.base_kinds.specs.History as history
use Rattle.sub_plan.specs.declared.plan.Line.{Line}
use Rattle.sub_plan.specs.declared.plan.Plan.{Plan}
use Rattle.gnmi_kinds.specs.declared.reply.SubReply.{SubReply}
use Rattle.stream_laws.specs.Beats.{TurnInput, some_due}
use Rattle.stream_laws.specs.Notes.{note_of}
use Rattle.stream_laws.specs.Runs.{Turn, Sending, turn_input, sending_after, first_sending, first_messages, note_messages, turn_messages, later_messages, messages_of, Moment, turn_at, GoOn}
use Rattle.stream_laws.specs.Folds.{ends_with_message, last_moment, first_sending_at, IsMarkedState, MarksRise}
use Rattle.stream_laws.proofs.Steps.{note_at}
use Rattle.stream_laws.proofs.Marks.{take_map}

-- ---- stamps of positions

at_least : (number stamp n : ℕ) (entries : List Entry) → IsNumberedFrom number stamp entries → stamp ≤ history.last_stamp stamp (take n entries)
at_least number stamp zero entries goes = omega (arith)
at_least number stamp (suc n) [] goes = omega (arith)
at_least number stamp (suc n) (entry ∷ entries) goes =
    let here = goes.1 in
    let behind = at_least (number + 1) entry.stamp n entries goes.2 in
    omega (arith, here, behind)

stamps_rise : (number stamp one two : ℕ) (entries : List Entry) → one ≤ two → IsNumberedFrom number stamp entries → history.last_stamp stamp (take one entries) ≤ history.last_stamp stamp (take two entries)
stamps_rise number stamp zero two entries order goes = at_least number stamp two entries goes
stamps_rise number stamp (suc one) zero entries order goes = absurd (omega (arith, order))
stamps_rise number stamp (suc one) (suc two) [] order goes = omega (arith)
stamps_rise number stamp (suc one) (suc two) (entry ∷ entries) order goes = stamps_rise (number + 1) entry.stamp one two entries (omega (arith, order)) goes.2

names : (number stamp one two : ℕ) (entries : List Entry) → IsNumberedFrom number stamp entries → one ≤ length entries → two ≤ length entries → history.last_stamp stamp (take one entries) ≡ history.last_stamp stamp (take two entries) → one ≡ two
names number stamp zero zero entries goes first second same = refl
names number stamp zero (suc two) [] goes first second same = absurd (omega (arith, second))
names number stamp zero (suc two) (entry ∷ entries) goes first second same =
    let here = goes.1 in
    let behind = at_least (number + 1) entry.stamp two entries goes.2 in
    absurd (omega (arith, here, behind, same))
names number stamp (suc one) zero [] goes first second same = absurd (omega (arith, first))
names number stamp (suc one) zero (entry ∷ entries) goes first second same =
    let here = goes.1 in
    let behind = at_least (number + 1) entry.stamp one entries goes.2 in
    absurd (omega (arith, here, behind, same))
names number stamp (suc one) (suc two) [] goes first second same = absurd (omega (arith, first))
names number stamp (suc one) (suc two) (entry ∷ entries) goes first second same = ap suc (names (number + 1) entry.stamp one two entries goes.2 (omega (arith, first)) (omega (arith, second)) same)

pub stamps_name_positions : (h : List Entry) (one two : ℕ) → IsHistory h → one ≤ length h → two ≤ length h → stamp_of (take one h) ≡ stamp_of (take two h) → one ≡ two
stamps_name_positions h one two is first second same = names 1 0 one two h is first second same

-- ---- positions of turns

behind_first : (most : ℕ) (first : Moment) (moments : List Moment) → GoOn most first.time first.position moments → first.position ≤ (last_moment first moments).position
behind_first most first [] go = omega (arith)
behind_first most first (moment ∷ moments) go =
    let here = go.1 in
    let behind = behind_first most moment moments go.3 in
    omega (arith, here, behind)

positions_rise : (most : ℕ) (first : Moment) (one two : ℕ) (moments : List Moment) → one ≤ two → GoOn most first.time first.position (take two moments) → (last_moment first (take one moments)).position ≤ (last_moment first (take two moments)).position
positions_rise most first zero two moments order go = behind_first most first (take two moments) go
positions_rise most first (suc one) zero moments order go = absurd (omega (arith, order))
positions_rise most first (suc one) (suc two) [] order go = omega (arith)
positions_rise most first (suc one) (suc two) (moment ∷ moments) order go = positions_rise most moment one two moments (omega (arith, order)) go.3

-- ---- turns that made marks

-- a turn that says nothing isn't due
says_none : (turn_input : TurnInput) (stamp : ℕ) (rest : List SubReply) → note_messages (note_of turn_input stamp) ++ rest ≡ [] → some_due turn_input ≡ false
says_none turn_input stamp rest is = by_test (some_due turn_input) is
  where
    by_test : (some : Bool) → note_messages (if some then Some (note_at turn_input stamp) else None) ++ rest ≡ [] → some ≡ false
    by_test true same = absurd (cc same)
    by_test false same = refl

rest_none : (turn_input : TurnInput) (stamp : ℕ) (rest : List SubReply) → note_messages (note_of turn_input stamp) ++ rest ≡ [] → rest ≡ []
rest_none turn_input stamp rest is = by_note (note_of turn_input stamp) is
  where
    by_note : (note : Option Note) → note_messages note ++ rest ≡ [] → rest ≡ []
    by_note None same = same
    by_note (Some note) same = absurd (cc same)

-- where turns say nothing, it was the one before them that made the last message
quiet_end : (lines : List Line) (says : Bool) (sending : Sending) (turns : List Turn) → later_messages lines sending turns ≡ [] → ends_with_message lines says sending turns ≡ true → says ≡ true
quiet_end lines says sending [] none made = made
quiet_end lines says sending (turn ∷ turns) none made =
    let after = sending_after lines sending turn in
    let rest = rest_none (turn_input lines sending turn) turn.view.stamp (later_messages lines after turns) none in
    let due = quiet_end lines (some_due (turn_input lines sending turn)) after turns rest made in
    absurd (true≢false (sym due ∙ says_none (turn_input lines sending turn) turn.view.stamp (later_messages lines after turns) none))

front_none : (front more : List SubReply) → front ++ more ≡ [] → front ≡ []
front_none [] more is = refl
front_none (one ∷ front) more is = absurd (cc is)

-- turns that made fewer messages, the last of which is their last turn's, are no more
no_fewer : (lines : List Line) (says : Bool) (sending : Sending) (one two : ℕ) (turns : List Turn) (more : List SubReply) → one ≤ length turns → ends_with_message lines says sending (take one turns) ≡ true → later_messages lines sending (take two turns) ≡ later_messages lines sending (take one turns) ++ more → one ≤ two
no_fewer lines says sending zero two turns more inside made is = omega (arith)
no_fewer lines says sending (suc one) two [] more inside made is = absurd (omega (arith, inside))
no_fewer lines says sending (suc one) zero (turn ∷ turns) more inside made is =
    let none = front_none (later_messages lines sending (turn ∷ take one turns)) more (sym is) in
    let after = sending_after lines sending turn in
    let rest = later_messages lines after (take one turns) in
    let due = quiet_end lines (some_due (turn_input lines sending turn)) after (take one turns) (rest_none (turn_input lines sending turn) turn.view.stamp rest none) made in
    absurd (true≢false (sym due ∙ says_none (turn_input lines sending turn) turn.view.stamp rest none))
no_fewer lines says sending (suc one) (suc two) (turn ∷ turns) more inside made is =
    let after = sending_after lines sending turn in
    let said = turn_messages lines sending turn in
    let fewer = later_messages lines after (take one turns) in
    let behind = append_cancel_left said (later_messages lines after (take two turns)) (fewer ++ more) (is ∙ append_assoc said fewer more) in
    let order = no_fewer lines (some_due (turn_input lines sending turn)) after one two turns more (omega (arith, inside)) made behind in
    omega (arith, order)

pub marks_dont_fall : (plan : Plan) (first : Moment) (later : List Moment) (front more : List SubReply) (h : List Entry) (mark : IsMarkedState plan first later front h) (next : IsMarkedState plan first later (front ++ more) h) → MarksRise plan first later front (front ++ more) h mark.turns next.turns
marks_dont_fall plan first later front more h mark next =
    let lines = plan.lines in
    let begins = turn_at lines h first in
    let turns = map (turn_at lines h) later in
    let one = mark.turns in
    let two = next.turns in
    let opens = first_messages plan.updates_only begins.view in
    let said : ℕ → List SubReply = λ n. later_messages lines (first_sending plan.groups begins) (take n turns) in
    let fewer : front ≡ opens ++ said one = mark.run.whole ∙ ap (messages_of plan begins) (sym (take_map lines h one later)) in
    let whole : front ++ more ≡ opens ++ said two = next.run.whole ∙ ap (messages_of plan begins) (sym (take_map lines h two later)) in
    let both : opens ++ said two ≡ opens ++ (said one ++ more) = sym whole ∙ ap (λ f. f ++ more) fewer ∙ append_assoc opens (said one) more in
    let there = mark.inside in
    let same = length-map later (turn_at lines h) in
    let made : ends_with_message lines true (first_sending plan.groups begins) (take one turns) ≡ true =
    ap (ends_with_message lines true (first_sending_at plan h first)) (take_map lines h one later) ∙ mark.made in
    let order = no_fewer lines true (first_sending plan.groups begins) one two turns more (omega (arith, there, same)) made (append_cancel_left opens (said two) (said one ++ more) both) in
    let positions = positions_rise (length h) first one two later order next.run.go_on in
    let first_stamp = mark.stamp in
    let next_stamp = next.stamp in
    record {
      turns = order;
      positions = positions;
      stamps = λ history.
          let up = stamps_rise 1 0 (last_moment first (take one later)).position (last_moment first (take two later)).position h positions history in
          omega (arith, first_stamp, next_stamp, up);
    }
