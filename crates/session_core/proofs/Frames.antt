-- Frame by frame, to the end.
use Rattle.std.proofs.Common.{refl, inl, ℕ, List, [], ◌++◌, sym, ◌∙◌}
use Rattle.environment.specs.Input.{Input as Source, Read}
use Rattle.base_kinds.specs.Schema.{SchemaNode}
use Rattle.h2_events.specs.declared.event.RecvEvent.{RecvEvent}
use Rattle.h2_streams.specs.Calls.{Moment}
use Rattle.h2_recv.specs.Receiving.{State}
use Rattle.h2_send.specs.Port.{Progress}
use Rattle.session_core.specs.declared.how.How.{How}
use Rattle.session_core.specs.declared.how.How.TheVariants as hows
use Rattle.session_core.specs.declared.incoming.Next.TheVariants as nexts
use Rattle.session_core.specs.declared.waiting.Waiting.{Waiting}
use Rattle.session_core.specs.Runs.{Outside, IsSettled, start_of}
use Rattle.book_port.specs.Ports.{PortView}
use Rattle.session_core.specs.declared.served.Served.{Served}
use Rattle.session_core.specs.Deeds.{Deed}
use Rattle.session_core.specs.Serving.{Standing, standing_of}
use Rattle.session_core.specs.Reading.{IsGiven, IsMadeOf}
use Rattle.session_core.specs.inner.Ends.{IsOwn}
use Rattle.session_core.specs.inner.Feeders.{FeederState}
use Rattle.session_core.specs.inner.Places.{HasCome, HasEnded, HasRested, IsLeft, CanClose, IsServing, HasStopped, place_of}
use Rattle.session_core.specs.inner.Steps.{HasRead, Comes}
use Rattle.session_core.proofs.Reading.{partly_read}
use Rattle.session_core.proofs.Serving.{silence_served, silent_events}

module _ (fed : List ℕ) (schema : List SchemaNode) (before : Outside) (sending : Progress) (side : FeederState) (heard : List RecvEvent) (waiting : List Waiting) (at : Standing) where
  -- what was read so far
  pub has_read : (source : Source) (count : ℕ) (recv : State) → (s : IsServing fed schema before source count (place_of recv sending side heard waiting [] at))
      → HasRead before.input s.octets s.rests.stands.moments source recv count
  has_read source count recv s = record {
    all = s.all;
    counted = s.counted;
    reader = s.rests.stands.reader;
    recv_is = s.rests.stands.recv_is;
    frames = s.rests.stands.frames;
  }

  -- a frame that means something
  pub event_comes : (source next : Source) (count later : ℕ) (recv new : State) (event : RecvEvent) → (s : IsServing fed schema before source count (place_of recv sending side heard waiting [] at))
      → (c : Comes before.input s.octets s.rests.stands.moments (nexts.Event event) next new later)
      → HasCome fed (start_of schema before) before.output (s.octets ++ c.0) event (place_of new sending side heard waiting [] at)
  event_comes source next count later recv new event s c = record {
    moments = s.rests.stands.moments;
    frame = c.1;
    reader = c.2.reader;
    recv_is = c.2.recv_is;
    frames = c.2.frames;
    partly = partly_read s.octets c.0 s.rests.stands.moments s.rests.stands.reader s.rests.stands.frames;
    writing = s.rests.stands.writing;
    heard_is = s.rests.stands.heard_is;
    served = s.rests.stands.served;
    rest = s.rests.rest;
  }

  -- one that means nothing, or part of one
  pub nothing_comes : (source next : Source) (count later : ℕ) (recv new : State) → (s : IsServing fed schema before source count (place_of recv sending side heard waiting [] at))
      → Comes before.input s.octets s.rests.stands.moments nexts.Nothing next new later
      → IsServing fed schema before next later (place_of new sending side heard waiting [] at)
  nothing_comes source next count later recv new s c =
      let has = c.3 in
      let stood = s.rests.stands in
      record {
        octets = s.octets ++ c.0;
        all = has.all;
        counted = has.counted;
        rests = record {
          stands = record {
            moments = stood.moments ++ c.1;
            reader = has.reader;
            recv_is = has.recv_is;
            frames = has.frames;
            writing = stood.writing;
            heard_is = stood.heard_is ∙ sym (silent_events stood.moments c.1 c.2);
            served = silence_served fed (start_of schema before) side stood.moments c.1 sending.inputs waiting [] at c.2 stood.served;
          };
          rest = s.rests.rest;
        };
      }

  -- the sending half is as it was
  can_close : (source : Source) (count : ℕ) (recv : State) → (s : IsServing fed schema before source count (place_of recv sending side heard waiting [] at)) → CanClose sending.inputs before.output sending
  can_close source count recv s =
      (record { condition_is = s.rests.stands.writing.is_open; inputs_are = refl }, s.rests.stands.writing.wrote)

  -- the end
  stops_so : (how : How) (source next : Source) (count : ℕ) (recv : State) (s : IsServing fed schema before source count (place_of recv sending side heard waiting [] at)) (piece : List ℕ)
      → IsGiven how (s.octets ++ piece) before.input next → IsMadeOf how (s.octets ++ piece) s.rests.stands.moments sending.inputs
      → IsSettled how [] sending.inputs waiting at → IsLeft how (s.octets ++ piece) s.rests.stands.moments sending.inputs before.output sending
      → HasStopped how fed schema before next sending side at.port at.readings
  stops_so how source next count recv s piece given made settled left =
      let stood = s.rests.stands in
      record {
        octets = s.octets ++ piece;
        given = given;
        ended = record {
          moments = stood.moments;
          inputs = sending.inputs;
          waiting = waiting;
          owed = [];
          calls = at.calls;
          round = at.round;
          partly = partly_read s.octets piece stood.moments stood.reader stood.frames;
          made = made;
          served = stood.served;
          settled = settled;
          accepted = stood.writing.accepted;
          left = left;
        };
      }

  pub end_comes : (how : How) (source next : Source) (count later : ℕ) (recv new : State) → (s : IsServing fed schema before source count (place_of recv sending side heard waiting [] at))
      → Comes before.input s.octets s.rests.stands.moments (nexts.Ends how) next new later
      → HasStopped how fed schema before next sending side at.port at.readings
  end_comes hows.WriteFault source next count later recv new s c = absurd c
  end_comes hows.Closed source next count later recv new s c =
      stops_so hows.Closed source next count recv s c.0 c.1 (c.2 sending.inputs) s.rests.rest (can_close source count recv s)
  end_comes hows.Cut source next count later recv new s c =
      stops_so hows.Cut source next count recv s c.0 c.1 (c.2 sending.inputs) s.rests.rest (can_close source count recv s)
  end_comes (hows.Protocol code) source next count later recv new s c =
      stops_so (hows.Protocol code) source next count recv s c.0 c.1 (c.2 sending.inputs) s.rests.rest (inl (can_close source count recv s, c.2))
  end_comes hows.ReadFault source next count later recv new s c =
      stops_so hows.ReadFault source next count recv s c.0 c.1 (c.2 sending.inputs) s.rests.rest (can_close source count recv s)
  end_comes hows.Spent source next count later recv new s c =
      stops_so hows.Spent source next count recv s c.0 c.1 (c.2 sending.inputs) s.rests.rest (can_close source count recv s)
  end_comes hows.NoMemory source next count later recv new s c =
      stops_so hows.NoMemory source next count recv s c.0 c.1 (c.2 sending.inputs) tt (inl (can_close source count recv s).0, (can_close source count recv s).1)

own_given : (how : How) (octets : List ℕ) (old next : Source) → IsOwn how → Read octets old next → IsGiven how octets old next
own_given (hows.Protocol code) octets old next own all = all
own_given hows.WriteFault octets old next own all = all
own_given hows.NoMemory octets old next own all = all
own_given hows.Closed octets old next own all = absurd own
own_given hows.Cut octets old next own all = absurd own
own_given hows.ReadFault octets old next own all = absurd own
own_given hows.Spent octets old next own all = absurd own

-- an event that came was served, or ended the session
module _ (fed : List ℕ) (schema : List SchemaNode) (before : Outside) where
  pub event_serves : (source next : Source) (count later : ℕ) (recv new last : State) (sending done : Progress) (side later_side : FeederState) (heard told : List RecvEvent) (waiting rest : List Waiting) (at : Standing) (port : PortView) (calls : List Served) (readings : List ℕ) (event : RecvEvent)
      → ((octets : List ℕ) (moments : List Moment) → HasRead before.input octets moments source recv count → Comes before.input octets moments (nexts.Event event) next new later)
      → ((octets : List ℕ) → HasCome fed (start_of schema before) before.output octets event (place_of new sending side heard waiting [] at)
      → HasRested fed (start_of schema before) before.output octets last done later_side told rest port calls readings)
      → IsServing fed schema before source count (place_of recv sending side heard waiting [] at)
      → (round : List Deed) × IsServing fed schema before next later (place_of last done later_side told rest [] (standing_of port calls readings round))
  event_serves source next count later recv new last sending done side later_side heard told waiting rest at port calls readings event comes serves s =
      let c = comes s.octets s.rests.stands.moments (has_read fed schema before sending side heard waiting at source count recv s) in
      let rested = serves (s.octets ++ c.0) (event_comes fed schema before sending side heard waiting at source next count later recv new event s c) in
      (rested.round, record { octets = s.octets ++ c.0; all = c.2.all; counted = c.2.counted; rests = rested.rests })

  pub event_ends : (how : How) (source next : Source) (count later : ℕ) (recv new : State) (sending done : Progress) (side later_side : FeederState) (heard : List RecvEvent) (waiting : List Waiting) (at : Standing) (port : PortView) (readings : List ℕ) (event : RecvEvent)
      → IsOwn how
      → ((octets : List ℕ) (moments : List Moment) → HasRead before.input octets moments source recv count → Comes before.input octets moments (nexts.Event event) next new later)
      → ((octets : List ℕ) → HasCome fed (start_of schema before) before.output octets event (place_of new sending side heard waiting [] at)
      → HasEnded how fed (start_of schema before) octets before.output done later_side port readings)
      → IsServing fed schema before source count (place_of recv sending side heard waiting [] at)
      → HasStopped how fed schema before next done later_side port readings
  event_ends how source next count later recv new sending done side later_side heard waiting at port readings event own comes serves s =
      let c = comes s.octets s.rests.stands.moments (has_read fed schema before sending side heard waiting at source count recv s) in
      record {
        octets = s.octets ++ c.0;
        given = own_given how (s.octets ++ c.0) before.input next own c.2.all;
        ended = serves (s.octets ++ c.0) (event_comes fed schema before sending side heard waiting at source next count later recv new event s c);
      }
