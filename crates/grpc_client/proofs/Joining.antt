-- Parts of a call, one behind the other.
use Rattle.std.proofs.Common.{◌≡◌, ℕ, ◌+◌, ◌-◌, ◌<◌, ◌≤◌, List, [], ◌++◌, length, get_or, take, arith, length-append, Result, Ok, Err, refl, sym, ap, ◌∙◌, subst, append_assoc, append-nil, inl, inr}
use Rattle.std.specs.Prelude.{IfErr, IfOk, OnOk, OnErr}
use Rattle.std.proofs.Math.Seq.{take-append-add}
use Rattle.std.proofs.lemmas.List.{take_all}
use Rattle.environment.specs.Input.{Input, Read, FailedAfter, IsEnded}
use Rattle.environment.specs.Output.{Output, Wrote, FailedWithin}
use Rattle.environment.proofs.Pieces.{Read-nothing, Read-trans}
use Rattle.h2_frame.specs.Frames.{Frame}
use Rattle.h2_windows.specs.Written.{octets_of, spelled}
use Rattle.h2_windows.proofs.Fronts.{wrote_both, wrote_nothing, failed_behind}
use Rattle.h2_responses.specs.declared.server.ResponseState.TheVariants.{Over}
use Rattle.grpc_client.specs.declared.fault.CallFault.{CallFault}
use Rattle.grpc_client.specs.declared.fault.CallFault.TheVariants as fault
use Rattle.grpc_client.specs.declared.connection.Connection.{Connection}
use Rattle.grpc_client.specs.declared.reply.Reply.{Reply}
use Rattle.grpc_client.specs.Connections.{IsPaced}
use Rattle.grpc_client.specs.Exchanges.{Exchange, Did, SendsData, at, owing}
use Rattle.grpc_client.specs.Replies.{frames_of}
use Rattle.grpc_client.specs.Asked.{Why, CameBy, WentBy, Broken, Completed}
use Rattle.grpc_client.specs.inner.Rounds.{Listened, Unheard, Stops, Flushes, FlushFails, Advances}
use Rattle.h2_frame.specs.declared.frame.Head.{Head}
use Rattle.h2_frame.specs.Frames.{Spells, frame_of}
use Rattle.h2_windows.specs.Windows.{room}
use Rattle.h2_windows.specs.Sending.{largest_payload}
use Rattle.h2_events.specs.declared.event.RecvFault.{RecvFault}
use Rattle.h2_events.specs.declared.event.RecvFault.TheVariants as received
use Rattle.h2_responses.specs.Meanings.{IsFault}
use Rattle.grpc_client.specs.declared.octets.WholeFrame.{WholeFrame}
use Rattle.grpc_client.specs.declared.octets.ReadEnd.{ReadEnd}
use Rattle.grpc_client.specs.declared.octets.ReadEnd.TheVariants as ends
use Rattle.grpc_client.specs.Faults.{fault_of}
use Rattle.h2_events.specs.Events.{largest_frame}
use Rattle.grpc_client.specs.Frames.{Fills, head_at, IsFrameOf, StopsFilling, StopsReading}
use Rattle.grpc_client.specs.Connections.{own_window, spent}
use Rattle.grpc_client.specs.Exchanges.{Breaks, Hears, counted, data_frame}
use Rattle.grpc_client.specs.Asked.{fewest_left}
use Rattle.grpc_client.specs.inner.Rounds.{FrameFault, fault_at}
use Rattle.grpc_client.proofs.Heads.{head_spelled}
use Rattle.grpc_client.proofs.Steps.{did_nothing, did_then, did_get, did_send, did_owe}

-- ---- what was read and written, behind what was before

pub came_by : (why : CallFault) (x y : List ℕ) (old mid new : Input) → Read x old mid → CameBy why y mid new → CameBy why (x ++ y) old new
came_by fault.ReadFault x y old mid new p (last, q, is) = (last, Read-trans old mid last x y p q, is)
came_by (fault.Refused code) x y old mid new p q = Read-trans old mid new x y p q
came_by (fault.Http code) x y old mid new p q = Read-trans old mid new x y p q
came_by (fault.Protocol code) x y old mid new p q = Read-trans old mid new x y p q
came_by fault.NoStatus x y old mid new p q = Read-trans old mid new x y p q
came_by fault.BadReply x y old mid new p q = Read-trans old mid new x y p q
came_by fault.Closed x y old mid new p q = Read-trans old mid new x y p q
came_by fault.WriteFault x y old mid new p q = Read-trans old mid new x y p q
came_by fault.Spent x y old mid new p q = Read-trans old mid new x y p q
came_by fault.NoMemory x y old mid new p q = Read-trans old mid new x y p q

pub went_by : (why : CallFault) (x y : List ℕ) (old mid new : Output) → Wrote x old mid → WentBy why y mid new → WentBy why (x ++ y) old new
went_by fault.WriteFault x y old mid new p q = failed_behind old mid new x y (x ++ y) refl p q
went_by fault.NoMemory x y old mid new p (n, q) = (length x + n, wrote_both old mid new x (take n y) (take (length x + n) (x ++ y)) (take-append-add x y n) p q)
went_by fault.ReadFault x y old mid new p q = wrote_both old mid new x y (x ++ y) refl p q
went_by (fault.Refused code) x y old mid new p q = wrote_both old mid new x y (x ++ y) refl p q
went_by (fault.Http code) x y old mid new p q = wrote_both old mid new x y (x ++ y) refl p q
went_by (fault.Protocol code) x y old mid new p q = wrote_both old mid new x y (x ++ y) refl p q
went_by fault.NoStatus x y old mid new p q = wrote_both old mid new x y (x ++ y) refl p q
went_by fault.BadReply x y old mid new p q = wrote_both old mid new x y (x ++ y) refl p q
went_by fault.Closed x y old mid new p q = wrote_both old mid new x y (x ++ y) refl p q
went_by fault.Spent x y old mid new p q = wrote_both old mid new x y (x ++ y) refl p q

nothing : (output : Output) → Wrote [] output output
nothing output = wrote_nothing output output refl

-- why nothing came, and that nothing was written then
why_of : (why : CallFault) (old : Connection) (more : List ℕ) (input : Input) → Stops why old more input → Why why (at old) more input
why_of (fault.Protocol code) old more input h = h
why_of fault.Closed old more input h = inl h
why_of fault.Spent old more input h = h
why_of fault.ReadFault old more input h = tt
why_of fault.NoMemory old more input h = tt
why_of fault.WriteFault old more input h = absurd h
why_of (fault.Refused code) old more input h = absurd h
why_of (fault.Http code) old more input h = absurd h
why_of fault.NoStatus old more input h = absurd h
why_of fault.BadReply old more input h = absurd h

silent : (why : CallFault) (old : Connection) (more : List ℕ) (input : Input) (output : Output) → Stops why old more input → WentBy why [] output output
silent (fault.Protocol code) old more input output h = nothing output
silent fault.Closed old more input output h = nothing output
silent fault.Spent old more input output h = nothing output
silent fault.ReadFault old more input output h = nothing output
silent fault.NoMemory old more input output h = (0, nothing output)
silent fault.WriteFault old more input output h = absurd h
silent (fault.Refused code) old more input output h = absurd h
silent (fault.Http code) old more input output h = absurd h
silent fault.NoStatus old more input output h = absurd h
silent fault.BadReply old more input output h = absurd h

-- ---- one frame, its answer, and what it lets the client send

pub unheard : (why : CallFault) (old : Connection) (input now : Input) (output : Output) → Unheard why old input now → Broken why [] (at old) input now output output
unheard why old input now output h =
    record {
      came = [];
      went = [];
      last = at old;
      did = did_nothing (at old);
      more = h.more;
      read = h.read;
      wrote = silent why old h.more now output h.because;
      because = why_of why old h.more now h.because;
    }

-- a frame came, and its answer is written
answered : (reply : Reply) (old mid : Connection) (input now : Input) (h : Listened reply old mid input now) → Did (at old) (h.octets ++ []) (octets_of (frames_of reply)) (at mid)
answered reply old mid input now h =
    did_then (at old) (owing (frames_of reply) mid) (at mid) h.octets [] [] (octets_of (frames_of reply)) (did_get h.octets h.frame (at old) (owing (frames_of reply) mid) h.gets) (did_owe (frames_of reply) mid)

read_all : (octets : List ℕ) (input now : Input) → Read octets input now → Read (octets ++ []) input now
read_all octets input now h = subst (λ (os : List ℕ). Read os input now) (sym (append-nil octets)) h

read_more : (octets : List ℕ) (input now : Input) → Read octets input now → Read ((octets ++ []) ++ []) input now
read_more octets input now h = read_all (octets ++ []) input now (read_all octets input now h)

pub unanswered : (reply : Reply) (old mid : Connection) (input now : Input) (output later : Output) → Listened reply old mid input now → FailedWithin (octets_of (frames_of reply)) output later → Broken fault.WriteFault [] (at old) input now output later
unanswered reply old mid input now output later h failed =
    record {
      came = h.octets ++ [];
      went = octets_of (frames_of reply);
      last = at mid;
      did = answered reply old mid input now h;
      more = [];
      read = read_more h.octets input now h.read;
      wrote = failed;
      because = tt;
    }

pub unflushed : (reply : Reply) (old mid : Connection) (input now : Input) (output later after : Output) → Listened reply old mid input now → Wrote (octets_of (frames_of reply)) output later → FlushFails mid later after → Broken fault.WriteFault [] (at old) input now output after
unflushed reply old mid input now output later after h wrote f =
    record {
      came = (h.octets ++ []) ++ [];
      went = octets_of (frames_of reply) ++ f.went;
      last = f.last;
      did = did_then (at old) (at mid) f.last (h.octets ++ []) [] (octets_of (frames_of reply)) f.went (answered reply old mid input now h) f.did;
      more = [];
      read = read_all ((h.octets ++ []) ++ []) input now (read_more h.octets input now h.read);
      wrote = failed_behind output later after (octets_of (frames_of reply)) f.went (octets_of (frames_of reply) ++ f.went) refl wrote f.failed;
      because = tt;
    }

pub advances : (reply : Reply) (old mid new : Connection) (input now : Input) (output later after : Output) → Listened reply old mid input now → Wrote (octets_of (frames_of reply)) output later → Flushes mid new later after → Advances old new input now output after
advances reply old mid new input now output later after h wrote f =
    record {
      came = (h.octets ++ []) ++ [];
      went = octets_of (frames_of reply) ++ f.went;
      did = did_then (at old) (at mid) (at new) (h.octets ++ []) [] (octets_of (frames_of reply)) f.went (answered reply old mid input now h) f.did;
      read = read_more h.octets input now h.read;
      wrote = wrote_both output later after (octets_of (frames_of reply)) f.went (octets_of (frames_of reply) ++ f.went) refl wrote f.wrote;
      paced = f.paced;
    }

-- ---- one after the other

pub advances_nothing : (old : Connection) (input : Input) (output : Output) → IsPaced old → Advances old old input input output output
advances_nothing old input output paced =
    record { came = []; went = []; did = did_nothing (at old); read = Read-nothing input; wrote = nothing output; paced = paced }

pub advances_then : (old mid new : Connection) (input later now : Input) (output after last : Output) → Advances old mid input later output after → Advances mid new later now after last → Advances old new input now output last
advances_then old mid new input later now output after last p q =
    record {
      came = p.came ++ q.came;
      went = p.went ++ q.went;
      did = did_then (at old) (at mid) (at new) p.came q.came p.went q.went p.did q.did;
      read = Read-trans input later now p.came q.came p.read q.read;
      wrote = wrote_both output after last p.went q.went (p.went ++ q.went) refl p.wrote q.wrote;
      paced = q.paced;
    }

pub breaks_after : (why : CallFault) (before : List ℕ) (first : Exchange) (old : Connection) (input later now : Input) (output after last : Output) (came went : List ℕ)
    → Did first came went (at old) → Read came input later → Wrote (before ++ went) output after → Broken why [] (at old) later now after last → Broken why before first input now output last
breaks_after why before first old input later now output after last came went did read wrote b =
    record {
      came = came ++ b.came;
      went = went ++ b.went;
      last = b.last;
      did = did_then first (at old) b.last came b.came went b.went did b.did;
      more = b.more;
      read = subst (λ (os : List ℕ). CameBy why os input now) (sym (append_assoc came b.came b.more)) (came_by why came (b.came ++ b.more) input later now read b.read);
      wrote = subst (λ (os : List ℕ). WentBy why os output last) (append_assoc before went b.went) (went_by why (before ++ went) b.went output after last wrote b.wrote);
      because = b.because;
    }

pub completed : (old new : Connection) (input now : Input) (output later : Output) → Advances old new input now output later → new.server.state ≡ Over → Completed [] (at old) new input now output later
completed old new input now output later p over =
    record { came = p.came; went = p.went; did = p.did; read = p.read; wrote = p.wrote; over = over }

-- the server takes no stream as high as the call's
pub passed_over : (old new : Connection) (input now : Input) (output later : Output) → Advances old new input now output later → Why fault.Closed (at new) [] now → Broken fault.Closed [] (at old) input now output later
passed_over old new input now output later p why =
    record {
      came = p.came;
      went = p.went;
      last = at new;
      did = p.did;
      more = [];
      read = subst (λ (os : List ℕ). Read os input now) (sym (append-nil p.came)) p.read;
      wrote = p.wrote;
      because = why;
    }

-- ---- results that are passed on

pub passed_on : {T : Type 0} (result : Result T CallFault) (P : CallFault → Type 0) (why : CallFault) → result ≡ Err why → P why → IfErr result P
passed_on result P why is p = subst (λ r. IfErr r P) (sym is) p

-- ---- DATA

-- one DATA frame more
pub flush_step : (first : Exchange) (old new : Connection) (went : List ℕ) (count : ℕ) → Did first [] went (at old) → 0 < count → count ≤ length old.unsent → count ≤ largest_payload → count ≤ room (own_window old) → count ≤ room old.window
    → new ≡ spent count old → Did first [] (went ++ spelled (data_frame count old)) (at new)
flush_step first old new went count did some there small own connection is =
    did_then first (at old) (at new) [] [] went (spelled (data_frame count old)) did
    (did_send (data_frame count old) (at old) (at new)
    (record { answered = refl; count = count; some = some; there = there; small = small; own = own; connection = connection; frame_is = refl; new_is = ap at is }))

-- a DATA frame that isn't written whole
pub flush_fails : (first old : Connection) (went : List ℕ) (count : ℕ) (output later after : Output) → Did (at first) [] went (at old) → Wrote went output later → 0 < count → count ≤ length old.unsent → count ≤ largest_payload
    → count ≤ room (own_window old) → count ≤ room old.window → FailedWithin (spelled (data_frame count old)) later after → FlushFails first output after
flush_fails first old went count output later after did wrote some there small own connection failed =
    record {
      went = went ++ spelled (data_frame count old);
      last = at (spent count old);
      did = flush_step (at first) old (spent count old) went count did some there small own connection refl;
      failed = failed_behind output later after went (spelled (data_frame count old)) (went ++ spelled (data_frame count old)) refl wrote failed;
    }

-- ---- the ends of what comes

pub end_unheard : (end : ReadEnd) (old : Connection) (input now : Input) → StopsReading end input now → Unheard (fault_at end) old input now
end_unheard ends.Ended old input now (octets, read, ended) = record { more = octets; read = read; because = ended }
end_unheard ends.Failed old input now (octets, failed) = record { more = octets; read = failed; because = tt }
end_unheard ends.TooLong old input now (octets, read, long) = record { more = octets; read = read; because = inl (long, refl) }
end_unheard ends.NoMemory old input now (octets, read) = record { more = octets; read = read; because = tt }

pub spent_unheard : (old : Connection) (input : Input) → old.left < fewest_left → Unheard fault.Spent old input input
spent_unheard old input few = record { more = []; read = Read-nothing input; because = few }

-- ---- a frame that comes

frame_counted : (frame : WholeFrame) (input now : Input) (h : IsFrameOf frame input now) (old before : Connection) → before ≡ record old { left = old.left - (9 + length frame.payload) } → before ≡ counted (h.nine ++ frame.payload) old
frame_counted frame input now h old before is =
    let n = h.nine_are in
    let len : length (h.nine ++ frame.payload) ≡ 9 + length frame.payload = omega (arith, length-append h.nine frame.payload, n) in
    is ∙ ap (λ (m : ℕ). record old { left = old.left - m }) (sym len)

frame_spelled : (frame : WholeFrame) (input now : Input) (h : IsFrameOf frame input now) → ((i : ℕ) → get_or frame.payload i 0 < 256) → Spells (h.nine ++ frame.payload) (frame_of frame.head frame.payload)
frame_spelled frame input now h fit =
    let e = h.head_is in
    subst (λ (head : Head). Spells (h.nine ++ frame.payload) (frame_of head frame.payload)) (sym e)
    (head_spelled h.nine frame.payload h.nine_fit fit h.nine_are (h.whole ∙ ap (λ (head : Head). head.length) e))

fit_as : (shown octets : List ℕ) → shown ≡ octets → ((i : ℕ) → get_or shown i 0 < 256) → (i : ℕ) → get_or octets i 0 < 256
fit_as shown octets is fit = subst (λ (os : List ℕ). (i : ℕ) → get_or os i 0 < 256) is fit

pub listened : (reply : Reply) (frame : WholeFrame) (shown : List ℕ) (old before new : Connection) (input now : Input) → IsPaced old → IsFrameOf frame input now → shown ≡ frame.payload → ((i : ℕ) → get_or shown i 0 < 256)
    → before ≡ record old { left = old.left - (9 + length frame.payload) } → Hears before (frame_of frame.head shown) reply new → Listened reply old new input now
listened reply frame shown old before new input now paced h same fits is heard =
    let fit = fit_as shown frame.payload same fits in
    let hears : Hears before (frame_of frame.head frame.payload) reply new = subst (λ (os : List ℕ). Hears before (frame_of frame.head os) reply new) same heard in
    record {
      octets = h.nine ++ frame.payload;
      frame = frame_of frame.head frame.payload;
      read = h.read;
      gets = record {
        answered = refl;
        paced = paced;
        spells = frame_spelled frame input now h fit;
        allowed = h.allowed;
        reply = reply;
        hears = subst (λ (c : Connection). Hears c (frame_of frame.head frame.payload) reply new) (frame_counted frame input now h old before is) hears;
        owes = refl;
      };
    }

broken_frame : (why : CallFault) (frame : WholeFrame) (old before : Connection) (input now : Input) → IsFrameOf frame input now → ((i : ℕ) → get_or frame.payload i 0 < 256)
    → before ≡ record old { left = old.left - (9 + length frame.payload) } → FrameFault why before (frame_of frame.head frame.payload) → Unheard why old input now
broken_frame (fault.Protocol code) frame old before input now h fit is breaks =
    record {
      more = h.nine ++ frame.payload;
      read = h.read;
      because = inr (record {
        frame = frame_of frame.head frame.payload;
        spells = frame_spelled frame input now h fit;
        allowed = h.allowed;
        breaks = subst (λ (c : Connection). Breaks c (frame_of frame.head frame.payload) code) (frame_counted frame input now h old before is) breaks;
      });
    }
broken_frame fault.NoMemory frame old before input now h fit is breaks = record { more = h.nine ++ frame.payload; read = h.read; because = tt }
broken_frame (fault.Refused code) frame old before input now h fit is breaks = absurd breaks
broken_frame (fault.Http code) frame old before input now h fit is breaks = absurd breaks
broken_frame fault.NoStatus frame old before input now h fit is breaks = absurd breaks
broken_frame fault.BadReply frame old before input now h fit is breaks = absurd breaks
broken_frame fault.Closed frame old before input now h fit is breaks = absurd breaks
broken_frame fault.ReadFault frame old before input now h fit is breaks = absurd breaks
broken_frame fault.WriteFault frame old before input now h fit is breaks = absurd breaks
broken_frame fault.Spent frame old before input now h fit is breaks = absurd breaks

pub unheard_frame : (why : CallFault) (frame : WholeFrame) (shown : List ℕ) (old before : Connection) (input now : Input) → IsFrameOf frame input now → shown ≡ frame.payload → ((i : ℕ) → get_or shown i 0 < 256)
    → before ≡ record old { left = old.left - (9 + length frame.payload) } → FrameFault why before (frame_of frame.head shown) → Unheard why old input now
unheard_frame why frame shown old before input now h same fits is breaks =
    broken_frame why frame old before input now h (fit_as shown frame.payload same fits) is (subst (λ (os : List ℕ). FrameFault why before (frame_of frame.head os)) same breaks)

pub fault_heard : (why : RecvFault) (old : Connection) (frame : Frame) → ((code : ℕ) → why ≡ received.Protocol code → IsFault old.server frame code) → FrameFault (fault_of why) old frame
fault_heard (received.Protocol code) old frame h = inl (h code refl)
fault_heard received.NoMemory old frame h = tt

-- ---- whole frames

-- the payload isn't whole
pub stops_later : (end : ReadEnd) (nine : List ℕ) (input later now : Input) → Read nine input later → StopsFilling end later now → StopsReading end input now
stops_later ends.Ended nine input later now read (octets, more, ended) = (nine ++ octets, Read-trans input later now nine octets read more, ended)
stops_later ends.Failed nine input later now read (octets, (last, more, is)) = (nine ++ octets, (last, Read-trans input later last nine octets read more, is))
stops_later ends.TooLong nine input later now read h = absurd h
stops_later ends.NoMemory nine input later now read (octets, more) = (nine ++ octets, Read-trans input later now nine octets read more)

-- nor the head
pub stops_first : (end : ReadEnd) (input now : Input) → StopsFilling end input now → StopsReading end input now
stops_first ends.Ended input now h = h
stops_first ends.Failed input now h = h
stops_first ends.TooLong input now h = absurd h
stops_first ends.NoMemory input now h = h

pub frame_read : (frame : WholeFrame) (nine seen : List ℕ) (input later now : Input) → Fills 9 nine input later → seen ≡ nine → ((i : ℕ) → get_or seen i 0 < 256) → frame.head ≡ head_at seen → frame.head.length ≤ largest_frame
    → Fills frame.head.length frame.payload later now → IsFrameOf frame input now
frame_read frame nine seen input later now first is fit head few second =
    record {
      nine = nine;
      read = Read-trans input later now nine frame.payload first.read second.read;
      nine_are = first.full;
      nine_fit = subst (λ (os : List ℕ). (i : ℕ) → get_or os i 0 < 256) is fit;
      head_is = head ∙ ap head_at is;
      whole = second.full;
      allowed = few;
    }
