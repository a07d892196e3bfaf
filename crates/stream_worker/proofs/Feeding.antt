-- A feeder from one step to the next.
use Rattle.std.proofs.Common.{◌≡◌, ℕ, List, [], ◌∷◌, ◌++◌, length, map, drop, refl, sym, ap, ◌∙◌, subst, append-nil, append_assoc, length-append, Option, Some, None, Result, Ok, Err}
use Rattle.std.proofs.lemmas.List.{map-append}
use Rattle.base_kinds.specs.declared.entry.View.{View}
use Rattle.base_kinds.specs.declared.refusal.Refusal.{Refusal}
use Rattle.base_kinds.specs.declared.refusal.Refusal.TheVariants as refusals
use Rattle.base_kinds.specs.Schema.{SchemaNode}
use Rattle.book_port.specs.Follows.{Turn}
use Rattle.book_port.specs.Ports.{PortView, LooksOnce}
use Rattle.h2_events.specs.Items.{said_by}
use Rattle.h2_events.specs.declared.said.Piece.{Piece}
use Rattle.h2_events.specs.declared.said.Piece.TheVariants as piece
use Rattle.h2_events.specs.declared.said.Said.{Said}
use Rattle.h2_events.specs.declared.said.Said.TheVariants as said
use Rattle.h2_events.specs.declared.port.Took.TheVariants as took
use Rattle.h2_events.specs.declared.port.Ready.{Ready}
use Rattle.h2_events.specs.declared.port.Ready.TheVariants as ready
use Rattle.h2_send.specs.Conditions.{IsClosed}
use Rattle.h2_send.specs.Port.{ready_in}
use Rattle.sub_plan.specs.declared.plan.Plan.{Plan}
use Rattle.sub_plan.specs.Groups.{patterns_of}
use Rattle.subscribe_calls.specs.Calls.{CallView, new_call, messages_with, call_after, replies_octets, reply_octets}
use Rattle.subscribe_calls.specs.Turns.{Answers}
use Rattle.stream_worker.specs.Books.{TakesLooks}
use Rattle.stream_worker.specs.Wires.{WireView, SpeaksOn}
use Rattle.stream_worker.specs.Feeds.{Ports, Feeds, IsLost}
use Rattle.stream_worker.specs.declared.job.FeedEnd.TheVariants as ends
use Rattle.stream_worker.specs.inner.Steps.{IsWhole, HasFed, Leaves, LooksAgain, frees_in, HasAsked, HasOffered}
use Rattle.stream_worker.proofs.Looking.{looks_told, looks_failed, looks_starved, looks_end, looks_begin}
use Rattle.stream_worker.proofs.Speaking.{speaks_asked, speaks_offered, speaks_turned, speaks_begin}

module _ (schema : List SchemaNode) (stream : ℕ) (plan : Plan) (from : Ports) where
  -- what isn't said of the run
  rest_of : (all taken : List (List ℕ)) (call : Option CallView) (waiting : List (List ℕ)) → IsWhole all taken call waiting
      → (rest : List (List ℕ)) × (all ≡ taken ++ rest)
  rest_of all taken None waiting whole = whole
  rest_of all taken (Some call) waiting whole = (waiting, whole)

  -- ---- how it ends

  pub gone : (call : Option CallView) (waiting : List (List ℕ)) (to : Ports) → HasFed schema stream plan 0 from call waiting to
      → ready_in stream to.wire.progress ≡ ready.Gone → Feeds schema stream plan ends.Gone from to
  gone call waiting to fed is =
      let left = rest_of (replies_octets schema plan fed.messages) fed.taken call waiting fed.whole in
      record {
        turns = fed.turns;
        messages = fed.messages;
        looks = looks_end plan from.book to.book fed.turns fed.messages call fed.looks;
        taken = fed.taken;
        rest = left.0;
        whole = left.1;
        lost = [];
        is_lost = tt;
        speaks = subst (λ (pieces : List Piece). SpeaksOn stream 0 (length fed.turns) from.wire pieces [] to.wire) (sym (append-nil (map piece.Message fed.taken))) fed.speaks;
        cause = is;
      }

  -- ---- the wire

  pub asked_on : (answer : Ready) (call : Option CallView) (waiting : List (List ℕ)) (book : PortView) (mid wire : WireView)
      → HasFed schema stream plan 0 from call waiting (record { book = book; wire = mid }) → HasAsked answer mid wire
      → HasFed schema stream plan (frees_in answer) from call waiting (record { book = book; wire = wire })
  asked_on answer call waiting book mid wire fed asks = record {
    turns = fed.turns;
    messages = fed.messages;
    looks = fed.looks;
    taken = fed.taken;
    whole = fed.whole;
    speaks = speaks_asked stream (length fed.turns) answer from.wire mid wire (map piece.Message fed.taken) fed.speaks asks;
  }

  -- the piece wasn't taken, and nothing was lost
  not_taken : (call : Option CallView) (waiting : List (List ℕ)) (book : PortView) (mid wire : WireView)
      → (fed : HasFed schema stream plan 1 from call waiting (record { book = book; wire = mid }))
      → SpeaksOn stream 0 (length fed.turns) from.wire (map piece.Message fed.taken ++ []) [] wire
      → HasFed schema stream plan 0 from call waiting (record { book = book; wire = wire })
  not_taken call waiting book mid wire fed speaks = record {
    turns = fed.turns;
    messages = fed.messages;
    looks = fed.looks;
    taken = fed.taken;
    whole = fed.whole;
    speaks = subst (λ (pieces : List Piece). SpeaksOn stream 0 (length fed.turns) from.wire pieces [] wire) (append-nil (map piece.Message fed.taken)) speaks;
  }

  pub found_busy : (what : Piece) (call : Option CallView) (waiting : List (List ℕ)) (book : PortView) (mid wire : WireView)
      → HasFed schema stream plan 1 from call waiting (record { book = book; wire = mid }) → HasOffered stream took.Busy what mid wire
      → HasFed schema stream plan 0 from call waiting (record { book = book; wire = wire })
  found_busy what call waiting book mid wire fed offers =
      not_taken call waiting book mid wire fed (speaks_offered stream (length fed.turns) took.Busy what from.wire mid wire (map piece.Message fed.taken) fed.speaks offers)

  pub found_gone : (what : Piece) (call : Option CallView) (waiting : List (List ℕ)) (book : PortView) (mid wire : WireView)
      → HasFed schema stream plan 1 from call waiting (record { book = book; wire = mid }) → HasOffered stream took.Gone what mid wire
      → ready_in stream wire.progress ≡ ready.Gone → Feeds schema stream plan ends.Gone from (record { book = book; wire = wire })
  found_gone what call waiting book mid wire fed offers is =
      gone call waiting (record { book = book; wire = wire })
      (not_taken call waiting book mid wire fed (speaks_offered stream (length fed.turns) took.Gone what from.wire mid wire (map piece.Message fed.taken) fed.speaks offers)) is

  -- the wire was closed by the piece
  lost_so : (call : Option CallView) (waiting : List (List ℕ)) (book : PortView) (mid wire : WireView) (word : Said)
      → (fed : HasFed schema stream plan 1 from call waiting (record { book = book; wire = mid }))
      → ((rest : List (List ℕ)) × (replies_octets schema plan fed.messages ≡ fed.taken ++ rest) × IsLost wire.progress.condition rest (word ∷ []))
      → SpeaksOn stream 0 (length fed.turns) from.wire (map piece.Message fed.taken ++ []) (word ∷ []) wire
      → ready_in stream wire.progress ≡ ready.Gone → Feeds schema stream plan ends.Gone from (record { book = book; wire = wire })
  lost_so call waiting book mid wire word fed left speaks is = record {
    turns = fed.turns;
    messages = fed.messages;
    looks = looks_end plan from.book book fed.turns fed.messages call fed.looks;
    taken = fed.taken;
    rest = left.0;
    whole = left.1;
    lost = word ∷ [];
    is_lost = left.2;
    speaks = speaks;
    cause = is;
  }

  pub message_taken : (what : Piece) (octets first : List ℕ) (call : CallView) (waiting others rest : List (List ℕ)) (book : PortView) (mid wire : WireView)
      → waiting ≡ octets ∷ others → what ≡ piece.Message octets → waiting ≡ first ∷ rest
      → HasFed schema stream plan 1 from (Some call) waiting (record { book = book; wire = mid }) → HasOffered stream took.Taken what mid wire
      → HasFed schema stream plan 0 from (Some call) rest (record { book = book; wire = wire })
  message_taken what octets first call waiting others rest book mid wire is made goes fed offers = record {
    turns = fed.turns;
    messages = fed.messages;
    looks = fed.looks;
    taken = fed.taken ++ octets ∷ [];
    whole = fed.whole ∙ ap (λ (l : List (List ℕ)). fed.taken ++ l) is ∙ sym (append_assoc fed.taken (octets ∷ []) others)
        ∙ ap (λ (l : List (List ℕ)). (fed.taken ++ octets ∷ []) ++ drop 1 l) (sym is ∙ goes);
    speaks = subst (λ (pieces : List Piece). SpeaksOn stream 0 (length fed.turns) from.wire pieces [] wire)
        (ap (λ (p : Piece). map piece.Message fed.taken ++ p ∷ []) made ∙ sym (map-append piece.Message fed.taken (octets ∷ [])))
        (speaks_offered stream (length fed.turns) took.Taken what from.wire mid wire (map piece.Message fed.taken) fed.speaks offers);
  }

  lost_message : (what : Piece) (octets : List ℕ) (call : CallView) (waiting others : List (List ℕ)) (book : PortView) (mid wire : WireView)
      → waiting ≡ octets ∷ others → what ≡ piece.Message octets
      → (fed : HasFed schema stream plan 1 from (Some call) waiting (record { book = book; wire = mid }))
      → SpeaksOn stream 0 (length fed.turns) from.wire (map piece.Message fed.taken ++ []) (said_by what ∷ []) wire
      → IsClosed wire.progress.condition → ready_in stream wire.progress ≡ ready.Gone
      → Feeds schema stream plan ends.Gone from (record { book = book; wire = wire })
  lost_message what octets call waiting others book mid wire is made fed speaks closed gone_is =
      lost_so (Some call) waiting book mid wire (said.Message octets) fed (waiting, fed.whole, (closed, others, is))
      (subst (λ (p : Piece). SpeaksOn stream 0 (length fed.turns) from.wire (map piece.Message fed.taken ++ []) (said_by p ∷ []) wire) made speaks) gone_is

  pub message_lost_by_fault : (what : Piece) (octets : List ℕ) (call : CallView) (waiting others : List (List ℕ)) (book : PortView) (mid wire : WireView)
      → waiting ≡ octets ∷ others → what ≡ piece.Message octets
      → HasFed schema stream plan 1 from (Some call) waiting (record { book = book; wire = mid }) → HasOffered stream took.WriteFault what mid wire
      → IsClosed wire.progress.condition → ready_in stream wire.progress ≡ ready.Gone
      → Feeds schema stream plan ends.Gone from (record { book = book; wire = wire })
  message_lost_by_fault what octets call waiting others book mid wire is made fed offers closed gone_is =
      lost_message what octets call waiting others book mid wire is made fed
      (speaks_offered stream (length fed.turns) took.WriteFault what from.wire mid wire (map piece.Message fed.taken) fed.speaks offers) closed gone_is

  pub message_lost_by_memory : (what : Piece) (octets : List ℕ) (call : CallView) (waiting others : List (List ℕ)) (book : PortView) (mid wire : WireView)
      → waiting ≡ octets ∷ others → what ≡ piece.Message octets
      → HasFed schema stream plan 1 from (Some call) waiting (record { book = book; wire = mid }) → HasOffered stream took.NoMemory what mid wire
      → IsClosed wire.progress.condition → ready_in stream wire.progress ≡ ready.Gone
      → Feeds schema stream plan ends.Gone from (record { book = book; wire = wire })
  message_lost_by_memory what octets call waiting others book mid wire is made fed offers closed gone_is =
      lost_message what octets call waiting others book mid wire is made fed
      (speaks_offered stream (length fed.turns) took.NoMemory what from.wire mid wire (map piece.Message fed.taken) fed.speaks offers) closed gone_is

  -- ---- the refusal

  abbrev last_piece : Piece
  last_piece = piece.Finish (Some refusals.NoMemory)

  pub refusal_taken : (waiting : List (List ℕ)) (book : PortView) (mid wire : WireView)
      → HasFed schema stream plan 1 from None waiting (record { book = book; wire = mid }) → HasOffered stream took.Taken last_piece mid wire
      → Feeds schema stream plan (ends.Refused refusals.NoMemory) from (record { book = book; wire = wire })
  refusal_taken waiting book mid wire fed offers = record {
    turns = fed.turns;
    messages = fed.messages;
    looks = fed.looks;
    taken = fed.taken;
    rest = fed.whole.0;
    whole = fed.whole.1;
    lost = [];
    is_lost = tt;
    speaks = speaks_offered stream (length fed.turns) took.Taken last_piece from.wire mid wire (map piece.Message fed.taken) fed.speaks offers;
    cause = refl;
  }

  pub refusal_lost_by_fault : (waiting : List (List ℕ)) (book : PortView) (mid wire : WireView)
      → HasFed schema stream plan 1 from None waiting (record { book = book; wire = mid }) → HasOffered stream took.WriteFault last_piece mid wire
      → IsClosed wire.progress.condition → ready_in stream wire.progress ≡ ready.Gone
      → Feeds schema stream plan ends.Gone from (record { book = book; wire = wire })
  refusal_lost_by_fault waiting book mid wire fed offers closed is =
      lost_so None waiting book mid wire (said.Finish (Some refusals.NoMemory)) fed (fed.whole.0, fed.whole.1, closed)
      (speaks_offered stream (length fed.turns) took.WriteFault last_piece from.wire mid wire (map piece.Message fed.taken) fed.speaks offers) is

  pub refusal_lost_by_memory : (waiting : List (List ℕ)) (book : PortView) (mid wire : WireView)
      → HasFed schema stream plan 1 from None waiting (record { book = book; wire = mid }) → HasOffered stream took.NoMemory last_piece mid wire
      → IsClosed wire.progress.condition → ready_in stream wire.progress ≡ ready.Gone
      → Feeds schema stream plan ends.Gone from (record { book = book; wire = wire })
  refusal_lost_by_memory waiting book mid wire fed offers closed is =
      lost_so None waiting book mid wire (said.Finish (Some refusals.NoMemory)) fed (fed.whole.0, fed.whole.1, closed)
      (speaks_offered stream (length fed.turns) took.NoMemory last_piece from.wire mid wire (map piece.Message fed.taken) fed.speaks offers) is

  -- a call for which memory is wanting
  pub starves : (more : ℕ) (call : Option CallView) (waiting others : List (List ℕ)) (to : Ports) → HasFed schema stream plan more from call waiting to
      → HasFed schema stream plan more from None others to
  starves more call waiting others to fed = record {
    turns = fed.turns;
    messages = fed.messages;
    looks = looks_end plan from.book to.book fed.turns fed.messages call fed.looks;
    taken = fed.taken;
    whole = rest_of (replies_octets schema plan fed.messages) fed.taken call waiting fed.whole;
    speaks = fed.speaks;
  }

  -- ---- turns

  speaks_on : (turns : List Turn) (turn : Turn) (wire : WireView) (pieces : List Piece) → SpeaksOn stream 1 (length turns) from.wire pieces [] wire
      → SpeaksOn stream 0 (length (turns ++ turn ∷ [])) from.wire pieces [] wire
  speaks_on turns turn wire pieces speaks =
      subst (λ (n : ℕ). SpeaksOn stream 0 n from.wire pieces [] wire) (sym (length-append turns (turn ∷ [])))
      (speaks_turned stream (length turns) from.wire wire pieces speaks)

  told : (call turned : CallView) (now : ℕ) (view : View) (octets : List (List ℕ)) (mid book : PortView) (wire : WireView)
      → HasFed schema stream plan 1 from (Some call) [] (record { book = mid; wire = wire })
      → LooksOnce mid now (patterns_of call.plan.lines) (Ok view) book
      → octets ≡ replies_octets schema call.plan (messages_with call now view) → turned ≡ call_after call now view
      → HasFed schema stream plan 0 from (Some turned) octets (record { book = book; wire = wire })
  told call turned now view octets mid book wire fed looks written goes = record {
    turns = fed.turns ++ looks.turn ∷ [];
    messages = fed.messages ++ messages_with call now view;
    looks = subst (λ (c : CallView). TakesLooks plan from.book (fed.turns ++ looks.turn ∷ []) (fed.messages ++ messages_with call now view) (Some c) book) (sym goes)
        (looks_told plan from.book mid book fed.turns fed.messages call now view looks fed.looks);
    taken = fed.taken;
    whole = map-append (reply_octets schema plan) fed.messages (messages_with call now view)
        ∙ ap (λ (l : List (List ℕ)). l ++ replies_octets schema plan (messages_with call now view)) (fed.whole ∙ append-nil fed.taken)
        ∙ ap (λ (l : List (List ℕ)). fed.taken ++ l) (sym (written ∙ ap (λ (p : Plan). replies_octets schema p (messages_with call now view)) fed.looks.served.0));
    speaks = speaks_on fed.turns looks.turn wire (map piece.Message fed.taken) fed.speaks;
  }

  failed : (call : CallView) (now : ℕ) (mid book : PortView) (wire : WireView)
      → HasFed schema stream plan 1 from (Some call) [] (record { book = mid; wire = wire })
      → LooksOnce mid now (patterns_of call.plan.lines) (Err refusals.DiskFault) book
      → HasFed schema stream plan 0 from (Some call) [] (record { book = book; wire = wire })
  failed call now mid book wire fed looks = record {
    turns = fed.turns ++ looks.turn ∷ [];
    messages = fed.messages;
    looks = looks_failed plan from.book mid book fed.turns fed.messages call now (patterns_of call.plan.lines) looks fed.looks;
    taken = fed.taken;
    whole = fed.whole;
    speaks = speaks_on fed.turns looks.turn wire (map piece.Message fed.taken) fed.speaks;
  }

  starved : (call : CallView) (waiting : List (List ℕ)) (now : ℕ) (look : Result View Refusal) (mid book : PortView) (wire : WireView)
      → HasFed schema stream plan 1 from (Some call) [] (record { book = mid; wire = wire })
      → LooksOnce mid now (patterns_of call.plan.lines) look book
      → HasFed schema stream plan 0 from None waiting (record { book = book; wire = wire })
  starved call waiting now look mid book wire fed looks = record {
    turns = fed.turns ++ looks.turn ∷ [];
    messages = fed.messages;
    looks = looks_starved plan from.book mid book fed.turns fed.messages call now (patterns_of call.plan.lines) look looks fed.looks;
    taken = fed.taken;
    whole = ([], fed.whole);
    speaks = speaks_on fed.turns looks.turn wire (map piece.Message fed.taken) fed.speaks;
  }

  turned_so : (call turned : CallView) (next : Option CallView) (waiting : List (List ℕ)) (now : ℕ) (look : Result View Refusal)
      (result : Result (List (List ℕ)) Refusal) (mid book : PortView) (wire : WireView)
      → HasFed schema stream plan 1 from (Some call) [] (record { book = mid; wire = wire })
      → LooksOnce mid now (patterns_of call.plan.lines) look book → Answers schema call now look result turned → Leaves result turned next waiting
      → HasFed schema stream plan 0 from next waiting (record { book = book; wire = wire })
  turned_so call turned next waiting now (Ok view) (Ok octets) mid book wire fed looks answers leaves =
      subst (λ (c : Option CallView). HasFed schema stream plan 0 from c waiting (record { book = book; wire = wire })) (sym leaves.0)
      (subst (λ (w : List (List ℕ)). HasFed schema stream plan 0 from (Some turned) w (record { book = book; wire = wire })) (sym leaves.1)
      (told call turned now view octets mid book wire fed looks answers.0 answers.1))
  turned_so call turned next waiting now look (Err refusals.NoMemory) mid book wire fed looks answers leaves =
      subst (λ (c : Option CallView). HasFed schema stream plan 0 from c waiting (record { book = book; wire = wire })) (sym leaves)
      (starved call waiting now look mid book wire fed looks)
  turned_so call turned next waiting now (Err refusal) (Err refusals.DiskFault) mid book wire fed looks answers leaves =
      subst (λ (c : Option CallView). HasFed schema stream plan 0 from c waiting (record { book = book; wire = wire })) (sym (leaves.0 ∙ ap Some answers.1))
      (subst (λ (w : List (List ℕ)). HasFed schema stream plan 0 from (Some call) w (record { book = book; wire = wire })) (sym leaves.1)
      (failed call now mid book wire fed (subst (λ (r : Refusal). LooksOnce mid now (patterns_of call.plan.lines) (Err r) book) (sym answers.0) looks)))
  turned_so call turned next waiting now (Ok view) (Err refusals.DiskFault) mid book wire fed looks answers leaves = absurd answers
  turned_so call turned next waiting now (Err refusal) (Ok octets) mid book wire fed looks answers leaves = absurd answers
  turned_so call turned next waiting now look (Err other) mid book wire fed looks answers leaves = absurd leaves

  pub turned_on : (call : CallView) (next : Option CallView) (waiting : List (List ℕ)) (mid book : PortView) (wire : WireView)
      → HasFed schema stream plan 1 from (Some call) [] (record { book = mid; wire = wire }) → LooksAgain schema call mid next waiting book
      → HasFed schema stream plan 0 from next waiting (record { book = book; wire = wire })
  turned_on call next waiting mid book wire fed again =
      turned_so call again.turned next waiting again.now again.turns.look again.result mid book wire fed again.turns.looks again.turns.answers again.leaves

  -- ---- the beginning

  pub begin_served : HasFed schema stream plan 0 from (Some (new_call plan)) [] from
  begin_served = record {
    turns = [];
    messages = [];
    looks = looks_begin plan from.book;
    taken = [];
    whole = refl;
    speaks = speaks_begin stream from.wire;
  }
