-- Replies fit in their frames.
use Rattle.std.proofs.Common.{◌≡◌, ℕ, ◌+◌, ◌^◌, ◌<◌, ◌≤◌, Bool, true, false, List, [], ◌∷◌, ◌++◌, length, refl, ap, ◌∙◌, arith}
use Rattle.std.specs.Prelude.{Some, None, Option}
use Rattle.std.proofs.lemmas.List.{length-append}
use Rattle.std.proofs.lemmas.List.Concat.{flat_map-append}
use Rattle.base_kinds.specs.declared.refusal.Refusal.{Refusal}
use Rattle.hpack_block.specs.declared.header.Header.{Header}
use Rattle.hpack_block.specs.Written.{block_of, field_of}
use Rattle.grpc_core.specs.Replies.{opening_headers, trailers}
use Rattle.h2_windows.specs.Fitting.{HasFitHead, HaveFitHeads}
use Rattle.h2_windows.specs.Sending.{largest_payload}
use Rattle.h2_send.specs.Headers.{update_owed, headers_frame, goes_on, last, opening, ending, status_headers, status_answer}
use Rattle.h2_send.proofs.ReplySmall.{block_size, both_few, opening_small, trailers_small, status_small}

headers_fit : (owes : Bool) (id flags : ℕ) (headers : List Header) → length (block_of headers) ≤ 2000 → id < 2 ^ 31 → HasFitHead (headers_frame owes id flags headers)
headers_fit owes id flags headers few small = let b = block_size owes headers few in record { states_length = refl; length_fits = omega (arith, b); stream_fits = small }

opening_few : length (block_of opening_headers) ≤ 2000
opening_few = let b = opening_small.small in omega (arith, b)

trailers_few : (refusal : Option Refusal) → length (block_of (trailers refusal)) ≤ 2000
trailers_few refusal = let b = (trailers_small refusal).small in omega (arith, b)

pub opening_fits : (begun owes : Bool) (id : ℕ) → id < 2 ^ 31 → HaveFitHeads (opening begun owes id)
opening_fits true owes id small = tt
opening_fits false owes id small = (headers_fit owes id goes_on opening_headers opening_few small, tt)

pub ending_fits : (begun owes : Bool) (id : ℕ) (refusal : Option Refusal) → id < 2 ^ 31 → HaveFitHeads (ending begun owes id refusal)
ending_fits true owes id refusal small = (headers_fit owes id last (trailers refusal) (trailers_few refusal) small, tt)
ending_fits false owes id (Some refusal) small = (headers_fit owes id last (opening_headers ++ trailers (Some refusal)) (both_few opening_headers (trailers (Some refusal)) opening_small (trailers_small (Some refusal))) small, tt)
ending_fits false owes id None small = (headers_fit owes id goes_on opening_headers opening_few small, (headers_fit false id last (trailers None) (trailers_few None) small, tt))

pub status_fits : (owes : Bool) (id status : ℕ) → id < 2 ^ 31 → status < 2 ^ 16 → HaveFitHeads (status_answer owes id status)
status_fits owes id status small less = (headers_fit owes id last (status_headers status) (let b = (status_small status less).small in omega (arith, b)) small, tt)
