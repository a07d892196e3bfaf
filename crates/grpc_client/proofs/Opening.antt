-- What begins a call.
use Rattle.std.proofs.Common.{All, ◌≡◌, ℕ, zero, suc, ◌+◌, ◌-◌, ◌/◌, ◌%◌, ◌^◌, ◌<◌, ◌≤◌, Bool, true, false, List, [], ◌∷◌, ◌++◌, length, Option, Some, None, Result, Ok, Err, refl, sym, ap, ◌∙◌, subst, arith, nat_lt, append_assoc, append-nil, cond}
use Rattle.std.specs.Prelude.{OnOk, codes, if◌then◌else◌}
use Rattle.std.specs.Int.{bytes_high_first}
use Rattle.std.proofs.Math.Dec.{leb}
use Rattle.std.proofs.lemmas.Bool.{leb-true}
use Rattle.std.proofs.lemmas.List.{length-append}
use Rattle.base_lists.specs.SevenBits.{groups_of}
use Rattle.environment.specs.Output.{Output, Wrote, FailedWithin}
use Rattle.hpack_block.specs.declared.header.Header.{Header}
use Rattle.hpack_block.specs.Integers.{largest_integer}
use Rattle.hpack_block.specs.StaticTable.{pair}
use Rattle.hpack_block.specs.Written.{block_of, field_of, field_with, name_with, name_of, place_of_name, string_of, integer_of, place_of_pair, IsShort}
use Rattle.h2_frame.specs.declared.frame.Head.{Head}
use Rattle.h2_frame.specs.Frames.{frame_of, head_spelling}
use Rattle.h2_windows.specs.Written.{spelled, octets_of}
use Rattle.h2_windows.proofs.Fronts.{wrote_both, wrote_nothing, failed_behind}
use Rattle.grpc_core.specs.declared.method.Method.{Method}
use Rattle.grpc_core.specs.declared.method.Method.TheVariants.{Capabilities, Get, Set, Subscribe}
use Rattle.grpc_core.specs.Heads.{path_of}
use Rattle.grpc_core.specs.Messages.{framed}
use Rattle.grpc_client.specs.declared.connection.Connection.{Connection}
use Rattle.grpc_client.specs.declared.fault.CallFault.TheVariants as fault
use Rattle.grpc_client.specs.Connections.{next_stream, opened}
use Rattle.grpc_client.specs.Exchanges.{at, Did}
use Rattle.grpc_client.specs.Requests.{preface, client_settings, request_headers, update_owed, block_frame, request_frame, opening_frames, opening_octets, calling}
use Rattle.grpc_client.specs.Asked.{WentBy}
use Rattle.grpc_client.specs.inner.Openings.{beginning}
use Rattle.grpc_client.specs.inner.Rounds.{Flushes, FlushFails, Begins, BeginsNot}
use Rattle.grpc_client.proofs.Steps.{did_nothing, did_then, did_owe}

path_few : (method : Method) → leb (length (path_of method)) 30 ≡ true
path_few Capabilities = refl
path_few Get = refl
path_few Set = refl
path_few Subscribe = refl

path_length : (method : Method) → length (path_of method) ≤ 30
path_length method = leb-true (length (path_of method)) 30 (path_few method)

-- ---- how long their block is

groups_by : (is : Bool) (k a b : ℕ) (others : List ℕ) → length others ≤ k → length (if is then a ∷ [] else b ∷ others) ≤ k + 1
groups_by true k a b others less = omega arith
groups_by false k a b others less = omega (arith, less)

groups_size : (k n : ℕ) → length (groups_of k n) ≤ k + 1
groups_size zero n = omega arith
groups_size (suc k) n = let less = groups_size k (n / 128) in groups_by (nat_lt n 128) (suc k) n (n % 128 + 128) (groups_of k (n / 128)) (omega (arith, less))

integer_size : (bits mark n : ℕ) → length (integer_of bits mark n) ≤ 6
integer_size bits mark n = groups_by (nat_lt n (2 ^ bits - 1)) 5 (mark + n) (mark + (2 ^ bits - 1)) (groups_of 4 (n - (2 ^ bits - 1))) (groups_size 4 (n - (2 ^ bits - 1)))

string_size : (text : List ℕ) → length (string_of text) ≤ length text + 6
string_size text = let a = length-append (integer_of 7 0 (length text)) text in let b = integer_size 7 0 (length text) in omega (arith, a, b)

name_size : (name : List ℕ) (place : Option ℕ) → length (name_with name place) ≤ length name + 7
name_size name None = let s = string_size name in omega (arith, s)
name_size name (Some place) = let s = integer_size 4 0 (place + 1) in omega (arith, s)

field_size : (header : Header) (place : Option ℕ) → length (field_with header place) ≤ length header.name + length header.value + 20
field_size header None =
    let a = length-append (name_of header.name) (string_of header.value) in
    let n = name_size header.name (place_of_name header.name) in
    let s = string_size header.value in
    omega (arith, a, n, s)
field_size header (Some place) = let s = integer_size 7 128 (place + 1) in omega (arith, s)

block_size : (header : Header) (headers : List Header) (m n : ℕ) → length header.name + length header.value ≤ m → length (block_of headers) ≤ n → length (block_of (header ∷ headers)) ≤ 20 + m + n
unfolding block_of
block_size header headers m n p q =
    let a = length-append (field_of header) (block_of headers) in
    let f = field_size header (place_of_pair header) in
    omega (arith, a, f, p, q)

no_block : length (block_of []) ≤ 0
unfolding block_of
no_block = omega arith

small : (a b : List ℕ) (m : ℕ) → leb (length a + length b) m ≡ true → length a + length b ≤ m
small a b m e = leb-true (length a + length b) m e

pub request_size : (authority : List ℕ) (method : Method) → length authority ≤ 1000 → length (block_of (request_headers authority method)) ≤ 2000
request_size authority method few =
    let path = path_length method in
    let six = block_size (pair (codes "te") (codes "trailers")) [] 100 0 (small (codes "te") (codes "trailers") 100 refl) no_block in
    let five = block_size (pair (codes "content-type") (codes "application/grpc")) _ 100 _ (small (codes "content-type") (codes "application/grpc") 100 refl) six in
    let four = block_size (pair (codes ":authority") authority) _ 1100 _ (omega (arith, few)) five in
    let three = block_size (pair (codes ":path") (path_of method)) _ 100 _ (omega (arith, path)) four in
    let two = block_size (pair (codes ":scheme") (codes "http")) _ 100 _ (small (codes ":scheme") (codes "http") 100 refl) three in
    let one = block_size (pair (codes ":method") (codes "POST")) _ 100 _ (small (codes ":method") (codes "POST") 100 refl) two in
    omega (arith, one)

update_size : (owes : Bool) → length (update_owed owes) ≤ 1
update_size true = omega arith
update_size false = omega arith

pub block_is : (owes : Bool) (authority : List ℕ) (method : Method) (headers : List Header) (a b : List ℕ) → headers ≡ request_headers authority method → a ≡ update_owed owes → b ≡ a ++ block_of headers → b ≡ update_owed owes ++ block_of (request_headers authority method)
block_is owes authority method headers a b is one two = two ∙ ap (λ os. os ++ block_of headers) one ∙ ap (λ hs. update_owed owes ++ block_of hs) is

pub block_few : (owes : Bool) (authority : List ℕ) (method : Method) (b : List ℕ) → length authority ≤ 1000 → b ≡ update_owed owes ++ block_of (request_headers authority method) → length b ≤ 16384
block_few owes authority method b few is =
    let e = ap length is in
    let a = length-append (update_owed owes) (block_of (request_headers authority method)) in
    let u = update_size owes in
    let r = request_size authority method few in
    omega (arith, e, a, u, r)

-- ---- octets

spelled_parts : (head : Head) (payload : List ℕ) → spelled (frame_of head payload) ≡ head_spelling head ++ payload
unfolding spelled
spelled_parts head payload = refl

pub added : {T E : Type 0} (result : Result T E) (a b d : List ℕ) (head : Head) (payload given : List ℕ) → given ≡ payload → b ≡ a ++ head_spelling head → OnOk result (d ≡ b ++ given) → OnOk result (d ≡ a ++ spelled (frame_of head payload))
added (Ok x) a b d head payload given is first second = second ∙ ap (λ os. b ++ os) is ∙ ap (λ os. os ++ payload) first ∙ append_assoc a (head_spelling head) payload ∙ ap (λ os. a ++ os) (sym (spelled_parts head payload))
added (Err e) a b d head payload given is first second = tt

opening_by : (begun owes : Bool) (stream : ℕ) (authority : List ℕ) (method : Method) → beginning begun ++ spelled (request_frame owes stream authority method) ≡ opening_octets begun ++ octets_of (opening_frames begun owes stream authority method)
opening_by true owes stream authority method = sym (append-nil (spelled (request_frame owes stream authority method)))
opening_by false owes stream authority method =
    append_assoc preface (spelled client_settings) (spelled (request_frame owes stream authority method))
    ∙ ap (λ os. preface ++ (spelled client_settings ++ os)) (sym (append-nil (spelled (request_frame owes stream authority method))))

pub opening_is : (begun owes : Bool) (stream : ℕ) (authority : List ℕ) (method : Method) (block a b : List ℕ) → block ≡ update_owed owes ++ block_of (request_headers authority method) → a ≡ beginning begun → b ≡ a ++ spelled (block_frame stream block) → b ≡ opening_octets begun ++ octets_of (opening_frames begun owes stream authority method)
opening_is begun owes stream authority method block a b is one two =
    two ∙ ap (λ os. os ++ spelled (block_frame stream block)) one ∙ ap (λ bs. beginning begun ++ spelled (block_frame stream bs)) is ∙ opening_by begun owes stream authority method

-- ---- the call begins

pub framed_length : (message : List ℕ) → length (framed message) ≡ length message + 5
framed_length message = let a = length-append (bytes_high_first 4 (length message)) message in omega (arith, a)

abbrev frames : List ℕ → Method → Connection → List ℕ
frames authority method old = octets_of (opening_frames old.begun old.owes_update (next_stream old) authority method)

opening_did : (authority : List ℕ) (method : Method) (message : List ℕ) (old mid : Connection) → mid ≡ opened (next_stream old) (framed message) old → Did (calling (next_stream old) authority method (framed message) old) [] (frames authority method old) (at mid)
opening_did authority method message old mid is =
    subst (λ (c : Connection). Did (calling (next_stream old) authority method (framed message) old) [] (frames authority method old) (at c)) (sym is)
    (did_owe (opening_frames old.begun old.owes_update (next_stream old) authority method) (opened (next_stream old) (framed message) old))

joined : (a b d octets whole : List ℕ) → octets ≡ a ++ b → whole ≡ a ++ (b ++ d) → whole ≡ octets ++ d
joined a b d octets whole is all = all ∙ sym (append_assoc a b d) ∙ ap (λ os. os ++ d) (sym is)

pub begins : (authority : List ℕ) (method : Method) (message : List ℕ) (old mid new : Connection) (octets : List ℕ) (output later after : Output)
    → mid ≡ opened (next_stream old) (framed message) old → octets ≡ opening_octets old.begun ++ frames authority method old → Wrote octets output later → Flushes mid new later after → Begins authority method message old new output after
begins authority method message old mid new octets output later after is all wrote f =
    record {
      went = frames authority method old ++ f.went;
      did = did_then (calling (next_stream old) authority method (framed message) old) (at mid) (at new) [] [] (frames authority method old) f.went (opening_did authority method message old mid is) f.did;
      wrote = wrote_both output later after octets f.went (opening_octets old.begun ++ (frames authority method old ++ f.went)) (joined (opening_octets old.begun) (frames authority method old) f.went octets _ all refl) wrote f.wrote;
      paced = f.paced;
    }

pub begins_unflushed : (authority : List ℕ) (method : Method) (message : List ℕ) (old mid : Connection) (octets : List ℕ) (output later after : Output)
    → mid ≡ opened (next_stream old) (framed message) old → octets ≡ opening_octets old.begun ++ frames authority method old → Wrote octets output later → FlushFails mid later after → BeginsNot fault.WriteFault authority method message old output after
begins_unflushed authority method message old mid octets output later after is all wrote f =
    record {
      went = frames authority method old ++ f.went;
      last = f.last;
      did = did_then (calling (next_stream old) authority method (framed message) old) (at mid) f.last [] [] (frames authority method old) f.went (opening_did authority method message old mid is) f.did;
      wrote = failed_behind output later after octets f.went (opening_octets old.begun ++ (frames authority method old ++ f.went)) (joined (opening_octets old.begun) (frames authority method old) f.went octets _ all refl) wrote f.failed;
      local = tt;
    }

pub begins_unwritten : (authority : List ℕ) (method : Method) (message : List ℕ) (old mid : Connection) (octets : List ℕ) (output later : Output)
    → mid ≡ opened (next_stream old) (framed message) old → octets ≡ opening_octets old.begun ++ frames authority method old → FailedWithin octets output later → BeginsNot fault.WriteFault authority method message old output later
begins_unwritten authority method message old mid octets output later is all failed =
    record {
      went = frames authority method old;
      last = at mid;
      did = opening_did authority method message old mid is;
      wrote = subst (λ (os : List ℕ). FailedWithin os output later) all failed;
      local = tt;
    }

pub begins_without_memory : (authority : List ℕ) (method : Method) (message : List ℕ) (old : Connection) (output : Output) → BeginsNot fault.NoMemory authority method message old output output
begins_without_memory authority method message old output =
    record {
      went = [];
      last = calling (next_stream old) authority method (framed message) old;
      did = did_nothing (calling (next_stream old) authority method (framed message) old);
      wrote = (0, wrote_nothing output output refl);
      local = tt;
    }

pub opened_as : (s t : ℕ) (a b : List ℕ) (old new : Connection) → new ≡ opened s a old → s ≡ t → a ≡ b → new ≡ opened t b old
opened_as s t a b old new is p q = is ∙ ap (λ (n : ℕ). opened n a old) p ∙ ap (λ (os : List ℕ). opened t os old) q

pub octets_as : (authority : List ℕ) (method : Method) (old : Connection) (s : ℕ) (octets : List ℕ) → octets ≡ opening_octets old.begun ++ octets_of (opening_frames old.begun old.owes_update s authority method) → s ≡ next_stream old → octets ≡ opening_octets old.begun ++ frames authority method old
octets_as authority method old s octets is p = is ∙ ap (λ (n : ℕ). opening_octets old.begun ++ octets_of (opening_frames old.begun old.owes_update n authority method)) p
