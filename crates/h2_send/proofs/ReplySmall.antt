-- Headers of replies are small.
use Rattle.std.proofs.Common.{All, ◌≡◌, ℕ, zero, suc, ◌+◌, ◌-◌, ◌/◌, ◌%◌, ◌^◌, ◌<◌, ◌≤◌, Bool, true, false, List, [], ◌∷◌, ◌++◌, length, Result, Ok, Err, refl, sym, ap, ◌∙◌, subst, arith, nat_lt, append_assoc}
use Rattle.std.specs.Prelude.{OnOk, IfOk, Some, None, Option, codes, decimal, if◌then◌else◌}
use Rattle.std.specs.Fmt.{digits}
use Rattle.std.proofs.Math.Dec.{leb}
use Rattle.std.proofs.lemmas.Bool.{leb-true}
use Rattle.std.proofs.lemmas.Fmt.{length-decimal-le}
use Rattle.std.proofs.lemmas.List.{length-append}
use Rattle.std.proofs.lemmas.List.Concat.{flat_map-append}
use Rattle.base_lists.specs.SevenBits.{groups_of}
use Rattle.base_kinds.specs.declared.refusal.Refusal.{Refusal}
use Rattle.base_kinds.specs.declared.refusal.Refusal.TheVariants.{BadMessage, TooLarge, Compressed, NoMethod, BadPath, NotInSchema, BadValue, NotFound, Unsupported, TrialOpen, NoTrial, WrongId, BadDuration, MixedAction, BadId, TreeInvalid, TreeFull, LogFull, DiskFault, BadSubscribe, NoMemory}
use Rattle.hpack_block.specs.declared.header.Header.{Header}
use Rattle.hpack_block.specs.Integers.{largest_integer}
use Rattle.hpack_block.specs.StaticTable.{static_table, pair}
use Rattle.hpack_block.specs.Written.{block_of, field_of, field_with, name_of, string_of, integer_of, place_of_pair, IsShort}
use Rattle.grpc_core.specs.Replies.{opening_headers, trailers}
use Rattle.grpc_core.proofs.Replies.{short_trailers, short_opening}
use Rattle.h2_frame.specs.declared.frame.Head.{Head}
use Rattle.h2_frame.specs.Frames.{frame_of, head_spelling}
use Rattle.h2_windows.specs.Written.{spelled}
use Rattle.h2_send.specs.Headers.{update_owed, block_with, status_headers}
use Rattle.h2_send.specs.inner.Sizes.{IsSmall}

few : (headers : List Header) → leb (length (block_of headers)) 1000 ≡ true → length (block_of headers) ≤ 1000
few headers is = leb-true (length (block_of headers)) 1000 is

opening_size : leb (length (block_of opening_headers)) 1000 ≡ true
unfolding block_of static_table digits
opening_size = refl

trailers_size : (refusal : Option Refusal) → leb (length (block_of (trailers refusal))) 1000 ≡ true
unfolding block_of static_table digits
trailers_size None = refl
trailers_size (Some BadMessage) = refl
trailers_size (Some TooLarge) = refl
trailers_size (Some Compressed) = refl
trailers_size (Some NoMethod) = refl
trailers_size (Some BadPath) = refl
trailers_size (Some NotInSchema) = refl
trailers_size (Some BadValue) = refl
trailers_size (Some NotFound) = refl
trailers_size (Some Unsupported) = refl
trailers_size (Some TrialOpen) = refl
trailers_size (Some NoTrial) = refl
trailers_size (Some WrongId) = refl
trailers_size (Some BadDuration) = refl
trailers_size (Some MixedAction) = refl
trailers_size (Some BadId) = refl
trailers_size (Some TreeInvalid) = refl
trailers_size (Some TreeFull) = refl
trailers_size (Some LogFull) = refl
trailers_size (Some DiskFault) = refl
trailers_size (Some BadSubscribe) = refl
trailers_size (Some NoMemory) = refl

none_size : leb (length (block_of [])) 1000 ≡ true
unfolding block_of
none_size = refl

pub opening_small : IsSmall opening_headers
opening_small = record { short = short_opening; small = few opening_headers opening_size }

pub trailers_small : (refusal : Option Refusal) → IsSmall (trailers refusal)
trailers_small refusal = record { short = short_trailers refusal; small = few (trailers refusal) (trailers_size refusal) }

pub none_small : IsSmall []
none_small = record { short = (λ k d less. absurd (omega (arith, less))); small = few [] none_size }

-- ---- a status

groups_if : (is : Bool) (k n : ℕ) (others : List ℕ) → length others ≤ k → length (if is then n ∷ [] else n ∷ others) ≤ k + 1
groups_if true k n others less = omega arith
groups_if false k n others less = omega (arith, less)

groups_by : (is : Bool) (k a b : ℕ) (others : List ℕ) → length others ≤ k → length (if is then a ∷ [] else b ∷ others) ≤ k + 1
groups_by true k a b others less = omega arith
groups_by false k a b others less = omega (arith, less)

groups_size : (k n : ℕ) → length (groups_of k n) ≤ k + 1
groups_size zero n = omega arith
groups_size (suc k) n = let less = groups_size k (n / 128) in groups_by (nat_lt n 128) (suc k) n (n % 128 + 128) (groups_of k (n / 128)) (omega (arith, less))

integer_size : (bits mark n : ℕ) → length (integer_of bits mark n) ≤ 6
integer_size bits mark n = groups_by (nat_lt n (2 ^ bits - 1)) 5 (mark + n) (mark + (2 ^ bits - 1)) (groups_of 4 (n - (2 ^ bits - 1))) (groups_size 4 (n - (2 ^ bits - 1)))

field_size : (header : Header) (place : Option ℕ) → length (name_of header.name) ≤ 10 → length header.value ≤ 10 → length (field_with header place) ≤ 100
field_size header None name value =
    let a = length-append (name_of header.name) (string_of header.value) in
    let b = length-append (integer_of 7 0 (length header.value)) header.value in
    let c = integer_size 7 0 (length header.value) in
    omega (arith, a, b, c, name, value)
field_size header (Some place) name value = let c = integer_size 7 128 (place + 1) in omega (arith, c)

name_size : leb (length (name_of (codes ":status"))) 10 ≡ true
unfolding static_table
name_size = refl

decimal_size : (status : ℕ) → status < 2 ^ 16 → length (decimal status) ≤ 5
decimal_size status less = length-decimal-le 5 status (omega arith) (omega (arith, less)) (omega (arith, less))

status_size : (status : ℕ) → status < 2 ^ 16 → length (block_of (status_headers status)) ≤ 1000
unfolding block_of
status_size status less =
    let header = pair (codes ":status") (decimal status) in
    let d = decimal_size status less in
    let f : length (field_of header) ≤ 100 = field_size header (place_of_pair header) (leb-true (length (name_of (codes ":status"))) 10 name_size) (omega (arith, d)) in
    let a = length-append (field_of header) [] in
    omega (arith, f, a)

all_one : (a : Header) → IsShort a → All IsShort (a ∷ [])
all_one a p zero d lt = p
all_one a p (suc k) d lt = absurd (omega (arith, lt))

pub status_small : (status : ℕ) → status < 2 ^ 16 → IsSmall (status_headers status)
status_small status less =
    let d = decimal_size status less in
    record {
      short = all_one (pair (codes ":status") (decimal status)) (record { name = leb-true (length (codes ":status")) largest_integer refl; value = omega (arith, d) });
      small = status_size status less;
    }

-- ---- blocks and frames

update_size : (owes : Bool) → length (update_owed owes) ≤ 1
update_size true = omega arith
update_size false = omega arith

pub block_append : (one other : List Header) → block_of (one ++ other) ≡ block_of one ++ block_of other
unfolding block_of
block_append one other = flat_map-append field_of one other

pub block_size : (owes : Bool) (headers : List Header) → length (block_of headers) ≤ 2000 → length (block_with owes headers) ≤ 2001
block_size owes headers few = let a = length-append (update_owed owes) (block_of headers) in let b = update_size owes in omega (arith, a, b, few)

pub both_few : (one other : List Header) → IsSmall one → IsSmall other → length (block_of (one ++ other)) ≤ 2000
both_few one other first second =
    let e = ap length (block_append one other) in
    let a = length-append (block_of one) (block_of other) in
    let b = first.small in
    let d = second.small in
    omega (arith, e, a, b, d)

pub joined : (owes : Bool) (first second : List Header) (a b d : List ℕ) → a ≡ update_owed owes → b ≡ a ++ block_of first → d ≡ b ++ block_of second → d ≡ block_with owes (first ++ second)
joined owes first second a b d is one two = two ∙ ap (λ os. os ++ block_of second) (one ∙ ap (λ os. os ++ block_of first) is) ∙ append_assoc (update_owed owes) (block_of first) (block_of second) ∙ ap (λ os. update_owed owes ++ os) (sym (block_append first second))

-- a frame is written in two parts
spelled_parts : (head : Head) (payload : List ℕ) → spelled (frame_of head payload) ≡ head_spelling head ++ payload
unfolding spelled
spelled_parts head payload = refl

pub added : {T E : Type 0} (result : Result T E) (a b d : List ℕ) (head : Head) (payload given : List ℕ) → given ≡ payload → b ≡ a ++ head_spelling head → OnOk result (d ≡ b ++ given) → OnOk result (d ≡ a ++ spelled (frame_of head payload))
added (Ok x) a b d head payload given is first second = second ∙ ap (λ os. b ++ os) is ∙ ap (λ os. os ++ payload) first ∙ append_assoc a (head_spelling head) payload ∙ ap (λ os. a ++ os) (sym (spelled_parts head payload))
added (Err e) a b d head payload given is first second = tt

pub small_if : {E : Type 0} (result : Result (List Header) E) (headers : List Header) → IsSmall headers → IfOk result (λ hs. hs ≡ headers) → IfOk result IsSmall
small_if (Ok hs) headers small is = subst IsSmall (sym is) small
small_if (Err e) headers small is = tt
