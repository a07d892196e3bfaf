-- Texts of refusals, and what the headers of replies have.
use Rattle.std.proofs.Common.{All, ◌≡◌, ℕ, zero, suc, true, List, [], ◌∷◌, ◌++◌, length, refl, arith}
use Rattle.std.specs.Prelude.{Some, None, Option, codes, decimal}
use Rattle.std.specs.Fmt.{digits}
use Rattle.std.proofs.Math.Dec.{leb}
use Rattle.std.proofs.lemmas.Bool.{leb-true}
use Rattle.hpack_block.specs.declared.header.Header.{Header}
use Rattle.hpack_block.specs.Integers.{largest_integer}
use Rattle.hpack_block.specs.Written.{IsShort}
use Rattle.base_kinds.specs.declared.refusal.Refusal.{Refusal}
use Rattle.base_kinds.specs.declared.refusal.Refusal.TheVariants.{BadMessage, TooLarge, Compressed, NoMethod, BadPath, NotInSchema, BadValue, NotFound, Unsupported, TrialOpen, NoTrial, WrongId, BadDuration, MixedAction, BadId, TreeInvalid, TreeFull, LogFull, DiskFault, BadSubscribe, NoMemory}
use Rattle.base_kinds.specs.Refusals.{code_of, text_of}
use Rattle.grpc_core.specs.Replies.{opening_headers, trailers, percent_encoded}
use Rattle.grpc_core.specs.declared.method.Method.{Method}
use Rattle.grpc_core.specs.declared.method.Method.TheVariants.{Capabilities, Get, Set, Subscribe}
use Rattle.grpc_core.specs.Heads.{path_of, method_at}

pub plain : (refusal : Refusal) → percent_encoded (text_of refusal) ≡ text_of refusal
plain BadMessage = refl
plain TooLarge = refl
plain Compressed = refl
plain NoMethod = refl
plain BadPath = refl
plain NotInSchema = refl
plain BadValue = refl
plain NotFound = refl
plain Unsupported = refl
plain TrialOpen = refl
plain NoTrial = refl
plain WrongId = refl
plain BadDuration = refl
plain MixedAction = refl
plain BadId = refl
plain TreeInvalid = refl
plain TreeFull = refl
plain LogFull = refl
plain DiskFault = refl
plain BadSubscribe = refl
plain NoMemory = refl

pub at_its_path : (method : Method) → method_at (path_of method) ≡ Some method
at_its_path Capabilities = refl
at_its_path Get = refl
at_its_path Set = refl
at_its_path Subscribe = refl

-- ---- what can be written

is_short_text : (refusal : Refusal) → leb (length (percent_encoded (text_of refusal))) largest_integer ≡ true
is_short_text BadMessage = refl
is_short_text TooLarge = refl
is_short_text Compressed = refl
is_short_text NoMethod = refl
is_short_text BadPath = refl
is_short_text NotInSchema = refl
is_short_text BadValue = refl
is_short_text NotFound = refl
is_short_text Unsupported = refl
is_short_text TrialOpen = refl
is_short_text NoTrial = refl
is_short_text WrongId = refl
is_short_text BadDuration = refl
is_short_text MixedAction = refl
is_short_text BadId = refl
is_short_text TreeInvalid = refl
is_short_text TreeFull = refl
is_short_text LogFull = refl
is_short_text DiskFault = refl
is_short_text BadSubscribe = refl
is_short_text NoMemory = refl

is_short_code : (refusal : Refusal) → leb (length (decimal (code_of refusal))) largest_integer ≡ true
unfolding digits
is_short_code BadMessage = refl
is_short_code TooLarge = refl
is_short_code Compressed = refl
is_short_code NoMethod = refl
is_short_code BadPath = refl
is_short_code NotInSchema = refl
is_short_code BadValue = refl
is_short_code NotFound = refl
is_short_code Unsupported = refl
is_short_code TrialOpen = refl
is_short_code NoTrial = refl
is_short_code WrongId = refl
is_short_code BadDuration = refl
is_short_code MixedAction = refl
is_short_code BadId = refl
is_short_code TreeInvalid = refl
is_short_code TreeFull = refl
is_short_code LogFull = refl
is_short_code DiskFault = refl
is_short_code BadSubscribe = refl
is_short_code NoMemory = refl

all_two : (a b : Header) → IsShort a → IsShort b → All IsShort (a ∷ b ∷ [])
all_two a b p q zero d lt = p
all_two a b p q (suc zero) d lt = q
all_two a b p q (suc (suc k)) d lt = absurd (omega (arith, lt))

all_one : (a : Header) → IsShort a → All IsShort (a ∷ [])
all_one a p zero d lt = p
all_one a p (suc k) d lt = absurd (omega (arith, lt))

all_more : (a b : Header) (others : List Header) → IsShort a → IsShort b → All IsShort others → All IsShort (a ∷ b ∷ others)
all_more a b others p q all zero d lt = p
all_more a b others p q all (suc zero) d lt = q
all_more a b others p q all (suc (suc k)) d lt = all k d (omega (arith, lt))

short : (name value : List ℕ) → leb (length name) largest_integer ≡ true → leb (length value) largest_integer ≡ true → IsShort (record { name = name; value = value })
short name value p q = record { name = leb-true (length name) largest_integer p; value = leb-true (length value) largest_integer q }

pub short_trailers : (refusal : Option Refusal) → All IsShort (trailers refusal)
short_trailers None = all_one _ (short (codes "grpc-status") (codes "0") refl refl)
short_trailers (Some refusal) = all_two _ _ (short (codes "grpc-status") (decimal (code_of refusal)) refl (is_short_code refusal)) (short (codes "grpc-message") (percent_encoded (text_of refusal)) refl (is_short_text refusal))

pub short_opening : All IsShort opening_headers
short_opening = all_two _ _ (short (codes ":status") (codes "200") refl refl) (short (codes "content-type") (codes "application/grpc") refl refl)

pub short_both : (refusal : Option Refusal) → All IsShort (opening_headers ++ trailers refusal)
short_both refusal = all_more _ _ (trailers refusal) (short (codes ":status") (codes "200") refl refl) (short (codes "content-type") (codes "application/grpc") refl refl) (short_trailers refusal)
