-- Octets that pass a test: names are ASCII, and so UTF-8, and none of their octets is a separator that names lack.
use Rattle.std.proofs.Common.{◌≡◌, ℕ, ◌<◌, List, [], ◌∷◌, Bool, true, false, not, ◌&&◌, eqb, leb, length, refl, sym, ap, ◌∙◌, arith, ⊎_elim, IsUtf8}
use Rattle.std.specs.List.{list_all, All}
use Rattle.std.proofs.lemmas.Str.{IsUtf8-from_ascii}
use Rattle.std.proofs.lemmas.Str.Ascii.{IsAscii-from_all}
use Rattle.std.proofs.lemmas.List.Elements.{All-nil, All-cons}
use Rattle.std.proofs.lemmas.Bool.{and_parts, and_from, not_from_false, or_left, true≢false, false≢true}
use Rattle.std.proofs.lemmas.Bool.Decides.{eqb_tells, nat_tests}
use Rattle.std.specs.Char.{is_ascii_digit}
use Rattle.plain_texts.specs.Names.{begins_name, is_in_name, is_name}
use Rattle.plain_texts.specs.Splits.{lacks}

pub all_in_name : (name : List ℕ) → is_name name ≡ true → list_all is_in_name name ≡ true
all_in_name [] named = absurd (false≢true named)
all_in_name (octet ∷ octets) named =
    let parts = and_parts (begins_name octet && list_all is_in_name octets) (leb (length octets) 63) named in
    let both = and_parts (begins_name octet) (list_all is_in_name octets) parts.0 in
    and_from (is_in_name octet) (list_all is_in_name octets) (or_left _ (eqb octet 45) (or_left _ (eqb octet 46) (or_left (begins_name octet) (is_ascii_digit octet) both.0))) both.1

apart : (p : ℕ → Bool) (separator : ℕ) → p separator ≡ false → (octet : ℕ) → p octet ≡ true → not (eqb octet separator) ≡ true
apart p separator refused octet taken =
    ⊎_elim (λ same. absurd (true≢false (sym taken ∙ ap p same.1 ∙ refused))) (λ other. not_from_false (eqb octet separator) other.0) (eqb_tells octet separator)

pub lacks_by : (p : ℕ → Bool) (separator : ℕ) → p separator ≡ false → (octets : List ℕ) → list_all p octets ≡ true → lacks separator octets ≡ true
lacks_by p separator refused [] all = refl
lacks_by p separator refused (octet ∷ octets) all =
    let parts = and_parts (p octet) (list_all p octets) all in
    and_from (not (eqb octet separator)) (lacks separator octets) (apart p separator refused octet parts.0) (lacks_by p separator refused octets parts.1)

-- an octet that no name has
pub name_lacks : (separator : ℕ) → is_in_name separator ≡ false → (name : List ℕ) → is_name name ≡ true → lacks separator name ≡ true
name_lacks separator refused name named = lacks_by is_in_name separator refused name (all_in_name name named)

pub all_below : (p : ℕ → Bool) → ((octet : ℕ) → p octet ≡ true → octet < 128) → (octets : List ℕ) → list_all p octets ≡ true → All (λ octet. octet < 128) octets
all_below p low [] all = All-nil (λ octet. octet < 128)
all_below p low (octet ∷ octets) all =
    let parts = and_parts (p octet) (list_all p octets) all in
    All-cons (λ x. x < 128) octet octets (low octet parts.0) (all_below p low octets parts.1)

pub in_name_below : (octet : ℕ) → is_in_name octet ≡ true → octet < 128
in_name_below octet h = grind (arith, nat_tests)

-- octets below 128 are UTF-8
pub ascii_is_utf8 : (p : ℕ → Bool) → ((octet : ℕ) → p octet ≡ true → octet < 128) → (octets : List ℕ) → list_all p octets ≡ true → IsUtf8 octets
ascii_is_utf8 p low octets all = IsUtf8-from_ascii octets (IsAscii-from_all octets (all_below p low octets all))

pub name_is_utf8 : (name : List ℕ) → is_name name ≡ true → IsUtf8 name
name_is_utf8 name named = ascii_is_utf8 is_in_name in_name_below name (all_in_name name named)
