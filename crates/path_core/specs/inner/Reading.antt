-- What stands at the front of a text, and what follows it. Private functions alone cite these facts.
use Rattle.std.specs.Prelude.{◌≡◌, ℕ, ◌<◌, ◌/◌, ◌%◌, List, [], ◌∷◌, ◌++◌, Bool, true, IsTrue, IsUtf8}
use Rattle.std.specs.declared.cmp.Ordering.{Ordering}
use Rattle.std.specs.Ordering.{is_lt}
use Rattle.std.specs.List.{AllByRecursion, flat_map}
use Rattle.base_kinds.specs.declared.path.Elem.{Elem}
use Rattle.base_lists.specs.Rising.{rises}
use Rattle.base_kinds.specs.Texts.{is_name_octet, is_key_octet, hex_digit, octet_text, escaped, key_part, elem_text}
use Rattle.path_core.specs.declared.escapes.Part.{Part}
use Rattle.path_core.specs.declared.escapes.Part.TheVariants.{Name, Value}
use Rattle.path_core.specs.PathText.{name_cmp, IsKey, IsElem}

-- which octets stand for themselves in a name, of an element or a key, and in a key's value
abbrev pub test_of : Part → ℕ → Bool
test_of Name = is_name_octet
test_of Value = is_key_octet

-- two digits that spell the octet
abbrev pub hex_pair : ℕ → List ℕ
hex_pair octet = hex_digit (octet / 16) ∷ hex_digit (octet % 16) ∷ []

-- no octet's spelling stands at the front
abbrev pub NoOctet : Part → List ℕ → Type 0
NoOctet part text =
    (octet : ℕ) (rest : List ℕ) → octet < 256 → text ≡ octet_text (test_of part) octet ++ rest → ⊥

abbrev pub Lacks : ℕ → List ℕ → Type 0
Lacks octet text = (rest : List ℕ) → text ≡ octet ∷ rest → ⊥

-- nothing, or a text that begins with the octet
abbrev pub BeginsOrEnds : ℕ → List ℕ → Type 0
BeginsOrEnds octet [] = Unit {0}
BeginsOrEnds octet (first ∷ rest) = first ≡ octet

-- the last item, if there is one, comes before this one
abbrev pub ends_below : {A : Type 0} → (A → A → Ordering) → List A → A → Bool
ends_below cmp [] next = true
ends_below cmp (item ∷ []) next = is_lt (cmp item next)
ends_below cmp (item ∷ other ∷ others) next = ends_below cmp (other ∷ others) next

-- the spellings of these octets, as many as there are
pub record AreOctetsAt (part : Part) (text octets rest : List ℕ) : Type 0 where
  pub spelled : text ≡ escaped (test_of part) octets ++ rest
  pub small : AllByRecursion (λ octet. octet < 256) octets
  pub ended : NoOctet part rest

pub record IsTextAt (part : Part) (text octets rest : List ℕ) : Type 0 where
  pub octets_at : AreOctetsAt part text octets rest
  pub utf8 : IsUtf8 octets

-- `[NAME=VALUE]`
pub record IsKeyAt (text : List ℕ) (key : List ℕ × List ℕ) (rest : List ℕ) : Type 0 where
  pub spelled : text ≡ key_part key ++ rest
  pub is_key : IsKey key

-- the keys of an element, as many as there are
pub record AreKeysAt (text : List ℕ) (keys : List (List ℕ × List ℕ)) (rest : List ℕ) : Type 0 where
  pub spelled : text ≡ flat_map key_part keys ++ rest
  pub ended : Lacks 91 rest
  pub each : AllByRecursion IsKey keys
  pub rising : IsTrue (rises name_cmp keys)

-- an element, up to the end or the next `/`
pub record IsElemAt (text : List ℕ) (elem : Elem) (rest : List ℕ) : Type 0 where
  pub spelled : text ≡ elem_text elem ++ rest
  pub ended : BeginsOrEnds 47 rest
  pub is_elem : IsElem elem
