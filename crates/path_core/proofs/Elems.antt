-- The elements of a path in its text.
use Rattle.std.proofs.Common.{◌≡◌, ◌≢◌, ℕ, ◌<◌, List, [], ◌∷◌, ◌++◌, length, refl, sym, ap, ◌∙◌, arith, append_assoc, append-nil}
use Rattle.std.specs.List.{flat_map, AllByRecursion}
use Rattle.base_kinds.specs.declared.path.Elem.{Elem}
use Rattle.base_kinds.specs.Texts.{octet_text, escaped, key_part, elem_text, is_name_octet, is_key_octet}
use Rattle.path_core.specs.declared.escapes.Part.TheVariants.{Name}
use Rattle.path_core.specs.PathText.{IsElem, AreElems, IsPathText}
use Rattle.path_core.specs.inner.Reading.{NoOctet, Lacks, BeginsOrEnds, IsTextAt, AreKeysAt, IsElemAt}
use Rattle.path_core.proofs.Runs.{IsCode, Ended, run_left, same_runs}
use Rattle.path_core.proofs.Spellings.{same_text_at, no_octet, no_octet_in_nothing, small_text}
use Rattle.path_core.proofs.Keys.{same_keys_at}

tail_is : (c d : ℕ) (r s : List ℕ) → c ∷ r ≡ d ∷ s → r ≡ s
tail_is c d r s e = cc

nothing_begins : (c : ℕ) (rest : List ℕ) → [] ≡ c ∷ rest → ⊥
nothing_begins c rest e = cc

-- ---- one element

-- what follows the name
abbrev from_keys : Elem → List ℕ → List ℕ
from_keys elem rest = flat_map key_part elem.keys ++ rest

regrouped : (elem : Elem) (rest : List ℕ) → elem_text elem ++ rest ≡ 47 ∷ (escaped is_name_octet elem.name ++ from_keys elem rest)
regrouped elem rest = ap (λ t. 47 ∷ t) (append_assoc (escaped is_name_octet elem.name) (flat_map key_part elem.keys) rest)

before_more : (rest : List ℕ) → BeginsOrEnds 47 rest → NoOctet Name rest
before_more [] good = no_octet_in_nothing Name
before_more (c ∷ rest) good = no_octet Name c rest (rw good refl) (λ e. absurd (omega (arith, good)))

before_keys : (keys : List (List ℕ × List ℕ)) (rest : List ℕ) → BeginsOrEnds 47 rest → NoOctet Name (flat_map key_part keys ++ rest)
before_keys [] rest good = before_more rest good
before_keys (key ∷ keys) rest good =
    no_octet Name 91 (((escaped is_name_octet key.0 ++ 61 ∷ (escaped is_key_octet key.1 ++ 93 ∷ [])) ++ flat_map key_part keys) ++ rest) refl (λ e. absurd (omega arith))

lacks_key : (rest : List ℕ) → BeginsOrEnds 47 rest → Lacks 91 rest
lacks_key [] good after e = nothing_begins 91 after e
lacks_key (c ∷ rest) good after e = let h : c ≡ 91 = cc in absurd (omega (arith, good))

name_at : (begun : List ℕ) (elem : Elem) (rest : List ℕ) → 47 ∷ begun ≡ elem_text elem ++ rest → BeginsOrEnds 47 rest → IsElem elem → IsTextAt Name begun elem.name (from_keys elem rest)
name_at begun elem rest spelled good ok = record {
  octets_at = record { spelled = tail_is 47 47 begun (escaped is_name_octet elem.name ++ from_keys elem rest) (spelled ∙ regrouped elem rest); small = small_text elem.name ok.name; ended = before_keys elem.keys rest good };
  utf8 = ok.name;
}

keys_at : (elem : Elem) (rest : List ℕ) → BeginsOrEnds 47 rest → IsElem elem → AreKeysAt (from_keys elem rest) elem.keys rest
keys_at elem rest good ok = record { spelled = refl; ended = lacks_key rest good; each = ok.keys; rising = ok.rising }

pub elem_begins : (text : List ℕ) (elem : Elem) (rest : List ℕ) → IsElemAt text elem rest → text ≡ 47 ∷ (escaped is_name_octet elem.name ++ from_keys elem rest)
elem_begins text elem rest at = at.spelled ∙ regrouped elem rest

pub elem_name : (text begun : List ℕ) → text ≡ 47 ∷ begun → (elem : Elem) (rest : List ℕ) → IsElemAt text elem rest → IsTextAt Name begun elem.name (from_keys elem rest)
elem_name text begun is elem rest at = name_at begun elem rest (sym is ∙ at.spelled) at.ended at.is_elem

pub elem_named : (text begun name named : List ℕ) → text ≡ 47 ∷ begun → IsTextAt Name begun name named → (elem : Elem) (rest : List ℕ) → IsElemAt text elem rest → (name ≡ elem.name) × (named ≡ from_keys elem rest)
elem_named text begun name named is read elem rest at = same_text_at Name begun name elem.name named (from_keys elem rest) read (elem_name text begun is elem rest at)

pub elem_without_name : (text begun name named : List ℕ) → text ≡ 47 ∷ begun → IsTextAt Name begun name named → name ≡ [] → (elem : Elem) (rest : List ℕ) → IsElemAt text elem rest → ⊥
elem_without_name text begun name named is read none elem rest at = at.is_elem.some_name (sym (elem_named text begun name named is read elem rest at).0 ∙ none)

pub elem_keys : (text begun name named : List ℕ) → text ≡ 47 ∷ begun → IsTextAt Name begun name named → (elem : Elem) (rest : List ℕ) → IsElemAt text elem rest → AreKeysAt named elem.keys rest
elem_keys text begun name named is read elem rest at =
    let same = (elem_named text begun name named is read elem rest at).1 in
    rw same (keys_at elem rest at.ended at.is_elem)

pub elem_ended : (text begun name named : List ℕ) (keys : List (List ℕ × List ℕ)) (after : List ℕ) → text ≡ 47 ∷ begun → IsTextAt Name begun name named → AreKeysAt named keys after → (BeginsOrEnds 47 after → ⊥) → (elem : Elem) (rest : List ℕ) → IsElemAt text elem rest → ⊥
elem_ended text begun name named keys after is read read' refused elem rest at =
    let same = (same_keys_at named keys elem.keys after rest read' (elem_keys text begun name named is read elem rest at)).1 in
    refused (rw same at.ended)

pub elem_made : (text begun name named : List ℕ) (keys : List (List ℕ × List ℕ)) (rest : List ℕ) → text ≡ 47 ∷ begun → IsTextAt Name begun name named → name ≢ [] → AreKeysAt named keys rest → BeginsOrEnds 47 rest → IsElemAt text (record { name = name; keys = keys }) rest
elem_made text begun name named keys rest is read some read' good = record {
  spelled = is ∙ ap (λ t. 47 ∷ t) (read.octets_at.spelled ∙ ap (λ t. escaped is_name_octet name ++ t) read'.spelled ∙ sym (append_assoc (escaped is_name_octet name) (flat_map key_part keys) rest));
  ended = good;
  is_elem = record { some_name = some; name = read.utf8; keys = read'.each; rising = read'.rising };
}

-- ---- elements one after another

abbrev pub Goes : List ℕ → Type 0
Goes rest = BeginsOrEnds 47 rest

same_elem : (a b : Elem) → a.name ≡ b.name → a.keys ≡ b.keys → a ≡ b
same_elem a b names keys =
    let named : a ≡ record { name = b.name; keys = a.keys } = ap (λ (n : List ℕ). record a { name = n }) names in
    named ∙ ap (λ (k : List (List ℕ × List ℕ)). record b { keys = k }) keys

one_elem : (x y : Elem) (r s : List ℕ) → IsElem x → IsElem y → Goes r → Goes s → elem_text x ++ r ≡ elem_text y ++ s → (x ≡ y) × (r ≡ s)
one_elem x y r s ok ok' good good' e =
    let begun : List ℕ = escaped is_name_octet x.name ++ from_keys x r in
    let at = name_at begun x r (sym (regrouped x r)) good ok in
    let at' = name_at begun y s (sym (regrouped x r) ∙ e) good' ok' in
    let names = same_text_at Name begun x.name y.name (from_keys x r) (from_keys y s) at at' in
    let other : AreKeysAt (from_keys x r) y.keys s = rw names.1 (keys_at y s good' ok') in
    let keys = same_keys_at (from_keys x r) x.keys y.keys r s (keys_at x r good ok) other in
    (same_elem x y names.0 keys.0, keys.1)

elem_code : IsCode elem_text IsElem Goes
elem_code = record { one = one_elem; good = λ x r ok good. refl }

ended_elems : Ended elem_text IsElem []
ended_elems elem rest ok e = nothing_begins 47 (escaped is_name_octet elem.name ++ from_keys elem rest) (e ∙ regrouped elem rest)

-- ---- paths

pub root_text : (text : List ℕ) → text ≡ 47 ∷ [] → IsPathText text []
root_text text is = record { elems = tt; spelled = is }

pub path_begins : (text : List ℕ) (path : List Elem) → IsPathText text path → (rest : List ℕ) × (text ≡ 47 ∷ rest)
path_begins text [] at = ([], at.spelled)
path_begins text (elem ∷ path) at =
    (escaped is_name_octet elem.name ++ from_keys elem (flat_map elem_text path), at.spelled ∙ regrouped elem (flat_map elem_text path))

pub no_path : (text : List ℕ) → Lacks 47 text → (path : List Elem) → IsPathText text path → ⊥
no_path text lacks path at = let begins = path_begins text path at in lacks begins.0 begins.1

pub no_elem_left : (text : List ℕ) (path : List Elem) (rest : List ℕ) → (text ≡ 47 ∷ [] → ⊥) → text ≡ flat_map elem_text path ++ rest → AreElems path → BeginsOrEnds 47 rest → (length rest ≡ 0 → ⊥) → ((elem : Elem) (after : List ℕ) → IsElemAt rest elem after → ⊥) → (path' : List Elem) → IsPathText text path' → ⊥
no_elem_left text path rest no_root spelled elems good more refused [] at = no_root at.spelled
no_elem_left text path rest no_root spelled elems good more refused (elem' ∷ path') at =
    let whole : flat_map elem_text path ++ rest ≡ flat_map elem_text (elem' ∷ path') ++ [] = sym spelled ∙ at.spelled ∙ sym (append-nil (flat_map elem_text (elem' ∷ path'))) in
    let left = run_left elem_text IsElem Goes elem_code path (elem' ∷ path') rest [] elems at.elems good tt ended_elems whole in
    first left.others left.each left.rest
  where
    goes : (others : List Elem) → BeginsOrEnds 47 (flat_map elem_text others ++ [])
    goes [] = tt
    goes (elem ∷ others) = refl

    first : (others : List Elem) → AllByRecursion IsElem others → rest ≡ flat_map elem_text others ++ [] → ⊥
    first [] each e = more (ap length e)
    first (elem ∷ others) each e = refused elem (flat_map elem_text others ++ []) (record {
      spelled = e ∙ append_assoc (elem_text elem) (flat_map elem_text others) [];
      ended = goes others;
      is_elem = each.0;
    })

some_octet : (octet : ℕ) (octets rest : List ℕ) → octet < 256 → [] ≡ escaped is_name_octet (octet ∷ octets) ++ rest → ⊥
some_octet octet octets rest small e =
    no_octet_in_nothing Name octet (escaped is_name_octet octets ++ rest) small (e ∙ append_assoc (octet_text is_name_octet octet) (escaped is_name_octet octets) rest)

no_bare_root : (elem : Elem) (rest : List ℕ) → IsElem elem → 47 ∷ [] ≡ elem_text elem ++ rest → ⊥
no_bare_root elem rest ok e = named elem.name ok.some_name (small_text elem.name ok.name) (tail_is 47 47 [] (escaped is_name_octet elem.name ++ from_keys elem rest) (e ∙ regrouped elem rest))
  where
    named : (name : List ℕ) → name ≢ [] → AllByRecursion (λ octet. octet < 256) name → [] ≡ escaped is_name_octet name ++ from_keys elem rest → ⊥
    named [] some small spelled = some refl
    named (octet ∷ octets) some small spelled = some_octet octet octets (from_keys elem rest) small.0 spelled

pub one_path : (text : List ℕ) (path other : List Elem) → IsPathText text path → IsPathText text other → path ≡ other
one_path text [] [] at at' = refl
one_path text [] (elem' ∷ other) at at' = absurd (no_bare_root elem' (flat_map elem_text other) at'.elems.0 (sym at.spelled ∙ at'.spelled))
one_path text (elem ∷ path) [] at at' = absurd (no_bare_root elem (flat_map elem_text path) at.elems.0 (sym at'.spelled ∙ at.spelled))
one_path text (elem ∷ path) (elem' ∷ other) at at' =
    let whole : flat_map elem_text (elem ∷ path) ++ [] ≡ flat_map elem_text (elem' ∷ other) ++ [] = ap (λ t. t ++ []) (sym at.spelled ∙ at'.spelled) in
    (same_runs elem_text IsElem Goes elem_code (elem ∷ path) (elem' ∷ other) [] [] at.elems at'.elems tt tt ended_elems ended_elems whole).0

pub only_root : (text : List ℕ) → text ≡ 47 ∷ [] → (other : List Elem) → IsPathText text other → other ≡ []
only_root text is other at = one_path text other [] at (root_text text is)
