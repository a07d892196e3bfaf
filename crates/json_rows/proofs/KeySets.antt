-- The order of keys finds the same keys.
use Rattle.std.proofs.Common.{◌≡◌, ℕ, List, [], ◌∷◌, ◌++◌, Bool, true, false, cond, not, ◌&&◌, ◌||◌, refl, sym, ap, ◌∙◌}
use Rattle.std.specs.List.{list_any}
use Rattle.std.specs.Ordering.{is_eq, ordering_then}
use Rattle.std.specs.declared.cmp.Ordering.{Ordering}
use Rattle.std.specs.declared.cmp.Ordering.TheVariants.{Less, Equal, Greater}
use Rattle.std.specs.Cmp.Lexicographic.{slice_cmp}
use Rattle.std.specs.BTreeSet.{BTreeSet, contains}
use Rattle.std.proofs.lemmas.Map.Text.{is_eq-slice_cmp}
use Rattle.std.proofs.lemmas.List.Folds.{list_any-append}
use Rattle.std.proofs.lemmas.Bool.Decides.{same_from_decides}
use Rattle.std.proofs.lemmas.Slice.Eq.{bytes_eq-Decides}
use Rattle.std.specs.Str.{bytes_eq}
use Rattle.base_kinds.specs.Paths.{key_cmp, text_cmp}
use Rattle.json_rows.specs.Entries.{KeyList, same_key, same_keys}
use Rattle.json_rows.specs.inner.Indexes.{IsIndexed}

then_eq : (first second : Ordering) → is_eq (ordering_then first second) ≡ (is_eq first && is_eq second)
then_eq Less second = refl
then_eq Equal second = refl
then_eq Greater second = refl

key_eq : (a b : List ℕ × List ℕ) → is_eq (key_cmp a b) ≡ same_key a b
key_eq a b = then_eq (text_cmp a.0 b.0) (text_cmp a.1 b.1) ∙ rw (is_eq-slice_cmp a.0 b.0, is_eq-slice_cmp a.1 b.1) refl

pub keys_eq : (a b : KeyList) → is_eq (slice_cmp key_cmp a b) ≡ same_keys a b
keys_eq [] [] = refl
keys_eq [] (y ∷ ys) = refl
keys_eq (x ∷ xs) [] = refl
keys_eq (x ∷ xs) (y ∷ ys) = then_eq (key_cmp x y) (slice_cmp key_cmp xs ys) ∙ rw (key_eq x y, keys_eq xs ys) refl

texts_turn : (a b : List ℕ) → bytes_eq a b ≡ bytes_eq b a
texts_turn a b = same_from_decides (bytes_eq a b) (bytes_eq b a) (bytes_eq-Decides a b) (λ e. sym ((bytes_eq-Decides b a).0 e), λ e. (bytes_eq-Decides b a).1 (sym e))

key_turns : (a b : List ℕ × List ℕ) → same_key a b ≡ same_key b a
key_turns a b = ap (λ r. r && bytes_eq a.1 b.1) (texts_turn a.0 b.0) ∙ ap (λ r. bytes_eq b.0 a.0 && r) (texts_turn a.1 b.1)

keys_turn : (a b : KeyList) → same_keys a b ≡ same_keys b a
keys_turn [] [] = refl
keys_turn [] (y ∷ ys) = refl
keys_turn (x ∷ xs) [] = refl
keys_turn (x ∷ xs) (y ∷ ys) = ap (λ r. r && same_keys xs ys) (key_turns x y) ∙ ap (λ r. same_key y x && r) (keys_turn xs ys)

-- what the set says of keys is so of the list
pub said : (index : BTreeSet KeyList) (seen : List KeyList) (keys copied : KeyList) (added : Bool) → copied ≡ keys → IsIndexed index seen → added ≡ not (contains (slice_cmp key_cmp) index copied) → added ≡ not (list_any (same_keys keys) seen)
said index seen keys copied added same is says = says ∙ ap not (ap (contains (slice_cmp key_cmp) index) same ∙ is keys)

last_or : (before same : Bool) → cond same true before ≡ (before || (same || false))
last_or true true = refl
last_or true false = refl
last_or false true = refl
last_or false false = refl

-- a set with one more key has just those of the list with one more
pub indexed_more : (index more : BTreeSet KeyList) (seen : List KeyList) (keys copied : KeyList) → copied ≡ keys → IsIndexed index seen → ((q : KeyList) → contains (slice_cmp key_cmp) more q ≡ cond (is_eq (slice_cmp key_cmp copied q)) true (contains (slice_cmp key_cmp) index q)) → IsIndexed more (seen ++ keys ∷ [])
indexed_more index more seen keys copied same is has q =
    let own : is_eq (slice_cmp key_cmp copied q) ≡ same_keys q keys = keys_eq copied q ∙ keys_turn copied q ∙ ap (same_keys q) same in
    has q
    ∙ ap (λ r. cond r true (contains (slice_cmp key_cmp) index q)) own
    ∙ ap (λ r. cond (same_keys q keys) true r) (is q)
    ∙ last_or (list_any (same_keys q) seen) (same_keys q keys)
    ∙ sym (list_any-append (same_keys q) seen (keys ∷ []))
