-- The keys of an element in a path's text.
use Rattle.std.proofs.Common.{◌≡◌, ℕ, ◌+◌, ◌-◌, suc, zero, List, [], ◌∷◌, ◌++◌, true, false, length, Some, None, Ordering, refl, sym, ap, ◌∙◌, arith, append_assoc}
use Rattle.std.specs.List.{flat_map, AllByRecursion, slice_get}
use Rattle.std.specs.Ordering.{is_lt}
use Rattle.std.proofs.lemmas.Bool.{true≢false, and_parts, and_from}
use Rattle.base_lists.specs.Rising.{rises}
use Rattle.base_kinds.specs.Texts.{escaped, key_part, is_name_octet, is_key_octet}
use Rattle.path_core.specs.declared.escapes.Part.TheVariants.{Name, Value}
use Rattle.path_core.specs.PathText.{name_cmp, IsKey}
use Rattle.path_core.specs.inner.Reading.{NoOctet, Lacks, ends_below, IsTextAt, IsKeyAt, AreKeysAt}
use Rattle.path_core.proofs.Runs.{IsCode, Ended, run_left, same_runs}
use Rattle.path_core.proofs.Spellings.{Anything, same_text_at, small_text, no_octet}

abbrev Key : Type 0
Key = List ℕ × List ℕ

-- ---- one key

tail_is : (c d : ℕ) (r s : List ℕ) → c ∷ r ≡ d ∷ s → r ≡ s
tail_is c d r s e = cc

-- what follows the name, and what follows the value
abbrev from_value : Key → List ℕ → List ℕ
from_value key rest = escaped is_key_octet key.1 ++ 93 ∷ rest

regrouped : (key : Key) (rest : List ℕ) → key_part key ++ rest ≡ 91 ∷ (escaped is_name_octet key.0 ++ 61 ∷ from_value key rest)
regrouped key rest =
    ap (λ t. 91 ∷ t) (append_assoc (escaped is_name_octet key.0) (61 ∷ (escaped is_key_octet key.1 ++ 93 ∷ [])) rest ∙ ap (λ t. escaped is_name_octet key.0 ++ 61 ∷ t) (append_assoc (escaped is_key_octet key.1) (93 ∷ []) rest))

before_value : (rest : List ℕ) → NoOctet Name (61 ∷ rest)
before_value rest = no_octet Name 61 rest refl (λ e. absurd (omega arith))

before_end : (rest : List ℕ) → NoOctet Value (93 ∷ rest)
before_end rest = no_octet Value 93 rest refl (λ e. absurd (omega arith))

-- a key's name and value, where a key is spelled
name_at : (begun : List ℕ) (key : Key) (rest : List ℕ) → 91 ∷ begun ≡ key_part key ++ rest → IsKey key → IsTextAt Name begun key.0 (61 ∷ from_value key rest)
name_at begun key rest spelled is_key = record {
  octets_at = record { spelled = tail_is 91 91 begun (escaped is_name_octet key.0 ++ 61 ∷ from_value key rest) (spelled ∙ regrouped key rest); small = small_text key.0 is_key.0; ended = before_value (from_value key rest) };
  utf8 = is_key.0;
}

value_at : (key : Key) (rest : List ℕ) → IsKey key → IsTextAt Value (from_value key rest) key.1 (93 ∷ rest)
value_at key rest is_key = record { octets_at = record { spelled = refl; small = small_text key.1 is_key.1; ended = before_end rest }; utf8 = is_key.1 }

pub key_name : (begun : List ℕ) (key : Key) (rest : List ℕ) → IsKeyAt (91 ∷ begun) key rest → IsTextAt Name begun key.0 (61 ∷ from_value key rest)
key_name begun key rest at = name_at begun key rest at.spelled at.is_key

-- what follows the name that was read is the key's value
pub key_named : (begun name named : List ℕ) → IsTextAt Name begun name named → (key : Key) (rest : List ℕ) → IsKeyAt (91 ∷ begun) key rest → named ≡ 61 ∷ from_value key rest
key_named begun name named read key rest at = (same_text_at Name begun name key.0 named (61 ∷ from_value key rest) read (key_name begun key rest at)).1

pub key_value : (begun name named given : List ℕ) → IsTextAt Name begun name named → named ≡ 61 ∷ given → (key : Key) (rest : List ℕ) → IsKeyAt (91 ∷ begun) key rest → IsTextAt Value given key.1 (93 ∷ rest)
key_value begun name named given read is key rest at =
    let same : from_value key rest ≡ given = tail_is 61 61 (from_value key rest) given (sym (key_named begun name named read key rest at) ∙ is) in
    rw (← same) (value_at key rest at.is_key)

pub key_made : (begun name named given value ended rest : List ℕ) → IsTextAt Name begun name named → named ≡ 61 ∷ given → IsTextAt Value given value ended → ended ≡ 93 ∷ rest → IsKeyAt (91 ∷ begun) (name, value) rest
key_made begun name named given value ended rest read is read' is' = record {
  spelled = ap (λ t. 91 ∷ t) (read.octets_at.spelled ∙ ap (λ t. escaped is_name_octet name ++ t) (is ∙ ap (λ t. 61 ∷ t) (read'.octets_at.spelled ∙ ap (λ t. escaped is_key_octet value ++ t) is'))) ∙ sym (regrouped (name, value) rest);
  is_key = (read.utf8, read'.utf8);
}

-- ---- keys one after another

same_key : (x y : Key) (r s : List ℕ) → IsKey x → IsKey y → key_part x ++ r ≡ key_part y ++ s → (x ≡ y) × (r ≡ s)
same_key x y r s ok ok' e =
    let begun : List ℕ = escaped is_name_octet x.0 ++ 61 ∷ from_value x r in
    let at = name_at begun x r (sym (regrouped x r)) ok in
    let at' = name_at begun y s (sym (regrouped x r) ∙ e) ok' in
    let names = same_text_at Name begun x.0 y.0 (61 ∷ from_value x r) (61 ∷ from_value y s) at at' in
    let values : from_value x r ≡ from_value y s = tail_is 61 61 (from_value x r) (from_value y s) names.1 in
    let other : IsTextAt Value (from_value x r) y.1 (93 ∷ s) = rw values (value_at y s ok') in
    let ends = same_text_at Value (from_value x r) x.1 y.1 (93 ∷ r) (93 ∷ s) (value_at x r ok) other in
    let same : x ≡ (y.0, x.1) = ap (λ (n : List ℕ). (n, x.1)) names.0 in
    (same ∙ ap (λ (v : List ℕ). (y.0, v)) ends.0, tail_is 93 93 r s ends.1)

pub key_code : IsCode key_part IsKey Anything
key_code = record { one = λ x y r s ok ok' good good' e. same_key x y r s ok ok' e; good = λ x r ok good. tt }

pub ended_keys : (rest : List ℕ) → Lacks 91 rest → Ended key_part IsKey rest
ended_keys rest lacks key after ok e = lacks (escaped is_name_octet key.0 ++ 61 ∷ from_value key after) (e ∙ regrouped key after)

pub same_keys_at : (text : List ℕ) (keys keys' : List Key) (rest rest' : List ℕ) → AreKeysAt text keys rest → AreKeysAt text keys' rest' → (keys ≡ keys') × (rest ≡ rest')
same_keys_at text keys keys' rest rest' at at' =
    same_runs key_part IsKey Anything key_code keys keys' rest rest' at.each at'.each tt tt (ended_keys rest at.ended) (ended_keys rest' at'.ended) (sym at.spelled ∙ at'.spelled)

-- ---- keys that rise

pub rises_more : {A : Type 0} (cmp : A → A → Ordering) (items : List A) (next : A) → rises cmp items ≡ true → ends_below cmp items next ≡ true → rises cmp (items ++ next ∷ []) ≡ true
rises_more cmp [] next rising below = refl
rises_more cmp (item ∷ []) next rising below = and_from (is_lt (cmp item next)) true below refl
rises_more cmp (item ∷ other ∷ others) next rising below =
    let parts = and_parts (is_lt (cmp item other)) (rises cmp (other ∷ others)) rising in
    and_from (is_lt (cmp item other)) (rises cmp (other ∷ (others ++ next ∷ []))) parts.0 (rises_more cmp (other ∷ others) next parts.1 below)

below_next : {A : Type 0} (cmp : A → A → Ordering) (items : List A) (next : A) (others : List A) → rises cmp (items ++ next ∷ others) ≡ true → ends_below cmp items next ≡ true
below_next cmp [] next others rising = refl
below_next cmp (item ∷ []) next others rising = (and_parts (is_lt (cmp item next)) (rises cmp (next ∷ others)) rising).0
below_next cmp (item ∷ other ∷ items) next others rising =
    below_next cmp (other ∷ items) next others (and_parts (is_lt (cmp item other)) (rises cmp (other ∷ (items ++ next ∷ others))) rising).1

nothing_there : {A : Type 0} (x : A) → None ≡ Some x → ⊥
nothing_there x e = cc

something_is : {A : Type 0} (x y : A) → Some x ≡ Some y → x ≡ y
something_is x y e = cc

pub ends_below_last : {A : Type 0} (cmp : A → A → Ordering) (items : List A) (n : ℕ) (last next : A) → n + 1 ≡ length items → slice_get items n ≡ Some last → is_lt (cmp last next) ≡ ends_below cmp items next
ends_below_last cmp [] n last next at is = absurd (nothing_there last is)
ends_below_last cmp (item ∷ []) zero last next at is = ap (λ x. is_lt (cmp x next)) (sym (something_is item last is))
ends_below_last cmp (item ∷ []) (suc n) last next at is = absurd (omega arith)
ends_below_last cmp (item ∷ other ∷ others) zero last next at is = absurd (omega arith)
ends_below_last cmp (item ∷ other ∷ others) (suc n) last next at is = ends_below_last cmp (other ∷ others) n last next (omega arith) is

pub below_last : {A : Type 0} (cmp : A → A → Ordering) (items : List A) (last next : A) → slice_get items (length items - 1) ≡ Some last → is_lt (cmp last next) ≡ ends_below cmp items next
below_last cmp [] last next is = absurd (nothing_there last is)
below_last cmp (item ∷ items) last next is = ends_below_last cmp (item ∷ items) (length (item ∷ items) - 1) last next (omega arith) is

-- ---- what is left, where keys were read up to a `[`

-- a key is spelled there, and rises above the keys before
pub record NextKey (keys : List Key) (begun : List ℕ) : Type 0 where
  pub key : Key
  pub after : List ℕ
  pub at : IsKeyAt (91 ∷ begun) key after
  pub above : ends_below name_cmp keys key ≡ true

next_key : (text : List ℕ) (keys : List Key) (rest begun : List ℕ) → text ≡ flat_map key_part keys ++ rest → AllByRecursion IsKey keys → rest ≡ 91 ∷ begun → (keys' : List Key) (rest' : List ℕ) → AreKeysAt text keys' rest' → NextKey keys begun
next_key text keys rest begun spelled each is keys' rest' at =
    let left = run_left key_part IsKey Anything key_code keys keys' rest rest' each at.each tt tt (ended_keys rest' at.ended) (sym spelled ∙ at.spelled) in
    first left.others left.whole left.each left.rest
  where
    first : (others : List Key) → keys' ≡ keys ++ others → AllByRecursion IsKey others → rest ≡ flat_map key_part others ++ rest' → NextKey keys begun
    first [] whole each' e = absurd (at.ended begun (sym e ∙ is))
    first (key ∷ others) whole each' e = record {
      key = key;
      after = flat_map key_part others ++ rest';
      at = record { spelled = sym is ∙ e ∙ append_assoc (key_part key) (flat_map key_part others) rest'; is_key = each'.0 };
      above = below_next name_cmp keys key others (rw (← whole) at.rising);
    }

pub no_key_left : (text : List ℕ) (keys : List Key) (rest begun : List ℕ) → text ≡ flat_map key_part keys ++ rest → AllByRecursion IsKey keys → rest ≡ 91 ∷ begun → ((key : Key) (after : List ℕ) → IsKeyAt (91 ∷ begun) key after → ⊥) → (keys' : List Key) (rest' : List ℕ) → AreKeysAt text keys' rest' → ⊥
no_key_left text keys rest begun spelled each is refused keys' rest' at =
    let next = next_key text keys rest begun spelled each is keys' rest' at in
    refused next.key next.after next.at

-- the key that was read is that one, and must rise
pub key_out_of_order : (text : List ℕ) (keys : List Key) (rest begun : List ℕ) (key : Key) (after : List ℕ) → text ≡ flat_map key_part keys ++ rest → AllByRecursion IsKey keys → rest ≡ 91 ∷ begun → IsKeyAt (91 ∷ begun) key after → ends_below name_cmp keys key ≡ false → (keys' : List Key) (rest' : List ℕ) → AreKeysAt text keys' rest' → ⊥
key_out_of_order text keys rest begun key after spelled each is read refused keys' rest' at =
    let next = next_key text keys rest begun spelled each is keys' rest' at in
    let same = same_key key next.key after next.after read.is_key next.at.is_key (sym read.spelled ∙ next.at.spelled) in
    true≢false (sym next.above ∙ ap (λ (k : Key). ends_below name_cmp keys k) (sym same.0) ∙ refused)
