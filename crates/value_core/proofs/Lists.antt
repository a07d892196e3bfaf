-- The text of a list of values.
use Rattle.std.proofs.Common.{◌≡◌, ℕ, ◌+◌, ◌<◌, List, [], ◌∷◌, ◌++◌, map, take, get_or, length, refl, sym, ap, ◌∙◌, arith}
use Rattle.std.proofs.lemmas.List.{append_assoc, length-map, length-take-le, map_push, take_more}
use Rattle.base_kinds.specs.declared.value.Value.{Value}
use Rattle.base_kinds.specs.declared.value.Value as v
use Rattle.base_kinds.specs.declared.value.Value.TheVariants as values
use Rattle.base_kinds.specs.Texts.{value_text, value_texts, comma_separated}
use Rattle.value_core.specs.inner.ValueTexts.{separator}

abbrev texts_in : Value → List (List ℕ)
texts_in (v.List' n rows) = value_texts rows
texts_in _ = []

texts_in-List : (vs : List Value) → texts_in (values.List vs) ≡ map value_text vs
unfolding Rattle.base_kinds.specs.declared.value.Value.TheBlock.hidden-the_row-Value-0 denote.Hole.Carrier.hidden
texts_in-List [] = refl
texts_in-List (x ∷ xs) = ap (λ rest. value_text x ∷ rest) (texts_in-List xs)

text_of_texts : (vs : List Value) → value_text (values.List vs) ≡ 91 ∷ (comma_separated (texts_in (values.List vs)) ++ 93 ∷ [])
unfolding Rattle.base_kinds.specs.declared.value.Value.TheBlock.hidden-the_row-Value-0 denote.Hole.Carrier.hidden
text_of_texts vs = refl

pub value_text-List : (vs : List Value) → value_text (values.List vs) ≡ 91 ∷ (comma_separated (map value_text vs) ++ 93 ∷ [])
value_text-List vs = text_of_texts vs ∙ ap (λ texts. 91 ∷ (comma_separated texts ++ 93 ∷ [])) (texts_in-List vs)

pub ruleset of_a_list = (value_text-List)

comma_push : (texts : List (List ℕ)) (last : List ℕ) → comma_separated (texts ++ last ∷ []) ≡ comma_separated texts ++ (separator (length texts) ++ last)
comma_push [] last = refl
comma_push (text ∷ []) last = refl
comma_push (text ∷ other ∷ others) last =
    ap (λ r. text ++ (44 ∷ r)) (comma_push (other ∷ others) last)
    ∙ sym (append_assoc text (44 ∷ comma_separated (other ∷ others)) (44 ∷ last))

-- one more value
pub values_more : (values : List Value) (i : ℕ) (value : Value) (old out parted next : List ℕ) → i < length values → value ≡ get_or values i value → out ≡ old ++ comma_separated (map value_text (take i values)) → parted ≡ out ++ separator i → next ≡ parted ++ value_text value → next ≡ old ++ comma_separated (map value_text (take (i + 1) values))
values_more values i value old out parted next within is so_far one two =
    let texts = map value_text (take i values) in
    let count : length texts ≡ i = length-map (take i values) value_text ∙ length-take-le i values (omega arith) in
    let more : map value_text (take (i + 1) values) ≡ texts ++ value_text value ∷ [] =
    ap (map value_text) (take_more values i value within ∙ ap (λ w. take i values ++ w ∷ []) (sym is)) ∙ map_push value_text (take i values) value in
    two ∙ ap (λ r. r ++ value_text value) (one ∙ ap (λ r. r ++ separator i) so_far)
    ∙ append_assoc (old ++ comma_separated texts) (separator i) (value_text value)
    ∙ append_assoc old (comma_separated texts) (separator i ++ value_text value)
    ∙ ap (λ n. old ++ (comma_separated texts ++ (separator n ++ value_text value))) (sym count)
    ∙ ap (λ r. old ++ r) (sym (comma_push texts (value_text value)))
    ∙ ap (λ r. old ++ comma_separated r) (sym more)
