-- What is defined by recursion on a value, at a list of values.
use Rattle.std.proofs.Common.{◌≡◌, ℕ, ◌+◌, List, [], ◌∷◌, sum_by, refl, ap, sym, ◌∙◌, arith}
use Rattle.std.proofs.lemmas.List.Sums.{sum_by-cons}
use Rattle.base_kinds.specs.declared.value.Value.{Value}
use Rattle.base_kinds.specs.declared.value.Value.TheVariants as values
use Rattle.base_kinds.specs.Values.{values_in}
use Rattle.base_kinds.specs.Weights.{value_weight}
use Rattle.base_kinds.specs.Records.{value_octets}

abbrev heavier : Value → ℕ
heavier value = value_weight value + 8

pub values_in-List : (vs : List Value) → values_in (values.List vs) ≡ vs
unfolding Rattle.base_kinds.specs.declared.value.Value.TheBlock.hidden-the_row-Value-0 denote.Hole.Carrier.hidden
values_in-List [] = refl
values_in-List (v ∷ vs) = ap (λ rest. v ∷ rest) (values_in-List vs)

one_weight_more : (first others whole : ℕ) → 8 + others ≡ 8 + whole → 8 + (first + 8 + others) ≡ 8 + (first + 8 + whole)
one_weight_more first others whole e = omega (arith, e)

one_value_more : (first others whole : ℕ) → 5 + others ≡ 5 + whole → 5 + (first + others) ≡ 5 + (first + whole)
one_value_more first others whole e = omega (arith, e)

-- each value of a list has its own weight and 8
pub value_weight-List : (vs : List Value) → value_weight (values.List vs) ≡ 8 + sum_by heavier vs
unfolding Rattle.base_kinds.specs.declared.value.Value.TheBlock.hidden-the_row-Value-0 denote.Hole.Carrier.hidden
value_weight-List [] = refl
value_weight-List (v ∷ vs) = one_weight_more (value_weight v) _ (sum_by heavier vs) (value_weight-List vs) ∙ ap (λ w. 8 + w) (sym (sum_by-cons heavier v vs))

-- a tag, a count, and the values
pub value_octets-List : (vs : List Value) → value_octets (values.List vs) ≡ 5 + sum_by value_octets vs
unfolding Rattle.base_kinds.specs.declared.value.Value.TheBlock.hidden-the_row-Value-0 denote.Hole.Carrier.hidden
value_octets-List [] = refl
value_octets-List (v ∷ vs) = one_value_more (value_octets v) _ (sum_by value_octets vs) (value_octets-List vs) ∙ ap (λ w. 5 + w) (sym (sum_by-cons value_octets v vs))

pub ruleset of_a_list = (value_weight-List, value_octets-List)
