-- Values from the last to the first, and the set of those behind.
use Rattle.std.proofs.Common.{◌≡◌, ℕ, zero, suc, ◌+◌, ◌-◌, ◌<◌, ◌≤◌, List, [], ◌∷◌, Bool, true, false, cond, not, ◌||◌, Some, None, length, get_or, drop, refl, ap, sym, ◌∙◌, arith, true≢false}
use Rattle.std.specs.Prelude.{unwrap_or, is_some}
use Rattle.std.specs.List.{list_any}
use Rattle.std.specs.Ordering.{is_eq, ordering_reverse}
use Rattle.std.specs.declared.cmp.Ordering.{Ordering}
use Rattle.std.specs.declared.cmp.Ordering.TheVariants.{Less, Equal, Greater}
use Rattle.std.proofs.lemmas.Bool.{and_right}
use Rattle.std.proofs.lemmas.List.{drop_more}
use Rattle.base_kinds.specs.declared.value.Value.{Value}
use Rattle.base_kinds.specs.declared.value.Value as v
use Rattle.base_kinds.specs.Values.{is_list, same_scalar, all_differ}
use Rattle.value_core.specs.declared.scalar.Scalar.{Scalar}
use Rattle.value_core.specs.declared.scalar.Scalar.TheVariants as scalars
use Rattle.value_core.specs.contracts.scalar.ScalarOrd.TheImpl.{ghosts as order}
use Rattle.value_core.specs.Scalars.{value_of}
use Rattle.value_core.proofs.ScalarOrder.{scalars_total, tied_scalars}

pub made_from : (made value : Value) (listed : Bool) → Some made ≡ cond listed None (Some value) → made ≡ value
made_from made value true is = absurd (true≢false (ap is_some is))
made_from made value false is = ap (λ o. unwrap_or o made) is

pub made_none : (value : Value) (listed : Bool) → None ≡ cond listed None (Some value) → listed ≡ true
made_none value true is = refl
made_none value false is = absurd (true≢false (sym (ap is_some is)))

-- a list is equal to nothing
list_first : (a b : Value) → is_list a ≡ true → same_scalar a b ≡ false
list_first (v.List' n values) (v.Bool b) is = refl
list_first (v.List' n values) (v.Int b) is = refl
list_first (v.List' n values) (v.Uint b) is = refl
list_first (v.List' n values) (v.Dec b places) is = refl
list_first (v.List' n values) (v.Text b) is = refl
list_first (v.List' n values) (v.Bin b) is = refl
list_first (v.List' n values) (v.Enum b) is = refl
list_first (v.List' n values) (v.List' m others) is = refl
list_first (v.Bool a) b is = absurd (true≢false (sym is))
list_first (v.Int a) b is = absurd (true≢false (sym is))
list_first (v.Uint a) b is = absurd (true≢false (sym is))
list_first (v.Dec a places) b is = absurd (true≢false (sym is))
list_first (v.Text a) b is = absurd (true≢false (sym is))
list_first (v.Bin a) b is = absurd (true≢false (sym is))
list_first (v.Enum a) b is = absurd (true≢false (sym is))

list_second : (a : Scalar) (b : Value) → is_list b ≡ true → same_scalar (value_of a) b ≡ false
list_second (scalars.Bool a) (v.List' n values) is = refl
list_second (scalars.Int a) (v.List' n values) is = refl
list_second (scalars.Uint a) (v.List' n values) is = refl
list_second (scalars.Dec a places) (v.List' n values) is = refl
list_second (scalars.Text a) (v.List' n values) is = refl
list_second (scalars.Bin a) (v.List' n values) is = refl
list_second (scalars.Enum a) (v.List' n values) is = refl
list_second a (v.Bool b) is = absurd (true≢false (sym is))
list_second a (v.Int b) is = absurd (true≢false (sym is))
list_second a (v.Uint b) is = absurd (true≢false (sym is))
list_second a (v.Dec b places) is = absurd (true≢false (sym is))
list_second a (v.Text b) is = absurd (true≢false (sym is))
list_second a (v.Bin b) is = absurd (true≢false (sym is))
list_second a (v.Enum b) is = absurd (true≢false (sym is))

none_as_list : (a : Value) (values : List Value) → is_list a ≡ true → list_any (same_scalar a) values ≡ false
none_as_list a [] is = refl
none_as_list a (b ∷ values) is = let here = list_first a b is in let rest = none_as_list a values is in rw (here, rest) refl

-- ---- one value more

pub list_differs : (value : Value) (values : List Value) → is_list value ≡ true → all_differ values ≡ true → all_differ (value ∷ values) ≡ true
list_differs value values is rest = let none = none_as_list value values is in rw (none, rest) refl

pub list_is_no_member : (q : Scalar) (value : Value) (values : List Value) → is_list value ≡ true → list_any (same_scalar (value_of q)) values ≡ list_any (same_scalar (value_of q)) (value ∷ values)
list_is_no_member q value values is = let other = list_second q value is in sym (rw other refl)

turned : (a b : Scalar) → is_eq (order.cmp a b) ≡ is_eq (order.cmp b a)
turned a b = ap is_eq (scalars_total.antisymm a b) ∙ back (order.cmp b a)
  where
    back : (o : Ordering) → is_eq (ordering_reverse o) ≡ is_eq o
    back Less = refl
    back Equal = refl
    back Greater = refl

-- the set's answer after one more scalar
pub one_member_more : (s q : Scalar) (value : Value) (values : List Value) (before after : Bool) → value_of s ≡ value → after ≡ cond (is_eq (order.cmp s q)) true before → before ≡ list_any (same_scalar (value_of q)) values → after ≡ list_any (same_scalar (value_of q)) (value ∷ values)
one_member_more s q value values before after made is rest =
    is
    ∙ ap (λ b. cond (is_eq (order.cmp s q)) true b) rest
    ∙ ap (λ b. cond b true (list_any (same_scalar (value_of q)) values)) (turned s q ∙ tied_scalars q s ∙ ap (same_scalar (value_of q)) made)
    ∙ either (same_scalar (value_of q) value) (list_any (same_scalar (value_of q)) values)
  where
    either : (a b : Bool) → cond a true b ≡ (a || b)
    either true b = refl
    either false b = refl

pub new_differs : (value : Value) (values : List Value) → list_any (same_scalar value) values ≡ false → all_differ values ≡ true → all_differ (value ∷ values) ≡ true
new_differs value values none rest = rw (none, rest) refl

-- ---- in a list of values

pub at_place : (values : List Value) (n : ℕ) (value : Value) → n ≤ length values → 0 < n → value ≡ get_or values (n - 1) value → drop (n - 1) values ≡ value ∷ drop n values
at_place values n value inside some is =
    let next : n - 1 + 1 ≡ n = omega arith in
    drop_more values (n - 1) value (omega arith)
    ∙ ap (λ first. first ∷ drop (n - 1 + 1) values) (sym is)
    ∙ ap (λ k. value ∷ drop k values) next

pub not_behind : (values : List Value) (n : ℕ) → all_differ (drop n values) ≡ false → all_differ values ≡ false
not_behind values zero is = is
not_behind [] (suc n) is = is
not_behind (value ∷ values) (suc n) is = and_right (not (list_any (same_scalar value) values)) (all_differ values) (not_behind values n is)

-- a value that stands behind
pub same_behind : (values : List Value) (n : ℕ) (value : Value) → drop (n - 1) values ≡ value ∷ drop n values → list_any (same_scalar value) (drop n values) ≡ true → false ≡ all_differ values
same_behind values n value here there =
    let twice : all_differ (value ∷ drop n values) ≡ false = rw there refl in
    sym (not_behind values (n - 1) (ap all_differ here ∙ twice))
