-- Values that differ, and one more behind them.
use Rattle.std.proofs.Common.{◌≡◌, ℕ, List, [], ◌∷◌, ◌++◌, Bool, true, false, not, ◌&&◌, ◌||◌, refl, ap, sym, ◌∙◌}
use Rattle.std.specs.Prelude.{◌==◌}
use Rattle.std.specs.Bool.{beq, Decides}
use Rattle.std.specs.List.{list_any}
use Rattle.std.specs.Ordering.{int_eq}
use Rattle.std.specs.Str.{bytes_eq}
use Rattle.std.specs.Cmp.{booleans_Decides}
use Rattle.std.proofs.lemmas.Bool.Decides.{Decides-int_eq, Decides-eqb, same_from_decides}
use Rattle.std.proofs.lemmas.List.Folds.{list_any-append}
use Rattle.std.proofs.lemmas.Slice.Eq.{bytes_eq-Decides}
use Rattle.base_kinds.specs.declared.value.Value.{Value}
use Rattle.base_kinds.specs.declared.value.Value as v
use Rattle.base_kinds.specs.Values.{same_scalar, all_differ}

test_turns : {A : Type 0} (test : A → A → Bool) → ((x y : A) → Decides (test x y) (x ≡ y)) → (a b : A) → test a b ≡ test b a
test_turns test decides a b = same_from_decides (test a b) (test b a) (decides a b) (λ e. sym ((decides b a).0 e), λ e. (decides b a).1 (sym e))

scalar_turns : (a b : Value) → same_scalar a b ≡ same_scalar b a
scalar_turns (v.Bool a) (v.Bool b) = test_turns beq booleans_Decides a b
scalar_turns (v.Int a) (v.Int b) = test_turns int_eq Decides-int_eq a b
scalar_turns (v.Uint a) (v.Uint b) = test_turns (λ (x : ℕ) y. x == y) Decides-eqb a b
scalar_turns (v.Dec a p) (v.Dec b q) =
    ap (λ is. is && p == q) (test_turns int_eq Decides-int_eq a b) ∙ ap (λ is. int_eq b a && is) (test_turns (λ (x : ℕ) y. x == y) Decides-eqb p q)
scalar_turns (v.Text a) (v.Text b) = test_turns bytes_eq bytes_eq-Decides a b
scalar_turns (v.Bin a) (v.Bin b) = test_turns bytes_eq bytes_eq-Decides a b
scalar_turns (v.Enum a) (v.Enum b) = test_turns bytes_eq bytes_eq-Decides a b
scalar_turns (v.List' n values) (v.Bool b) = refl
scalar_turns (v.List' n values) (v.Int b) = refl
scalar_turns (v.List' n values) (v.Uint b) = refl
scalar_turns (v.List' n values) (v.Dec b q) = refl
scalar_turns (v.List' n values) (v.Text b) = refl
scalar_turns (v.List' n values) (v.Bin b) = refl
scalar_turns (v.List' n values) (v.Enum b) = refl
scalar_turns (v.List' n values) (v.List' m others) = refl
scalar_turns _ _ = refl

shifted : (any same differ other : Bool) → (not (any || (same || false)) && (differ && not other)) ≡ ((not any && differ) && not (same || other))
shifted true same differ other = refl
shifted false true true other = refl
shifted false true false other = refl
shifted false false true other = refl
shifted false false false other = refl

-- where the one more is equal to none of them
pub differ_more : (done : List Value) (value : Value) → all_differ (done ++ value ∷ []) ≡ (all_differ done && not (list_any (same_scalar value) done))
differ_more [] value = refl
differ_more (first ∷ done) value =
    let behind = differ_more done value in
    ap (λ any. not any && all_differ (done ++ value ∷ [])) (list_any-append (same_scalar first) done (value ∷ []))
    ∙ ap (λ more. not (list_any (same_scalar first) done || (same_scalar first value || false)) && more) behind
    ∙ shifted (list_any (same_scalar first) done) (same_scalar first value) (all_differ done) (list_any (same_scalar value) done)
    ∙ ap (λ same. (not (list_any (same_scalar first) done) && all_differ done) && not (same || list_any (same_scalar value) done)) (scalar_turns first value)
