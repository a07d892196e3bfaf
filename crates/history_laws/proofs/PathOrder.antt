-- Paths are in a total order, which tells all of them apart.
use Rattle.std.proofs.Common.{◌≡◌, ◌↔◌, ℕ, List, [], ◌∷◌, refl, sym, ap, ◌∙◌, true≢false}
use Rattle.std.specs.Cmp.{IsTotalOrder}
use Rattle.std.specs.Cmp.Lexicographic.{slice_cmp}
use Rattle.std.specs.Ordering.{ordering_then, is_lt, is_gt}
use Rattle.std.specs.declared.cmp.Ordering.{Ordering}
use Rattle.std.specs.declared.cmp.Ordering.TheVariants.{Less, Equal, Greater}
use Rattle.std.proofs.lemmas.Cmp.{nat_list_cmp_total, lists_total, then_total, on_total, tied_itself}
use Rattle.std.proofs.lemmas.Map.Lookups.{CmpEqualImpliesEq, exact_bytes, exact_pairs}
use Rattle.base_kinds.specs.declared.path.Elem.{Elem}
use Rattle.base_kinds.specs.Paths.{text_cmp, key_cmp, elem_cmp, path_cmp}

pub key_total : IsTotalOrder key_cmp
key_total = then_total (on_total (λ (key : List ℕ × List ℕ). key.0) nat_list_cmp_total) (on_total (λ (key : List ℕ × List ℕ). key.1) nat_list_cmp_total)

pub elem_total : IsTotalOrder elem_cmp
elem_total = then_total (on_total (λ (elem : Elem). elem.name) nat_list_cmp_total) (on_total (λ (elem : Elem). elem.keys) (lists_total key_total))

pub path_total : IsTotalOrder path_cmp
path_total = lists_total elem_total

-- the first of two decides, and then the second
both_equal : (first second : Ordering) → ordering_then first second ≡ Equal → (first ≡ Equal) × (second ≡ Equal)
both_equal Less second is = absurd (true≢false (ap is_lt is))
both_equal Equal second is = (refl, is)
both_equal Greater second is = absurd (true≢false (ap is_gt is))

-- lists are equal where each two items are
pub exact_lists : {K : Type 0} (cmp : K → K → Ordering) → CmpEqualImpliesEq cmp → CmpEqualImpliesEq (slice_cmp cmp)
exact_lists cmp exact [] [] is = refl
exact_lists cmp exact [] (y ∷ ys) is = absurd (true≢false (ap is_lt is))
exact_lists cmp exact (x ∷ xs) [] is = absurd (true≢false (ap is_gt is))
exact_lists cmp exact (x ∷ xs) (y ∷ ys) is =
    let both = both_equal (cmp x y) (slice_cmp cmp xs ys) is in
    let first : x ≡ y = exact x y both.0 in
    let others : xs ≡ ys = exact_lists cmp exact xs ys both.1 in
    λ i. first i ∷ others i

pub exact_keys : CmpEqualImpliesEq key_cmp
exact_keys = exact_pairs text_cmp text_cmp exact_bytes exact_bytes

pub exact_elems : CmpEqualImpliesEq elem_cmp
exact_elems a b is =
    let both = both_equal (text_cmp a.name b.name) (slice_cmp key_cmp a.keys b.keys) is in
    let name : a.name ≡ b.name = exact_bytes a.name b.name both.0 in
    let keys : a.keys ≡ b.keys = exact_lists key_cmp exact_keys a.keys b.keys both.1 in
    λ i. record { name = name i; keys = keys i }

-- paths that the order calls equal are equal
pub exact_paths : CmpEqualImpliesEq path_cmp
exact_paths = exact_lists elem_cmp exact_elems

pub tells_paths_apart : (a b : List Elem) → (path_cmp a b ≡ Equal) ↔ (a ≡ b)
tells_paths_apart a b = (exact_paths a b, λ same. sym (ap (path_cmp a) same) ∙ tied_itself path_total a)
