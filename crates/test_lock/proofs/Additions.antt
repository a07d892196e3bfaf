-- An entry more at the end of a list, or none.
use Rattle.std.proofs.Common.{◌≡◌, ℕ, Bool, true, false, List, [], ◌∷◌, ◌++◌, sym, ap, ◌∙◌, subst, inl, MatchBool}
use Rattle.std.proofs.lemmas.List.{append-nil}
use Rattle.std.proofs.Math.Seq.{drop-append_seam}
use mathlib.Core.List.{IsPrefix}
use Rattle.turn_lock.specs.Chronicles.{entries_past, AreBy}
use Rattle.turn_lock.proofs.Prefixes.{prefix_self}

pub extends : {E : Type 0} (author : E → ℕ) (seen new : List E) (e : E) (n : ℕ) (b : Bool) → author e ≡ n
    → MatchBool b (new ≡ seen ++ e ∷ []) (new ≡ seen) → IsPrefix seen new × AreBy author n (entries_past seen new)
extends {E} author seen new e n true is h =
    ((e ∷ [], sym h), subst (λ (l : List E). AreBy author n l) (sym (ap (entries_past seen) h ∙ drop-append_seam seen (e ∷ []))) (inl is, tt))
extends {E} author seen new e n false is h = (
  subst (IsPrefix seen) (sym h) (prefix_self seen),
  subst (λ (l : List E). AreBy author n l) (sym (ap (entries_past seen) (h ∙ sym (append-nil seen)) ∙ drop-append_seam seen [])) tt,
)
