-- A key is put in its place.
use Rattle.std.proofs.Common.{◌≡◌, ℕ, suc, ◌+◌, List, [], ◌∷◌, Bool, true, false, cond, not, refl, ap, ◌∙◌, arith}
use Rattle.std.specs.List.{position_or_len, insert}
use Rattle.std.specs.Ordering.{is_gt}
use Rattle.base_kinds.specs.Paths.{text_cmp}
use Rattle.json_rows.specs.Entries.{KeyList, with_key}

abbrev place : List ℕ × List ℕ → KeyList → ℕ
place key keys = position_or_len (λ other. is_gt (text_cmp other.0 key.0)) keys

insert_more : (key other : List ℕ × List ℕ) (n : ℕ) (others : KeyList) → insert (other ∷ others) (1 + n) key ≡ other ∷ insert others n key
insert_more key other n others =
    let up : 1 + n ≡ suc n = omega arith in
    rw up refl

put_at : (key other : List ℕ × List ℕ) (others : KeyList) → (above : Bool) → insert others (place key others) key ≡ with_key key others → insert (other ∷ others) (cond (not above) (1 + place key others) 0) key ≡ cond above (key ∷ other ∷ others) (other ∷ with_key key others)
put_at key other others true e = refl
put_at key other others false e = insert_more key other (place key others) others ∙ ap (λ r. other ∷ r) e

pub put_there : (key : List ℕ × List ℕ) (keys : KeyList) → insert keys (place key keys) key ≡ with_key key keys
put_there key [] = refl
put_there key (other ∷ others) = put_at key other others (is_gt (text_cmp other.0 key.0)) (put_there key others)
