-- Items that are spelled one after another.
use Rattle.std.proofs.Common.{◌≡◌, ℕ, ◌+◌, ◌<◌, List, [], ◌∷◌, ◌++◌, length, take, drop, get_or, refl, sym, ap, ◌∙◌, append_assoc}
use Rattle.std.specs.List.{flat_map, AllByRecursion}
use Rattle.std.proofs.lemmas.List.{append-nil, take-append-drop, drop_more}
use Rattle.std.proofs.lemmas.List.Concat.{flat_map-append}

-- the end of an item's spelling shows, where something good follows it
pub record IsCode {X : Type 0} (f : X → List ℕ) (Ok : X → Type 0) (Good : List ℕ → Type 0) : Type 0 where
  pub one : (x y : X) (r s : List ℕ) → Ok x → Ok y → Good r → Good s → f x ++ r ≡ f y ++ s → (x ≡ y) × (r ≡ s)
  pub good : (x : X) (r : List ℕ) → Ok x → Good r → Good (f x ++ r)

-- no item is spelled at the front
abbrev pub Ended : {X : Type 0} → (X → List ℕ) → (X → Type 0) → List ℕ → Type 0
Ended {X} f Ok s = (x : X) (rest : List ℕ) → Ok x → s ≡ f x ++ rest → ⊥

-- the second list goes on after the first one with what `r` spells
pub record Left {X : Type 0} (f : X → List ℕ) (Ok : X → Type 0) (xs ys : List X) (r s : List ℕ) : Type 0 where
  pub others : List X
  pub whole : ys ≡ xs ++ others
  pub each : AllByRecursion Ok others
  pub rest : r ≡ flat_map f others ++ s

good_run : {X : Type 0} (f : X → List ℕ) (Ok : X → Type 0) (Good : List ℕ → Type 0) → IsCode f Ok Good → (xs : List X) (r : List ℕ) → AllByRecursion Ok xs → Good r → Good (flat_map f xs ++ r)
good_run f Ok Good code [] r oks good = good
good_run f Ok Good code (x ∷ xs) r oks good =
    rw (append_assoc (f x) (flat_map f xs) r) (code.good x (flat_map f xs ++ r) oks.0 (good_run f Ok Good code xs r oks.1 good))

pub run_left : {X : Type 0} (f : X → List ℕ) (Ok : X → Type 0) (Good : List ℕ → Type 0) → IsCode f Ok Good → (xs ys : List X) (r s : List ℕ) → AllByRecursion Ok xs → AllByRecursion Ok ys → Good r → Good s → Ended f Ok s → flat_map f xs ++ r ≡ flat_map f ys ++ s → Left f Ok xs ys r s
run_left f Ok Good code [] ys r s oks oks' good good' ended e = record { others = ys; whole = refl; each = oks'; rest = e }
run_left f Ok Good code (x ∷ xs) [] r s oks oks' good good' ended e =
    absurd (ended x (flat_map f xs ++ r) oks.0 (sym e ∙ append_assoc (f x) (flat_map f xs) r))
run_left f Ok Good code (x ∷ xs) (y ∷ ys) r s oks oks' good good' ended e =
    let both : f x ++ (flat_map f xs ++ r) ≡ f y ++ (flat_map f ys ++ s) = sym (append_assoc (f x) (flat_map f xs) r) ∙ e ∙ append_assoc (f y) (flat_map f ys) s in
    let parts = code.one x y (flat_map f xs ++ r) (flat_map f ys ++ s) oks.0 oks'.0 (good_run f Ok Good code xs r oks.1 good) (good_run f Ok Good code ys s oks'.1 good') both in
    let left = run_left f Ok Good code xs ys r s oks.1 oks'.1 good good' ended parts.1 in
    record { others = left.others; whole = ap (λ z. z ∷ ys) (sym parts.0) ∙ ap (λ zs. x ∷ zs) left.whole; each = left.each; rest = left.rest }

-- two runs that both end there are the same
pub same_runs : {X : Type 0} (f : X → List ℕ) (Ok : X → Type 0) (Good : List ℕ → Type 0) → IsCode f Ok Good → (xs ys : List X) (r s : List ℕ) → AllByRecursion Ok xs → AllByRecursion Ok ys → Good r → Good s → Ended f Ok r → Ended f Ok s → flat_map f xs ++ r ≡ flat_map f ys ++ s → (xs ≡ ys) × (r ≡ s)
same_runs f Ok Good code xs ys r s oks oks' good good' ended ended' e =
    let left = run_left f Ok Good code xs ys r s oks oks' good good' ended' e in
    none_left left.others left.whole left.each left.rest
  where
    none_left : (others : List _) → ys ≡ xs ++ others → AllByRecursion Ok others → r ≡ flat_map f others ++ s → (xs ≡ ys) × (r ≡ s)
    none_left [] whole each rest = (sym (whole ∙ append-nil xs), rest)
    none_left (x ∷ others) whole each rest = absurd (ended x (flat_map f others ++ s) each.0 (rest ∙ append_assoc (f x) (flat_map f others) s))

-- one more item that was read
pub run_more : {X : Type 0} (f : X → List ℕ) (text : List ℕ) (xs : List X) (rest : List ℕ) (x : X) (others : List ℕ) → text ≡ flat_map f xs ++ rest → rest ≡ f x ++ others → text ≡ flat_map f (xs ++ x ∷ []) ++ others
run_more f text xs rest x others is begun =
    let one : flat_map f (xs ++ x ∷ []) ≡ flat_map f xs ++ f x = flat_map-append f xs (x ∷ []) ∙ ap (λ t. flat_map f xs ++ t) (append-nil (f x)) in
    is ∙ ap (λ t. flat_map f xs ++ t) begun ∙ sym (append_assoc (flat_map f xs) (f x) others) ∙ ap (λ t. t ++ others) (sym one)

pub all_more : {X : Type 0} (Ok : X → Type 0) (xs : List X) (x : X) → AllByRecursion Ok xs → Ok x → AllByRecursion Ok (xs ++ x ∷ [])
all_more Ok [] x oks ok = (ok, tt)
all_more Ok (y ∷ xs) x oks ok = (oks.0, all_more Ok xs x oks.1 ok)

pub all_both : {X : Type 0} (Ok : X → Type 0) (xs ys : List X) → AllByRecursion Ok xs → AllByRecursion Ok ys → AllByRecursion Ok (xs ++ ys)
all_both Ok [] ys oks oks' = oks'
all_both Ok (x ∷ xs) ys oks oks' = (oks.0, all_both Ok xs ys oks.1 oks')

-- the spelling around one item
pub run_at : {X : Type 0} (f : X → List ℕ) (xs : List X) (i : ℕ) (d : X) → i < length xs → flat_map f xs ≡ flat_map f (take i xs) ++ (f (get_or xs i d) ++ flat_map f (drop (i + 1) xs))
run_at f xs i d within =
    ap (λ ys. flat_map f ys) (sym (take-append-drop i xs)) ∙ flat_map-append f (take i xs) (drop i xs) ∙ ap (λ ys. flat_map f (take i xs) ++ flat_map f ys) (drop_more xs i d within)
