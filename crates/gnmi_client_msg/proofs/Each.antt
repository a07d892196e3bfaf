-- What each message of a list tells, one after another.
use Rattle.std.proofs.Common.{◌≡◌, List, [], ◌∷◌, ◌++◌, Option, Some, None, refl, sym, ap, ◌∙◌, append_assoc, append-nil}
use Rattle.std.specs.Prelude.{map}
use Rattle.std.specs.Option.{option_map}
use Rattle.base_lists.specs.Options.{◌>>=◌}
use Rattle.gnmi_data_msg.specs.Parts.{each}

-- ---- the messages so far, and those that are left

abbrev pub behind : {A : Type 0} → List A → Option (List A) → Option (List A)
behind told others = option_map (λ rest. told ++ rest) others

pub told_first : {A : Type 0} (others : Option (List A)) → others ≡ behind [] others
told_first None = refl
told_first (Some rest) = refl

push : {A : Type 0} (told : List A) (a : A) (others : Option (List A)) → behind told (others >>= (λ (rest : List A). Some (a ∷ rest))) ≡ behind (told ++ a ∷ []) others
push told a None = refl
push told a (Some rest) = ap Some (sym (append_assoc told (a ∷ []) rest))

pub told_more : {A B : Type 0} (f : B → Option A) (whole : Option (List A)) (pieces others : List B) (piece : B) (told : List A) (a : A)
    → pieces ≡ piece ∷ others → f piece ≡ Some a → whole ≡ behind told (each f pieces) → whole ≡ behind (told ++ a ∷ []) (each f others)
told_more f whole pieces others piece told a e is before =
    before ∙ ap (λ ps. behind told (each f ps)) e
    ∙ ap (λ first. behind told (first >>= (λ b. each f others >>= (λ rest. Some (b ∷ rest))))) is
    ∙ push told a (each f others)

pub told_bad : {A B : Type 0} (f : B → Option A) (whole : Option (List A)) (pieces others : List B) (piece : B) (told : List A)
    → pieces ≡ piece ∷ others → whole ≡ behind told (each f pieces) → f piece ≡ None → whole ≡ None
told_bad f whole pieces others piece told e before is =
    before ∙ ap (λ ps. behind told (each f ps)) e
    ∙ ap (λ first. behind told (first >>= (λ b. each f others >>= (λ rest. Some (b ∷ rest))))) is

pub told_all : {A B : Type 0} (f : B → Option A) (whole : Option (List A)) (pieces : List B) (told : List A)
    → pieces ≡ [] → whole ≡ behind told (each f pieces) → whole ≡ Some told
told_all f whole pieces told e before = before ∙ ap (λ ps. behind told (each f ps)) e ∙ ap Some (append-nil told)

-- ---- two steps in one

pub each_same : {A B : Type 0} (f g : B → Option A) → ((b : B) → f b ≡ g b) → (items : List B) → each f items ≡ each g items
each_same f g same [] = refl
each_same f g same (item ∷ items) = rw (same item, each_same f g same items) refl

pub each_then : {A B C : Type 0} (f : C → Option B) (g : B → Option A) (items : List C) → each (λ item. f item >>= g) items ≡ (each f items >>= each g)
each_then f g [] = refl
each_then {A} {B} f g (item ∷ items) =
    ap (λ (rest : Option (List A)). (f item >>= g) >>= (λ (a : A). rest >>= (λ (more : List A). Some (a ∷ more)))) (each_then f g items)
    ∙ by (f item) (each f items)
  where
    none : (o : Option A) → (o >>= (λ (a : A). ◌>>=◌ {A = List A} None (λ (more : List A). Some (a ∷ more)))) ≡ None
    none None = refl
    none (Some a) = refl

    by : (first : Option B) (others : Option (List B))
        → ((first >>= g) >>= (λ (a : A). (others >>= each g) >>= (λ (more : List A). Some (a ∷ more))))
        ≡ ((first >>= (λ (b : B). others >>= (λ (bs : List B). Some (b ∷ bs)))) >>= each g)
    by None others = refl
    by (Some b) None = none (g b)
    by (Some b) (Some bs) = refl

pub each_mapped : {A B C : Type 0} (f : C → Option B) (h : B → A) (items : List C) → each (λ item. option_map h (f item)) items ≡ option_map (map h) (each f items)
each_mapped f h [] = refl
each_mapped {A} {B} f h (item ∷ items) =
    ap (λ (rest : Option (List A)). option_map h (f item) >>= (λ (a : A). rest >>= (λ (more : List A). Some (a ∷ more)))) (each_mapped f h items)
    ∙ by (f item) (each f items)
  where
    by : (first : Option B) (others : Option (List B))
        → (option_map h first >>= (λ (a : A). option_map (map h) others >>= (λ (more : List A). Some (a ∷ more))))
        ≡ option_map (map h) (first >>= (λ (b : B). others >>= (λ (bs : List B). Some (b ∷ bs))))
    by None others = refl
    by (Some b) None = refl
    by (Some b) (Some bs) = refl
