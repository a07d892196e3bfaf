-- The calls on a stream: one at most.
use Rattle.std.proofs.Common.{◌≡◌, ◌⊎◌, inl, inr, ℕ, ◌==◌, List, [], ◌∷◌, ◌++◌, Bool, true, false, cond, refl, sym, ap, ◌∙◌, subst, append-nil}
use Rattle.std.specs.List.{AllByRecursion}
use Rattle.std.proofs.lemmas.Bool.{eqb-true, eq-eqb, false≢true}
use Rattle.base_kinds.specs.Schema.{SchemaNode}
use Rattle.session_core.specs.declared.served.Served.{Served}
use Rattle.session_core.specs.Deeds.{Deed, Service, AreDone, others_than}
use Rattle.session_core.proofs.Keeping.{Changes, changes}

-- ---- the calls on a stream

abbrev pub calls_on : ℕ → List Served → List Served
calls_on s [] = []
calls_on s (c ∷ calls) = cond (c.stream == s) (c ∷ calls_on s calls) (calls_on s calls)

cond_more : (b : Bool) (c : Served) (xs ys : List Served) → cond b (c ∷ (xs ++ ys)) (xs ++ ys) ≡ cond b (c ∷ xs) xs ++ ys
cond_more true c xs ys = refl
cond_more false c xs ys = refl

pub on-append : (s : ℕ) (xs ys : List Served) → calls_on s (xs ++ ys) ≡ calls_on s xs ++ calls_on s ys
on-append s [] ys = refl
on-append s (c ∷ xs) ys = ap (λ (l : List Served). cond (c.stream == s) (c ∷ l) l) (on-append s xs ys) ∙ cond_more (c.stream == s) c (calls_on s xs) (calls_on s ys)

pub with_one : (s : ℕ) (b : Bool) (xs ys : List Served) (c : Served) → (c.stream == s) ≡ b → calls_on s (xs ++ c ∷ ys) ≡ calls_on s xs ++ cond b (c ∷ calls_on s ys) (calls_on s ys)
with_one s b xs ys c is = on-append s xs (c ∷ ys) ∙ ap (λ (b : Bool). calls_on s xs ++ cond b (c ∷ calls_on s ys) (calls_on s ys)) is

same_stream : (s t u : ℕ) (b : Bool) → t ≡ u → (u == s) ≡ b → (t == s) ≡ b
same_stream s t u b same is = ap (λ (n : ℕ). n == s) same ∙ is

none_there : (s t : ℕ) (calls : List Served) → AllByRecursion (λ (c : Served). c.stream ≡ t) calls → (t == s) ≡ false → calls_on s calls ≡ []
none_there s t [] on off = refl
none_there s t (c ∷ calls) on off =
    ap (λ (b : Bool). cond b (c ∷ calls_on s calls) (calls_on s calls)) (same_stream s c.stream t false on.0 off) ∙ none_there s t calls on.1 off

-- ---- those that aren't on another

on_others : (s t : ℕ) (calls : List Served) → (t == s) ≡ false → calls_on s (others_than t calls) ≡ calls_on s calls
on_others s t [] off = refl
on_others s t (c ∷ calls) off = by_test (c.stream == t) refl (on_others s t calls off) where
  by_test : (b : Bool) → (c.stream == t) ≡ b → calls_on s (others_than t calls) ≡ calls_on s calls → calls_on s (cond b (others_than t calls) (c ∷ others_than t calls)) ≡ cond (c.stream == s) (c ∷ calls_on s calls) (calls_on s calls)
  by_test true same rest = rest ∙ sym (ap (λ (b : Bool). cond b (c ∷ calls_on s calls) (calls_on s calls)) (same_stream s c.stream t false (eqb-true c.stream t same) off))
  by_test false same rest = ap (λ (l : List Served). cond (c.stream == s) (c ∷ l) l) rest

pub none_of_others : (s : ℕ) (calls : List Served) → calls_on s (others_than s calls) ≡ []
none_of_others s [] = refl
none_of_others s (c ∷ calls) = by_test (c.stream == s) refl (none_of_others s calls) where
  by_test : (b : Bool) → (c.stream == s) ≡ b → calls_on s (others_than s calls) ≡ [] → calls_on s (cond b (others_than s calls) (c ∷ others_than s calls)) ≡ []
  by_test true same rest = rest
  by_test false same rest = ap (λ (b : Bool). cond b (c ∷ calls_on s (others_than s calls)) (calls_on s (others_than s calls))) same ∙ rest

-- a deed on another stream leaves them
pub elsewhere : (s : ℕ) (deed : Deed) (old new : List Served) → Changes deed old new → (deed.stream == s) ≡ false → calls_on s new ≡ calls_on s old
elsewhere s deed old new (inl same) off = ap (calls_on s) same
elsewhere s deed old new (inr (inl b)) off =
    ap (calls_on s) b.whole ∙ with_one s false (others_than deed.stream old) [] b.call (same_stream s b.call.stream deed.stream false b.on off)
    ∙ append-nil (calls_on s (others_than deed.stream old)) ∙ on_others s deed.stream old off
elsewhere s deed old new (inr (inr e)) off =
    let before : calls_on s old ≡ calls_on s e.others ++ calls_on s e.more = ap (calls_on s) e.among ∙ with_one s false e.others e.more e.call (same_stream s e.call.stream deed.stream false e.on off) in
    ap (calls_on s) e.whole ∙ on-append s (e.others ++ e.left) e.more ∙ ap (λ (l : List Served). l ++ calls_on s e.more) (on-append s e.others e.left)
    ∙ ap (λ (l : List Served). (calls_on s e.others ++ l) ++ calls_on s e.more) (none_there s deed.stream e.left e.on_it off) ∙ ap (λ (l : List Served). l ++ calls_on s e.more) (append-nil (calls_on s e.others)) ∙ sym before

not_none : (xs ys : List Served) (c : Served) → xs ++ c ∷ ys ≡ [] → ⊥
not_none [] ys c is = absurd cc
not_none (x ∷ xs) ys c is = absurd cc

-- where there is none, one there can't be found,
pub none_found : (s : ℕ) (deed : Deed) (calls others more : List Served) (c : Served) → calls ≡ others ++ c ∷ more → c.stream ≡ deed.stream → (deed.stream == s) ≡ true → calls_on s calls ≡ [] → ⊥
none_found s deed calls others more c whole on is none =
    not_none (calls_on s others) (calls_on s more) c (sym (ap (calls_on s) whole ∙ with_one s true others more c (same_stream s c.stream deed.stream true on is)) ∙ none)

-- and where there is one, that is it
pub record IsIt (s : ℕ) (others more : List Served) (c found : Served) : Type 0 where
  pub same : found ≡ c
  pub before : calls_on s others ≡ []
  pub behind : calls_on s more ≡ []

pub one_of : (s : ℕ) (xs ys : List Served) (c found : Served) → xs ++ found ∷ ys ≡ c ∷ [] → (found ≡ c) × (xs ≡ []) × (ys ≡ [])
one_of s [] ys c found is = (cc, refl, cc)
one_of s (x ∷ xs) ys c found is = let rest : xs ++ found ∷ ys ≡ [] = cc in absurd (not_none xs ys found rest)

pub is_it : (s : ℕ) (deed : Deed) (calls others more : List Served) (c found : Served) → calls ≡ others ++ found ∷ more → found.stream ≡ deed.stream → (deed.stream == s) ≡ true → calls_on s calls ≡ c ∷ [] → IsIt s others more c found
is_it s deed calls others more c found whole on is one =
    let o = one_of s (calls_on s others) (calls_on s more) c found (sym (ap (calls_on s) whole ∙ with_one s true others more found (same_stream s found.stream deed.stream true on is)) ∙ one) in
    record { same = o.0; before = o.1; behind = o.2 }

pub left_there : (s : ℕ) (others left more : List Served) → calls_on s others ≡ [] → calls_on s more ≡ [] → calls_on s (others ++ left ++ more) ≡ calls_on s left
left_there s others left more before behind =
    on-append s (others ++ left) more ∙ ap (λ (l : List Served). l ++ calls_on s more) (on-append s others left) ∙ ap (λ (l : List Served). (l ++ calls_on s left) ++ calls_on s more) before
    ∙ ap (λ (l : List Served). calls_on s left ++ l) behind ∙ append-nil (calls_on s left)

pub one_left : (s t : ℕ) (c : Served) → c.stream ≡ t → (t == s) ≡ true → calls_on s (c ∷ []) ≡ c ∷ []
one_left s t c on is = ap (λ (b : Bool). cond b (c ∷ []) []) (same_stream s c.stream t true on is)

-- ---- one at most

abbrev IsFew : List Served → Type 0
IsFew [] = Unit {0}
IsFew (c ∷ []) = Unit {0}
IsFew (c ∷ d ∷ calls) = ⊥

pub record AreApart (calls : List Served) : Type 0 where
  pub few : (s : ℕ) → IsFew (calls_on s calls)

few_one : (xs ys : List Served) (c : Served) → IsFew (xs ++ c ∷ ys) → (xs ≡ []) × (ys ≡ [])
few_one [] [] c few = (refl, refl)
few_one [] (y ∷ ys) c few = absurd few
few_one (x ∷ []) ys c few = absurd few
few_one (x ∷ y ∷ xs) ys c few = absurd few

few_left : (s : ℕ) (left : List Served) → (left ≡ []) ⊎ ((k : Served) × (left ≡ k ∷ [])) → IsFew (calls_on s left)
few_left s left (inl none) = subst (λ (l : List Served). IsFew (calls_on s l)) (sym none) tt
few_left s left (inr (k, one)) = subst (λ (l : List Served). IsFew (calls_on s l)) (sym one) (by_test (k.stream == s)) where
  by_test : (b : Bool) → IsFew (cond b (k ∷ []) [])
  by_test true = tt
  by_test false = tt

few_stays : (s : ℕ) (b : Bool) (deed : Deed) (old new : List Served) → (deed.stream == s) ≡ b → Changes deed old new → IsFew (calls_on s old) → IsFew (calls_on s new)
few_stays s false deed old new is change few = subst IsFew (sym (elsewhere s deed old new change is)) few
few_stays s true deed old new is (inl same) few = subst IsFew (sym (ap (calls_on s) same)) few
few_stays s true deed old new is (inr (inl b)) few =
    let here : s ≡ deed.stream = sym (eqb-true deed.stream s is) in
    let none : calls_on s (others_than deed.stream old) ≡ [] = ap (λ (t : ℕ). calls_on t (others_than deed.stream old)) here ∙ none_of_others deed.stream old in
    subst IsFew (sym (ap (calls_on s) b.whole ∙ on-append s (others_than deed.stream old) (b.call ∷ []) ∙ ap (λ (l : List Served). l ++ calls_on s (b.call ∷ [])) none))
    (few_left s (b.call ∷ []) (inr (b.call, refl)))
few_stays s true deed old new is (inr (inr e)) few =
    let o = few_one (calls_on s e.others) (calls_on s e.more) e.call (subst IsFew (ap (calls_on s) e.among ∙ with_one s true e.others e.more e.call (same_stream s e.call.stream deed.stream true e.on is)) few) in
    subst IsFew (sym (ap (calls_on s) e.whole ∙ left_there s e.others e.left e.more o.0 o.1)) (few_left s e.left e.few)

pub apart_all : (schema : List SchemaNode) (old : Service) (deeds : List Deed) (new : Service) → AreDone schema old deeds new → AreApart old.calls → AreApart new.calls
apart_all schema old [] new same apart = subst (λ (v : Service). AreApart v.calls) (sym same) apart
apart_all schema old (deed ∷ deeds) new (next, first, rest) apart =
    apart_all schema next deeds new rest (record { few = λ s. few_stays s (deed.stream == s) deed old.calls next.calls refl (changes schema deed old next deed.doing refl first) (apart.few s) })

pub none_apart : AreApart []
none_apart = record { few = λ s. tt }

-- no other of the calls is on the stream of one of them
other_way : (a b : ℕ) → (a == b) ≡ false → (b == a) ≡ false
other_way a b off = by_test (b == a) refl where
  by_test : (t : Bool) → (b == a) ≡ t → t ≡ false
  by_test true is = absurd (false≢true (sym off ∙ eq-eqb a b (sym (eqb-true b a is))))
  by_test false is = refl

all_off : (s : ℕ) (calls : List Served) → calls_on s calls ≡ [] → AllByRecursion (λ (c : Served). (s == c.stream) ≡ false) calls
all_off s [] none = tt
all_off s (c ∷ calls) none = by_test (c.stream == s) refl none (all_off s calls) where
  by_test : (b : Bool) → (c.stream == s) ≡ b → cond b (c ∷ calls_on s calls) (calls_on s calls) ≡ [] → (calls_on s calls ≡ [] → AllByRecursion (λ (d : Served). (s == d.stream) ≡ false) calls)
      → AllByRecursion (λ (d : Served). (s == d.stream) ≡ false) (c ∷ calls)
  by_test true is none rest = absurd cc
  by_test false is none rest = (other_way c.stream s is, rest none)

pub others_off : (done due : List Served) (c : Served) → AreApart (done ++ c ∷ due) → AllByRecursion (λ (d : Served). (c.stream == d.stream) ≡ false) done × AllByRecursion (λ (d : Served). (c.stream == d.stream) ≡ false) due
others_off done due c apart =
    let o = few_one (calls_on c.stream done) (calls_on c.stream due) c (subst IsFew (with_one c.stream true done due c (eq-eqb c.stream c.stream refl)) (apart.few c.stream)) in
    (all_off c.stream done o.0, all_off c.stream due o.1)
