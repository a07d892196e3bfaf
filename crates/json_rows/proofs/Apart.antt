-- Rows that a step adds behind others, each at a path of its own.
use Rattle.std.proofs.Common.{◌≡◌, List, [], ◌∷◌, ◌++◌, Bool, true, false, sym, ap, ◌∙◌, subst}
use Rattle.std.specs.List.{AllByRecursion, IsDistinct}
use Rattle.std.proofs.lemmas.List.{append_assoc, append-nil}
use Rattle.base_kinds.specs.declared.path.Elem.{Elem}
use Rattle.base_kinds.specs.declared.operation.Row.{Row}
use Rattle.base_kinds.specs.Paths.{same_path}
use Rattle.history_laws.proofs.Values.{other_path}

-- a path right below another one or further, whose first element past it passes the test
pub record Under (above : List Elem) (test : Elem → Bool) (path : List Elem) : Type 0 where
  pub elem : Elem
  pub rest : List Elem
  pub is : path ≡ above ++ elem ∷ rest
  pub passes : test elem ≡ true

-- no two rows have one path
abbrev pub Apart : List Row → Type 0
Apart [] = Unit {0}
Apart (row ∷ rows) = AllByRecursion (λ other. row.path ≡ other.path → ⊥) rows × Apart rows

-- the rows after a step: those before it, and others, apart and all under the path
pub record Adds (above : List Elem) (test : Elem → Bool) (before after : List Row) : Type 0 where
  pub added : List Row
  pub joined : after ≡ before ++ added
  pub under : AllByRecursion (λ row. Under above test row.path) added
  pub apart : Apart added

abbrev all_append : {X : Type 0} (P : X → Type 0) (xs ys : List X) → AllByRecursion P xs → AllByRecursion P ys → AllByRecursion P (xs ++ ys)
all_append P [] ys all others = others
all_append P (x ∷ xs) ys all others = (all.0, all_append P xs ys all.1 others)

all_under : (above : List Elem) (test wide : Elem → Bool) → ((elem : Elem) → test elem ≡ true → wide elem ≡ true) → (rows : List Row) → AllByRecursion (λ row. Under above test row.path) rows → AllByRecursion (λ row. Under above wide row.path) rows
all_under above test wide widens [] all = tt
all_under above test wide widens (row ∷ rows) all =
    let here : Under above test row.path = all.0 in
    (record { elem = here.elem; rest = here.rest; is = here.is; passes = widens here.elem here.passes }, all_under above test wide widens rows all.1)

-- what follows the same front is the same
same_behind : (above xs ys : List Elem) → above ++ xs ≡ above ++ ys → xs ≡ ys
same_behind [] xs ys is = is
same_behind (elem ∷ above) xs ys is =
    let tails : above ++ xs ≡ above ++ ys = cc in
    same_behind above xs ys tails

first_same : (x y : Elem) (xs ys : List Elem) → x ∷ xs ≡ y ∷ ys → x ≡ y
first_same x y xs ys is = cc

-- paths whose elements pass tests that no element passes both are apart
not_one : (above : List Elem) (test other : Elem → Bool) → ((elem : Elem) → test elem ≡ true → other elem ≡ true → ⊥) → (a b : List Elem) → Under above test a → Under above other b → a ≡ b → ⊥
not_one above test other never a b here there same =
    let joined : above ++ here.elem ∷ here.rest ≡ above ++ there.elem ∷ there.rest = sym here.is ∙ same ∙ there.is in
    let elems : here.elem ≡ there.elem = first_same here.elem there.elem here.rest there.rest (same_behind above (here.elem ∷ here.rest) (there.elem ∷ there.rest) joined) in
    never there.elem (subst (λ e. test e ≡ true) elems here.passes) there.passes

one_apart : (above : List Elem) (test other : Elem → Bool) → ((elem : Elem) → test elem ≡ true → other elem ≡ true → ⊥) → (row : Row) (rows : List Row) → Under above test row.path → AllByRecursion (λ row. Under above other row.path) rows → AllByRecursion (λ next. row.path ≡ next.path → ⊥) rows
one_apart above test other never row [] here all = tt
one_apart above test other never row (next ∷ rows) here all = (not_one above test other never row.path next.path here all.0, one_apart above test other never row rows here all.1)

apart_append : (above : List Elem) (test other : Elem → Bool) → ((elem : Elem) → test elem ≡ true → other elem ≡ true → ⊥) → (rows more : List Row) → AllByRecursion (λ row. Under above test row.path) rows → Apart rows → AllByRecursion (λ row. Under above other row.path) more → Apart more → Apart (rows ++ more)
apart_append above test other never [] more under apart others apart_others = apart_others
apart_append above test other never (row ∷ rows) more under apart others apart_others =
    (all_append (λ next. row.path ≡ next.path → ⊥) rows more apart.0 (one_apart above test other never row more under.0 others), apart_append above test other never rows more under.1 apart.1 others apart_others)

pub adds_none : (above : List Elem) (test : Elem → Bool) (rows : List Row) → Adds above test rows rows
adds_none above test rows = record { added = []; joined = sym (append-nil rows); under = tt; apart = tt }

pub adds_one : (above : List Elem) (test : Elem → Bool) (rows after : List Row) (row : Row) (elem : Elem) → row.path ≡ above ++ elem ∷ [] → test elem ≡ true → rows ++ row ∷ [] ≡ after → Adds above test rows after
adds_one above test rows after row elem is passes joined = record { added = row ∷ []; joined = sym joined; under = (record { elem = elem; rest = []; is = is; passes = passes }, tt); apart = (tt, tt) }

-- a step, and another one whose paths are others
pub adds_both : (above : List Elem) (test other wide : Elem → Bool) (before between after : List Row) → Adds above test before between → Adds above other between after → ((elem : Elem) → test elem ≡ true → other elem ≡ true → ⊥) → ((elem : Elem) → test elem ≡ true → wide elem ≡ true) → ((elem : Elem) → other elem ≡ true → wide elem ≡ true) → Adds above wide before after
adds_both above test other wide before between after first second never widens widens_other = record {
  added = first.added ++ second.added;
  joined = second.joined ∙ ap (λ r. r ++ second.added) first.joined ∙ append_assoc before first.added second.added;
  under = all_append (λ row. Under above wide row.path) first.added second.added (all_under above test wide widens first.added first.under) (all_under above other wide widens_other second.added second.under);
  apart = apart_append above test other never first.added second.added first.under first.apart second.under second.apart;
}

pub adds_wider : (above : List Elem) (test wide : Elem → Bool) (before after : List Row) → Adds above test before after → ((elem : Elem) → test elem ≡ true → wide elem ≡ true) → Adds above wide before after
adds_wider above test wide before after adds widens = record { added = adds.added; joined = adds.joined; under = all_under above test wide widens adds.added adds.under; apart = adds.apart }

all_above : (above : List Elem) (elem : Elem) (test wide : Elem → Bool) → wide elem ≡ true → (rows : List Row) → AllByRecursion (λ row. Under (above ++ elem ∷ []) test row.path) rows → AllByRecursion (λ row. Under above wide row.path) rows
all_above above elem test wide passes [] all = tt
all_above above elem test wide passes (row ∷ rows) all =
    let here : Under (above ++ elem ∷ []) test row.path = all.0 in
    (record { elem = elem; rest = here.elem ∷ here.rest; is = here.is ∙ append_assoc above (elem ∷ []) (here.elem ∷ here.rest); passes = passes }, all_above above elem test wide passes rows all.1)

-- what is added below a path is added below what stands above its last element
pub adds_above : (above : List Elem) (elem : Elem) (test wide : Elem → Bool) (before after : List Row) → Adds (above ++ elem ∷ []) test before after → wide elem ≡ true → Adds above wide before after
adds_above above elem test wide before after adds passes = record { added = adds.added; joined = adds.joined; under = all_above above elem test wide passes adds.added adds.under; apart = adds.apart }

each_other : (row : Row) (rows : List Row) → AllByRecursion (λ other. row.path ≡ other.path → ⊥) rows → AllByRecursion (λ other. same_path row.path other.path ≡ false) rows
each_other row [] all = tt
each_other row (other ∷ others) all = (other_path row.path other.path all.0, each_other row others all.1)

pub distinct_rows : (rows : List Row) → Apart rows → IsDistinct (λ a b. same_path a.path b.path) rows
unfolding IsDistinct
distinct_rows [] apart = tt
distinct_rows (row ∷ rows) apart = (each_other row rows apart.0, distinct_rows rows apart.1)
