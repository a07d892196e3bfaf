-- Loops that add what each item gives, against what all items give.
use Rattle.std.proofs.Common.{◌≡◌, List, [], ◌∷◌, ◌++◌, Result, Ok, Err, refl, sym, ap, subst, ◌∙◌, append_assoc, append-nil}
use Rattle.base_lists.specs.Results.{and_then, traverse, with_first}
use Rattle.base_kinds.specs.declared.path.Elem.{Elem}
use Rattle.base_kinds.specs.declared.operation.Row.{Row}
use Rattle.base_kinds.specs.declared.refusal.Refusal.{Refusal}
use Rattle.base_kinds.specs.Schema.{SchemaNode, node_at}
use Rattle.set_request.specs.KeyLeaves.{key_leaves_of_elem, key_leaves_from}

-- what is there, and what follows
abbrev pub joined : {A : Type 0} → List A → Result (List A) Refusal → Result (List A) Refusal
joined done rest = and_then rest (λ more. Ok (done ++ more))

pub none_before : {A : Type 0} (rest : Result (List A) Refusal) → joined [] rest ≡ rest
none_before (Ok more) = refl
none_before (Err refusal) = refl

pub none_behind : {A : Type 0} (done : List A) → joined done (Ok []) ≡ Ok done
none_behind done = ap Ok (append-nil done)

began : {A : Type 0} (done : List A) (b : A) (rest : Result (List A) Refusal) → joined done (with_first b rest) ≡ joined (done ++ b ∷ []) rest
began done b (Ok more) = ap Ok (sym (append_assoc done (b ∷ []) more))
began done b (Err refusal) = refl

pub one_more : {A B : Type 0} (step : A → Result B Refusal) (done : List B) (item : A) (items : List A) (b : B) → step item ≡ Ok b → joined done (traverse step (item ∷ items)) ≡ joined (done ++ b ∷ []) (traverse step items)
one_more step done item items b is = ap (λ r. joined done (and_then r (λ c. with_first c (traverse step items)))) is ∙ began done b (traverse step items)

pub one_refused : {A B : Type 0} (step : A → Result B Refusal) (done : List B) (item : A) (items : List A) (refusal : Refusal) → step item ≡ Err refusal → joined done (traverse step (item ∷ items)) ≡ Err refusal
one_refused step done item items refusal is = ap (λ r. joined done (and_then r (λ c. with_first c (traverse step items)))) is

-- what is refused behind something is refused
pub refused_so : {A : Type 0} (done : List A) (rest : Result (List A) Refusal) (refusal : Refusal) → joined done rest ≡ Err refusal → rest ≡ Err refusal
refused_so done (Ok more) refusal is = absurd (cc)
refused_so done (Err other) refusal is = is

pub elem_more : {A : Type 0} (done after : List A) (leaves rest : Result (List A) Refusal) → joined done leaves ≡ Ok after → joined done (and_then leaves (λ found. and_then rest (λ others. Ok (found ++ others)))) ≡ joined after rest
elem_more done after (Ok found) (Ok others) is =
    let same : done ++ found ≡ after = cc in
    ap Ok (sym (append_assoc done found others)) ∙ ap (λ front. Ok (front ++ others)) same
elem_more done after (Ok found) (Err refusal) is = refl
elem_more done after (Err refusal) rest is = absurd (cc)

pub elem_refused : {A : Type 0} (done : List A) (leaves rest : Result (List A) Refusal) (refusal : Refusal) → leaves ≡ Err refusal → joined done (and_then leaves (λ found. and_then rest (λ others. Ok (found ++ others)))) ≡ Err refusal
elem_refused done leaves rest refusal is = ap (λ r. joined done (and_then r (λ found. and_then rest (λ others. Ok (found ++ others))))) is

-- three lists in turn
pub in_three : {A : Type 0} (a b c : Result (List A) Refusal) (one two three : List A) → joined [] a ≡ Ok one → joined one b ≡ Ok two → joined two c ≡ Ok three → and_then a (λ x. and_then b (λ y. and_then c (λ z. Ok (x ++ (y ++ z))))) ≡ Ok three
in_three (Ok x) (Ok y) (Ok z) one two three p q r =
    let first : x ≡ one = cc in
    let second : one ++ y ≡ two = cc in
    let third : two ++ z ≡ three = cc in
    ap Ok (sym (append_assoc x y z) ∙ ap (λ o. (o ++ y) ++ z) first ∙ ap (λ t. t ++ z) second ∙ third)
in_three (Ok x) (Ok y) (Err refusal) one two three p q r = absurd (cc)
in_three (Ok x) (Err refusal) c one two three p q r = absurd (cc)
in_three (Err refusal) b c one two three p q r = absurd (cc)

-- one element more of a path, whose leaves are added
pub way_more : (schema : List SchemaNode) (front longer : List Elem) (done after : List Row) (elem copy : Elem) (rest items : List Elem) → items ≡ elem ∷ rest → longer ≡ front ++ copy ∷ [] → copy ≡ elem
    → joined done (key_leaves_of_elem schema longer elem (node_at schema longer)) ≡ Ok after
    → joined after (key_leaves_from schema longer rest) ≡ joined done (key_leaves_from schema front items)
way_more schema front longer done after elem copy rest items split is same added =
    let here = front ++ elem ∷ [] in
    let e : longer ≡ here = is ∙ ap (λ c. front ++ c ∷ []) same in
    let own : joined done (key_leaves_of_elem schema here elem (node_at schema here)) ≡ Ok after = subst (λ f. joined done (key_leaves_of_elem schema f elem (node_at schema f)) ≡ Ok after) e added in
    ap (λ f. joined after (key_leaves_from schema f rest)) e
    ∙ sym (elem_more done after (key_leaves_of_elem schema here elem (node_at schema here)) (key_leaves_from schema here rest) own)
    ∙ sym (ap (λ i. joined done (key_leaves_from schema front i)) split)

-- an element more whose leaves are refused
pub way_refused : (schema : List SchemaNode) (front longer : List Elem) (done : List Row) (elem copy : Elem) (rest items : List Elem) (refusal : Refusal) → items ≡ elem ∷ rest → longer ≡ front ++ copy ∷ [] → copy ≡ elem
    → key_leaves_of_elem schema longer elem (node_at schema longer) ≡ Err refusal
    → joined done (key_leaves_from schema front items) ≡ Err refusal
way_refused schema front longer done elem copy rest items refusal split is same refused =
    let here = front ++ elem ∷ [] in
    let e : longer ≡ here = is ∙ ap (λ c. front ++ c ∷ []) same in
    let own : key_leaves_of_elem schema here elem (node_at schema here) ≡ Err refusal = subst (λ f. key_leaves_of_elem schema f elem (node_at schema f) ≡ Err refusal) e refused in
    ap (λ i. joined done (key_leaves_from schema front i)) split
    ∙ elem_refused done (key_leaves_of_elem schema here elem (node_at schema here)) (key_leaves_from schema here rest) refusal own
