-- What a request is resolved to is fit to be asked.
use Rattle.std.proofs.Common.{◌≡◌, ℕ, ◌≤◌, List, [], ◌∷◌, ◌++◌, Bool, true, false, not, ◌&&◌, cond, eqb, leb, ltb, ◌+◌, ◌*◌, length, Option, Some, None, Result, Ok, Err, refl, ap, subst, arith, sym, ◌∙◌}
use Rattle.std.specs.List.{list_all, list_any}
use Rattle.std.specs.Option.{ok_or, option_and_then}
use Rattle.base_lists.specs.Results.{and_then, traverse, with_first}
use Rattle.std.proofs.lemmas.Bool.{and_parts, and_from, leb-true}
use Rattle.base_kinds.specs.declared.path.Elem.{Elem}
use Rattle.base_kinds.specs.declared.operation.Row.{Row}
use Rattle.base_kinds.specs.declared.operation.Op.{Op}
use Rattle.base_kinds.specs.declared.operation.Act.{Act}
use Rattle.base_kinds.specs.declared.operation.Act.TheVariants.{Delete, Replace, Update}
use Rattle.base_kinds.specs.declared.request.Action.{Action}
use Rattle.base_kinds.specs.declared.request.Action.TheVariants as actions
use Rattle.base_kinds.specs.declared.request.Change.{Change}
use Rattle.base_kinds.specs.declared.request.UnresolvedSet.{UnresolvedSet}
use Rattle.base_kinds.specs.declared.request.Span.{Span}
use Rattle.base_kinds.specs.declared.request.Span.TheVariants as spans
use Rattle.base_kinds.specs.declared.refusal.Refusal.{Refusal}
use Rattle.base_kinds.specs.declared.refusal.Refusal.TheVariants.{Unsupported, MixedAction, BadId, BadDuration, BadPath, BadValue}
use Rattle.base_kinds.specs.Legal.{is_fit_path, is_fit_row, has_fit_rows, is_fit_op, AreFitOps, IsFit, is_fit_duration, is_fit_id}
use Rattle.base_kinds.specs.Limits.{second, default_duration}
use Rattle.base_lists.specs.Rising.{rises}
use Rattle.base_kinds.specs.Paths.{path_cmp}
use Rattle.base_kinds.specs.Schema.{SchemaNode}
use Rattle.base_kinds.specs.Tree.{set_rows}
use Rattle.set_request.specs.Actions.{has_operations, is_mixed, has_fit_id, fit_nanoseconds, duration, action_duration, ask_of}
use Rattle.set_request.specs.Numbers.{natural}
use Rattle.set_request.specs.Operations.{is_whole_path, op_of_delete, key_leaves_agree, are_fit_rows, op_with, op_at, op_of_change, ops_of_request}
use Rattle.base_kinds.specs.declared.entry.Ask.{Ask}
use Rattle.set_request.specs.Resolution.{checked_duration, resolved}
use Rattle.set_request.specs.laws.Asks.{ResolvedIsFit, PlainIsApply}
use Rattle.set_request.specs.ValueRows.{rows_of_value}
use Rattle.set_request.specs.KeyLeaves.{is_wild, key_leaves_of}

-- what stands behind an answer that is a value

pub record Followed {A B : Type 0} (r : Result A Refusal) (next : A → Result B Refusal) (b : B) : Type 0 where
  pub a : A
  pub first : r ≡ Ok a
  pub then : next a ≡ Ok b

pub followed : {A B : Type 0} (r : Result A Refusal) (next : A → Result B Refusal) (b : B) → and_then r next ≡ Ok b → Followed r next b
followed (Ok a) next b e = record { a = a; first = refl; then = e }
followed (Err refusal) next b e = absurd (cc)

record FollowedSome {A B : Type 0} (o : Option A) (next : A → Option B) (b : B) : Type 0 where
  a : A
  first : o ≡ Some a
  then : next a ≡ Some b

followed_some : {A B : Type 0} (o : Option A) (next : A → Option B) (b : B) → option_and_then next o ≡ Some b → FollowedSome o next b
followed_some (Some a) next b e = record { a = a; first = refl; then = e }
followed_some None next b e = absurd (cc)

pub passed : {A : Type 0} (test : Bool) (r : Result A Refusal) (refusal : Refusal) (a : A) → cond test r (Err refusal) ≡ Ok a → (test ≡ true) × (r ≡ Ok a)
passed true r refusal a e = (refl, e)
passed false r refusal a e = absurd (cc)

not_refused : {A : Type 0} (test : Bool) (refusal : Refusal) (r : Result A Refusal) (a : A) → cond test (Err refusal) r ≡ Ok a → (test ≡ false) × (r ≡ Ok a)
not_refused true refusal r a e = absurd (cc)
not_refused false refusal r a e = (refl, e)

tested : {A : Type 0} (test : Bool) (a b : A) → cond test (Some a) None ≡ Some b → (test ≡ true) × (a ≡ b)
tested true a b e = (refl, cc)
tested false a b e = absurd (cc)

pub there : {A : Type 0} (o : Option A) (refusal : Refusal) (a : A) → ok_or o refusal ≡ Ok a → o ≡ Some a
there (Some b) refusal a e = cc
there None refusal a e = absurd (cc)

-- operations

all_both : (test : Op → Bool) (ops others : List Op) → list_all test ops ≡ true → list_all test others ≡ true → list_all test (ops ++ others) ≡ true
all_both test [] others all own = own
all_both test (first ∷ ops) others all own =
    let parts = and_parts (test first) (list_all test ops) all in
    and_from (test first) (list_all test (ops ++ others)) parts.0 (all_both test ops others parts.1 own)

record Begun (first : Op) (rest : Result (List Op) Refusal) (ops : List Op) : Type 0 where
  others : List Op
  is : rest ≡ Ok others
  whole : first ∷ others ≡ ops

begun : (first : Op) (rest : Result (List Op) Refusal) (ops : List Op) → with_first first rest ≡ Ok ops → Begun first rest ops
begun first (Ok others) ops e = record { others = others; is = refl; whole = cc }
begun first (Err refusal) ops e = absurd (cc)

each_fit : {A : Type 0} (step : A → Result Op Refusal) → ((item : A) (op : Op) → step item ≡ Ok op → is_fit_op op ≡ true) → (items : List A) (ops : List Op) → traverse step items ≡ Ok ops → list_all is_fit_op ops ≡ true
each_fit step fit [] ops e =
    let same : [] ≡ ops = cc in
    subst (λ (o : List Op). list_all is_fit_op o ≡ true) same refl
each_fit step fit (item ∷ items) ops e =
    let f = followed (step item) (λ b. with_first b (traverse step items)) ops e in
    let r = begun f.a (traverse step items) ops f.then in
    subst (λ (o : List Op). list_all is_fit_op o ≡ true) r.whole
    (and_from (is_fit_op f.a) (list_all is_fit_op r.others) (fit item f.a f.first) (each_fit step fit items r.others r.is))

delete_is_fit : (path : List Elem) → is_fit_path path ≡ true → is_fit_op (record { act = Delete; path = path; rows = [] }) ≡ true
delete_is_fit path fit = ap (λ (b : Bool). b && true && true && true) fit

delete_fit : (prefix path : List Elem) (op : Op) → op_of_delete prefix path ≡ Ok op → is_fit_op op ≡ true
delete_fit prefix path op e =
    let made : Op = record { act = Delete; path = prefix ++ path; rows = [] } in
    let p = passed (is_whole_path (prefix ++ path)) (Ok made) BadPath op e in
    let same : made ≡ op = let f = p.1 in cc in
    subst (λ (o : Op). is_fit_op o ≡ true) same (delete_is_fit (prefix ++ path) (and_parts (is_fit_path (prefix ++ path)) (list_all (λ elem. not (eqb (length elem.name) 0)) (prefix ++ path)) p.0).0)

op_fit : (act : Act) → ((rows : List Row) → has_fit_rows act rows ≡ true) → (path : List Elem) (keys rows : List Row) (op : Op) → is_fit_path path ≡ true → op_with act path keys rows ≡ Ok op → is_fit_op op ≡ true
op_fit act takes path keys rows op fit e =
    let all = set_rows keys rows in
    let made : Op = record { act = act; path = path; rows = all } in
    let p = passed (key_leaves_agree keys rows && are_fit_rows all) (Ok made) BadValue op e in
    let same : made ≡ op = let f = p.1 in cc in
    let are = and_parts (list_all is_fit_row all) (rises (λ a b. path_cmp a.path b.path) all) (and_parts (key_leaves_agree keys rows) (are_fit_rows all) p.0).1 in
    subst (λ (o : Op). is_fit_op o ≡ true) same
    (and_from (is_fit_path path && has_fit_rows act all && list_all is_fit_row all) (rises (λ a b. path_cmp a.path b.path) all)
    (and_from (is_fit_path path && has_fit_rows act all) (list_all is_fit_row all) (and_from (is_fit_path path) (has_fit_rows act all) fit (takes all)) are.0) are.1)

change_fit : (schema : List SchemaNode) (prefix : List Elem) (act : Act) → ((rows : List Row) → has_fit_rows act rows ≡ true) → (change : Change) (op : Op) → op_of_change schema prefix act change ≡ Ok op → is_fit_op op ≡ true
change_fit schema prefix act takes change op e =
    let path = prefix ++ change.path in
    let p = passed (is_whole_path path && not (list_any is_wild path)) (op_at schema act path change) BadPath op e in
    let whole = (and_parts (is_whole_path path) (not (list_any is_wild path)) p.0).0 in
    let fit = (and_parts (is_fit_path path) (list_all (λ elem. not (eqb (length elem.name) 0)) path) whole).0 in
    let w = followed (key_leaves_of schema path) (λ keys. and_then (rows_of_value schema path change.given) (op_with act path keys)) op p.1 in
    let v = followed (rows_of_value schema path change.given) (op_with act path w.a) op w.then in
    op_fit act takes path w.a v.a op fit v.then

pub fit_ops : (schema : List SchemaNode) (ask : UnresolvedSet) (ops : List Op) → ops_of_request schema ask ≡ Ok ops → AreFitOps ops
fit_ops schema ask ops e =
    let replaced = traverse (op_of_change schema ask.prefix Replace) ask.replaces in
    let updated = traverse (op_of_change schema ask.prefix Update) ask.updates in
    let d = followed (traverse (op_of_delete ask.prefix) ask.deletes) (λ deletes. and_then replaced (λ replaces. and_then updated (λ updates. Ok (deletes ++ (replaces ++ updates))))) ops e in
    let r = followed replaced (λ replaces. and_then updated (λ updates. Ok (d.a ++ (replaces ++ updates)))) ops d.then in
    let u = followed updated (λ updates. Ok (d.a ++ (r.a ++ updates))) ops r.then in
    let whole : d.a ++ (r.a ++ u.a) ≡ ops = ok_is (d.a ++ (r.a ++ u.a)) ops u.then in
    subst (λ (o : List Op). list_all is_fit_op o ≡ true) whole
    (all_both is_fit_op d.a (r.a ++ u.a) (each_fit (op_of_delete ask.prefix) (delete_fit ask.prefix) ask.deletes d.a d.first)
    (all_both is_fit_op r.a u.a
    (each_fit (op_of_change schema ask.prefix Replace) (change_fit schema ask.prefix Replace (λ rows. refl)) ask.replaces r.a r.first)
    (each_fit (op_of_change schema ask.prefix Update) (change_fit schema ask.prefix Update (λ rows. refl)) ask.updates u.a u.first)))
  where
    ok_is : (a b : List Op) → ◌≡◌ {A = Result (List Op) Refusal} (Ok a) (Ok b) → a ≡ b
    ok_is a b e = cc

-- actions

fit_duration : (span : Span) (nanos : ℕ) → duration span ≡ Some nanos → is_fit_duration nanos ≡ true
fit_duration spans.Absent nanos e =
    let same : default_duration ≡ nanos = cc in
    subst (λ d. is_fit_duration d ≡ true) same refl
fit_duration (spans.Of seconds rest) nanos e =
    let s = followed_some (natural seconds) (λ s. option_and_then (λ n. fit_nanoseconds n (s * second + n)) (natural rest)) nanos e in
    let n = followed_some (natural rest) (λ n. fit_nanoseconds n (s.a * second + n)) nanos s.then in
    range_of n.a (s.a * second + n.a) nanos n.then
  where
    range_of : (n all nanos : ℕ) → fit_nanoseconds n all ≡ Some nanos → is_fit_duration nanos ≡ true
    range_of n all nanos e =
        let t = tested (ltb n second && is_fit_duration all) all nanos e in
        subst (λ d. is_fit_duration d ≡ true) t.1 (and_parts (ltb n second) (is_fit_duration all) t.0).1

fit_action : (action : Action) (nanos : ℕ) (ops : List Op) → has_fit_id action ≡ true → action_duration action ≡ Some nanos → AreFitOps ops → IsFit (ask_of action ops nanos)
fit_action actions.Plain nanos ops good e fit = fit
fit_action (actions.Trial id span) nanos ops good e fit = record { id_fits = good; ops_fit = fit; duration_fits = fit_duration span nanos e }
fit_action (actions.Confirm id) nanos ops good e fit = good
fit_action (actions.Cancel id) nanos ops good e fit = good
fit_action (actions.Extend id span) nanos ops good e fit = record { id_fits = good; duration_fits = fit_duration span nanos e }
fit_action actions.Mixed nanos ops good e fit = fit

pub fit_ask : (ask : UnresolvedSet) (nanos : ℕ) (ops : List Op) → checked_duration ask ≡ Ok nanos → AreFitOps ops → IsFit (ask_of ask.action ops nanos)
fit_ask ask nanos ops e fit =
    let given = ok_or (action_duration ask.action) BadDuration in
    let a = not_refused ask.unsupported Unsupported (cond (is_mixed ask.action (has_operations ask)) (Err MixedAction) (cond (not (has_fit_id ask.action)) (Err BadId) given)) nanos e in
    let b = not_refused (is_mixed ask.action (has_operations ask)) MixedAction (cond (not (has_fit_id ask.action)) (Err BadId) given) nanos a.1 in
    let d = not_refused (not (has_fit_id ask.action)) BadId given nanos b.1 in
    fit_action ask.action nanos ops (good_from (has_fit_id ask.action) d.0) (there (action_duration ask.action) BadDuration nanos d.1) fit
  where
    good_from : (b : Bool) → not b ≡ false → b ≡ true
    good_from true e = refl
    good_from false e = absurd (cc)

-- laws

record Made (ask : UnresolvedSet) (schema : List SchemaNode) (it : Ask) : Type 0 where
  nanos : ℕ
  ops : List Op
  timed : checked_duration ask ≡ Ok nanos
  resolved_ops : ops_of_request schema ask ≡ Ok ops
  is : ask_of ask.action ops nanos ≡ it

made : (schema : List SchemaNode) (ask : UnresolvedSet) (it : Ask) → resolved schema ask ≡ Ok it → Made ask schema it
made schema ask it e =
    let d = followed (checked_duration ask) (λ nanos. and_then (ops_of_request schema ask) (λ ops. Ok (ask_of ask.action ops nanos))) it e in
    let o = followed (ops_of_request schema ask) (λ ops. Ok (ask_of ask.action ops d.a)) it d.then in
    record { nanos = d.a; ops = o.a; timed = d.first; resolved_ops = o.first; is = ok_ask (ask_of ask.action o.a d.a) it o.then }
  where
    ok_ask : (a b : Ask) → ◌≡◌ {A = Result Ask Refusal} (Ok a) (Ok b) → a ≡ b
    ok_ask a b e = cc

pub resolved_is_fit : ResolvedIsFit
resolved_is_fit schema ask it e =
    let m = made schema ask it e in
    subst IsFit m.is (fit_ask ask m.nanos m.ops m.timed (fit_ops schema ask m.ops m.resolved_ops))

pub plain_is_apply : PlainIsApply
plain_is_apply schema ask it plain e =
    let m = made schema ask it e in
    (m.ops, (m.resolved_ops, sym m.is ∙ ap (λ action. ask_of action m.ops m.nanos) plain))
