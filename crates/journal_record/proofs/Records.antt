-- Lists of values, rows, operations and records are read just as they are spelled.
use Rattle.std.proofs.Common.{◌≡◌, ℕ, suc, ◌+◌, ◌^◌, ◌<◌, ◌≤◌, inl, inr, Bool, true, cond, eqb, ◌&&◌, List, [], ◌∷◌, ◌++◌, length, Option, Some, None, refl, sym, ap, subst, ◌∙◌, append_assoc, arith}
use Rattle.std.specs.List.{flat_map, AllByRecursion, list_all}
use Rattle.std.specs.Int.{w32, w64, to_be_bytes}
use Rattle.std.proofs.lemmas.Bool.{eqb-true, and_parts, and_from}
use Rattle.std.proofs.lemmas.List.{length-append}
use Rattle.base_kinds.specs.declared.operation.Row.{Row}
use Rattle.base_kinds.specs.declared.operation.Op.{Op}
use Rattle.base_kinds.specs.declared.operation.Act.{Act}
use Rattle.base_kinds.specs.declared.operation.Act.TheVariants.{Delete, Replace, Update}
use Rattle.base_kinds.specs.declared.entry.Entry.{Entry}
use Rattle.base_kinds.specs.declared.entry.Kind.{Kind}
use Rattle.base_kinds.specs.declared.entry.Kind.TheVariants as kinds
use Rattle.base_kinds.specs.declared.value.Value.{Value, Row_of-Value, end_of-Value, more_of-Value}
use Rattle.base_kinds.specs.declared.value.Value as v
use Rattle.base_kinds.specs.declared.value.Value.TheOpen.{Value-F}
use Rattle.base_kinds.specs.declared.value.Value.TheOpen as opened
use Rattle.base_kinds.specs.declared.value.Value.TheViews.{roll-Value, out-Value, roll-out-Value}
use Rattle.base_kinds.specs.declared.value.Value.TheVariants as values
use Rattle.base_kinds.specs.Paths.{path_cmp}
use Rattle.base_kinds.specs.Values.{row_values, values_in, is_list}
use Rattle.base_kinds.specs.Legal.{has_fit_rows, is_fit_path, is_fit_scalar, is_fit_value, is_fit_row, is_fit_op, AreFitOps}
use Rattle.base_lists.specs.Rising.{rises}
use Rattle.base_kinds.proofs.Lists.{values_in-List, value_octets-List}
use Rattle.journal_record.specs.Spelling.{text_spelling, path_spelling, value_spelling, inner_values, row_spelling, rows_spelling, act_octet, op_spelling, ops_spelling, kind_spelling, record_of, ops_of}
use Rattle.journal_record.specs.Representable.{IsRepresentableValue, AreRepresentableValues, IsRepresentableRow, IsRepresentableOp, AreRepresentableOps, IsRepresentableKind, IsRepresentable}
use Rattle.base_lists.specs.Options.{◌>>=◌}
use Rattle.journal_record.specs.inner.Reading.{number_at, text_at, listed_at, path_at, scalar_at, item_at, list_at, value_at, row_at, rows_at, act_at, op_parts_at, op_at, ops_at, apply_at, trial_at, extend_at, content_at, kind_at, entry_at}
use Rattle.journal_record.proofs.Forms.{IsBytes, IsBytes-rest, bind_some, passed, Took, Reads, turned, said_so, guarded, sequence, sequence3, wide32, wide64, numbers, counted32}
use Rattle.journal_record.proofs.Parts.{both_of, each_of, pass_of, text_form, IsFitRepresentablePath, path_form, IsFitRepresentableScalar, tagged, chosen, scalar_takes, scalar_again, item_form}

-- ---- lists of values

inner_is : {n : _} (inner : Row_of-Value n) → inner_values inner ≡ flat_map value_spelling (row_values inner)
inner_is end_of-Value = refl
inner_is (more_of-Value first others) = ap (λ (l : List ℕ). value_spelling first ++ l) (inner_is others)

kept_row : {n : _} (inner : Row_of-Value n) → AreRepresentableValues inner → AllByRecursion IsRepresentableValue (row_values inner)
kept_row end_of-Value all = tt
kept_row (more_of-Value first others) all = (all.0, kept_row others all.1)

kept_back : {n : _} (inner : Row_of-Value n) → AllByRecursion IsRepresentableValue (row_values inner) → AreRepresentableValues inner
kept_back end_of-Value all = tt
kept_back (more_of-Value first others) all = (all.0, kept_back others all.1)

is_list-List : (vs : List Value) → is_list (values.List vs) ≡ true
unfolding Rattle.base_kinds.specs.declared.value.Value.TheBlock.hidden-the_row-Value-0 denote.Hole.Carrier.hidden
is_list-List vs = refl

back_layer : (layer : Value-F Value) → is_list (roll-Value layer) ≡ true → values.List (values_in (roll-Value layer)) ≡ roll-Value layer
back_layer (opened.List vs) e = ap (λ (x : Value). values.List (values_in x)) (values.rolls-List vs) ∙ ap values.List (values_in-List vs) ∙ sym (values.rolls-List vs)
back_layer (opened.Bool b) e = let same = ap is_list (values.rolls-Bool b) in absurd cc
back_layer (opened.Int b) e = let same = ap is_list (values.rolls-Int b) in absurd cc
back_layer (opened.Uint b) e = let same = ap is_list (values.rolls-Uint b) in absurd cc
back_layer (opened.Dec b c) e = let same = ap is_list (values.rolls-Dec b c) in absurd cc
back_layer (opened.Text b) e = let same = ap is_list (values.rolls-Text b) in absurd cc
back_layer (opened.Bin b) e = let same = ap is_list (values.rolls-Bin b) in absurd cc
back_layer (opened.Enum b) e = let same = ap is_list (values.rolls-Enum b) in absurd cc

list_back : (x : Value) → is_list x ≡ true → values.List (values_in x) ≡ x
list_back x e =
    subst (λ (y : Value). is_list y ≡ true → values.List (values_in y) ≡ y) (roll-out-Value x) (back_layer (out-Value x)) e

list_spelled : (x : Value) → is_list x ≡ true → value_spelling x ≡ 8 ∷ (to_be_bytes w32 (length (values_in x)) ++ flat_map value_spelling (values_in x))
list_spelled (v.List' n inner) e = ap (λ (l : List ℕ). 8 ∷ (to_be_bytes w32 (length (row_values inner)) ++ l)) (inner_is inner)
list_spelled (v.Bool b) e = absurd cc
list_spelled (v.Int b) e = absurd cc
list_spelled (v.Uint b) e = absurd cc
list_spelled (v.Dec b c) e = absurd cc
list_spelled (v.Text b) e = absurd cc
list_spelled (v.Bin b) e = absurd cc
list_spelled (v.Enum b) e = absurd cc

pub value_spelling-List : (vs : List Value) → value_spelling (values.List vs) ≡ 8 ∷ (to_be_bytes w32 (length vs) ++ flat_map value_spelling vs)
value_spelling-List vs = list_spelled (values.List vs) (is_list-List vs) ∙ ap (λ (l : List Value). 8 ∷ (to_be_bytes w32 (length l) ++ flat_map value_spelling l)) (values_in-List vs)

list_kept : (x : Value) → is_list x ≡ true → AllByRecursion IsRepresentableValue (values_in x) → IsRepresentableValue x
list_kept (v.List' n inner) e all = kept_back inner all
list_kept (v.Bool b) e all = absurd cc
list_kept (v.Int b) e all = absurd cc
list_kept (v.Uint b) e all = absurd cc
list_kept (v.Dec b c) e all = absurd cc
list_kept (v.Text b) e all = absurd cc
list_kept (v.Bin b) e all = absurd cc
list_kept (v.Enum b) e all = absurd cc

pub IsRepresentableValue-List : (vs : List Value) → AllByRecursion IsRepresentableValue vs → IsRepresentableValue (values.List vs)
IsRepresentableValue-List vs all = list_kept (values.List vs) (is_list-List vs) (subst (λ (l : List Value). AllByRecursion IsRepresentableValue l) (sym (values_in-List vs)) all)

list_fit : (x : Value) → is_list x ≡ true → list_all is_fit_scalar (values_in x) ≡ true → is_fit_value x ≡ true
list_fit (v.List' n inner) e all = all
list_fit (v.Bool b) e all = absurd cc
list_fit (v.Int b) e all = absurd cc
list_fit (v.Uint b) e all = absurd cc
list_fit (v.Dec b c) e all = absurd cc
list_fit (v.Text b) e all = absurd cc
list_fit (v.Bin b) e all = absurd cc
list_fit (v.Enum b) e all = absurd cc

fits-List : (vs : List Value) → list_all is_fit_scalar vs ≡ true → is_fit_value (values.List vs) ≡ true
fits-List vs all = list_fit (values.List vs) (is_list-List vs) (ap (list_all is_fit_scalar) (values_in-List vs) ∙ all)

scalar_fits : (x : Value) → is_fit_scalar x ≡ true → is_fit_value x ≡ true
scalar_fits (v.List' n inner) e = absurd cc
scalar_fits (v.Bool b) e = e
scalar_fits (v.Int b) e = e
scalar_fits (v.Uint b) e = e
scalar_fits (v.Dec b c) e = e
scalar_fits (v.Text b) e = e
scalar_fits (v.Bin b) e = e
scalar_fits (v.Enum b) e = e

value_least : (x : Value) → 1 ≤ length (value_spelling x)
value_least (v.List' n inner) = omega arith
value_least (v.Bool b) = omega arith
value_least (v.Int b) = omega arith
value_least (v.Uint b) = omega arith
value_least (v.Dec b c) = omega arith
value_least (v.Text b) = omega arith
value_least (v.Bin b) = omega arith
value_least (v.Enum b) = omega arith

abbrev list_octets : List Value → List ℕ
list_octets vs = to_be_bytes w32 (length vs) ++ flat_map value_spelling vs

items_form : Reads list_octets (λ vs. AllByRecursion IsFitRepresentableScalar vs) (listed_at w32 item_at)
items_form = counted32 value_spelling IsFitRepresentableScalar item_at value_least item_form

abbrev pub IsFitRepresentableValue : Value → Type 0
IsFitRepresentableValue x = IsRepresentableValue x × (is_fit_value x ≡ true)

value_takes : (octets : List ℕ) (x : Value) (rest : List ℕ) → IsBytes octets → value_at octets ≡ Some (x, rest) → Took value_spelling IsFitRepresentableValue octets x rest
unfolding value_at list_at
value_takes [] x rest bytes e = absurd cc
value_takes (tag ∷ octets) x rest bytes e =
    elim (chosen (eqb tag 8) (list_at octets) (scalar_at tag octets) (Some (x, rest)) e) [
      | inl c ↦
          let t = tagged 8 list_octets (λ vs. AllByRecursion IsFitRepresentableScalar vs) (listed_at w32 item_at) values.List value_spelling IsFitRepresentableValue (λ vs all. value_spelling-List vs)
          (λ vs all. (IsRepresentableValue-List vs (each_of IsRepresentableValue is_fit_scalar vs all), fits-List vs (pass_of IsRepresentableValue is_fit_scalar vs all))) items_form octets x rest (λ i. bytes (suc i)) c.1 in
          subst (λ (k : ℕ). Took value_spelling IsFitRepresentableValue (k ∷ octets) x rest) (sym (eqb-true tag 8 c.0)) t
      | inr d ↦ let t = scalar_takes tag octets x rest (λ i. bytes (suc i)) d.1 in record { parts = t.parts; is = (t.is.0, scalar_fits x t.is.1) }
    ]

list_again : (vs : List Value) (rest : List ℕ) → AllByRecursion IsRepresentableValue vs → list_all is_fit_scalar vs ≡ true → length (list_octets vs) < 2 ^ 32 → value_at (8 ∷ (list_octets vs ++ rest)) ≡ Some (values.List vs, rest)
unfolding value_at list_at
list_again vs rest kept fit short =
    ap (λ (o : Option (List Value × List ℕ)). o >>= λ items. Some (values.List items.0, items.1)) (items_form.again vs rest (both_of IsRepresentableValue is_fit_scalar vs kept fit) short)

value_again : (x : Value) (rest : List ℕ) → IsFitRepresentableValue x → length (value_spelling x) < 2 ^ 32 → value_at (value_spelling x ++ rest) ≡ Some (x, rest)
value_again (v.List' n inner) rest is short =
    let spelled : value_spelling (v.List' n inner) ≡ 8 ∷ list_octets (row_values inner) = list_spelled (v.List' n inner) refl in
    ap (λ (l : List ℕ). value_at (l ++ rest)) spelled ∙ list_again (row_values inner) rest (kept_row inner is.0) is.1 (omega (arith, ap length spelled)) ∙ ap (λ (x : Value). Some (x, rest)) (list_back (v.List' n inner) refl)
value_again (v.Bool b) rest is short = (scalar_again (v.Bool b) rest is short).1
value_again (v.Int b) rest is short = (scalar_again (v.Int b) rest is short).1
value_again (v.Uint b) rest is short = (scalar_again (v.Uint b) rest is short).1
value_again (v.Dec b c) rest is short = (scalar_again (v.Dec b c) rest is short).1
value_again (v.Text b) rest is short = (scalar_again (v.Text b) rest is short).1
value_again (v.Bin b) rest is short = (scalar_again (v.Bin b) rest is short).1
value_again (v.Enum b) rest is short = (scalar_again (v.Enum b) rest is short).1

pub value_form : Reads value_spelling IsFitRepresentableValue value_at
value_form = record { takes = λ octets x rest bytes e. value_takes octets x rest bytes e; again = λ x rest is short. value_again x rest is short }

-- ---- rows and operations

abbrev IsFitRepresentableRow : Row → Type 0
IsFitRepresentableRow row = IsRepresentableRow row × (is_fit_row row ≡ true)

row_form : Reads row_spelling IsFitRepresentableRow row_at
unfolding row_at row_spelling
row_form = sequence path_spelling IsFitRepresentablePath path_at value_spelling IsFitRepresentableValue value_at (λ a b. record { path = a; value = b }) (λ r. r.path) (λ r. r.value) IsFitRepresentableRow
    (λ c. refl) (λ a b. refl) (λ a b. refl)
    (λ c is. let t = and_parts (is_fit_path c.path) (is_fit_value c.value) is.1 in ((is.0.path, t.0), (is.0.value, t.1)))
    (λ a b p q. (record { path = p.0; value = q.0 }, and_from (is_fit_path a) (is_fit_value b) p.1 q.1)) path_form value_form

row_least : (row : Row) → 1 ≤ length (row_spelling row)
unfolding row_spelling path_spelling
row_least row = omega (arith, length-append (path_spelling row.path) (value_spelling row.value), value_least row.value)

abbrev paths_rise : List Row → Bool
paths_rise rows = rises (λ a b. path_cmp a.path b.path) rows

abbrev AreFitRepresentableRows : List Row → Type 0
AreFitRepresentableRows rows = AllByRecursion IsFitRepresentableRow rows × (paths_rise rows ≡ true)

rows_form : Reads rows_spelling AreFitRepresentableRows rows_at
unfolding rows_at rows_spelling
rows_form = guarded (λ rs. to_be_bytes w32 (length rs) ++ flat_map row_spelling rs) (λ rs. AllByRecursion IsFitRepresentableRow rs) (listed_at w32 row_at) paths_rise (counted32 row_spelling IsFitRepresentableRow row_at row_least row_form)

act_take : (octets : List ℕ) (act : Act) (rest : List ℕ) → act_at octets ≡ Some (act, rest) → Took (λ a. act_octet a ∷ []) (λ a. Unit {0}) octets act rest
act_take [] act rest e = absurd cc
act_take (octet ∷ octets) act rest e =
    elim (chosen (eqb octet 1) (Some (Delete, octets)) (cond (eqb octet 2) (Some (Replace, octets)) (cond (eqb octet 3) (Some (Update, octets)) None)) (Some (act, rest)) e) [
      | inl c ↦ is Delete 1 c.0 refl c.1
      | inr d ↦ elim (chosen (eqb octet 2) (Some (Replace, octets)) (cond (eqb octet 3) (Some (Update, octets)) None) (Some (act, rest)) d.1) [
        | inl c ↦ is Replace 2 c.0 refl c.1
        | inr d ↦ let c = passed (eqb octet 3) (Some (Update, octets)) (act, rest) d.1 in is Update 3 c.0 refl c.1
      ]
    ]
  where
    is : (a : Act) (k : ℕ) → eqb octet k ≡ true → act_octet a ≡ k → ◌≡◌ {A = Option (Act × List ℕ)} (Some (a, octets)) (Some (act, rest)) → Took (λ b. act_octet b ∷ []) (λ b. Unit {0}) (octet ∷ octets) act rest
    is a k t same e = turned (λ b. act_octet b ∷ []) (λ b. Unit {0}) (octet ∷ octets) a act octets rest e (record { parts = ap (λ (n : ℕ). n ∷ octets) (eqb-true octet k t ∙ sym same); is = tt })

act_again : (act : Act) (rest : List ℕ) → act_at (act_octet act ∷ rest) ≡ Some (act, rest)
act_again Delete rest = refl
act_again Replace rest = refl
act_again Update rest = refl

act_form : Reads (λ a. act_octet a ∷ []) (λ a. Unit {0}) act_at
act_form = record { takes = λ octets x rest bytes e. act_take octets x rest e; again = λ x rest is short. act_again x rest }

abbrev HasFitParts : Op → Type 0
HasFitParts op = IsFitRepresentablePath op.path × AreFitRepresentableRows op.rows

op_parts_form : Reads op_spelling HasFitParts op_parts_at
unfolding op_parts_at op_spelling
op_parts_form = sequence3 (λ a. act_octet a ∷ []) (λ a. Unit {0}) act_at path_spelling IsFitRepresentablePath path_at rows_spelling AreFitRepresentableRows rows_at
    (λ a b c. record { act = a; path = b; rows = c }) (λ o. o.act) (λ o. o.path) (λ o. o.rows) HasFitParts
    (λ d is. refl) (λ a b c. refl) (λ a b c. refl) (λ a b c. refl) (λ d is. (tt, is.0, is.1)) (λ a b c p q s. (q, s)) act_form path_form rows_form

abbrev pub IsFitRepresentableOp : Op → Type 0
IsFitRepresentableOp op = IsRepresentableOp op × (is_fit_op op ≡ true)

op_said : (op : Op) → HasFitParts op × (has_fit_rows op.act op.rows ≡ true) → IsFitRepresentableOp op
op_said op is = (
  record { path = is.0.0.0; rows = each_of IsRepresentableRow is_fit_row op.rows is.0.1.0 },
  and_from (is_fit_path op.path && has_fit_rows op.act op.rows && list_all is_fit_row op.rows) (paths_rise op.rows)
      (and_from (is_fit_path op.path && has_fit_rows op.act op.rows) (list_all is_fit_row op.rows) (and_from (is_fit_path op.path) (has_fit_rows op.act op.rows) is.0.0.1 is.1) (pass_of IsRepresentableRow is_fit_row op.rows is.0.1.0))
      is.0.1.1,
)

op_back : (op : Op) → IsFitRepresentableOp op → HasFitParts op × (has_fit_rows op.act op.rows ≡ true)
op_back op is =
    let a = and_parts (is_fit_path op.path && has_fit_rows op.act op.rows && list_all is_fit_row op.rows) (paths_rise op.rows) is.1 in
    let b = and_parts (is_fit_path op.path && has_fit_rows op.act op.rows) (list_all is_fit_row op.rows) a.0 in
    let c = and_parts (is_fit_path op.path) (has_fit_rows op.act op.rows) b.0 in
    (((is.0.path, c.0), (both_of IsRepresentableRow is_fit_row op.rows is.0.rows b.1, a.1)), c.1)

op_form : Reads op_spelling IsFitRepresentableOp op_at
unfolding op_at
op_form = said_so op_spelling (λ o. HasFitParts o × (has_fit_rows o.act o.rows ≡ true)) IsFitRepresentableOp (λ octets. op_parts_at octets >>= λ o. cond (has_fit_rows o.0.act o.0.rows) (Some o) None)
    (λ x is. op_said x is) (λ x is. op_back x is) (guarded op_spelling HasFitParts op_parts_at (λ o. has_fit_rows o.act o.rows) op_parts_form)

op_least : (op : Op) → 1 ≤ length (op_spelling op)
unfolding op_spelling
op_least op = omega arith

abbrev AreFitRepresentableOps : List Op → Type 0
AreFitRepresentableOps ops = AreRepresentableOps ops × AreFitOps ops

ops_form : Reads ops_spelling AreFitRepresentableOps ops_at
unfolding ops_at ops_spelling
ops_form = said_so (λ os. to_be_bytes w32 (length os) ++ flat_map op_spelling os) (λ os. AllByRecursion IsFitRepresentableOp os) AreFitRepresentableOps (listed_at w32 op_at)
    (λ x is. (each_of IsRepresentableOp is_fit_op x is, pass_of IsRepresentableOp is_fit_op x is)) (λ x is. both_of IsRepresentableOp is_fit_op x is.0 is.1)
    (counted32 op_spelling IsFitRepresentableOp op_at op_least op_form)

-- ---- kinds and entries

abbrev IsFitRepresentableKind : Kind → Type 0
IsFitRepresentableKind kind = IsRepresentableKind kind × AreFitOps (ops_of kind)

kind_is : (number k : ℕ) (octets : List ℕ) (kind : Kind) (rest : List ℕ) → eqb number k ≡ true → Took kind_spelling IsFitRepresentableKind (k ∷ octets) kind rest → Took kind_spelling IsFitRepresentableKind (number ∷ octets) kind rest
kind_is number k octets kind rest e t = subst (λ (n : ℕ). Took kind_spelling IsFitRepresentableKind (n ∷ octets) kind rest) (sym (eqb-true number k e)) t

bare : (k : ℕ) (kind : Kind) → kind_spelling kind ≡ k ∷ [] → IsFitRepresentableKind kind → (number : ℕ) → eqb number k ≡ true → (octets : List ℕ) (x : Kind) (rest : List ℕ) → ◌≡◌ {A = Option (Kind × List ℕ)} (Some (kind, octets)) (Some (x, rest)) → Took kind_spelling IsFitRepresentableKind (number ∷ octets) x rest
bare k kind spelled fits number same octets x rest e =
    kind_is number k octets x rest same (turned kind_spelling IsFitRepresentableKind (k ∷ octets) kind x octets rest e (record { parts = ap (λ (l : List ℕ). l ++ octets) (sym spelled); is = fits }))

trial_takes : (octets : List ℕ) (x : Kind) (rest : List ℕ) → IsBytes octets → trial_at octets ≡ Some (x, rest) → Took kind_spelling IsFitRepresentableKind (2 ∷ octets) x rest
unfolding trial_at kind_spelling
trial_takes octets x rest bytes e =
    let a = bind_some (text_at octets) (λ id. number_at w64 id.1 >>= λ deadline. ops_at deadline.1 >>= λ ops. Some (kinds.Trial id.0 ops.0 deadline.0, ops.1)) (x, rest) e in
    let b = bind_some (number_at w64 a.0.1) (λ deadline. ops_at deadline.1 >>= λ ops. Some (kinds.Trial a.0.0 ops.0 deadline.0, ops.1)) (x, rest) a.2 in
    let c = bind_some (ops_at b.0.1) (λ ops. Some (kinds.Trial a.0.0 ops.0 b.0.0, ops.1)) (x, rest) b.2 in
    let t = text_form.takes octets a.0.0 a.0.1 bytes a.1 in
    let bytes1 = IsBytes-rest octets (text_spelling a.0.0) a.0.1 bytes t.parts in
    let u = (numbers w64 (2 ^ 64) wide64).takes a.0.1 b.0.0 b.0.1 bytes1 b.1 in
    let s = ops_form.takes b.0.1 c.0.0 c.0.1 (IsBytes-rest a.0.1 (to_be_bytes w64 b.0.0) b.0.1 bytes1 u.parts) c.1 in
    turned kind_spelling IsFitRepresentableKind (2 ∷ octets) (kinds.Trial a.0.0 c.0.0 b.0.0) x c.0.1 rest c.2
    (record {
      parts = ap (λ (l : List ℕ). 2 ∷ l) (t.parts ∙ ap (λ (l : List ℕ). text_spelling a.0.0 ++ l) (u.parts ∙ ap (λ (l : List ℕ). to_be_bytes w64 b.0.0 ++ l) s.parts ∙ sym (append_assoc (to_be_bytes w64 b.0.0) (ops_spelling c.0.0) c.0.1))
          ∙ sym (append_assoc (text_spelling a.0.0) (to_be_bytes w64 b.0.0 ++ ops_spelling c.0.0) c.0.1));
      is = (record { id_kept = t.is; ops_kept = s.is.0; deadline_kept = u.is }, s.is.1);
    })

content_takes : (number : ℕ) (octets : List ℕ) (x : Kind) (rest : List ℕ) → IsBytes octets → content_at number octets ≡ Some (x, rest) → Took kind_spelling IsFitRepresentableKind (number ∷ octets) x rest
unfolding content_at kind_spelling
content_takes number octets x rest bytes e =
    elim (chosen (eqb number 1) (apply_at octets) (not_1 number octets) (Some (x, rest)) e) [
      | inl c ↦ kind_is number 1 octets x rest c.0 (tagged 1 ops_spelling AreFitRepresentableOps ops_at kinds.Apply kind_spelling IsFitRepresentableKind (λ os is. refl) (λ os is. is) ops_form octets x rest bytes c.1)
      | inr d ↦ elim (chosen (eqb number 2) (trial_at octets) (not_2 number octets) (Some (x, rest)) d.1) [
        | inl c ↦ kind_is number 2 octets x rest c.0 (trial_takes octets x rest bytes c.1)
        | inr d ↦ elim (chosen (eqb number 3) (Some (kinds.Confirm, octets)) (not_3 number octets) (Some (x, rest)) d.1) [
          | inl c ↦ bare 3 kinds.Confirm refl (tt, refl) number c.0 octets x rest c.1
          | inr d ↦ elim (chosen (eqb number 4) (Some (kinds.Cancel, octets)) (not_4 number octets) (Some (x, rest)) d.1) [
            | inl c ↦ bare 4 kinds.Cancel refl (tt, refl) number c.0 octets x rest c.1
            | inr d ↦ elim (chosen (eqb number 5) (Some (kinds.Expire, octets)) (not_5 number octets) (Some (x, rest)) d.1) [
              | inl c ↦ bare 5 kinds.Expire refl (tt, refl) number c.0 octets x rest c.1
              | inr d ↦ elim (chosen (eqb number 6) (Some (kinds.Restart, octets)) (not_6 number octets) (Some (x, rest)) d.1) [
                | inl c ↦ bare 6 kinds.Restart refl (tt, refl) number c.0 octets x rest c.1
                | inr d ↦
                    let c = passed (eqb number 7) (extend_at octets) (x, rest) d.1 in
                    kind_is number 7 octets x rest c.0 (tagged 7 (to_be_bytes w64) (λ n. n < 2 ^ 64) (number_at w64) kinds.Extend kind_spelling IsFitRepresentableKind (λ n lt. refl) (λ n lt. (lt, refl)) (numbers w64 (2 ^ 64) wide64) octets x rest bytes c.1)
              ]
            ]
          ]
        ]
      ]
    ]
  where
    not_6 : ℕ → List ℕ → Option (Kind × List ℕ)
    not_6 number octets = cond (eqb number 7) (extend_at octets) None

    not_5 : ℕ → List ℕ → Option (Kind × List ℕ)
    not_5 number octets = cond (eqb number 6) (Some (kinds.Restart, octets)) (not_6 number octets)

    not_4 : ℕ → List ℕ → Option (Kind × List ℕ)
    not_4 number octets = cond (eqb number 5) (Some (kinds.Expire, octets)) (not_5 number octets)

    not_3 : ℕ → List ℕ → Option (Kind × List ℕ)
    not_3 number octets = cond (eqb number 4) (Some (kinds.Cancel, octets)) (not_4 number octets)

    not_2 : ℕ → List ℕ → Option (Kind × List ℕ)
    not_2 number octets = cond (eqb number 3) (Some (kinds.Confirm, octets)) (not_3 number octets)

    not_1 : ℕ → List ℕ → Option (Kind × List ℕ)
    not_1 number octets = cond (eqb number 2) (trial_at octets) (not_2 number octets)

kind_takes : (octets : List ℕ) (x : Kind) (rest : List ℕ) → IsBytes octets → kind_at octets ≡ Some (x, rest) → Took kind_spelling IsFitRepresentableKind octets x rest
unfolding kind_at
kind_takes [] x rest bytes e = absurd cc
kind_takes (number ∷ octets) x rest bytes e = content_takes number octets x rest (λ i. bytes (suc i)) e

kind_again : (x : Kind) (rest : List ℕ) → IsFitRepresentableKind x → length (kind_spelling x) < 2 ^ 32 → kind_at (kind_spelling x ++ rest) ≡ Some (x, rest)
unfolding kind_at content_at trial_at kind_spelling
kind_again (kinds.Apply os) rest is short = rw (ops_form.again os rest is (omega arith)) refl
kind_again (kinds.Trial id os deadline) rest is short =
    let sum = length-append (text_spelling id) (to_be_bytes w64 deadline ++ ops_spelling os) in
    let sum2 = length-append (to_be_bytes w64 deadline) (ops_spelling os) in
    let regrouped : (text_spelling id ++ (to_be_bytes w64 deadline ++ ops_spelling os)) ++ rest ≡ text_spelling id ++ (to_be_bytes w64 deadline ++ (ops_spelling os ++ rest)) =
    append_assoc (text_spelling id) (to_be_bytes w64 deadline ++ ops_spelling os) rest ∙ ap (λ (l : List ℕ). text_spelling id ++ l) (append_assoc (to_be_bytes w64 deadline) (ops_spelling os) rest) in
    let first = text_form.again id (to_be_bytes w64 deadline ++ (ops_spelling os ++ rest)) is.0.id_kept (omega (arith, sum)) in
    let second = (numbers w64 (2 ^ 64) wide64).again deadline (ops_spelling os ++ rest) is.0.deadline_kept (omega arith) in
    let third = ops_form.again os rest (is.0.ops_kept, is.1) (omega (arith, sum, sum2)) in
    ap trial_at regrouped
    ∙ ap (λ (o : Option (List ℕ × List ℕ)). o >>= λ id. number_at w64 id.1 >>= λ deadline. ops_at deadline.1 >>= λ ops. Some (kinds.Trial id.0 ops.0 deadline.0, ops.1)) first
    ∙ ap (λ (o : Option (ℕ × List ℕ)). o >>= λ deadline. ops_at deadline.1 >>= λ ops. Some (kinds.Trial id ops.0 deadline.0, ops.1)) second
    ∙ ap (λ (o : Option (List Op × List ℕ)). o >>= λ ops. Some (kinds.Trial id ops.0 deadline, ops.1)) third
kind_again kinds.Confirm rest is short = refl
kind_again kinds.Cancel rest is short = refl
kind_again kinds.Expire rest is short = refl
kind_again kinds.Restart rest is short = refl
kind_again (kinds.Extend deadline) rest is short =
    ap (λ (o : Option (ℕ × List ℕ)). o >>= λ n. Some (kinds.Extend n.0, n.1)) ((numbers w64 (2 ^ 64) wide64).again deadline rest is.0 (omega arith))

kind_form : Reads kind_spelling IsFitRepresentableKind kind_at
kind_form = record { takes = λ octets x rest bytes e. kind_takes octets x rest bytes e; again = λ x rest is short. kind_again x rest is short }

pub record IsFitRepresentable (number : ℕ) (entry : Entry) : Type 0 where
  pub kept : IsRepresentable entry
  pub fits : AreFitOps (ops_of entry.kind)
  pub number_is : entry.number ≡ number

pub entry_form : (number : ℕ) → Reads record_of (λ e. IsFitRepresentable number e) (entry_at number)
unfolding entry_at record_of
entry_form number = sequence3 (to_be_bytes w32) (λ n. n < 2 ^ 32) (number_at w32) (to_be_bytes w64) (λ n. n < 2 ^ 64) (number_at w64) kind_spelling IsFitRepresentableKind kind_at
    (λ a b c. record { number = number; author = a; stamp = b; kind = c }) (λ e. e.author) (λ e. e.stamp) (λ e. e.kind) (λ e. IsFitRepresentable number e)
    (λ d is. ap (λ (n : ℕ). record d { number = n }) (sym is.number_is)) (λ a b c. refl) (λ a b c. refl) (λ a b c. refl)
    (λ d is. (is.kept.author, is.kept.stamp, (is.kept.kind, is.fits))) (λ a b c p q s. record { kept = record { author = p; stamp = q; kind = s.0 }; fits = s.1; number_is = refl })
    (numbers w32 (2 ^ 32) wide32) (numbers w64 (2 ^ 64) wide64) kind_form

pub ruleset of_a_list = (value_spelling-List, IsRepresentableValue-List, value_octets-List)
