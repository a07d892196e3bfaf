-- What is written of a SetResponse is found in it.
use Rattle.std.proofs.Common.{◌≡◌, ℕ, zero, suc, ◌+◌, ◌^◌, ◌<◌, ◌≤◌, Bool, true, false, cond, eqb, List, [], ◌∷◌, ◌++◌, length, Option, Some, None, refl, sym, ap, ◌∙◌, subst, arith, append-nil, lit≤}
use Rattle.std.specs.Prelude.{map}
use Rattle.std.specs.Option.{option_map, is_some}
use Rattle.std.specs.List.{AllByRecursion, cons_option}
use Rattle.std.specs.Str.{is_utf8, chars}
use Rattle.std.proofs.lemmas.Bool.{eqb-true, eq-eqb}
use Rattle.std.proofs.lemmas.List.{length-append}
use Rattle.base_lists.specs.Options.{◌>>=◌}
use Rattle.base_kinds.specs.declared.operation.Act.{Act}
use Rattle.base_kinds.specs.declared.operation.Act.TheVariants as acts
use Rattle.base_kinds.specs.declared.path.Elem.{Elem}
use Rattle.base_kinds.specs.declared.request.Given.{Given}
use Rattle.gnmi_kinds.specs.declared.path.GnmiPath.{GnmiPath}
use Rattle.pb_wire.specs.declared.field.Field.{Field}
use Rattle.pb_wire.specs.Varint.{shortest}
use Rattle.pb_wire.specs.Writing.{octets_field}
use Rattle.pb_wire.specs.Values.{varints}
use Rattle.pb_message.specs.Fields.{all_fields, is_message}
use Rattle.pb_message.specs.Values.{pieces_under, joined_pieces, has_number_above, message_under}
use Rattle.pb_message.proofs.Repeated.{empty_fields, empty_passes, empty_pieces}
use Rattle.pb_message.proofs.Written.{message_appended, pieces_appended, numbers_appended, octets_fields, octets_pass, pieces_here, pieces_elsewhere, pieces_of_varint}
use Rattle.gnmi_data_msg.specs.Numbers.{path_element, path_origin, path_elem, path_target, update_path, update_val}
use Rattle.gnmi_data_msg.specs.Parts.{each, fields_in, messages_in}
use Rattle.gnmi_data_msg.specs.Paths.{elem_of, path_of}
use Rattle.gnmi_data_msg.specs.TypedValues.{typed_of}
use Rattle.gnmi_data_msg.specs.ReadBack.{IsTextElem}
use Rattle.gnmi_data_msg.specs.Writing.{text_field, number_field, message_fields, elem_message, path_message, whole_path_message}
use Rattle.gnmi_data_msg.proofs.FieldsIn.{is_read}
use Rattle.gnmi_data_msg.proofs.ReadBack.{appended, text_there, text_pieces, text_read, text_short, texts_absent, messages_there, items_short, path_read}
use Rattle.gnmi_data_msg.proofs.Single.{number_list, number_passes, number_there, last_number}
use Rattle.gnmi_ext_msg.specs.declared.extension.Extension.{Extension}
use Rattle.gnmi_ext_msg.specs.Extensions.{extension_of}
use Rattle.gnmi_data_msg.specs.Singles.{single_message, enum_under}
use Rattle.gnmi_set_msg.specs.declared.request.Update.{Update}
use Rattle.gnmi_set_msg.specs.declared.request.SetRequest.{SetRequest}
use Rattle.gnmi_set_msg.specs.Numbers.{set_prefix, set_delete, set_replace, set_update, set_extension, reply_prefix, reply_response, reply_timestamp, result_path, result_op, op_of}
use Rattle.gnmi_set_msg.specs.Requests.{update_of, request_of}
use Rattle.gnmi_set_msg.specs.Replies.{result_message, update_result, prefix_field, reply_message, reply_of}
use Rattle.gnmi_set_msg.specs.ReadBack.{ResultRead, result_in, prefix_in, reply_in, written_path, written_result, written_update, written_reply}
use Rattle.gnmi_set_msg.proofs.TextPaths.{found, same_some, each_holds, IsTextPath, path_is_text}

-- ---- what octets hold

-- the octets are a message that holds these pieces under each number, and no numbers
record HasPieces (octets : List ℕ) (pieces : ℕ → List (List ℕ)) : Type 0 where
  is : is_message octets ≡ true
  numbers_are : (k : ℕ) → varints k (all_fields octets) ≡ []
  pieces_are : (k : ℕ) → pieces_under k octets ≡ pieces k

-- under one number alone
abbrev only : ℕ → List (List ℕ) → ℕ → List (List ℕ)
only number held k = cond (eqb number k) held []

has_nothing : HasPieces [] (λ k. [])
has_nothing = record { is = empty_passes; numbers_are = λ k. ap (varints k) empty_fields; pieces_are = empty_pieces }

has_both : {a b : List ℕ} {p q : ℕ → List (List ℕ)} → HasPieces a p → HasPieces b q → HasPieces (a ++ b) (λ k. p k ++ q k)
has_both {a} {b} {p} {q} x y = record {
  is = message_appended a b x.is y.is;
  numbers_are = λ k.
      numbers_appended k a b x.is y.is
      ∙ ap (λ (found : List ℕ). found ++ varints k (all_fields b)) (x.numbers_are k)
      ∙ y.numbers_are k;
  pieces_are = λ k.
      pieces_appended k a b x.is y.is
      ∙ ap (λ (found : List (List ℕ)). found ++ pieces_under k b) (x.pieces_are k)
      ∙ ap (λ (found : List (List ℕ)). p k ++ found) (y.pieces_are k);
}

has_same : {a : List ℕ} {p q : ℕ → List (List ℕ)} → HasPieces a p → ((k : ℕ) → p k ≡ q k) → HasPieces a q
has_same x same = record { is = x.is; numbers_are = x.numbers_are; pieces_are = λ k. x.pieces_are k ∙ same k }

none_there : (number k : ℕ) → [] ≡ only number [] k
none_there number k = by (eqb number k)
  where
    by : (b : Bool) → ◌≡◌ {A = List (List ℕ)} [] (cond b [] [])
    by true = refl
    by false = refl

has_field : (number : ℕ) (octets : List ℕ) → 1 ≤ number → number ≤ 15 → length octets < 2 ^ 64 → HasPieces (octets_field number octets) (only number (octets ∷ []))
has_field number octets low high short = record {
  is = octets_pass number octets low high short;
  numbers_are = λ k. ap (varints k) (octets_fields number octets low high short) ∙ no_number (eqb number k);
  pieces_are = λ k. at k (eqb number k) refl;
}
  where
    no_number : (b : Bool) → ◌≡◌ {A = List ℕ} (cons_option (cond b None None) []) []
    no_number true = refl
    no_number false = refl

    at : (k : ℕ) (test : Bool) → eqb number k ≡ test → pieces_under k (octets_field number octets) ≡ cond (eqb number k) (octets ∷ []) []
    at k true e =
        subst (λ (n : ℕ). pieces_under n (octets_field number octets) ≡ cond (eqb number n) (octets ∷ []) [])
        (eqb-true number k e) (pieces_here number octets low high short ∙ sym (ap (λ (b : Bool). cond b (octets ∷ []) []) (eq-eqb number number refl)))
    at k false e = pieces_elsewhere k number octets low high short e ∙ sym (ap (λ (b : Bool). cond b (octets ∷ []) []) e)

has_fields : {A : Type 0} (f : A → List ℕ) (number : ℕ) (items : List A) → 1 ≤ number → number ≤ 15 → AllByRecursion (λ item. length (f item) < 2 ^ 64) items → HasPieces (message_fields f number items) (only number (map f items))
has_fields f number [] low high short = has_same has_nothing (none_there number)
has_fields {A} f number (item ∷ items) low high short =
    has_same (has_both (has_field number (f item) low high short.0) (has_fields f number items low high short.1)) (λ k. one_more (eqb number k))
  where
    one_more : (b : Bool) → cond b (f item ∷ []) [] ++ cond b (map f items) [] ≡ cond b (f item ∷ map f items) []
    one_more true = refl
    one_more false = refl

-- and behind them one number
record EndsWithNumber (octets : List ℕ) (pieces : ℕ → List (List ℕ)) (number value : ℕ) : Type 0 where
  is : is_message octets ≡ true
  number_is : varints number (all_fields octets) ≡ number_list value
  pieces_are : (k : ℕ) → pieces_under k octets ≡ pieces k

ends_with : {a : List ℕ} {p : ℕ → List (List ℕ)} (number value : ℕ) → HasPieces a p → 1 ≤ number → number ≤ 15 → value < 2 ^ 64 → EndsWithNumber (a ++ number_field number value) p number value
ends_with {a} {p} number value x low high fits =
    let last = number_passes number value low high fits in
    record {
      is = message_appended a (number_field number value) x.is last;
      number_is =
          numbers_appended number a (number_field number value) x.is last
          ∙ ap (λ (found : List ℕ). found ++ varints number (all_fields (number_field number value))) (x.numbers_are number)
          ∙ number_there number value low high fits;
      pieces_are = λ k.
          pieces_appended k a (number_field number value) x.is last
          ∙ ap (λ (found : List (List ℕ)). found ++ pieces_under k (number_field number value)) (x.pieces_are k)
          ∙ ap (λ (found : List (List ℕ)). p k ++ found) (none value k fits)
          ∙ append-nil (p k);
    }
  where
    none : (value k : ℕ) → value < 2 ^ 64 → pieces_under k (number_field number value) ≡ []
    none zero k fits = empty_pieces k
    none (suc v) k fits = pieces_of_varint k number (suc v) low high fits

field_long : (number : ℕ) (octets : List ℕ) → length octets < length (octets_field number octets)
field_long number octets =
    let own : length (shortest (length octets) ++ octets) ≡ length (shortest (length octets)) + length octets = length-append (shortest (length octets)) octets in
    let first : length (octets_field number octets) ≡ suc (length (shortest (length octets) ++ octets)) = refl in
    omega (arith, own, first)

-- ---- paths

empty_text : is_utf8 [] ≡ true
unfolding is_utf8 chars lib.Utf8.encode
empty_text = refl

abbrev plain_path : List Elem → GnmiPath
plain_path elems = record { path = elems; origin = []; target = []; old_element = false }

-- a path is read back by its elements
by_elems : (path : List Elem) (elems : Option (List Elem)) → length (path_message path) < 2 ^ 64 → each elem_of (map elem_message path) ≡ elems
    → path_of (path_message path) ≡ (elems >>= (λ (found : List Elem). Some (plain_path found)))
unfolding path_of
by_elems path elems short e =
    let there = messages_there elem_message path_elem path (lit≤ tt) (lit≤ tt) (items_short elem_message path_elem path short) in
    rw (
      is_read (path_message path) there.fields there.is,
      text_read (path_message path) path_origin there.fields [] (there.holds path_origin) empty_text,
      there.holds path_elem,
      e,
      text_read (path_message path) path_target there.fields [] (there.holds path_target) empty_text,
      texts_absent (path_message path) path_element there.fields (there.holds path_element),
      there.holds path_element,
    ) refl

elems_read : (path : List Elem) → AllByRecursion IsTextElem path → length (path_message path) < 2 ^ 64 → each elem_of (map elem_message path) ≡ Some path
elems_read path are short = by (each elem_of (map elem_message path)) refl
  where
    whole : path_of (path_message path) ≡ Some (plain_path path)
    whole = path_read path (record { elems = are; short = short })

    by : (elems : Option (List Elem)) → each elem_of (map elem_message path) ≡ elems → each elem_of (map elem_message path) ≡ Some path
    by None e = absurd (let none : ◌≡◌ {A = Option GnmiPath} None (Some (plain_path path)) = sym (by_elems path None short e) ∙ whole in cc)
    by (Some elems) e =
        let same : plain_path elems ≡ plain_path path = same_some (plain_path elems) (plain_path path) (sym (by_elems path (Some elems) short e) ∙ whole) in
        e ∙ ap (λ (p : GnmiPath). Some p.path) same

whole_path_read : (path : GnmiPath) → IsTextPath path → length (whole_path_message path) < 2 ^ 64 → path_of (whole_path_message path) ≡ Some (written_path path)
unfolding path_of
whole_path_read path is short =
    let o : List ℕ = text_field path_origin path.origin in
    let e : List ℕ = path_message path.path in
    let t : List ℕ = text_field path_target path.target in
    let m : List ℕ = o ++ e ++ t in
    let all : length (o ++ e ++ t) ≡ length (o ++ e) + length t = length-append (o ++ e) t in
    let two : length (o ++ e) ≡ length o + length e = length-append o e in
    let own_o = text_short path_origin path.origin in
    let own_t = text_short path_target path.target in
    let short_e : length e < 2 ^ 64 = omega (arith, all, two, short) in
    let there = appended (appended (text_there path_origin path.origin (lit≤ tt) (lit≤ tt) (omega (arith, all, two, own_o, short)))
    (messages_there elem_message path_elem path.path (lit≤ tt) (lit≤ tt) (items_short elem_message path_elem path.path short_e)))
    (text_there path_target path.target (lit≤ tt) (lit≤ tt) (omega (arith, all, own_t, short))) in
    let origin = there.holds path_origin ∙ append-nil (text_pieces path.origin ++ []) ∙ append-nil (text_pieces path.origin) in
    let elems = there.holds path_elem ∙ append-nil (map elem_message path.path) in
    rw (
      is_read m there.fields there.is,
      text_read m path_origin there.fields path.origin origin is.origin,
      elems,
      elems_read path.path is.elems short_e,
      text_read m path_target there.fields path.target (there.holds path_target) is.target,
      texts_absent m path_element there.fields (there.holds path_element),
      there.holds path_element,
    ) refl

-- ---- results

op_small : (act : Act) → op_of act < 2 ^ 64
op_small acts.Delete = omega arith
op_small acts.Replace = omega arith
op_small acts.Update = omega arith

op_read : (act : Act) (octets : List ℕ) → varints result_op (all_fields octets) ≡ number_list (op_of act) → enum_under result_op octets ≡ op_of act
op_read acts.Delete octets e = rw e refl
op_read acts.Replace octets e = rw e refl
op_read acts.Update octets e = rw e refl

result_read : (act : Act) (path : GnmiPath) → IsTextPath path → length (result_message act path) < 2 ^ 64 → result_in (result_message act path) ≡ Some (written_result act path)
unfolding result_in
result_read act path is short =
    let m : List ℕ = whole_path_message path in
    let f : List ℕ = octets_field result_path m in
    let sum : length (result_message act path) ≡ length f + length (number_field result_op (op_of act)) = length-append f (number_field result_op (op_of act)) in
    let long : length m < length f = field_long result_path m in
    let short_m : length m < 2 ^ 64 = omega (arith, sum, long, short) in
    let there = ends_with result_op (op_of act) (has_field result_path m (lit≤ tt) (lit≤ tt) short_m) (lit≤ tt) (lit≤ tt) (op_small act) in
    let path_is : pieces_under result_path (result_message act path) ≡ m ∷ [] = there.pieces_are result_path in
    rw (there.is, path_is, append-nil m, whole_path_read path is short_m, op_read act (result_message act path) there.number_is) refl

results_read : {A : Type 0} (f : A → List ℕ) (g : A → ResultRead) (P : A → Type 0) → ((item : A) → P item → length (f item) < 2 ^ 64 → result_in (f item) ≡ Some (g item))
    → (items : List A) → AllByRecursion P items → AllByRecursion (λ item. length (f item) < 2 ^ 64) items → each result_in (map f items) ≡ Some (map g items)
results_read f g P own [] all short = refl
results_read f g P own (item ∷ items) all short = rw (own item all.0 short.0, results_read f g P own items all.1 short.1) refl

both_read : (xs ys : List (List ℕ)) (a b : List ResultRead) → each result_in xs ≡ Some a → each result_in ys ≡ Some b → each result_in (xs ++ ys) ≡ Some (a ++ b)
both_read [] ys a b first second = second ∙ ap (λ (rs : List ResultRead). Some (rs ++ b)) (same_some [] a first)
both_read (x ∷ xs) ys a b first second =
    let f = found (result_in x) (λ (r : ResultRead). each result_in xs >>= (λ (others : List ResultRead). Some (r ∷ others))) a first in
    let o = found (each result_in xs) (λ (others : List ResultRead). Some (f.a ∷ others)) a f.then in
    rw (f.is, both_read xs ys o.a b o.is second) (ap (λ (rs : List ResultRead). Some (rs ++ b)) (same_some (f.a ∷ o.a) a o.then))

-- ---- the reply

-- the paths of a request that was read
record HasTextPaths (request : SetRequest) : Type 0 where
  prefix : IsTextPath request.prefix
  deletes : AllByRecursion IsTextPath request.deletes
  replaces : AllByRecursion (λ (update : Update). IsTextPath update.path) request.replaces
  updates : AllByRecursion (λ (update : Update). IsTextPath update.path) request.updates

abbrev prefix_pieces : Bool → GnmiPath → List (List ℕ)
prefix_pieces has prefix = cond has (whole_path_message prefix ∷ []) []

abbrev prefix_octets : Bool → GnmiPath → List ℕ
prefix_octets has prefix = cond has (octets_field reply_prefix (whole_path_message prefix)) []

prefix_there : (has : Bool) (prefix : GnmiPath) → length (prefix_octets has prefix) < 2 ^ 64 → HasPieces (prefix_octets has prefix) (only reply_prefix (prefix_pieces has prefix))
prefix_there false prefix short = has_same has_nothing (none_there reply_prefix)
prefix_there true prefix short =
    let m : List ℕ = whole_path_message prefix in
    let long : length m < length (octets_field reply_prefix m) = field_long reply_prefix m in
    has_field reply_prefix m (lit≤ tt) (lit≤ tt) (omega (arith, long, short))

prefix_read : (has : Bool) (prefix : GnmiPath) → IsTextPath prefix → length (prefix_octets has prefix) < 2 ^ 64 → prefix_in (joined_pieces (prefix_pieces has prefix)) ≡ Some (cond has (Some (written_path prefix)) None)
prefix_read false prefix is short = refl
prefix_read true prefix is short =
    let m : List ℕ = whole_path_message prefix in
    let long : length m < length (octets_field reply_prefix m) = field_long reply_prefix m in
    rw (append-nil m, whole_path_read prefix is (omega (arith, long, short))) refl

reply_read : (stamp : ℕ) (request : SetRequest) → stamp < 2 ^ 64 → HasTextPaths request → length (reply_message stamp request) < 2 ^ 64 → reply_in (reply_message stamp request) ≡ Some (written_reply stamp request)
unfolding reply_in
reply_read stamp request fits are short =
    let p : List ℕ = prefix_field request in
    let d : List ℕ = message_fields (result_message acts.Delete) reply_response request.deletes in
    let r : List ℕ = message_fields (update_result acts.Replace) reply_response request.replaces in
    let u : List ℕ = message_fields (update_result acts.Update) reply_response request.updates in
    let t : List ℕ = number_field reply_timestamp stamp in
    let all : length (p ++ d ++ r ++ u ++ t) ≡ length (p ++ d ++ r ++ u) + length t = length-append (p ++ d ++ r ++ u) t in
    let four : length (p ++ d ++ r ++ u) ≡ length (p ++ d ++ r) + length u = length-append (p ++ d ++ r) u in
    let three : length (p ++ d ++ r) ≡ length (p ++ d) + length r = length-append (p ++ d) r in
    let two : length (p ++ d) ≡ length p + length d = length-append p d in
    let short_p : length p < 2 ^ 64 = omega (arith, all, four, three, two, short) in
    let short_d = items_short (result_message acts.Delete) reply_response request.deletes (omega (arith, all, four, three, two, short)) in
    let short_r = items_short (update_result acts.Replace) reply_response request.replaces (omega (arith, all, four, three, short)) in
    let short_u = items_short (update_result acts.Update) reply_response request.updates (omega (arith, all, four, short)) in
    let ds : List (List ℕ) = map (result_message acts.Delete) request.deletes in
    let rs : List (List ℕ) = map (update_result acts.Replace) request.replaces in
    let us : List (List ℕ) = map (update_result acts.Update) request.updates in
    let there = ends_with reply_timestamp stamp
    (has_both (has_both (has_both (prefix_there request.has_prefix request.prefix short_p)
    (has_fields (result_message acts.Delete) reply_response request.deletes (lit≤ tt) (lit≤ tt) short_d))
    (has_fields (update_result acts.Replace) reply_response request.replaces (lit≤ tt) (lit≤ tt) short_r))
    (has_fields (update_result acts.Update) reply_response request.updates (lit≤ tt) (lit≤ tt) short_u))
    (lit≤ tt) (lit≤ tt) fits in
    let pp : List (List ℕ) = prefix_pieces request.has_prefix request.prefix in
    let prefix_is : pieces_under reply_prefix (reply_message stamp request) ≡ pp =
    there.pieces_are reply_prefix ∙ append-nil (pp ++ [] ++ []) ∙ append-nil (pp ++ []) ∙ append-nil pp in
    let results_are : pieces_under reply_response (reply_message stamp request) ≡ ds ++ rs ++ us = there.pieces_are reply_response in
    let deletes = results_read (result_message acts.Delete) (written_result acts.Delete) IsTextPath (λ path is. result_read acts.Delete path is) request.deletes are.deletes short_d in
    let replaces = results_read (update_result acts.Replace) (written_update acts.Replace) (λ (update : Update). IsTextPath update.path) (λ update is. result_read acts.Replace update.path is) request.replaces are.replaces short_r in
    let updates = results_read (update_result acts.Update) (written_update acts.Update) (λ (update : Update). IsTextPath update.path) (λ update is. result_read acts.Update update.path is) request.updates are.updates short_u in
    let each_is = both_read (ds ++ rs) us _ _ (both_read ds rs _ _ deletes replaces) updates in
    rw (
      there.is,
      prefix_is,
      prefix_read request.has_prefix request.prefix are.prefix short_p,
      results_are,
      each_is,
      there.number_is,
      last_number stamp,
    ) refl

-- ---- a request that was read

abbrev value_step : List ℕ → GnmiPath → Option Update
value_step octets path = typed_of (single_message update_val octets) >>= (λ (value : Given). Some (record { path = path; given = value }))

update_is_text : (octets : List ℕ) (update : Update) → update_of octets ≡ Some update → IsTextPath update.path
unfolding update_of
update_is_text octets update e = by (is_message octets) e
  where
    by : (b : Bool) → cond b (path_of (single_message update_path octets) >>= value_step octets) None ≡ Some update → IsTextPath update.path
    by true all =
        let p = found (path_of (single_message update_path octets)) (value_step octets) update all in
        let v = found (typed_of (single_message update_val octets)) (λ (value : Given). Some (record { path = p.a; given = value })) update p.then in
        subst (λ (u : Update). IsTextPath u.path) (same_some (record { path = p.a; given = v.a }) update v.then) (path_is_text (single_message update_path octets) p.a p.is)
    by false all = absurd cc

abbrev request_with : List ℕ → GnmiPath → List GnmiPath → List Update → List Update → List Extension → SetRequest
request_with octets prefix deletes replaces updates extensions = record {
  prefix = prefix;
  has_prefix = is_some (message_under set_prefix octets);
  deletes = deletes;
  replaces = replaces;
  updates = updates;
  extensions = extensions;
  union_replace = has_number_above set_extension octets;
}

abbrev extensions_step : List ℕ → List Field → GnmiPath → List GnmiPath → List Update → List Update → Option SetRequest
extensions_step octets fields prefix deletes replaces updates = messages_in extension_of octets set_extension fields >>= (λ (extensions : List Extension). Some (request_with octets prefix deletes replaces updates extensions))

abbrev updates_step : List ℕ → List Field → GnmiPath → List GnmiPath → List Update → Option SetRequest
updates_step octets fields prefix deletes replaces = messages_in update_of octets set_update fields >>= extensions_step octets fields prefix deletes replaces

abbrev replaces_step : List ℕ → List Field → GnmiPath → List GnmiPath → Option SetRequest
replaces_step octets fields prefix deletes = messages_in update_of octets set_replace fields >>= updates_step octets fields prefix deletes

abbrev deletes_step : List ℕ → List Field → GnmiPath → Option SetRequest
deletes_step octets fields prefix = messages_in path_of octets set_delete fields >>= replaces_step octets fields prefix

abbrev prefix_step : List ℕ → List Field → Option SetRequest
prefix_step octets fields = path_of (single_message set_prefix octets) >>= deletes_step octets fields

request_is_text : (octets : List ℕ) (request : SetRequest) → request_of octets ≡ Some request → HasTextPaths request
unfolding request_of
request_is_text octets request e =
    let f = found (fields_in octets) (prefix_step octets) request e in
    let p = found (path_of (single_message set_prefix octets)) (deletes_step octets f.a) request f.then in
    let d = found (messages_in path_of octets set_delete f.a) (replaces_step octets f.a p.a) request p.then in
    let r = found (messages_in update_of octets set_replace f.a) (updates_step octets f.a p.a d.a) request d.then in
    let u = found (messages_in update_of octets set_update f.a) (extensions_step octets f.a p.a d.a r.a) request r.then in
    let x = found (messages_in extension_of octets set_extension f.a) (λ (extensions : List Extension). Some (request_with octets p.a d.a r.a u.a extensions)) request u.then in
    subst (λ (q : SetRequest). HasTextPaths q) (same_some (request_with octets p.a d.a r.a u.a x.a) request x.then) (record {
      prefix = path_is_text (single_message set_prefix octets) p.a p.is;
      deletes = each_holds path_of IsTextPath path_is_text _ d.a d.is;
      replaces = each_holds update_of (λ (update : Update). IsTextPath update.path) update_is_text _ r.a r.is;
      updates = each_holds update_of (λ (update : Update). IsTextPath update.path) update_is_text _ u.a u.is;
    })

-- The octets that answer a request are read as what it is answered with.
pub replied : (octets reply : List ℕ) (stamp : ℕ) → stamp < 2 ^ 64 → reply_of octets stamp ≡ Some reply → length reply < 2 ^ 64
    → (request : SetRequest) × (request_of octets ≡ Some request) × (reply_in reply ≡ Some (written_reply stamp request))
replied octets reply stamp fits e short = by (request_of octets) refl e
  where
    by : (request : Option SetRequest) → request_of octets ≡ request → option_map (reply_message stamp) request ≡ Some reply
        → (request : SetRequest) × (request_of octets ≡ Some request) × (reply_in reply ≡ Some (written_reply stamp request))
    by None is same = absurd cc
    by (Some request) is same =
        let written : reply_message stamp request ≡ reply = same_some (reply_message stamp request) reply same in
        let small : length (reply_message stamp request) < 2 ^ 64 = subst (λ (os : List ℕ). length os < 2 ^ 64) (sym written) short in
        (request, is, subst (λ (os : List ℕ). reply_in os ≡ Some (written_reply stamp request)) written (reply_read stamp request fits (request_is_text octets request is) small))
