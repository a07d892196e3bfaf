-- What is written is read back.
use Rattle.std.proofs.Common.{◌≡◌, ℕ, suc, ◌+◌, ◌^◌, ◌<◌, ◌≤◌, Bool, true, false, cond, eqb, List, [], ◌∷◌, ◌++◌, length, Option, Some, refl, sym, ap, ◌∙◌, arith, append-nil, eq-eqb, lit≤, subst}
use Rattle.std.specs.Prelude.{map}
use Rattle.std.specs.List.{AllByRecursion}
use Rattle.std.specs.Str.{is_utf8, chars}
use Rattle.std.proofs.lemmas.Bool.{eqb-true}
use Rattle.std.proofs.lemmas.List.{length-append}
use Rattle.base_kinds.specs.declared.path.Elem.{Elem}
use Rattle.pb_wire.specs.declared.field.Field.{Field}
use Rattle.pb_wire.specs.Varint.{shortest}
use Rattle.pb_wire.specs.Message.{IsMessage}
use Rattle.pb_wire.specs.Writing.{octets_field, octets_body, shifted}
use Rattle.pb_wire.specs.Values.{occurrences, map_key, map_value}
use Rattle.pb_wire.proofs.WritingLemmas.{IsMessage-octets}
use Rattle.pb_wire.proofs.LawLemmas.{IsMessage-append}
use Rattle.pb_wire.proofs.MessageLemmas.{IsMessage-within}
use Rattle.pb_wire.proofs.ValueLaws.{occurrences-append, occurrences-written}
use Rattle.gnmi_data_msg.specs.Numbers.{path_element, path_origin, path_elem, path_target, elem_name, elem_key}
use Rattle.gnmi_data_msg.specs.Parts.{each, messages_in, are_texts, single_text}
use Rattle.gnmi_data_msg.specs.Paths.{entry_of, elem_of, path_of}
use Rattle.gnmi_data_msg.specs.ReadBack.{IsTextKey, IsTextElem, IsWritable}
use Rattle.gnmi_data_msg.specs.Writing.{text_field, message_fields, entry_message, elem_message, path_message}
use Rattle.gnmi_data_msg.proofs.FieldsIn.{is_read}

-- the octets are a message that holds these pieces under each number
pub record Holds (octets : List ℕ) (pieces : ℕ → List (List ℕ)) : Type 0 where
  pub fields : List Field
  pub is : IsMessage octets fields
  pub holds : (number : ℕ) → occurrences octets number fields ≡ pieces number

pub nothing : Holds [] (λ number. [])
nothing = record { fields = []; is = record { are_fields = refl }; holds = λ number. refl }

pub appended : {a b : List ℕ} {p q : ℕ → List (List ℕ)} → Holds a p → Holds b q → Holds (a ++ b) (λ number. p number ++ q number)
appended {a} {b} {p} {q} x y = record {
  fields = x.fields ++ shifted (length a) y.fields;
  is = IsMessage-append a b x.fields y.fields x.is y.is;
  holds = λ number.
      occurrences-append a b number x.fields y.fields (IsMessage-within a x.fields x.is)
      ∙ ap (λ (found : List (List ℕ)). found ++ occurrences b number y.fields) (x.holds number)
      ∙ ap (λ (found : List (List ℕ)). p number ++ found) (y.holds number);
}

pub renamed : {a : List ℕ} {p q : ℕ → List (List ℕ)} → Holds a p → ((number : ℕ) → p number ≡ q number) → Holds a q
renamed x same = record { fields = x.fields; is = x.is; holds = λ number. x.holds number ∙ same number }

-- the octets under one number alone
abbrev pub only : ℕ → List (List ℕ) → ℕ → List (List ℕ)
only number pieces n = cond (eqb number n) pieces []

pub one_field : (number : ℕ) (octets : List ℕ) → 1 ≤ number → number ≤ 15 → length octets < 2 ^ 64 → Holds (octets_field number octets) (only number (octets ∷ []))
one_field number octets low high short = record {
  fields = record { number = number; body = octets_body octets } ∷ [];
  is = IsMessage-octets number octets low high short;
  holds = λ n. at n (eqb number n) refl;
}
  where
    at : (n : ℕ) (test : Bool) → eqb number n ≡ test → occurrences (octets_field number octets) n (record { number = number; body = octets_body octets } ∷ []) ≡ cond (eqb number n) (octets ∷ []) []
    at n true e =
        subst (λ (k : ℕ). occurrences (octets_field number octets) k (record { number = number; body = octets_body octets } ∷ []) ≡ cond (eqb number k) (octets ∷ []) [])
        (eqb-true number n e) (occurrences-written number octets ∙ sym (ap (λ (b : Bool). cond b (octets ∷ []) []) (eq-eqb number number refl)))
    at n false e = rw e refl

abbrev pub text_pieces : List ℕ → List (List ℕ)
text_pieces [] = []
text_pieces (octet ∷ octets) = (octet ∷ octets) ∷ []

none_there : (number n : ℕ) → [] ≡ only number [] n
none_there number n = by (eqb number n)
  where
    by : (b : Bool) → ◌≡◌ {A = List (List ℕ)} [] (cond b [] [])
    by true = refl
    by false = refl

pub text_there : (number : ℕ) (text : List ℕ) → 1 ≤ number → number ≤ 15 → length text < 2 ^ 64 → Holds (text_field number text) (only number (text_pieces text))
text_there number [] low high short = renamed nothing (none_there number)
text_there number (octet ∷ octets) low high short = one_field number (octet ∷ octets) low high short

pub messages_there : {A : Type 0} (f : A → List ℕ) (number : ℕ) (items : List A) → 1 ≤ number → number ≤ 15 → AllByRecursion (λ item. length (f item) < 2 ^ 64) items → Holds (message_fields f number items) (only number (map f items))
messages_there f number [] low high short = renamed nothing (none_there number)
messages_there {A} f number (item ∷ items) low high short =
    renamed (appended (one_field number (f item) low high short.0) (messages_there f number items low high short.1)) (λ n. joined (eqb number n))
  where
    joined : (b : Bool) → cond b (f item ∷ []) [] ++ cond b (map f items) [] ≡ cond b (f item ∷ map f items) []
    joined true = refl
    joined false = refl

-- the octets of each item are among those that are written
pub items_short : {A : Type 0} (f : A → List ℕ) (number : ℕ) (items : List A) → length (message_fields f number items) < 2 ^ 64 → AllByRecursion (λ item. length (f item) < 2 ^ 64) items
items_short f number [] short = tt
items_short f number (item ∷ items) short =
    let sum : length (message_fields f number (item ∷ items)) ≡ length (octets_field number (f item)) + length (message_fields f number items) = length-append (octets_field number (f item)) (message_fields f number items) in
    let own : length (shortest (length (f item)) ++ f item) ≡ length (shortest (length (f item))) + length (f item) = length-append (shortest (length (f item))) (f item) in
    let first : length (octets_field number (f item)) ≡ suc (length (shortest (length (f item)) ++ f item)) = refl in
    (omega (arith, sum, own, first, short), items_short f number items (omega (arith, sum, own, first, short)))

pub text_short : (number : ℕ) (text : List ℕ) → length text ≤ length (text_field number text)
text_short number [] = lit≤ tt
text_short number (octet ∷ octets) =
    let own : length (shortest (length (octet ∷ octets)) ++ octet ∷ octets) ≡ length (shortest (length (octet ∷ octets))) + length (octet ∷ octets) = length-append (shortest (length (octet ∷ octets))) (octet ∷ octets) in
    let first : length (octets_field number (octet ∷ octets)) ≡ suc (length (shortest (length (octet ∷ octets)) ++ octet ∷ octets)) = refl in
    omega (arith, own, first)

empty_text : is_utf8 [] ≡ true
unfolding is_utf8 chars lib.Utf8.encode
empty_text = refl

-- a single string
pub text_read : (message : List ℕ) (number : ℕ) (fields : List Field) (text : List ℕ) → occurrences message number fields ≡ text_pieces text → is_utf8 text ≡ true → single_text message number fields ≡ Some text
text_read message number fields [] e is = rw (e, empty_text) refl
text_read message number fields (octet ∷ octets) e is = rw (e, is) refl

-- an absent one
pub texts_absent : (message : List ℕ) (number : ℕ) (fields : List Field) → occurrences message number fields ≡ [] → are_texts message number fields ≡ true
texts_absent message number fields e = rw e refl

pub each_map : {A : Type 0} (f : A → List ℕ) (g : List ℕ → Option A) (items : List A) → AllByRecursion (λ item. g (f item) ≡ Some item) items → each g (map f items) ≡ Some items
each_map f g [] all = refl
each_map f g (item ∷ items) all = rw (all.0, each_map f g items all.1) refl

entry_read : (key : List ℕ × List ℕ) → IsTextKey key → length (entry_message key) < 2 ^ 64 → entry_of (entry_message key) ≡ Some key
unfolding entry_of
entry_read key is short =
    let sum : length (entry_message key) ≡ length (text_field map_key key.0) + length (text_field map_value key.1) = length-append (text_field map_key key.0) (text_field map_value key.1) in
    let first = text_short map_key key.0 in
    let second = text_short map_value key.1 in
    let there = appended (text_there map_key key.0 (lit≤ tt) (lit≤ tt) (omega (arith, sum, first, short))) (text_there map_value key.1 (lit≤ tt) (lit≤ tt) (omega (arith, sum, second, short))) in
    rw (
      is_read (entry_message key) there.fields there.is,
      text_read (entry_message key) map_key there.fields key.0 (there.holds map_key ∙ append-nil (text_pieces key.0)) is.name,
      text_read (entry_message key) map_value there.fields key.1 (there.holds map_value) is.value,
    ) refl

entries_read : (keys : List (List ℕ × List ℕ)) → AllByRecursion IsTextKey keys → AllByRecursion (λ key. length (entry_message key) < 2 ^ 64) keys → AllByRecursion (λ key. entry_of (entry_message key) ≡ Some key) keys
entries_read [] all short = tt
entries_read (key ∷ keys) all short = (entry_read key all.0 short.0, entries_read keys all.1 short.1)

elem_read : (elem : Elem) → IsTextElem elem → length (elem_message elem) < 2 ^ 64 → elem_of (elem_message elem) ≡ Some elem
unfolding elem_of
elem_read elem is short =
    let sum : length (elem_message elem) ≡ length (text_field elem_name elem.name) + length (message_fields entry_message elem_key elem.keys) = length-append (text_field elem_name elem.name) (message_fields entry_message elem_key elem.keys) in
    let first = text_short elem_name elem.name in
    let each_short = items_short entry_message elem_key elem.keys (omega (arith, sum, short)) in
    let there = appended (text_there elem_name elem.name (lit≤ tt) (lit≤ tt) (omega (arith, sum, first, short))) (messages_there entry_message elem_key elem.keys (lit≤ tt) (lit≤ tt) each_short) in
    let entries : messages_in entry_of (elem_message elem) elem_key there.fields ≡ Some elem.keys =
    ap (each entry_of) (there.holds elem_key) ∙ each_map entry_message entry_of elem.keys (entries_read elem.keys is.keys each_short) in
    rw (
      is_read (elem_message elem) there.fields there.is,
      text_read (elem_message elem) elem_name there.fields elem.name (there.holds elem_name ∙ append-nil (text_pieces elem.name)) is.name,
      entries,
      is.in_order,
    ) refl

elems_read : (path : List Elem) → AllByRecursion IsTextElem path → AllByRecursion (λ elem. length (elem_message elem) < 2 ^ 64) path → AllByRecursion (λ elem. elem_of (elem_message elem) ≡ Some elem) path
elems_read [] all short = tt
elems_read (elem ∷ path) all short = (elem_read elem all.0 short.0, elems_read path all.1 short.1)

pub path_read : (path : List Elem) → IsWritable path → path_of (path_message path) ≡ Some (record { path = path; origin = []; target = []; old_element = false })
unfolding path_of
path_read path is =
    let each_short = items_short elem_message path_elem path is.short in
    let there = messages_there elem_message path_elem path (lit≤ tt) (lit≤ tt) each_short in
    let elems : messages_in elem_of (path_message path) path_elem there.fields ≡ Some path =
    ap (each elem_of) (there.holds path_elem) ∙ each_map elem_message elem_of path (elems_read path is.elems each_short) in
    rw (
      is_read (path_message path) there.fields there.is,
      text_read (path_message path) path_origin there.fields [] (there.holds path_origin) empty_text,
      elems,
      text_read (path_message path) path_target there.fields [] (there.holds path_target) empty_text,
      texts_absent (path_message path) path_element there.fields (there.holds path_element),
      there.holds path_element,
    ) refl
