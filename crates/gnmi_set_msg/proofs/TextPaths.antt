-- The texts of a path that was read are UTF-8, and the keys of its elements rise by name.
use Rattle.std.proofs.Common.{◌≡◌, ℕ, Bool, true, false, cond, List, [], ◌∷◌, ◌++◌, Option, Some, None, refl, sym, ap, ◌∙◌, subst, append_assoc, append-nil}
use Rattle.std.specs.Prelude.{fold, unwrap_or}
use Rattle.std.specs.Option.{option_map, is_some}
use Rattle.std.specs.List.{AllByRecursion}
use Rattle.std.specs.Str.{is_utf8}
use Rattle.std.specs.Ordering.{match_ordering, ordering_reverse}
use Rattle.std.specs.BTreeMap.{insert_entry}
use Rattle.std.specs.declared.cmp.Ordering.{Ordering}
use Rattle.std.specs.declared.cmp.Ordering.TheVariants.{Less, Equal, Greater}
use Rattle.std.proofs.lemmas.Cmp.{nat_list_cmp_total}
use Rattle.base_lists.specs.Options.{◌>>=◌}
use Rattle.base_kinds.specs.declared.path.Elem.{Elem}
use Rattle.base_kinds.specs.Paths.{text_cmp}
use Rattle.gnmi_kinds.specs.declared.path.GnmiPath.{GnmiPath}
use Rattle.pb_wire.specs.declared.field.Field.{Field}
use Rattle.pb_wire.specs.Values.{map_key, map_value, last_octets}
use Rattle.gnmi_data_msg.specs.Numbers.{path_element, path_origin, path_elem, path_target, elem_name, elem_key}
use Rattle.gnmi_data_msg.specs.Parts.{each, fields_in, messages_in, are_texts, text_of, single_text}
use Rattle.gnmi_data_msg.specs.Paths.{entry_of, keys_of, elem_of, path_of}
use Rattle.gnmi_data_msg.specs.ReadBack.{IsTextKey, IsTextElem}

abbrev Key : Type 0
Key = List ℕ × List ℕ

-- ---- steps that found something

pub record Found {A B : Type 0} (o : Option A) (next : A → Option B) (b : B) : Type 0 where
  pub a : A
  pub is : o ≡ Some a
  pub then : next a ≡ Some b

pub found : {A B : Type 0} (o : Option A) (next : A → Option B) (b : B) → (o >>= next) ≡ Some b → Found o next b
found None next b e = absurd cc
found (Some a) next b e = record { a = a; is = refl; then = e }

pub same_some : {A : Type 0} (a b : A) → ◌≡◌ {A = Option A} (Some a) (Some b) → a ≡ b
same_some a b e = cc

pub each_holds : {A B : Type 0} (f : A → Option B) (P : B → Type 0) → ((a : A) (b : B) → f a ≡ Some b → P b) → (items : List A) (out : List B) → each f items ≡ Some out → AllByRecursion P out
each_holds {B = B} f P own [] out e = subst (λ (o : List B). AllByRecursion P o) (same_some [] out e) tt
each_holds {B = B} f P own (item ∷ items) out e =
    let first = found (f item) (λ b. each f items >>= (λ (others : List B). Some (b ∷ others))) out e in
    let rest = found (each f items) (λ (others : List B). Some (first.a ∷ others)) out first.then in
    subst (λ (o : List B). AllByRecursion P o) (same_some (first.a ∷ rest.a) out rest.then) (own item first.a first.is, each_holds f P own items rest.a rest.is)

-- ---- texts

text_is : (octets text : List ℕ) → text_of octets ≡ Some text → is_utf8 text ≡ true
text_is octets text e = by (is_utf8 octets) refl e
  where
    by : (b : Bool) → is_utf8 octets ≡ b → cond b (Some octets) None ≡ Some text → is_utf8 text ≡ true
    by true is same = subst (λ (o : List ℕ). is_utf8 o ≡ true) (same_some octets text same) is
    by false is same = absurd cc

read_is : (message : List ℕ) (number : ℕ) (fields : List Field) (text : List ℕ) → single_text message number fields ≡ Some text → is_utf8 text ≡ true
read_is message number fields text e = by (are_texts message number fields) e
  where
    by : (b : Bool) → cond b (text_of (unwrap_or (last_octets message number fields) [])) None ≡ Some text → is_utf8 text ≡ true
    by true same = text_is (unwrap_or (last_octets message number fields) []) text same
    by false same = absurd cc

-- ---- keys

abbrev IsBelow : Key → Key → Type 0
IsBelow a b = text_cmp a.0 b.0 ≡ Less

abbrev Rise : List Key → Type 0
Rise [] = Unit {0}
Rise (key ∷ keys) = AllByRecursion (IsBelow key) keys × Rise keys

abbrev put : List Key → Key → List Key
put keys key = insert_entry text_cmp keys key.0 key.1

all_through : (P : Key → Type 0) (key : Key) (keys : List Key) → P key → ((old : Key) → P old → P (old.0, key.1)) → AllByRecursion P keys → AllByRecursion P (put keys key)
all_through P key [] own again all = (own, tt)
all_through P key (e ∷ es) own again all = by (text_cmp key.0 e.0) (all_through P key es own again all.1)
  where
    by : (r : Ordering) → AllByRecursion P (put es key) → AllByRecursion P (match_ordering r (key ∷ e ∷ es) ((e.0, key.1) ∷ es) (e ∷ put es key))
    by Less rest = (own, all)
    by Equal rest = (again e all.0, all.1)
    by Greater rest = (all.0, rest)

lower : (a b c : Key) → IsBelow a b → IsBelow b c → IsBelow a c
lower a b c first second = nat_list_cmp_total.trans a.0 b.0 c.0 first second

all_lower : (a b : Key) (keys : List Key) → IsBelow a b → AllByRecursion (IsBelow b) keys → AllByRecursion (IsBelow a) keys
all_lower a b [] below all = tt
all_lower a b (key ∷ keys) below all = (lower a b key below all.0, all_lower a b keys below all.1)

turned : (a b : List ℕ) → text_cmp a b ≡ Greater → text_cmp b a ≡ Less
turned a b greater = nat_list_cmp_total.antisymm b a ∙ ap ordering_reverse greater

over : (a b : List ℕ) → text_cmp a b ≡ Less → text_cmp b a ≡ Greater
over a b less = nat_list_cmp_total.antisymm b a ∙ ap ordering_reverse less

put_rises : (key : Key) (keys : List Key) → Rise keys → Rise (put keys key)
put_rises key [] rise = (tt, tt)
put_rises key (e ∷ es) rise = by (text_cmp key.0 e.0) refl (put_rises key es rise.1)
  where
    by : (r : Ordering) → text_cmp key.0 e.0 ≡ r → Rise (put es key) → Rise (match_ordering r (key ∷ e ∷ es) ((e.0, key.1) ∷ es) (e ∷ put es key))
    by Less is rest = ((is, all_lower key e es is rise.0), rise)
    by Equal is rest = rise
    by Greater is rest = (all_through (IsBelow e) key es (turned key.0 e.0 is) (λ old below. below) rise.0, rest)

abbrev puts : List Key → List Key → List Key
puts keys more = fold put keys more

puts_rise : (keys more : List Key) → Rise keys → Rise (puts keys more)
puts_rise keys [] rise = rise
puts_rise keys (key ∷ more) rise = puts_rise (put keys key) more (put_rises key keys rise)

puts_hold : (P : Key → Type 0) → ((old key : Key) → P old → P key → P (old.0, key.1)) → (keys more : List Key) → AllByRecursion P keys → AllByRecursion P more → AllByRecursion P (puts keys more)
puts_hold P again keys [] all others = all
puts_hold P again keys (key ∷ more) all others = puts_hold P again (put keys key) more (all_through P key keys others.0 (λ old is. again old key is others.0) all) others.1

put_last : (keys : List Key) (key : Key) → AllByRecursion (λ old. IsBelow old key) keys → put keys key ≡ keys ++ key ∷ []
put_last [] key all = refl
put_last (e ∷ es) key all = ap (λ r. match_ordering r (key ∷ e ∷ es) ((e.0, key.1) ∷ es) (e ∷ put es key)) (over e.0 key.0 all.0) ∙ ap (λ (ks : List Key). e ∷ ks) (put_last es key all.1)

all_behind : (P : Key → Type 0) (keys : List Key) (key : Key) → AllByRecursion P keys → P key → AllByRecursion P (keys ++ key ∷ [])
all_behind P [] key all own = (own, tt)
all_behind P (e ∷ es) key all own = (all.0, all_behind P es key all.1 own)

heads_below : (key : Key) (more keys : List Key) → AllByRecursion (λ old. AllByRecursion (IsBelow old) (key ∷ more)) keys → AllByRecursion (λ old. IsBelow old key) keys
heads_below key more [] all = tt
heads_below key more (e ∷ es) all = (all.0.0, heads_below key more es all.1)

tails_below : (key : Key) (more keys : List Key) → AllByRecursion (λ old. AllByRecursion (IsBelow old) (key ∷ more)) keys → AllByRecursion (λ old. AllByRecursion (IsBelow old) more) keys
tails_below key more [] all = tt
tails_below key more (e ∷ es) all = (all.0.1, tails_below key more es all.1)

puts_last : (keys more : List Key) → AllByRecursion (λ old. AllByRecursion (IsBelow old) more) keys → Rise more → puts keys more ≡ keys ++ more
puts_last keys [] all rise = sym (append-nil keys)
puts_last keys (key ∷ more) all rise =
    ap (λ (ks : List Key). puts ks more) (put_last keys key (heads_below key more keys all))
    ∙ puts_last (keys ++ key ∷ []) more (all_behind (λ old. AllByRecursion (IsBelow old) more) keys key (tails_below key more keys all) rise.0) rise.1
    ∙ append_assoc keys (key ∷ []) more

-- keys that were put in their order stay as they are
in_order : (entries : List Key) → keys_of (keys_of entries) ≡ keys_of entries
in_order entries = puts_last [] (keys_of entries) tt (puts_rise [] entries tt)

-- ---- what was read

entry_is_text : (octets : List ℕ) (key : Key) → entry_of octets ≡ Some key → IsTextKey key
unfolding entry_of
entry_is_text octets key e =
    let f = found (fields_in octets) (λ (fields : List Field). single_text octets map_key fields >>= (λ (name : List ℕ). single_text octets map_value fields >>= (λ (value : List ℕ). Some (name, value)))) key e in
    let n = found (single_text octets map_key f.a) (λ (name : List ℕ). single_text octets map_value f.a >>= (λ (value : List ℕ). Some (name, value))) key f.then in
    let v = found (single_text octets map_value f.a) (λ (value : List ℕ). Some (n.a, value)) key n.then in
    subst (λ (k : Key). IsTextKey k) (same_some (n.a, v.a) key v.then) (record { name = read_is octets map_key f.a n.a n.is; value = read_is octets map_value f.a v.a v.is })

record Mapped {A B : Type 0} (f : A → B) (o : Option A) (b : B) : Type 0 where
  a : A
  is : o ≡ Some a
  same : f a ≡ b

mapped : {A B : Type 0} (f : A → B) (o : Option A) (b : B) → option_map f o ≡ Some b → Mapped f o b
mapped f None b e = absurd cc
mapped f (Some a) b e = record { a = a; is = refl; same = same_some (f a) b e }

elem_is_text : (octets : List ℕ) (elem : Elem) → elem_of octets ≡ Some elem → IsTextElem elem
unfolding elem_of
elem_is_text octets elem e =
    let f = found (fields_in octets) (λ (fields : List Field). single_text octets elem_name fields >>= (λ (name : List ℕ). option_map keys_of (messages_in entry_of octets elem_key fields) >>= (λ (keys : List Key). Some (record { name = name; keys = keys })))) elem e in
    let n = found (single_text octets elem_name f.a) (λ (name : List ℕ). option_map keys_of (messages_in entry_of octets elem_key f.a) >>= (λ (keys : List Key). Some (record { name = name; keys = keys }))) elem f.then in
    let k = found (option_map keys_of (messages_in entry_of octets elem_key f.a)) (λ (keys : List Key). Some (record { name = n.a; keys = keys })) elem n.then in
    let m = mapped keys_of (messages_in entry_of octets elem_key f.a) k.a k.is in
    let made : Elem = record { name = n.a; keys = keys_of m.a } in
    let same : made ≡ elem = ap (λ (keys : List Key). let it : Elem = record { name = n.a; keys = keys } in it) m.same ∙ same_some (record { name = n.a; keys = k.a }) elem k.then in
    subst (λ (it : Elem). IsTextElem it) same (record {
      name = read_is octets elem_name f.a n.a n.is;
      keys = puts_hold IsTextKey (λ old key is own. record { name = is.name; value = own.value }) [] m.a tt (each_holds entry_of IsTextKey entry_is_text _ m.a m.is);
      in_order = in_order m.a;
    })

-- its texts are UTF-8, and the keys of each element rise by name, each name once
pub record IsTextPath (path : GnmiPath) : Type 0 where
  pub elems : AllByRecursion IsTextElem path.path
  pub origin : is_utf8 path.origin ≡ true
  pub target : is_utf8 path.target ≡ true

abbrev path_with : List ℕ → List Field → List ℕ → List Elem → List ℕ → GnmiPath
path_with octets fields origin elems target = record { path = elems; origin = origin; target = target; old_element = is_some (last_octets octets path_element fields) }

abbrev last_step : List ℕ → List Field → List ℕ → List Elem → List ℕ → Option GnmiPath
last_step octets fields origin elems target = cond (are_texts octets path_element fields) (Some (path_with octets fields origin elems target)) None

abbrev target_step : List ℕ → List Field → List ℕ → List Elem → Option GnmiPath
target_step octets fields origin elems = single_text octets path_target fields >>= last_step octets fields origin elems

abbrev elems_step : List ℕ → List Field → List ℕ → Option GnmiPath
elems_step octets fields origin = messages_in elem_of octets path_elem fields >>= target_step octets fields origin

abbrev origin_step : List ℕ → List Field → Option GnmiPath
origin_step octets fields = single_text octets path_origin fields >>= elems_step octets fields

last_is : (octets : List ℕ) (fields : List Field) (origin : List ℕ) (elems : List Elem) (target : List ℕ) (path : GnmiPath) (test : Bool) → cond test (Some (path_with octets fields origin elems target)) None ≡ Some path → path_with octets fields origin elems target ≡ path
last_is octets fields origin elems target path true e = same_some (path_with octets fields origin elems target) path e
last_is octets fields origin elems target path false e = absurd cc

pub path_is_text : (octets : List ℕ) (path : GnmiPath) → path_of octets ≡ Some path → IsTextPath path
unfolding path_of
path_is_text octets path e =
    let f = found (fields_in octets) (origin_step octets) path e in
    let o = found (single_text octets path_origin f.a) (elems_step octets f.a) path f.then in
    let m = found (messages_in elem_of octets path_elem f.a) (target_step octets f.a o.a) path o.then in
    let t = found (single_text octets path_target f.a) (last_step octets f.a o.a m.a) path m.then in
    subst (λ (p : GnmiPath). IsTextPath p) (last_is octets f.a o.a m.a t.a path (are_texts octets path_element f.a) t.then) (record {
      elems = each_holds elem_of IsTextElem elem_is_text _ m.a m.is;
      origin = read_is octets path_origin f.a o.a o.is;
      target = read_is octets path_target f.a t.a t.is;
    })
