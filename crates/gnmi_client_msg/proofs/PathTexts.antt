-- A path that has a text can be written and read back.
use Rattle.std.proofs.Common.{◌≡◌, ℕ, Bool, true, false, ◌&&◌, List, [], ◌∷◌, ◌++◌, refl, sym, ap, ◌∙◌, append_assoc, append-nil}
use Rattle.std.specs.Prelude.{fold, IsTrue}
use Rattle.std.specs.List.{AllByRecursion}
use Rattle.std.specs.Ordering.{is_lt, match_ordering, ordering_reverse}
use Rattle.std.specs.BTreeMap.{insert_entry}
use Rattle.std.specs.declared.cmp.Ordering.{Ordering}
use Rattle.std.specs.declared.cmp.Ordering.TheVariants.{Less, Equal, Greater}
use Rattle.std.proofs.lemmas.Cmp.{nat_list_cmp_total}
use Rattle.std.proofs.lemmas.Str.{is_utf8-from_IsUtf8}
use Rattle.base_lists.specs.Rising.{rises}
use Rattle.base_kinds.specs.declared.path.Elem.{Elem}
use Rattle.base_kinds.specs.Paths.{text_cmp}
use Rattle.path_core.specs.PathText.{name_cmp, IsKey, IsElem, AreElems}
use Rattle.gnmi_data_msg.specs.Paths.{keys_of}
use Rattle.gnmi_data_msg.specs.ReadBack.{IsTextKey, IsTextElem}
use Rattle.gnmi_note_msg.specs.ReadBack.{IsTextPath}

abbrev Key : Type 0
Key = List ℕ × List ℕ

abbrev IsBelow : Key → Key → Type 0
IsBelow a b = text_cmp a.0 b.0 ≡ Less

abbrev put : List Key → Key → List Key
put keys key = insert_entry text_cmp keys key.0 key.1

less : (r : Ordering) → is_lt r ≡ true → r ≡ Less
less Less e = refl
less Equal e = absurd cc
less Greater e = absurd cc

first_true : (a b : Bool) → (a && b) ≡ true → (a ≡ true) × (b ≡ true)
first_true true b e = (refl, e)
first_true false b e = absurd cc

all_lower : (a b : Key) (keys : List Key) → IsBelow a b → AllByRecursion (IsBelow b) keys → AllByRecursion (IsBelow a) keys
all_lower a b [] below all = tt
all_lower a b (key ∷ keys) below all = (nat_list_cmp_total.trans a.0 b.0 key.0 below all.0, all_lower a b keys below all.1)

-- keys that rise, each below all after it
abbrev Rise : List Key → Type 0
Rise [] = Unit {0}
Rise (key ∷ keys) = AllByRecursion (IsBelow key) keys × Rise keys

rise : (keys : List Key) → rises name_cmp keys ≡ true → Rise keys
rise [] e = tt
rise (key ∷ []) e = (tt, tt)
rise (key ∷ other ∷ keys) e =
    let p = first_true (is_lt (name_cmp key other)) (rises name_cmp (other ∷ keys)) e in
    let below : IsBelow key other = less (name_cmp key other) p.0 in
    let others = rise (other ∷ keys) p.1 in
    ((below, all_lower key other keys below others.0), others)

over : (a b : List ℕ) → text_cmp a b ≡ Less → text_cmp b a ≡ Greater
over a b below = nat_list_cmp_total.antisymm b a ∙ ap ordering_reverse below

put_last : (keys : List Key) (key : Key) → AllByRecursion (λ old. IsBelow old key) keys → put keys key ≡ keys ++ key ∷ []
put_last [] key all = refl
put_last (e ∷ es) key all = ap (λ r. match_ordering r (key ∷ e ∷ es) ((e.0, key.1) ∷ es) (e ∷ put es key)) (over e.0 key.0 all.0) ∙ ap (λ (ks : List Key). e ∷ ks) (put_last es key all.1)

abbrev AllBelow : List Key → List Key → Type 0
AllBelow keys more = AllByRecursion (λ old. AllByRecursion (IsBelow old) more) keys

heads : (key : Key) (more keys : List Key) → AllBelow keys (key ∷ more) → AllByRecursion (λ old. IsBelow old key) keys
heads key more [] all = tt
heads key more (e ∷ es) all = (all.0.0, heads key more es all.1)

tails : (key : Key) (more keys : List Key) → AllByRecursion (IsBelow key) more → AllBelow keys (key ∷ more) → AllBelow (keys ++ key ∷ []) more
tails key more [] own all = (own, tt)
tails key more (e ∷ es) own all = (all.0.1, tails key more es own all.1)

puts_last : (keys more : List Key) → AllBelow keys more → Rise more → fold put keys more ≡ keys ++ more
puts_last keys [] all rising = sym (append-nil keys)
puts_last keys (key ∷ more) all rising =
    ap (λ (ks : List Key). fold put ks more) (put_last keys key (heads key more keys all))
    ∙ puts_last (keys ++ key ∷ []) more (tails key more keys rising.0 all) rising.1
    ∙ append_assoc keys (key ∷ []) more

text_keys : (keys : List Key) → AllByRecursion IsKey keys → AllByRecursion IsTextKey keys
text_keys [] all = tt
text_keys (key ∷ keys) all = (record { name = is_utf8-from_IsUtf8 key.0 all.0.0; value = is_utf8-from_IsUtf8 key.1 all.0.1 }, text_keys keys all.1)

pub path_is_text : (path : List Elem) → AreElems path → IsTextPath path
path_is_text [] all = tt
path_is_text (elem ∷ path) all = (
  record {
    name = is_utf8-from_IsUtf8 elem.name all.0.name;
    keys = text_keys elem.keys all.0.keys;
    in_order = puts_last [] elem.keys tt (rise elem.keys all.0.rising);
  },
  path_is_text path all.1,
)
