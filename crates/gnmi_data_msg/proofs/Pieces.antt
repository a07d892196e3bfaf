-- The pieces of the fields so far, and one more.
use Rattle.std.proofs.Common.{◌≡◌, ℕ, ◌+◌, ◌<◌, Bool, true, false, ◌&&◌, List, [], ◌∷◌, ◌++◌, length, get_or, take, drop, Option, Some, None, refl, sym, ap, ◌∙◌, append_assoc}
use Rattle.std.specs.List.{list_all}
use Rattle.std.specs.Str.{is_utf8}
use Rattle.std.proofs.lemmas.List.{take-append-drop}
use Rattle.std.proofs.lemmas.List.Elements.{filter_map-append}
use Rattle.std.proofs.lemmas.List.Folds.{list_all-append}
use Rattle.base_lists.specs.Options.{◌>>=◌}
use Rattle.pb_wire.specs.declared.field.Field.{Field}
use Rattle.pb_wire.specs.Values.{octets_in, occurrences}
use Rattle.pb_wire.proofs.ValueLemmas.{occurrences-some}
use Rattle.std.specs.Prelude.{Result, Err, fold, not}
use Rattle.std.specs.BTreeMap.{insert_entry}
use Rattle.std.specs.Option.{option_map}
use Rattle.base_kinds.specs.Paths.{text_cmp}
use Rattle.base_kinds.specs.declared.value.Value.{Value}
use Rattle.gnmi_data_msg.specs.declared.fault.MsgFault.{MsgFault}
use Rattle.gnmi_data_msg.specs.declared.fault.MsgFault.TheVariants as faults
use Rattle.gnmi_data_msg.specs.Parts.{IsReadAs, each, messages_in, are_texts}
use Rattle.gnmi_data_msg.specs.Paths.{keys_of}
use Rattle.gnmi_data_msg.specs.TypedValues.{with_last, scalars_of}

pub each-push : {A B : Type 0} (f : A → Option B) (xs : List A) (ys : List B) (x : A) (y : B) → each f xs ≡ Some ys → f x ≡ Some y → each f (xs ++ x ∷ []) ≡ Some (ys ++ y ∷ [])
each-push {A} {B} f xs ys x y so_far h = joined xs ∙ rw so_far refl
  where
    regroup : (z : B) (found : Option (List B)) → ((found >>= (λ (zs : List B). Some (zs ++ y ∷ []))) >>= (λ (zs : List B). Some (z ∷ zs))) ≡ ((found >>= (λ (zs : List B). Some (z ∷ zs))) >>= (λ (zs : List B). Some (zs ++ y ∷ [])))
    regroup z (Some zs) = refl
    regroup z None = refl

    with_first : (g : Option B) (a b : Option (List B)) → a ≡ (b >>= (λ (zs : List B). Some (zs ++ y ∷ []))) → (g >>= (λ (z : B). a >>= (λ (zs : List B). Some (z ∷ zs)))) ≡ ((g >>= (λ (z : B). b >>= (λ (zs : List B). Some (z ∷ zs)))) >>= (λ (zs : List B). Some (zs ++ y ∷ [])))
    with_first (Some z) a b e = ap (λ (o : Option (List B)). o >>= (λ (zs : List B). Some (z ∷ zs))) e ∙ regroup z b
    with_first None a b e = refl

    joined : (zs : List A) → each f (zs ++ x ∷ []) ≡ (each f zs >>= (λ (found : List B). Some (found ++ y ∷ [])))
    joined [] = rw h refl
    joined (z ∷ zs) = with_first (f z) (each f (zs ++ x ∷ [])) (each f zs) (joined zs)

pub each-none : {A B : Type 0} (f : A → Option B) (xs : List A) (x : A) (rest : List A) → f x ≡ None → each f (xs ++ x ∷ rest) ≡ None
each-none f [] x rest h = rw h refl
each-none {A} {B} f (z ∷ zs) x rest h = with_first (f z) (each f (zs ++ x ∷ rest)) (each-none f zs x rest h)
  where
    with_first : (g : Option B) (a : Option (List B)) → a ≡ None → (g >>= (λ (z : B). a >>= (λ (ys : List B). Some (z ∷ ys)))) ≡ None
    with_first (Some z) a e = ap (λ (o : Option (List B)). o >>= (λ (ys : List B). Some (z ∷ ys))) e
    with_first None a e = refl

-- a piece stands among all
pub split_at : (message : List ℕ) (number : ℕ) (fields : List Field) (i : ℕ) (d : Field) (piece : List ℕ) → i < length fields → octets_in message number (get_or fields i d) ≡ Some piece
    → occurrences message number fields ≡ occurrences message number (take i fields) ++ piece ∷ occurrences message number (drop (i + 1) fields)
split_at message number fields i d piece lt e =
    ap (occurrences message number) (sym (take-append-drop (i + 1) fields))
    ∙ filter_map-append (octets_in message number) (take (i + 1) fields) (drop (i + 1) fields)
    ∙ ap (λ (found : List (List ℕ)). found ++ occurrences message number (drop (i + 1) fields)) (occurrences-some message number fields i d piece lt e)
    ∙ append_assoc (occurrences message number (take i fields)) (piece ∷ []) (occurrences message number (drop (i + 1) fields))

-- one message more
pub messages-more : {A : Type 0} (meaning : List ℕ → Option A) (message : List ℕ) (number : ℕ) (fields : List Field) (i : ℕ) (d : Field) (piece : List ℕ) (so_far : List A) (a : A) → i < length fields → octets_in message number (get_or fields i d) ≡ Some piece
    → messages_in meaning message number (take i fields) ≡ Some so_far → meaning piece ≡ Some a → messages_in meaning message number (take (i + 1) fields) ≡ Some (so_far ++ a ∷ [])
messages-more meaning message number fields i d piece so_far a lt e before h =
    ap (each meaning) (occurrences-some message number fields i d piece lt e) ∙ each-push meaning (occurrences message number (take i fields)) so_far piece a before h

-- one that is none
pub messages-bad : {A : Type 0} (meaning : List ℕ → Option A) (message : List ℕ) (number : ℕ) (fields : List Field) (i : ℕ) (d : Field) (piece : List ℕ) → i < length fields → octets_in message number (get_or fields i d) ≡ Some piece
    → meaning piece ≡ None → messages_in meaning message number fields ≡ None
messages-bad meaning message number fields i d piece lt e h =
    ap (each meaning) (split_at message number fields i d piece lt e) ∙ each-none meaning (occurrences message number (take i fields)) piece (occurrences message number (drop (i + 1) fields)) h

pub texts-more : (message : List ℕ) (number : ℕ) (fields : List Field) (i : ℕ) (d : Field) (piece : List ℕ) → i < length fields → octets_in message number (get_or fields i d) ≡ Some piece
    → are_texts message number (take i fields) ≡ true → not (is_utf8 piece) ≡ false → are_texts message number (take (i + 1) fields) ≡ true
texts-more message number fields i d piece lt e before h =
    ap (list_all is_utf8) (occurrences-some message number fields i d piece lt e) ∙ list_all-append is_utf8 (occurrences message number (take i fields)) (piece ∷ []) ∙ rw (before, is_true (is_utf8 piece) h) refl
  where
    is_true : (b : Bool) → not b ≡ false → b ≡ true
    is_true true e = refl
    is_true false e = absurd cc

pub texts-bad : (message : List ℕ) (number : ℕ) (fields : List Field) (i : ℕ) (d : Field) (piece : List ℕ) → i < length fields → octets_in message number (get_or fields i d) ≡ Some piece
    → not (is_utf8 piece) ≡ true → are_texts message number fields ≡ false
texts-bad message number fields i d piece lt e h =
    ap (list_all is_utf8) (split_at message number fields i d piece lt e) ∙ list_all-append is_utf8 (occurrences message number (take i fields)) (piece ∷ occurrences message number (drop (i + 1) fields)) ∙ rw (is_false (is_utf8 piece) h) (and_false (list_all is_utf8 (occurrences message number (take i fields))))
  where
    is_false : (b : Bool) → not b ≡ true → b ≡ false
    is_false true e = absurd cc
    is_false false e = refl

    and_false : (b : Bool) → (b && false) ≡ false
    and_false true = refl
    and_false false = refl

-- where a piece is none the whole is none
pub fails : {A B : Type 0} (fault : MsgFault) (piece : Option A) (whole : Option B) → (piece ≡ None → whole ≡ None) → IsReadAs {A = A} (Err fault) piece → IsReadAs {A = B} (Err fault) whole
fails faults.BadMessage piece whole none is = none is
fails faults.NoMemory piece whole none is = tt

mapped : {A B : Type 0} (f : A → B) (found : Option A) (b : B) → option_map f found ≡ Some b → (a : A) × (found ≡ Some a) × (f a ≡ b)
mapped f (Some a) b e = (a, refl, same (f a) b e)
  where
    same : {B : Type 0} (x y : B) → ◌≡◌ {A = Option B} (Some x) (Some y) → x ≡ y
    same x y e = cc
mapped {A} {B} f None b e = absurd (clash b e)
  where
    clash : (y : B) → ◌≡◌ {A = Option B} None (Some y) → ⊥
    clash y e = cc

keys-push : (entries : List (List ℕ × List ℕ)) (entry : List ℕ × List ℕ) → keys_of (entries ++ entry ∷ []) ≡ insert_entry text_cmp (keys_of entries) entry.0 entry.1
keys-push entries entry = from entries []
  where
    from : (es so_far : List (List ℕ × List ℕ)) → fold (λ keys e. insert_entry text_cmp keys e.0 e.1) so_far (es ++ entry ∷ []) ≡ insert_entry text_cmp (fold (λ keys e. insert_entry text_cmp keys e.0 e.1) so_far es) entry.0 entry.1
    from [] so_far = refl
    from (e ∷ es) so_far = from es (insert_entry text_cmp so_far e.0 e.1)

-- one entry more
pub entries-more : (meaning : List ℕ → Option (List ℕ × List ℕ)) (message : List ℕ) (number : ℕ) (fields : List Field) (i : ℕ) (d : Field) (piece : List ℕ) (so_far : List (List ℕ × List ℕ)) (entry : List ℕ × List ℕ) → i < length fields → octets_in message number (get_or fields i d) ≡ Some piece
    → option_map keys_of (messages_in meaning message number (take i fields)) ≡ Some so_far → meaning piece ≡ Some entry → option_map keys_of (messages_in meaning message number (take (i + 1) fields)) ≡ Some (insert_entry text_cmp so_far entry.0 entry.1)
entries-more meaning message number fields i d piece so_far entry lt e before h =
    let m = mapped keys_of (messages_in meaning message number (take i fields)) so_far before in
    ap (option_map keys_of) (messages-more meaning message number fields i d piece m.0 entry lt e m.1 h)
    ∙ ap (λ (keys : List (List ℕ × List ℕ)). Some keys) (keys-push m.0 entry ∙ ap (λ (keys : List (List ℕ × List ℕ)). insert_entry text_cmp keys entry.0 entry.1) m.2)

scalars-push : (elements : List (Option Value)) (element : Option Value) → scalars_of (elements ++ element ∷ []) ≡ with_last (scalars_of elements) element
scalars-push [] None = refl
scalars-push [] (Some scalar) = refl
scalars-push (None ∷ elements) element = refl
scalars-push (Some first ∷ elements) element =
    ap (λ (found : Option (List Value)). found >>= (λ (others : List Value). Some (first ∷ others))) (scalars-push elements element) ∙ regroup (scalars_of elements) element
  where
    regroup : (found : Option (List Value)) (element : Option Value) → (with_last found element >>= (λ (others : List Value). Some (first ∷ others))) ≡ with_last (found >>= (λ (others : List Value). Some (first ∷ others))) element
    regroup None element = refl
    regroup (Some others) None = refl
    regroup (Some others) (Some scalar) = refl

-- one element more
pub elements-more : (meaning : List ℕ → Option (Option Value)) (message : List ℕ) (number : ℕ) (fields : List Field) (i : ℕ) (d : Field) (piece : List ℕ) (so_far : Option (List Value)) (element : Option Value) → i < length fields → octets_in message number (get_or fields i d) ≡ Some piece
    → option_map scalars_of (messages_in meaning message number (take i fields)) ≡ Some so_far → meaning piece ≡ Some element → option_map scalars_of (messages_in meaning message number (take (i + 1) fields)) ≡ Some (with_last so_far element)
elements-more meaning message number fields i d piece so_far element lt e before h =
    let m = mapped scalars_of (messages_in meaning message number (take i fields)) so_far before in
    ap (option_map scalars_of) (messages-more meaning message number fields i d piece m.0 element lt e m.1 h)
    ∙ ap (λ (scalars : Option (List Value)). Some scalars) (scalars-push m.0 element ∙ ap (λ (scalars : Option (List Value)). with_last scalars element) m.2)

pub fails_badly : {A B C : Type 0} (fault : MsgFault) (piece : Option A) (whole : Option B) → (piece ≡ None → whole ≡ None) → IsReadAs {A = A} (Err fault) piece → ◌≡◌ {A = Result C MsgFault} (Err fault) (Err faults.BadMessage) → whole ≡ None
fails_badly faults.BadMessage piece whole none is e = none is
fails_badly faults.NoMemory piece whole none is e = absurd (differ e)
  where
    differ : {C : Type 0} → ◌≡◌ {A = Result C MsgFault} (Err faults.NoMemory) (Err faults.BadMessage) → ⊥
    differ e = cc

pub elements_fail : {A B C : Type 0} (f : B → C) (fault : MsgFault) (piece : Option A) (whole : Option B) → (piece ≡ None → whole ≡ None) → IsReadAs {A = A} (Err fault) piece → IsReadAs {A = C} (Err fault) (option_map f whole)
elements_fail f faults.BadMessage piece whole none is = ap (option_map f) (none is)
elements_fail f faults.NoMemory piece whole none is = tt
