-- What is written is a block, whatever the table.
use Rattle.std.proofs.Common.{All, ◌≡◌, ℕ, zero, suc, ◌+◌, ◌-◌, ◌*◌, ◌/◌, ◌%◌, ◌^◌, ◌<◌, ◌≤◌, Bool, true, false, ltb, ◌&&◌, List, [], ◌∷◌, ◌++◌, length, get_or, take, drop, Result, Ok, Err, OnErr, Option, Some, None, refl, sym, ap, ◌∙◌, subst, arith, append_assoc, append-nil, lit≤, lit<, inl, inr, eqb, add-one}
use Rattle.std.specs.Prelude.{slice_index, option_map}
use Rattle.std.specs.List.{position, position_or_len, flat_map}
use Rattle.std.proofs.lemmas.Bool.{lt-ltb, le-ltb, cases_lt, eqb-true}
use Rattle.std.proofs.lemmas.Nat.{pow_pos}
use Rattle.std.proofs.lemmas.Option.{slice_get-get_or}
use Rattle.std.proofs.lemmas.List.{take-append-drop, take_more}
use Rattle.std.proofs.Math.Seq.{drop-cons}
use Rattle.std.proofs.lemmas.List.Concat.{flat_map-append}
use Rattle.std.proofs.lemmas.List.Sums.{position_or_len_is}
use Rattle.std.proofs.lemmas.List.Quantifiers.{position-Some}
use Rattle.base_lists.proofs.Fronts.{AppendsFront-more, AppendsFront-longer}
use Rattle.base_lists.proofs.SevenBits.{room, number_of_groups-of, IsMarked-groups_of, length-groups_of, groups_of-room}
use Rattle.hpack_block.specs.declared.header.Header.{Header}
use Rattle.hpack_block.specs.declared.form.Form.{Form}
use Rattle.hpack_block.specs.declared.form.Form.TheVariants.{Indexed, SizeUpdate, WithoutIndexing}
use Rattle.base_lists.specs.SevenBits.{number_of_groups, IsMarked}
use Rattle.hpack_block.specs.Integers.{IsInteger}
use Rattle.hpack_block.specs.Strings.{IsString}
use Rattle.hpack_block.specs.StaticTable.{nothing, static_table}
use Rattle.hpack_block.specs.Tables.{Table, with_maximum, entry_at, name_at}
use Rattle.hpack_block.specs.Fields.{form_of, IsIndexed, IsName, IsLiteral, IsField}
use Rattle.hpack_block.specs.Block.{AreFields, Block}
use Rattle.base_lists.specs.SevenBits.{groups_of}
use Rattle.base_lists.specs.Fronts.{AppendsFront}
use Rattle.hpack_block.specs.Written.{integer_of, string_of, same_octets, is_pair, is_name, place_of_pair, place_of_name, name_with, name_of, literal_of, field_with, field_of, block_of, update_of, IsShort}
use Rattle.hpack_block.proofs.TableLemmas.{static_length, slice_get-left}
use Rattle.hpack_block.proofs.BlockLemmas.{form_at, Block-from_fields}

-- ---- octets behind a prefix

-- an integer's groups are few
pub groups_few : (n : ℕ) → n ≤ 2147483647 → groups_of 9 n ≡ groups_of 4 n
groups_few n le = let large : 2147483648 ≤ room 4 = lit≤ tt in groups_of-room 4 9 n (omega (arith, le, large)) (lit≤ tt)

-- ---- integers

-- with a mark above the prefix
pub record Marks (bits mark : ℕ) : Type 0 where
  pub low : (n : ℕ) → n < 2 ^ bits → (mark + n) % 2 ^ bits ≡ n

pub integer_written : (bits mark n : ℕ) (rest : List ℕ) → Marks bits mark → n ≤ 2147483647 → IsInteger bits (integer_of bits mark n ++ rest) n rest
integer_written bits mark n rest marks le =
    let size : 0 < 2 ^ bits = pow_pos bits in
    elim (cases_lt n (2 ^ bits - 1)) [
      | inl small ↦
          let test : ltb n (2 ^ bits - 1) ≡ true = lt-ltb _ _ small in
          let low : (mark + n) % 2 ^ bits ≡ n = marks.low n (omega arith) in
          rw test (inl (record { fits = omega (arith, low); value = sym low; follows = refl }))
      | inr large ↦
          let test : ltb n (2 ^ bits - 1) ≡ false = le-ltb _ _ large in
          let low : (mark + (2 ^ bits - 1)) % 2 ^ bits ≡ 2 ^ bits - 1 = marks.low (2 ^ bits - 1) (omega arith) in
          let most : 2147483648 ≤ room 4 = lit≤ tt in
          let fits : n - (2 ^ bits - 1) < room 4 = omega arith in
          let value : number_of_groups (groups_of 4 (n - (2 ^ bits - 1))) ≡ n - (2 ^ bits - 1) = number_of_groups-of 4 (n - (2 ^ bits - 1)) fits in
          rw test (inr (record {
            full = low;
            groups = groups_of 4 (n - (2 ^ bits - 1));
            follows = refl;
            marked = IsMarked-groups_of 4 (n - (2 ^ bits - 1)) fits;
            few = length-groups_of 4 (n - (2 ^ bits - 1));
            value = omega (arith, value);
            bounded = le;
          }))
    ]

-- the first octet is the mark and what stands in the prefix
first_of_integer : (bits mark n : ℕ) (rest : List ℕ) → (mark ≤ slice_index (integer_of bits mark n ++ rest) 0) × (slice_index (integer_of bits mark n ++ rest) 0 ≤ mark + (2 ^ bits - 1))
first_of_integer bits mark n rest =
    elim (cases_lt n (2 ^ bits - 1)) [
      | inl small ↦ let test : ltb n (2 ^ bits - 1) ≡ true = lt-ltb _ _ small in rw test (omega arith, omega arith)
      | inr large ↦ let test : ltb n (2 ^ bits - 1) ≡ false = le-ltb _ _ large in rw test (omega arith, omega arith)
    ]

marks_indexed : Marks 7 128
marks_indexed = record { low = λ n lt. omega arith }

marks_string : Marks 7 0
marks_string = record { low = λ n lt. omega arith }

marks_literal : Marks 4 0
marks_literal = record { low = λ n lt. omega arith }

-- ---- strings

pub string_written : (text rest : List ℕ) → length text ≤ 2147483647 → IsString (string_of text ++ rest) text rest
string_written text rest le =
    let grouped : string_of text ++ rest ≡ integer_of 7 0 (length text) ++ (text ++ rest) = append_assoc (integer_of 7 0 (length text)) text rest in
    let first = first_of_integer 7 0 (length text) (text ++ rest) in
    subst (λ (octets : List ℕ). IsString octets text rest) (sym grouped) (record {
      content = text;
      is_content = record { after = text ++ rest; is_length = integer_written 7 0 (length text) (text ++ rest) marks_string le; follows = refl };
      is_coded = inl (omega (arith, first.1), refl);
    })

-- ---- the static table

both : (a b : Bool) → (a && b) ≡ true → (a ≡ true) × (b ≡ true)
both true true e = (refl, refl)
both true false e = absurd cc
both false b e = absurd cc

pub same_is : (a b : List ℕ) → same_octets a b ≡ true → a ≡ b
same_is [] [] e = refl
same_is [] (y ∷ b) e = absurd cc
same_is (x ∷ a) [] e = absurd cc
same_is (x ∷ a) (y ∷ b) e =
    let p = both (eqb x y) (same_octets a b) e in
    ap (λ (n : ℕ). n ∷ a) (eqb-true x y p.0) ∙ ap (λ (s : List ℕ). y ∷ s) (same_is a b p.1)

-- an entry is at its index, whatever the dynamic table holds
entry_at-static : (table : Table) (place : ℕ) → place < length static_table → entry_at table (suc place) ≡ Some (get_or static_table place nothing)
entry_at-static table place lt = slice_get-left static_table table.entries place lt ∙ slice_get-get_or static_table place nothing lt

pair_is : (a b : Header) → (same_octets a.name b.name && same_octets a.value b.value) ≡ true → a ≡ b
pair_is a b e =
    let p = both (same_octets a.name b.name) (same_octets a.value b.value) e in
    ap (λ (x : List ℕ). record a { name = x }) (same_is a.name b.name p.0) ∙ ap (λ (x : List ℕ). record b { value = x }) (same_is a.value b.value p.1)

pub record FoundPair (header : Header) (place : ℕ) : Type 0 where
  pub within : place < 61
  pub entry : (table : Table) → entry_at table (suc place) ≡ Some header

found_pair : (header : Header) (place : ℕ) → place_of_pair header ≡ Some place → FoundPair header place
found_pair header place e =
    let p = position-Some (is_pair header) static_table place nothing e in
    let lt : place < length static_table = p.0 in
    record {
      within = omega (arith, static_length, lt);
      entry = λ table. entry_at-static table place lt ∙ ap (λ (h : Header). Some h) (pair_is (get_or static_table place nothing) header p.1);
    }

pub record FoundName (name : List ℕ) (place : ℕ) : Type 0 where
  pub within : place < 61
  pub entry : (table : Table) → name_at table (suc place) ≡ Some name

found_name : (name : List ℕ) (place : ℕ) → place_of_name name ≡ Some place → FoundName name place
found_name name place e =
    let p = position-Some (is_name name) static_table place nothing e in
    let lt : place < length static_table = p.0 in
    record {
      within = omega (arith, static_length, lt);
      entry = λ table.
          ap (option_map (λ (header : Header). header.name)) (entry_at-static table place lt)
          ∙ ap (λ (x : List ℕ). Some x) (same_is (get_or static_table place nothing).name name p.1);
    }

-- ---- fields

form_indexed : (first : ℕ) → 128 ≤ first → form_of first ≡ Indexed
form_indexed first le =
    let a : ltb first 16 ≡ false = le-ltb _ _ (omega arith) in
    let b : ltb first 32 ≡ false = le-ltb _ _ (omega arith) in
    let c : ltb first 64 ≡ false = le-ltb _ _ (omega arith) in
    let d : ltb first 128 ≡ false = le-ltb _ _ le in
    rw (a, b, c, d) refl

form_not_added : (first : ℕ) → first < 16 → form_of first ≡ WithoutIndexing
form_not_added first lt = let a : ltb first 16 ≡ true = lt-ltb _ _ lt in rw a refl

-- a field of a form leaves the table
abbrev IsWritten : Header → List ℕ → Type 0
IsWritten header octets = (table : Table) (rest : List ℕ) → IsField (form_at (octets ++ rest)) table (octets ++ rest) header table rest

as_not_added : (table : Table) (octets : List ℕ) (header : Header) (rest : List ℕ) → slice_index octets 0 < 16 → IsLiteral 4 table octets header rest → IsField (form_at octets) table octets header table rest
as_not_added table octets header rest lt is =
    subst (λ (form : Form). IsField form table octets header table rest) (sym (form_not_added (slice_index octets 0) lt)) (is, refl)

as_indexed : (table : Table) (octets : List ℕ) (header : Header) (rest : List ℕ) → 128 ≤ slice_index octets 0 → IsIndexed table octets header rest → IsField (form_at octets) table octets header table rest
as_indexed table octets header rest le is =
    subst (λ (form : Form). IsField form table octets header table rest) (sym (form_indexed (slice_index octets 0) le)) (is, refl)

indexed_written : (header : Header) (place : ℕ) → FoundPair header place → IsWritten header (integer_of 7 128 (place + 1))
indexed_written header place found table rest =
    let next : place + 1 ≡ suc place = add-one place in
    let lt = found.within in
    as_indexed table (integer_of 7 128 (place + 1) ++ rest) header rest (first_of_integer 7 128 (place + 1) rest).0 (record {
      index = place + 1;
      is_index = integer_written 7 128 (place + 1) rest marks_indexed (omega (arith, lt));
      entry = ap (entry_at table) next ∙ found.entry table;
    })

-- the octets begin with a name, whatever the table, as a literal that is not added does
abbrev IsNamed : List ℕ → List ℕ → Type 0
IsNamed name octets = (table : Table) (rest : List ℕ) → (slice_index (octets ++ rest) 0 < 16) × (index : ℕ) × (after : List ℕ) × IsInteger 4 (octets ++ rest) index after × IsName table index after name rest

name_written_with : (name : List ℕ) (o : Option ℕ) → length name ≤ 2147483647 → place_of_name name ≡ o → IsNamed name (name_with name o)
name_written_with name None short e table rest = (
  omega arith,
  0,
  string_of name ++ rest,
  inl (record { fits = lit< tt; value = refl; follows = refl }),
  string_written name rest short,
)
name_written_with name (Some place) short e table rest =
    let found = found_name name place e in
    let next : place + 1 ≡ suc place = add-one place in
    let lt = found.within in
    let first = first_of_integer 4 0 (place + 1) rest in (
      omega (arith, first.1),
      suc place,
      rest,
      subst (λ (n : ℕ). IsInteger 4 (integer_of 4 0 (place + 1) ++ rest) n rest) next
          (integer_written 4 0 (place + 1) rest marks_literal (omega (arith, lt))),
      (found.entry table, refl),
    )

literal_written : (header : Header) → IsShort header → IsWritten header (literal_of header)
literal_written header short table rest =
    let name = name_of header.name in
    let value = string_of header.value in
    let grouped : (name ++ value) ++ rest ≡ name ++ (value ++ rest) = append_assoc name value rest in
    let named = name_written_with header.name (place_of_name header.name) short.name refl table (value ++ rest) in
    subst (λ (octets : List ℕ). IsField (form_at octets) table octets header table rest) (sym grouped)
    (as_not_added table (name ++ (value ++ rest)) header rest named.0 (record {
      index = named.1;
      after = named.2;
      last = value ++ rest;
      is_index = named.3;
      is_name = named.4;
      is_value = string_written header.value rest short.value;
    }))

field_written_with : (header : Header) (o : Option ℕ) → IsShort header → place_of_pair header ≡ o → IsWritten header (field_with header o)
field_written_with header None short e = literal_written header short
field_written_with header (Some place) short e = indexed_written header place (found_pair header place e)

field_written : (header : Header) → IsShort header → IsWritten header (field_of header)
field_written header short = field_written_with header (place_of_pair header) short refl

-- ---- blocks

fields_written : (table : Table) (headers : List Header) → All IsShort headers → AreFields table (block_of headers) headers table
unfolding block_of
fields_written table [] short = (refl, refl)
fields_written table (header ∷ headers) short = (
  table,
  block_of headers,
  field_written header (short 0 header (omega arith)) table (block_of headers),
  fields_written table headers (λ k d lt. short (suc k) d (omega arith)),
)

pub block_written : (table : Table) (headers : List Header) → All IsShort headers → Block (block_of headers) table headers table
block_written table headers short = Block-from_fields (block_of headers) table headers table (fields_written table headers short)

-- ---- an update in front

marks_update : Marks 5 32
marks_update = record { low = λ n lt. omega arith }

update_form : (first : ℕ) → 32 ≤ first → first ≤ 63 → form_of first ≡ SizeUpdate
update_form first low high =
    let a : ltb first 16 ≡ false = le-ltb _ _ (omega arith) in
    let b : ltb first 32 ≡ false = le-ltb _ _ low in
    let c : ltb first 64 ≡ true = lt-ltb _ _ (omega arith) in
    rw (a, b, c) refl

pub updated_block : (table : Table) (size : ℕ) (headers : List Header) → All IsShort headers → size ≤ 4096 → Block (update_of size ++ block_of headers) table headers (with_maximum size table)
updated_block table size headers short le =
    let b = block_written (with_maximum size table) headers short in
    let first = first_of_integer 5 32 size (block_of headers) in
    record {
      sizes = size ∷ b.sizes;
      middle = b.middle;
      rest = b.rest;
      updates = (
        block_of headers,
        record {
          is_form = update_form _ first.0 first.1;
          is_size = integer_written 5 32 size (block_of headers) marks_update (omega arith);
          allowed = le;
        },
        b.updates,
      );
      fields = b.fields;
    }

pub integer_of-large : (bits mark n most : ℕ) → most ≡ 2 ^ bits - 1 → most ≤ n → integer_of bits mark n ≡ (mark + most) ∷ groups_of 4 (n - most)
integer_of-large bits mark n most e le =
    let test : ltb n (2 ^ bits - 1) ≡ false = le-ltb _ _ (omega (arith, e, le)) in
    rw (e, test) refl

-- the front of a block, up to a header
pub block_of-at : (headers : List Header) (i : ℕ) (d : Header) → i < length headers
    → block_of headers ≡ block_of (take i headers) ++ (field_of (get_or headers i d) ++ block_of (drop (i + 1) headers))
unfolding block_of
block_of-at headers i d lt =
    let split : headers ≡ take i headers ++ get_or headers i d ∷ drop (i + 1) headers =
    sym (take-append-drop i headers) ∙ ap (λ (hs : List Header). take i headers ++ hs) (drop-cons headers i d lt ∙ ap (λ (n : ℕ). get_or headers i d ∷ drop n headers) (sym (add-one i))) in
    ap (flat_map field_of) split ∙ flat_map-append field_of (take i headers) (get_or headers i d ∷ drop (i + 1) headers)

pub block_of-next : (headers : List Header) (i : ℕ) (d : Header) → i < length headers → block_of (take (i + 1) headers) ≡ block_of (take i headers) ++ field_of (get_or headers i d)
unfolding block_of
block_of-next headers i d lt =
    ap (flat_map field_of) (take_more headers i d lt) ∙ flat_map-append field_of (take i headers) (get_or headers i d ∷ [])
    ∙ ap (λ (s : List ℕ). flat_map field_of (take i headers) ++ s) (append-nil (field_of (get_or headers i d)))

pub block_of-none : block_of [] ≡ []
unfolding block_of
block_of-none = refl

-- the fields up to one header more
pub fields_next : (headers : List Header) (i : ℕ) (header : Header) (old out new : List ℕ) → i < length headers → header ≡ get_or headers i header
    → out ≡ old ++ block_of (take i headers) → new ≡ out ++ field_of header → new ≡ old ++ block_of (take (i + 1) headers)
fields_next headers i header old out new lt here so_far is =
    is ∙ ap (λ (s : List ℕ). s ++ field_of header) so_far ∙ append_assoc old (block_of (take i headers)) (field_of header)
    ∙ ap (λ (h : Header). old ++ (block_of (take i headers) ++ field_of h)) here
    ∙ ap (λ (s : List ℕ). old ++ s) (sym (block_of-next headers i header lt))

-- a front of the next field is there
pub fields_front : (headers : List Header) (i : ℕ) (header : Header) (old out new : List ℕ) → i < length headers → header ≡ get_or headers i header
    → out ≡ old ++ block_of (take i headers) → AppendsFront out new (field_of header) → AppendsFront old new (block_of headers)
fields_front headers i header old out new lt here so_far f =
    AppendsFront-more old out new (block_of (take i headers)) (field_of header ++ block_of (drop (i + 1) headers)) (block_of headers) so_far
    (block_of-at headers i header lt ∙ ap (λ (h : Header). block_of (take i headers) ++ (field_of h ++ block_of (drop (i + 1) headers))) (sym here))
    (AppendsFront-longer out new (field_of header) (block_of (drop (i + 1) headers)) (field_of header ++ block_of (drop (i + 1) headers)) refl f)

-- the place that a search finds
pub place_found : (p : Header → Bool) (i : ℕ) → i < length static_table → p (get_or static_table i nothing) ≡ true
    → ((k : ℕ) → k < i → p (get_or static_table k nothing) ≡ false) → Some i ≡ position p static_table
place_found p i lt here before =
    let at : position_or_len p static_table ≡ i = position_or_len_is p static_table i nothing (omega arith) before (λ _. here) in
    let test : ltb i (length static_table) ≡ true = lt-ltb _ _ lt in
    rw (at, test) refl

pub no_place : (p : Header → Bool) (i : ℕ) → length static_table ≤ i → ((k : ℕ) → k < i → p (get_or static_table k nothing) ≡ false) → None ≡ position p static_table
no_place p i le before =
    let n : ℕ = length static_table in
    let at : position_or_len p static_table ≡ length static_table =
    position_or_len_is p static_table (length static_table) nothing (omega arith) (λ k lt. before k (omega arith)) (λ lt. absurd (omega arith)) in
    let test : ltb (length static_table) (length static_table) ≡ false = le-ltb _ _ (omega arith) in
    rw (at, test) refl

pub static_length-lt : (i : ℕ) → i < 61 → i < length static_table
static_length-lt i lt = omega (arith, static_length)

pub static_length-le : (i : ℕ) → 61 ≤ i → length static_table ≤ i
static_length-le i le = omega (arith, static_length)

-- a list of one header
pub IsShort-one : (headers : List Header) (old : List Header) (header : Header) → old ≡ [] → headers ≡ old ++ header ∷ [] → IsShort header → All IsShort headers
IsShort-one headers old header none e short =
    let one : headers ≡ header ∷ [] = e ∙ ap (λ (hs : List Header). hs ++ header ∷ []) none in
    subst (λ (hs : List Header). All IsShort hs) (sym one) (λ k d lt. here k d lt)
  where
    here : (k : ℕ) (d : Header) → k < 1 → IsShort (get_or (header ∷ []) k d)
    here zero d lt = short
    here (suc k) d lt = absurd (omega arith)
