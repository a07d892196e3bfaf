-- Octets begin with one string, one name, one literal and one field at most.
use Rattle.std.proofs.Common.{◌≡◌, ℕ, zero, suc, ◌+◌, ◌<◌, ◌≤◌, inl, inr, List, [], ◌++◌, length, take, drop, Option, Some, None, Result, Err, refl, sym, ap, ◌∙◌, subst, arith}
use Rattle.std.specs.Prelude.{slice_index}
use Rattle.std.proofs.lemmas.List.{take_at, drop_at, take-append-drop, length-take, length-append}
use Rattle.hpack_huff.proofs.HuffmanLemmas.{one_text}
use Rattle.hpack_block.specs.declared.header.Header.{Header}
use Rattle.hpack_block.specs.declared.form.Form.{Form}
use Rattle.hpack_block.specs.declared.form.Form.TheVariants.{Indexed, WithIndexing, SizeUpdate, WithoutIndexing, NeverIndexed}
use Rattle.hpack_block.specs.Integers.{IsInteger}
use Rattle.hpack_block.specs.inner.Reading.{integer_at}
use Rattle.hpack_block.specs.Strings.{IsContent, IsCoded, IsString}
use Rattle.hpack_block.specs.Tables.{Table, with_entry, entry_at, name_at}
use Rattle.hpack_block.specs.Fields.{IsIndexed, IsName, IsLiteral, IsField}
use Rattle.hpack_block.proofs.IntegerLemmas.{integer_takes, one_integer, no_integer}

-- an error, whatever the value would be
pub err_as : {T U E : Type 0} (e f : E) → ◌≡◌ {A = Result T E} (Err e) (Err f) → ◌≡◌ {A = Result U E} (Err e) (Err f)
err_as e f h = let s : e ≡ f = cc in cc

-- ---- strings

pub one_content : (octets c d r s : List ℕ) → IsContent octets c r → IsContent octets d s → (c ≡ d) × (r ≡ s)
one_content octets c d r s p q =
    let n = one_integer 7 octets (length c) (length d) p.after q.after p.is_length q.is_length in
    let both : c ++ r ≡ d ++ s = sym p.follows ∙ n.1 ∙ q.follows in
    let same : length c ≡ length d = n.0 in (
      sym (take_at c r (length c) refl) ∙ ap (take (length c)) both ∙ take_at d s (length c) (sym same),
      sym (drop_at c r (length c) refl) ∙ ap (drop (length c)) both ∙ drop_at d s (length c) (sym same),
    )

pub one_coded : (first : ℕ) (content t u : List ℕ) → IsCoded first content t → IsCoded first content u → t ≡ u
one_coded first content t u (inl p) (inl q) = sym p.1 ∙ q.1
one_coded first content t u (inl p) (inr q) = absurd (omega (arith, p.0, q.0))
one_coded first content t u (inr p) (inl q) = absurd (omega (arith, p.0, q.0))
one_coded first content t u (inr p) (inr q) = one_text content t u p.1 q.1

pub one_string : (octets t u r s : List ℕ) → IsString octets t r → IsString octets u s → (t ≡ u) × (r ≡ s)
one_string octets t u r s p q =
    let c = one_content octets p.content q.content r s p.is_content q.is_content in (
      one_coded (slice_index octets 0) p.content t u p.is_coded
          (subst (λ (x : List ℕ). IsCoded (slice_index octets 0) x u) (sym c.0) q.is_coded),
      c.1,
    )

-- what is split behind the length is the content
pub content_is : (octets : List ℕ) (n : ℕ) (after front back : List ℕ) → Some (n, after) ≡ integer_at 7 octets → n ≤ length after
    → front ≡ take n after → back ≡ drop n after → IsContent octets front back
content_is octets n after front back read le f b =
    let count : length front ≡ n = omega (arith, ap length f, length-take n after) in
    record {
      after = after;
      is_length = subst (λ (m : ℕ). IsInteger 7 octets m after) (sym count) (integer_takes 7 octets n after (sym read));
      follows = sym (take-append-drop n after) ∙ ap (λ (s : List ℕ). s ++ drop n after) (sym f) ∙ ap (λ (s : List ℕ). front ++ s) (sym b);
    }

-- fewer octets are left than the length says
pub content_short : (octets : List ℕ) (n : ℕ) (after : List ℕ) → Some (n, after) ≡ integer_at 7 octets → length after < n
    → (content rest : List ℕ) → IsContent octets content rest → ⊥
content_short octets n after read lt content rest is =
    let same = one_integer 7 octets n (length content) after is.after (integer_takes 7 octets n after (sym read)) is.is_length in
    let count = same.0 in
    let whole : length after ≡ length content + length rest = ap length (same.1 ∙ is.follows) ∙ length-append content rest in
    absurd (omega (arith, count, whole))

pub content_none : (octets : List ℕ) → None ≡ integer_at 7 octets → (content rest : List ℕ) → IsContent octets content rest → ⊥
content_none octets none content rest is = no_integer 7 octets (sym none) (length content) is.after is.is_length

-- the text of a string whose content is known
pub string_of_content : (octets content text r s : List ℕ) → IsContent octets content r → IsString octets text s → IsCoded (slice_index octets 0) content text
string_of_content octets content text r s c is =
    subst (λ (x : List ℕ). IsCoded (slice_index octets 0) x text) (one_content octets is.content content s r is.is_content c).0 is.is_coded

-- ---- names, literals and indexed headers

same_name : (o : Option (List ℕ)) (a b : List ℕ) → o ≡ Some a → o ≡ Some b → a ≡ b
same_name o a b p q = cc

same_entry : (o : Option Header) (a b : Header) → o ≡ Some a → o ≡ Some b → a ≡ b
same_entry o a b p q = cc

pub one_name : (table : Table) (index : ℕ) (octets n m r s : List ℕ) → IsName table index octets n r → IsName table index octets m s → (n ≡ m) × (r ≡ s)
one_name table zero octets n m r s p q = one_string octets n m r s p q
one_name table (suc place) octets n m r s p q = (same_name (name_at table (suc place)) n m p.0 q.0, sym p.1 ∙ q.1)

same_header : (a b : Header) → a.name ≡ b.name → a.value ≡ b.value → a ≡ b
same_header a b n v = ap (λ (x : List ℕ). record a { name = x }) n ∙ ap (λ (x : List ℕ). record b { value = x }) v

pub one_literal : (bits : ℕ) (table : Table) (octets : List ℕ) (h k : Header) (r s : List ℕ) → IsLiteral bits table octets h r → IsLiteral bits table octets k s → (h ≡ k) × (r ≡ s)
one_literal bits table octets h k r s p q =
    let i = one_integer bits octets p.index q.index p.after q.after p.is_index q.is_index in
    let moved : IsName table p.index p.after k.name q.last =
    subst (λ (x : ℕ). IsName table x p.after k.name q.last) (sym i.0) (subst (λ (x : List ℕ). IsName table q.index x k.name q.last) (sym i.1) q.is_name) in
    let n = one_name table p.index p.after h.name k.name p.last q.last p.is_name moved in
    let v = one_string p.last h.value k.value r s p.is_value (subst (λ (x : List ℕ). IsString x k.value s) (sym n.1) q.is_value) in
    (same_header h k n.0 v.0, v.1)

pub one_indexed : (table : Table) (octets : List ℕ) (h k : Header) (r s : List ℕ) → IsIndexed table octets h r → IsIndexed table octets k s → (h ≡ k) × (r ≡ s)
one_indexed table octets h k r s p q =
    let i = one_integer 7 octets p.index q.index r s p.is_index q.is_index in
    (same_entry (entry_at table p.index) h k p.entry (ap (entry_at table) i.0 ∙ q.entry), i.1)

-- ---- fields

pub record Same (h k : Header) (a b : Table) (r s : List ℕ) : Type 0 where
  pub header : h ≡ k
  pub table : a ≡ b
  pub rest : r ≡ s

one_kept : (table : Table) (h k : Header) (a b : Table) (r s : List ℕ) → (h ≡ k) × (r ≡ s) → table ≡ a → table ≡ b → Same h k a b r s
one_kept table h k a b r s e p q = record { header = e.0; table = sym p ∙ q; rest = e.1 }

pub one_field : (form : Form) (table : Table) (octets : List ℕ) (h k : Header) (a b : Table) (r s : List ℕ) → IsField form table octets h a r → IsField form table octets k b s → Same h k a b r s
one_field Indexed table octets h k a b r s p q = one_kept table h k a b r s (one_indexed table octets h k r s p.0 q.0) p.1 q.1
one_field WithIndexing table octets h k a b r s p q =
    let e = one_literal 6 table octets h k r s p.0 q.0 in
    record { header = e.0; table = sym p.1 ∙ ap (λ (x : Header). with_entry x table) e.0 ∙ q.1; rest = e.1 }
one_field SizeUpdate table octets h k a b r s p q = absurd p
one_field WithoutIndexing table octets h k a b r s p q = one_kept table h k a b r s (one_literal 4 table octets h k r s p.0 q.0) p.1 q.1
one_field NeverIndexed table octets h k a b r s p q = one_kept table h k a b r s (one_literal 4 table octets h k r s p.0 q.0) p.1 q.1

-- no field is in no octets
pub no_field : (form : Form) (table : Table) (h : Header) (next : Table) (rest : List ℕ) → IsField form table [] h next rest → ⊥
no_field Indexed table h next rest p = p.0.is_index
no_field WithIndexing table h next rest p = p.0.is_index
no_field SizeUpdate table h next rest p = p
no_field WithoutIndexing table h next rest p = p.0.is_index
no_field NeverIndexed table h next rest p = p.0.is_index

-- ---- what is refused

pub indexed_none : (table : Table) (octets : List ℕ) → None ≡ integer_at 7 octets → (header : Header) (next : Table) (rest : List ℕ) → IsField Indexed table octets header next rest → ⊥
indexed_none table octets none header next rest is = no_integer 7 octets (sym none) is.0.index rest is.0.is_index

clash : (o : Option Header) (h : Header) → None ≡ o → o ≡ Some h → ⊥
clash o h p q = cc

pub indexed_past : (table : Table) (octets : List ℕ) (index : ℕ) (after : List ℕ) → Some (index, after) ≡ integer_at 7 octets → None ≡ entry_at table index
    → (header : Header) (next : Table) (rest : List ℕ) → IsField Indexed table octets header next rest → ⊥
indexed_past table octets index after read none header next rest is =
    let same = one_integer 7 octets index is.0.index after rest (integer_takes 7 octets index after (sym read)) is.0.is_index in
    clash (entry_at table is.0.index) header (none ∙ ap (entry_at table) same.0) is.0.entry

pub indexed_is : (table : Table) (octets : List ℕ) (index : ℕ) (rest : List ℕ) (header : Header) → Some (index, rest) ≡ integer_at 7 octets → Some header ≡ entry_at table index
    → IsIndexed table octets header rest
indexed_is table octets index rest header read entry = record { index = index; is_index = integer_takes 7 octets index rest (sym read); entry = sym entry }

pub literal_none : (bits : ℕ) (table : Table) (octets : List ℕ) → None ≡ integer_at bits octets → (header : Header) (rest : List ℕ) → IsLiteral bits table octets header rest → ⊥
literal_none bits table octets none header rest is = no_integer bits octets (sym none) is.index is.after is.is_index

name_of_literal : (bits : ℕ) (table : Table) (octets : List ℕ) (index : ℕ) (after : List ℕ) (header : Header) (rest : List ℕ) → Some (index, after) ≡ integer_at bits octets
    → (is : IsLiteral bits table octets header rest) → IsName table index after header.name is.last
name_of_literal bits table octets index after header rest read is =
    let same = one_integer bits octets is.index index is.after after is.is_index (integer_takes bits octets index after (sym read)) in
    subst (λ (x : ℕ). IsName table x after header.name is.last) same.0 (subst (λ (x : List ℕ). IsName table is.index x header.name is.last) same.1 is.is_name)

pub literal_no_name : (bits : ℕ) (table : Table) (octets : List ℕ) (index : ℕ) (after : List ℕ) → Some (index, after) ≡ integer_at bits octets
    → ((name rest : List ℕ) → IsName table index after name rest → ⊥) → (header : Header) (rest : List ℕ) → IsLiteral bits table octets header rest → ⊥
literal_no_name bits table octets index after read none header rest is =
    none header.name is.last (name_of_literal bits table octets index after header rest read is)

pub literal_no_value : (bits : ℕ) (table : Table) (octets : List ℕ) (index : ℕ) (after name last : List ℕ) → Some (index, after) ≡ integer_at bits octets
    → IsName table index after name last → ((value rest : List ℕ) → IsString last value rest → ⊥) → (header : Header) (rest : List ℕ) → IsLiteral bits table octets header rest → ⊥
literal_no_value bits table octets index after name last read is_name none header rest is =
    let same = one_name table index after header.name name is.last last (name_of_literal bits table octets index after header rest read is) is_name in
    none header.value rest (subst (λ (x : List ℕ). IsString x header.value rest) same.1 is.is_value)

pub literal_is : (bits : ℕ) (table : Table) (octets : List ℕ) (index : ℕ) (after name last value rest : List ℕ) → Some (index, after) ≡ integer_at bits octets
    → IsName table index after name last → IsString last value rest → IsLiteral bits table octets (record { name = name; value = value }) rest
literal_is bits table octets index after name last value rest read is_name is_value = record {
  index = index;
  after = after;
  last = last;
  is_index = integer_takes bits octets index after (sym read);
  is_name = is_name;
  is_value = is_value;
}
