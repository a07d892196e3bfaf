-- The fields that were read so far, the updates before them, and what a decoder answers.
use Rattle.std.proofs.Common.{◌≡◌, ℕ, ◌<◌, ◌≤◌, Bool, true, false, leb, List, [], ◌∷◌, ◌++◌, Option, Some, None, Result, Ok, Err, refl, sym, ap, ◌∙◌, subst, arith, append_assoc, append-nil}
use Rattle.std.specs.Prelude.{slice_index}
use Rattle.std.proofs.lemmas.Bool.{leb-false, lt-leb}
use Rattle.std.proofs.lemmas.List.Sums.{sum_by_push}
use Rattle.hpack_block.specs.declared.header.Header.{Header}
use Rattle.hpack_block.specs.declared.header.BlockFault.{BlockFault}
use Rattle.hpack_block.specs.declared.header.BlockFault.TheVariants.{Bad, TooLong, NoMemory}
use Rattle.hpack_block.specs.declared.header.Ended.{Ended}
use Rattle.hpack_block.specs.declared.header.Ended.TheVariants as ended
use Rattle.hpack_block.specs.declared.form.Form.{Form}
use Rattle.hpack_block.specs.declared.form.Form.TheVariants.{SizeUpdate, WithoutIndexing, NeverIndexed}
use Rattle.hpack_block.specs.Tables.{Table, size_of, size_of_all, with_maximum}
use Rattle.hpack_block.specs.Fields.{form_of, IsField}
use Rattle.hpack_block.specs.Block.{IsUpdate, AreUpdates, AreFields, Block}
use Rattle.hpack_block.specs.inner.Reading.{integer_at}
use Rattle.hpack_block.specs.Answers.{State, state_of, fault_of, IsBad, Answers}
use Rattle.hpack_block.specs.inner.Gathering.{within_limit, with_header}
use Rattle.hpack_block.specs.inner.Steps.{TakesField, NoField, TakesFields, TakesBlock, Leads, TakesUpdates}
use Rattle.hpack_block.proofs.IntegerLemmas.{integer_takes, one_integer, no_integer}
use Rattle.hpack_block.proofs.FieldLemmas.{one_field, no_field}

-- ---- the form at the front

abbrev pub form_at : List ℕ → Form
form_at octets = form_of (slice_index octets 0)

not_update_at_end : (octets : List ℕ) → octets ≡ [] → form_at octets ≡ SizeUpdate → ⊥
not_update_at_end octets none e = let h : form_at octets ≡ WithoutIndexing = ap form_at none in clash (form_at octets) e h
  where
    clash : (form : Form) → form ≡ SizeUpdate → form ≡ WithoutIndexing → ⊥
    clash form e h = cc

no_field_at : (table : Table) (octets : List ℕ) (h : Header) (next : Table) (rest : List ℕ) → octets ≡ [] → IsField (form_at octets) table octets h next rest → ⊥
no_field_at table octets h next rest none is =
    no_field (form_at []) table h next rest (subst (λ (o : List ℕ). IsField (form_at o) table o h next rest) none is)

-- ---- fields so far

pub record SoFar (table : Table) (octets : List ℕ) (seen : List Header) (now : Table) (rest : List ℕ) : Type 0 where
  pub built : (more : List Header) (last : Table) → AreFields now rest more last → AreFields table octets (seen ++ more) last
  pub only : (all : List Header) (last : Table) → AreFields table octets all last → (more : List Header) × (all ≡ seen ++ more) × AreFields now rest more last

SoFar-none : (table : Table) (octets : List ℕ) → SoFar table octets [] table octets
SoFar-none table octets = record {
  built = λ more last are. are;
  only = λ all last are. (all, refl, are);
}

SoFar-more : (table : Table) (octets : List ℕ) (seen : List Header) (now : Table) (rest : List ℕ) (header : Header) (next : Table) (after : List ℕ)
    → SoFar table octets seen now rest → IsField (form_at rest) now rest header next after → SoFar table octets (seen ++ header ∷ []) next after
SoFar-more table octets seen now rest header next after so_far is = record {
  built = λ more last are.
      subst (λ (hs : List Header). AreFields table octets hs last) (sym (append_assoc seen (header ∷ []) more))
      (so_far.built (header ∷ more) last (next, after, is, are));
  only = λ all last are. let found = so_far.only all last are in next_is all last found.0 found.1 found.2;
}
  where
    next_is : (all : List Header) (last : Table) (more : List Header) → all ≡ seen ++ more → AreFields now rest more last
        → (others : List Header) × (all ≡ (seen ++ header ∷ []) ++ others) × AreFields next after others last
    next_is all last [] e are = absurd (no_field_at now rest header next after are.0 is)
    next_is all last (other ∷ others) e are =
        let same = one_field (form_at rest) now rest other header are.0 next are.1 after are.2 is in (
          others,
          e ∙ ap (λ (h : Header). seen ++ h ∷ others) same.header ∙ sym (append_assoc seen (header ∷ []) others),
          subst (λ (t : Table). AreFields t after others last) same.table (subst (λ (r : List ℕ). AreFields are.0 r others last) same.rest are.3),
        )

-- ---- headers that are gathered

gathered_more : (header : Header) (headers : List Header) → with_header header (within_limit headers) ≡ within_limit (headers ++ header ∷ [])
gathered_more header headers = by_size (leb (size_of_all headers) 16384) refl
  where
    by_size : (b : Bool) → leb (size_of_all headers) 16384 ≡ b → with_header header (within_limit headers) ≡ within_limit (headers ++ header ∷ [])
    by_size true e = rw e refl
    by_size false e =
        let lt : 16384 < size_of_all headers = leb-false _ _ e in
        let more : leb (size_of_all (headers ++ header ∷ [])) 16384 ≡ false = lt-leb _ _ (omega (arith, sum_by_push size_of headers header)) in
        rw (e, more) refl

pub record Gathering (table : Table) (octets : List ℕ) (now : Table) (rest : List ℕ) (list : Option (List Header)) : Type 0 where
  pub seen : List Header
  pub so_far : SoFar table octets seen now rest
  pub listed : list ≡ within_limit seen

pub Gathering-none : (table : Table) (octets : List ℕ) (list : Option (List Header)) → list ≡ Some [] → Gathering table octets table octets list
Gathering-none table octets list e = record { seen = []; so_far = SoFar-none table octets; listed = e }

pub Gathering-more : (table : Table) (octets : List ℕ) (now : Table) (rest : List ℕ) (next : Table) (after : List ℕ) (old new : Option (List Header))
    → Gathering table octets now rest old → TakesField (form_at rest) now rest next after old new → Gathering table octets next after new
Gathering-more table octets now rest next after old new g t = record {
  seen = g.seen ++ t.header ∷ [];
  so_far = SoFar-more table octets g.seen now rest t.header next after g.so_far t.is_field;
  listed = t.listed ∙ ap (with_header t.header) g.listed ∙ gathered_more t.header g.seen;
}

pub Gathering-end : (table : Table) (octets : List ℕ) (now : Table) (rest : List ℕ) (list : Option (List Header))
    → Gathering table octets now rest list → rest ≡ [] → TakesFields table octets now list
Gathering-end table octets now rest list g e = record {
  headers = g.seen;
  are_fields = subst (λ (hs : List Header). AreFields table octets hs now) (append-nil g.seen) (g.so_far.built [] now (e, refl));
  listed = g.listed;
}

pub Gathering-bad : (table : Table) (octets : List ℕ) (now : Table) (rest : List ℕ) (list : Option (List Header))
    → Gathering table octets now rest list → (rest ≡ [] → ⊥) → NoField (form_at rest) now rest → (headers : List Header) (last : Table) → AreFields table octets headers last → ⊥
Gathering-bad table octets now rest list g some none headers last are =
    let found = g.so_far.only headers last are in refused found.0 last found.2
  where
    refused : (more : List Header) (last : Table) → AreFields now rest more last → ⊥
    refused [] last are = some are.0
    refused (header ∷ more) last are = none header are.0 are.1 are.2

-- ---- updates of the size

fields_not_update : (table : Table) (octets : List ℕ) (headers : List Header) (last : Table) → form_at octets ≡ SizeUpdate → AreFields table octets headers last → ⊥
fields_not_update table octets [] last e are = not_update_at_end octets are.0 e
fields_not_update table octets (header ∷ headers) last e are = subst (λ (form : Form). IsField form table octets header are.0 are.1) e are.2

moved : (table middle : Table) (octets rest : List ℕ) (headers : List Header) (last : Table) → (table ≡ middle) × (octets ≡ rest) → AreFields middle rest headers last → AreFields table octets headers last
moved table middle octets rest headers last e are =
    subst (λ (t : Table). AreFields t octets headers last) (sym e.0) (subst (λ (o : List ℕ). AreFields middle o headers last) (sym e.1) are)

pub Leads-none : (octets : List ℕ) (table : Table) → Leads octets table octets table
Leads-none octets table = record { built = λ headers last b. b; only = λ headers last b. b }

update_only : (octets : List ℕ) (table : Table) (size : ℕ) (after : List ℕ) (headers : List Header) (last : Table) → IsUpdate octets size after
    → (sizes : List ℕ) (middle : Table) (rest : List ℕ) → AreUpdates table octets sizes middle rest → AreFields middle rest headers last → Block after (with_maximum size table) headers last
update_only octets table size after headers last is [] middle rest u are =
    absurd (fields_not_update table octets headers last is.is_form (moved table middle octets rest headers last u are))
update_only octets table size after headers last is (other ∷ sizes) middle rest u are =
    let same = one_integer 5 octets other size u.0 after u.1.is_size is.is_size in
    record {
      sizes = sizes;
      middle = middle;
      rest = rest;
      updates = subst (λ (n : ℕ). AreUpdates (with_maximum n table) after sizes middle rest) same.0
          (subst (λ (o : List ℕ). AreUpdates (with_maximum other table) o sizes middle rest) same.1 u.2);
      fields = are;
    }

pub Leads-more : (octets : List ℕ) (table : Table) (rest : List ℕ) (now : Table) (size : ℕ) (after : List ℕ) → Leads octets table rest now
    → form_at rest ≡ SizeUpdate → integer_at 5 rest ≡ Some (size, after) → size ≤ 4096 → Leads octets table after (with_maximum size now)
Leads-more octets table rest now size after leads form read le =
    let is : IsUpdate rest size after = record { is_form = form; is_size = integer_takes 5 rest size after read; allowed = le } in
    record {
      built = λ headers last b. leads.built headers last (record { sizes = size ∷ b.sizes; middle = b.middle; rest = b.rest; updates = (after, is, b.updates); fields = b.fields });
      only = λ headers last b.
          let c = leads.only headers last b in
          update_only rest now size after headers last is c.sizes c.middle c.rest c.updates c.fields;
    }

-- where an update stands first it is read, and has an allowed size
update_first : (octets : List ℕ) (table : Table) (headers : List Header) (last : Table) → form_at octets ≡ SizeUpdate
    → (sizes : List ℕ) (middle : Table) (rest : List ℕ) → AreUpdates table octets sizes middle rest → AreFields middle rest headers last
    → (size : ℕ) × (after : List ℕ) × IsUpdate octets size after
update_first octets table headers last e [] middle rest u are = absurd (fields_not_update table octets headers last e (moved table middle octets rest headers last u are))
update_first octets table headers last e (size ∷ sizes) middle rest u are = (size, u.0, u.1)

pub bad_integer : (octets : List ℕ) (table : Table) (rest : List ℕ) (now : Table) → Leads octets table rest now → form_at rest ≡ SizeUpdate
    → integer_at 5 rest ≡ None → IsBad table octets
bad_integer octets table rest now leads form none headers last b =
    let c = leads.only headers last b in
    let u = update_first rest now headers last form c.sizes c.middle c.rest c.updates c.fields in
    no_integer 5 rest none u.0 u.1 u.2.is_size

pub bad_size : (octets : List ℕ) (table : Table) (rest : List ℕ) (now : Table) (size : ℕ) (after : List ℕ) → Leads octets table rest now → form_at rest ≡ SizeUpdate
    → integer_at 5 rest ≡ Some (size, after) → 4096 < size → IsBad table octets
bad_size octets table rest now size after leads form read large headers last b =
    let c = leads.only headers last b in
    let u = update_first rest now headers last form c.sizes c.middle c.rest c.updates c.fields in
    let same = one_integer 5 rest u.0 size u.1 after u.2.is_size (integer_takes 5 rest size after read) in
    let allowed = u.2.allowed in
    absurd (omega (arith, same.0, allowed))

-- ---- a block

fields_of_block : (octets : List ℕ) (table : Table) (headers : List Header) (last : Table) → (form_at octets ≡ SizeUpdate → ⊥)
    → (sizes : List ℕ) (middle : Table) (rest : List ℕ) → AreUpdates table octets sizes middle rest → AreFields middle rest headers last → AreFields table octets headers last
fields_of_block octets table headers last fixed [] middle rest u are = moved table middle octets rest headers last u are
fields_of_block octets table headers last fixed (size ∷ sizes) middle rest u are = absurd (fixed u.1.is_form)

pub Block-from_fields : (octets : List ℕ) (table : Table) (headers : List Header) (last : Table) → AreFields table octets headers last → Block octets table headers last
Block-from_fields octets table headers last are = record { sizes = []; middle = table; rest = octets; updates = (refl, refl); fields = are }

pub TakesBlock-from : (octets : List ℕ) (table : Table) (rest : List ℕ) (next last : Table) (list : Option (List Header))
    → TakesUpdates octets table rest next → TakesFields next rest last list → TakesBlock table octets last list
TakesBlock-from octets table rest next last list u f = record {
  headers = f.headers;
  block = u.leads.built f.headers last (Block-from_fields rest next f.headers last f.are_fields);
  listed = f.listed;
}

pub IsBad-from : (octets : List ℕ) (table : Table) (rest : List ℕ) (next : Table)
    → TakesUpdates octets table rest next → ((headers : List Header) (last : Table) → AreFields next rest headers last → ⊥) → IsBad table octets
IsBad-from octets table rest next u bad headers last b =
    let c = u.leads.only headers last b in
    bad headers last (fields_of_block rest next headers last u.no_update c.sizes c.middle c.rest c.updates c.fields)

-- ---- one reading

one_list : (table : Table) (octets : List ℕ) (hs ks : List Header) (a b : Table) → AreFields table octets hs a → AreFields table octets ks b → (hs ≡ ks) × (a ≡ b)
one_list table octets [] [] a b p q = (refl, sym p.1 ∙ q.1)
one_list table octets [] (k ∷ ks) a b p q = absurd (no_field_at table octets k q.0 q.1 p.0 q.2)
one_list table octets (h ∷ hs) [] a b p q = absurd (no_field_at table octets h p.0 p.1 q.0 p.2)
one_list table octets (h ∷ hs) (k ∷ ks) a b p q =
    let same = one_field (form_at octets) table octets h k p.0 q.0 p.1 q.1 p.2 q.2 in
    let other : AreFields p.0 p.1 ks b = subst (λ (t : Table). AreFields t p.1 ks b) (sym same.table) (subst (λ (r : List ℕ). AreFields q.0 r ks b) (sym same.rest) q.3) in
    let more = one_list p.0 p.1 hs ks a b p.3 other in
    (ap (λ (x : Header). x ∷ hs) same.header ∙ ap (λ (xs : List Header). k ∷ xs) more.0, more.1)

one_block_from : (table : Table) (octets : List ℕ) (hs ks : List Header) (a b : Table) (sizes : List ℕ) (middle : Table) (rest : List ℕ)
    → AreUpdates table octets sizes middle rest → AreFields middle rest hs a → Block octets table ks b → (hs ≡ ks) × (a ≡ b)
one_block_from table octets hs ks a b [] middle rest u are q =
    let here = moved table middle octets rest hs a u are in
    one_list table octets hs ks a b here (fields_of_block octets table ks b (λ e. fields_not_update table octets hs a e here) q.sizes q.middle q.rest q.updates q.fields)
one_block_from table octets hs ks a b (size ∷ sizes) middle rest u are q =
    one_block_from (with_maximum size table) u.0 hs ks a b sizes middle rest u.2 are
    (update_only octets table size u.0 ks b u.1 q.sizes q.middle q.rest q.updates q.fields)

pub one_block : (octets : List ℕ) (table : Table) (hs ks : List Header) (a b : Table) → Block octets table hs a → Block octets table ks b → (hs ≡ ks) × (a ≡ b)
one_block octets table hs ks a b p q = one_block_from table octets hs ks a b p.sizes p.middle p.rest p.updates p.fields q

-- ---- forms

pub NoField-as : (form other : Form) (table : Table) (octets : List ℕ) → form ≡ other → NoField form table octets → NoField other table octets
NoField-as form other table octets e h = subst (λ (f : Form). NoField f table octets) e h

pub NoField-never : (table : Table) (octets : List ℕ) → NoField WithoutIndexing table octets → NoField NeverIndexed table octets
NoField-never table octets h = h

pub NoField-update : (table : Table) (octets : List ℕ) → NoField SizeUpdate table octets
NoField-update table octets header next rest is = is

ended_answers : (table : Table) (octets : List ℕ) (end : Ended) → (end ≡ ended.Bad → IsBad table octets) → Answers (Ok table) octets (Err (fault_of end)) (Err end)
ended_answers table octets ended.Bad bad = (bad refl, refl)
ended_answers table octets ended.NoMemory bad = refl

pub Answers-fault : (old : State) (stored : Option Ended) (table : Table) (octets : List ℕ) (end : Ended) (fault : BlockFault) → state_of stored table ≡ old
    → ((e : Ended) → stored ≡ Some e → ⊥) → fault ≡ fault_of end → (end ≡ ended.Bad → IsBad table octets) → Answers old octets (Err fault) (Err end)
Answers-fault old None table octets end fault e none is bad =
    subst (λ (f : BlockFault). Answers old octets (Err f) (Err end)) (sym is) (subst (λ (s : State). Answers s octets (Err (fault_of end)) (Err end)) e (ended_answers table octets end bad))
Answers-fault old (Some f) table octets end fault e none is bad = absurd (none f refl)

pub err_of : {T : Type 0} (e f : Ended) → e ≡ f → ◌≡◌ {A = Result T Ended} (Err e) (Err f)
err_of e f h = cc

-- ---- each answer wherever what it says holds

alive : (a b : Table) → a ≡ b → ◌≡◌ {A = State} (Ok a) (Ok b)
alive a b e = cc

pub answered_read : (table : Table) (octets : List ℕ) (result : Result (List Header) BlockFault) (new : State) (headers : List Header) (last : Table)
    → Answers (Ok table) octets result new → (result ≡ Err NoMemory → ⊥) → Block octets table headers last → size_of_all headers ≤ 16384
    → (result ≡ Ok headers) × (new ≡ Ok last)
answered_read table octets (Ok read) new headers last a ample b le =
    let same = one_block octets table read headers a.last last a.block b in
    let h = same.0 in
    (cc, a.new_is ∙ alive a.last last same.1)
answered_read table octets (Err TooLong) new headers last a ample b le =
    let same = one_block octets table a.headers headers a.last last a.block b in
    let long = a.long in
    absurd (omega (arith, le, long, ap size_of_all same.0))
answered_read table octets (Err Bad) new headers last a ample b le = absurd (a.0 headers last b)
answered_read table octets (Err NoMemory) new headers last a ample b le = absurd (ample refl)

pub answered_too_long : (table : Table) (octets : List ℕ) (result : Result (List Header) BlockFault) (new : State) (headers : List Header) (last : Table)
    → Answers (Ok table) octets result new → (result ≡ Err NoMemory → ⊥) → Block octets table headers last → 16384 < size_of_all headers
    → (result ≡ Err TooLong) × (new ≡ Ok last)
answered_too_long table octets (Ok read) new headers last a ample b lt =
    let same = one_block octets table read headers a.last last a.block b in
    let short = a.short in
    absurd (omega (arith, lt, short, ap size_of_all same.0))
answered_too_long table octets (Err TooLong) new headers last a ample b lt =
    let same = one_block octets table a.headers headers a.last last a.block b in
    (refl, a.new_is ∙ alive a.last last same.1)
answered_too_long table octets (Err Bad) new headers last a ample b lt = absurd (a.0 headers last b)
answered_too_long table octets (Err NoMemory) new headers last a ample b lt = absurd (ample refl)

pub answered_bad : (table : Table) (octets : List ℕ) (result : Result (List Header) BlockFault) (new : State)
    → Answers (Ok table) octets result new → (result ≡ Err NoMemory → ⊥) → IsBad table octets → (result ≡ Err Bad) × (new ≡ Err ended.Bad)
answered_bad table octets (Ok read) new a ample bad = absurd (bad read a.last a.block)
answered_bad table octets (Err TooLong) new a ample bad = absurd (bad a.headers a.last a.block)
answered_bad table octets (Err Bad) new a ample bad = (refl, a.1)
answered_bad table octets (Err NoMemory) new a ample bad = absurd (ample refl)
