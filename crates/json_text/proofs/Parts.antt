-- The members of an object, each with the rows that it is read as, in whatever order they are put in.
use Rattle.std.proofs.Common.{◌≡◌, ℕ, ◌||◌, List, [], ◌∷◌, ◌++◌, Bool, true, false, true≢false, cond, ◌⊎◌, inl, inr, Some, Ok, Err, Ordering, Less, Equal, Greater, is_eq, bytes_eq, refl, sym, ap, subst, ◌∙◌, append_assoc, append-nil}
use Rattle.std.specs.Prelude.{fold}
use Rattle.std.specs.List.{list_any, AllByRecursion}
use Rattle.std.specs.List.Sorted.{IsPermutation}
use Rattle.std.specs.Ordering.{match_ordering, nat_cmp}
use Rattle.std.specs.Cmp.Lexicographic.{slice_cmp}
use Rattle.std.proofs.lemmas.List.Sorted.{IsPermutation-refl, IsPermutation-trans, IsPermutation-append_comm, IsPermutation-append, IsPermutation-append_right}
use Rattle.std.proofs.lemmas.List.Folds.{list_any-append}
use Rattle.std.proofs.lemmas.Map.Text.{is_eq-slice_cmp}
use Rattle.std.proofs.lemmas.Slice.Eq.{bytes_eq-Decides}
use Rattle.serde_json.specs.Data.{Data, Members, no_members, member, put}
use Rattle.base_kinds.specs.declared.path.Elem.{Elem}
use Rattle.base_kinds.specs.declared.operation.Row.{Row}
use Rattle.base_kinds.specs.Schema.{SchemaNode, names_of}
use Rattle.json_rows.specs.declared.fault.RowsFault.TheVariants.{BadValue}
use Rattle.base_lists.specs.Results.{and_then}
use Rattle.json_rows.specs.Members.{child_named, name_in, fresh_child, if_fresh}
use Rattle.json_rows.specs.Walk.{rows_at_node, rows_of_members}
use Rattle.json_text.proofs.RunsBack.{whole}
use Rattle.json_text.proofs.Picks.{In, in_append}

pub record Part : Type 0 where
  pub key : List ℕ
  pub json : Data
  pub name : List ℕ
  pub rows : List Row

abbrev pub as_members : List Part → Members
as_members [] = no_members
as_members (p ∷ ps) = member p.key p.json (as_members ps)

abbrev pub rows_in : List Part → List Row
rows_in [] = []
rows_in (p ∷ ps) = p.rows ++ rows_in ps

abbrev pub AllElse : List ℕ → List Part → Type 0
AllElse name ps = AllByRecursion (λ (q : Part). bytes_eq q.name name ≡ false) ps

-- no two have one name
abbrev pub Distinct : List Part → Type 0
Distinct [] = Unit {0}
Distinct (p ∷ ps) = AllElse p.name ps × Distinct ps

-- ---- names that differ

pub unlike : (a b : List ℕ) → (a ≡ b → ⊥) → bytes_eq a b ≡ false
unlike a b apart = at (bytes_eq a b) refl
  where
    at : (is : Bool) → bytes_eq a b ≡ is → bytes_eq a b ≡ false
    at false e = e
    at true e = absurd (apart ((bytes_eq-Decides a b).0 e))

pub apart : (a b : List ℕ) → bytes_eq a b ≡ false → a ≡ b → ⊥
apart a b differ same = true≢false (sym ((bytes_eq-Decides a b).1 same) ∙ differ)

pub name_turned : (a b : List ℕ) → bytes_eq a b ≡ false → bytes_eq b a ≡ false
name_turned a b differ = unlike b a (λ e. apart a b differ (sym e))

pub equal_texts : (a b : List ℕ) → slice_cmp nat_cmp a b ≡ Equal → a ≡ b
equal_texts a b is = (bytes_eq-Decides a b).0 (sym (is_eq-slice_cmp a b) ∙ ap is_eq is)

abbrev AllUnseen : List (List ℕ) → List Part → Type 0
AllUnseen seen ps = AllByRecursion (λ (q : Part). list_any (bytes_eq q.name) seen ≡ false) ps

none_or : (a b : Bool) → a ≡ false → b ≡ false → (a || b) ≡ false
none_or a b e f = ap (λ t. t || b) e ∙ f

unseen_more : (seen : List (List ℕ)) (name : List ℕ) (ps : List Part) → AllUnseen seen ps → AllElse name ps → AllUnseen (seen ++ name ∷ []) ps
unseen_more seen name [] fresh else = tt
unseen_more seen name (p ∷ ps) fresh else =
    (list_any-append (bytes_eq p.name) seen (name ∷ []) ∙ none_or _ _ fresh.0 (none_or _ _ else.0 refl), unseen_more seen name ps fresh.1 else.1)

all_unseen : (ps : List Part) → AllUnseen [] ps
all_unseen [] = tt
all_unseen (p ∷ ps) = (refl, all_unseen ps)

-- ---- members that are put in one after another

abbrev at_order : Ordering → Part → Part → List Part → List Part → List Part
at_order Less p q qs later = p ∷ q ∷ qs
at_order Equal p q qs later = p ∷ q ∷ qs
at_order Greater p q qs later = q ∷ later

abbrev pub placed : Part → List Part → List Part
placed p [] = p ∷ []
placed p (q ∷ qs) = at_order (slice_cmp nat_cmp p.key q.key) p q qs (placed p qs)

all_at : (P : Part → Type 0) (o : Ordering) (p q : Part) (qs later : List Part) → P p → P q → AllByRecursion P qs → AllByRecursion P later → AllByRecursion P (at_order o p q qs later)
all_at P Less p q qs later a b c d = (a, (b, c))
all_at P Equal p q qs later a b c d = (a, (b, c))
all_at P Greater p q qs later a b c d = (b, d)

pub all_placed : (P : Part → Type 0) (p : Part) (qs : List Part) → P p → AllByRecursion P qs → AllByRecursion P (placed p qs)
all_placed P p [] a all = (a, tt)
all_placed P p (q ∷ qs) a all = all_at P (slice_cmp nat_cmp p.key q.key) p q qs (placed p qs) a all.0 all.1 (all_placed P p qs a all.1)

distinct_at : (o : Ordering) (p q : Part) (qs later : List Part) → AllElse p.name (q ∷ qs) → Distinct (q ∷ qs) → AllElse q.name later → Distinct later → Distinct (at_order o p q qs later)
distinct_at Less p q qs later else own after rest = (else, own)
distinct_at Equal p q qs later else own after rest = (else, own)
distinct_at Greater p q qs later else own after rest = (after, rest)

pub distinct_placed : (p : Part) (qs : List Part) → AllElse p.name qs → Distinct qs → Distinct (placed p qs)
distinct_placed p [] else own = (tt, tt)
distinct_placed p (q ∷ qs) else own =
    distinct_at (slice_cmp nat_cmp p.key q.key) p q qs (placed p qs) else own (all_placed (λ (x : Part). bytes_eq x.name q.name ≡ false) p qs (name_turned q.name p.name else.0) own.0) (distinct_placed p qs else.1 own.1)

abbrev NewKey : List ℕ → List Part → Type 0
NewKey key qs = AllByRecursion (λ (q : Part). key ≡ q.key → ⊥) qs

members_at_order : (o : Ordering) (p q : Part) (qs later : List Part) → slice_cmp nat_cmp p.key q.key ≡ o → (p.key ≡ q.key → ⊥) → put p.key p.json (as_members qs) ≡ as_members later
    → match_ordering o (member p.key p.json (as_members (q ∷ qs))) (member q.key p.json (as_members qs)) (member q.key q.json (put p.key p.json (as_members qs))) ≡ as_members (at_order o p q qs later)
members_at_order Less p q qs later is new rest = refl
members_at_order Equal p q qs later is new rest = absurd (new (equal_texts p.key q.key is))
members_at_order Greater p q qs later is new rest = ap (member q.key q.json) rest

pub members_placed : (p : Part) (qs : List Part) → NewKey p.key qs → put p.key p.json (as_members qs) ≡ as_members (placed p qs)
members_placed p [] new = refl
members_placed p (q ∷ qs) new = members_at_order (slice_cmp nat_cmp p.key q.key) p q qs (placed p qs) refl new.0 (members_placed p qs new.1)

rows_at_order : (o : Ordering) (p q : Part) (qs later : List Part) → IsPermutation (rows_in qs ++ p.rows) (rows_in later) → IsPermutation ((q.rows ++ rows_in qs) ++ p.rows) (rows_in (at_order o p q qs later))
rows_at_order Less p q qs later rest = IsPermutation-append_comm (q.rows ++ rows_in qs) p.rows
rows_at_order Equal p q qs later rest = IsPermutation-append_comm (q.rows ++ rows_in qs) p.rows
rows_at_order Greater p q qs later rest =
    subst (λ xs. IsPermutation xs (q.rows ++ rows_in later)) (sym (append_assoc q.rows (rows_in qs) p.rows)) (IsPermutation-append_right q.rows _ _ rest)

pub rows_placed : (p : Part) (qs : List Part) → IsPermutation (rows_in qs ++ p.rows) (rows_in (placed p qs))
rows_placed p [] = subst (λ xs. IsPermutation p.rows xs) (sym (append-nil p.rows)) (IsPermutation-refl p.rows)
rows_placed p (q ∷ qs) = rows_at_order (slice_cmp nat_cmp p.key q.key) p q qs (placed p qs) (rows_placed p qs)

-- ---- some part

abbrev pub AnyPart : (Part → Type 0) → List Part → Type 0
AnyPart P [] = ⊥
AnyPart P (p ∷ ps) = P p ⊎ AnyPart P ps

any_first : (P : Part → Type 0) (o : Ordering) (p q : Part) (qs later : List Part) → P p → AnyPart P later → AnyPart P (at_order o p q qs later)
any_first P Less p q qs later a rest = inl a
any_first P Equal p q qs later a rest = inl a
any_first P Greater p q qs later a rest = inr rest

pub any_placed : (P : Part → Type 0) (p : Part) (qs : List Part) → P p → AnyPart P (placed p qs)
any_placed P p [] a = inl a
any_placed P p (q ∷ qs) a = any_first P (slice_cmp nat_cmp p.key q.key) p q qs (placed p qs) a (any_placed P p qs a)

any_later : (P : Part → Type 0) (o : Ordering) (p q : Part) (qs later : List Part) → AnyPart P (q ∷ qs) → (AnyPart P qs → AnyPart P later) → AnyPart P (at_order o p q qs later)
any_later P Less p q qs later any keep = inr any
any_later P Equal p q qs later any keep = inr any
any_later P Greater p q qs later any keep = elim any [ inl w ↦ inl w | inr w ↦ inr (keep w) ]

pub any_kept : (P : Part → Type 0) (p : Part) (qs : List Part) → AnyPart P qs → AnyPart P (placed p qs)
any_kept P p [] any = absurd any
any_kept P p (q ∷ qs) any = any_later P (slice_cmp nat_cmp p.key q.key) p q qs (placed p qs) any (any_kept P p qs)

-- ---- reading

module _ (schema : List SchemaNode) (here : List Elem) where
  -- the member is read as these rows, of the child with this name
  pub record Reads (p : Part) : Type 0 where
    pub child : SchemaNode
    pub named : child_named schema (names_of here) p.key ≡ Some child
    pub spelled : name_in p.key ≡ p.name
    pub told : (before : List Row) → rows_at_node child.sort schema child here p.name before p.json ≡ Ok (before ++ p.rows)

  abbrev pub AllRead : List Part → Type 0
  AllRead ps = AllByRecursion Reads ps

  walk_from : (ps : List Part) (seen : List (List ℕ)) (before : List Row) → AllRead ps → AllUnseen seen ps → Distinct ps → rows_of_members schema here seen before (as_members ps) ≡ Ok (before ++ rows_in ps)
  walk_from [] seen before reads fresh own = ap Ok (sym (append-nil before))
  walk_from (p ∷ ps) seen before reads fresh own =
      let c = reads.0.child in
      let rest = as_members ps in
      let child_is : fresh_child schema (names_of here) seen p.key ≡ Ok c =
      ap (if_fresh seen (name_in p.key)) reads.0.named ∙ ap (λ n. cond (list_any (bytes_eq n) seen) (Err BadValue) (Ok c)) reads.0.spelled ∙ ap (λ t. cond t (Err BadValue) (Ok c)) fresh.0 in
      ap (λ answer. and_then answer (λ (child : SchemaNode). and_then (rows_at_node child.sort schema child here (name_in p.key) before p.json) (λ more. rows_of_members schema here (seen ++ name_in p.key ∷ []) more rest))) child_is
      ∙ ap (λ n. and_then (rows_at_node c.sort schema c here n before p.json) (λ more. rows_of_members schema here (seen ++ n ∷ []) more rest)) reads.0.spelled
      ∙ ap (λ answer. and_then answer (λ more. rows_of_members schema here (seen ++ p.name ∷ []) more rest)) (reads.0.told before)
      ∙ walk_from ps (seen ++ p.name ∷ []) (before ++ p.rows) reads.1 (unseen_more seen p.name ps fresh.1 own.0) own.1
      ∙ ap Ok (append_assoc before p.rows (rows_in ps))

  -- the members are read as their rows
  pub walk : (ps : List Part) (before : List Row) → AllRead ps → Distinct ps → rows_of_members schema here [] before (as_members ps) ≡ Ok (before ++ rows_in ps)
  walk ps before reads own = walk_from ps [] before reads (all_unseen ps) own

  new_key : (p : Part) (qs : List Part) → Reads p → AllRead qs → AllElse p.name qs → NewKey p.key qs
  new_key p [] r reads else = tt
  new_key p (q ∷ qs) r reads else =
      (λ same. apart q.name p.name else.0 (sym reads.0.spelled ∙ ap name_in (sym same) ∙ r.spelled), new_key p qs r reads.1 else.1)

  module _ (Extra : Row → Part → Type 0) where
    -- the members are read as these rows, in some order
    pub record ObjectBack (ms : Members) (rows : List Row) : Type 0 where
      pub parts : List Part
      pub is : ms ≡ as_members parts
      pub reads : AllRead parts
      pub own : Distinct parts
      pub same : IsPermutation rows (rows_in parts)
      pub found : (r : Row) → In r rows → AnyPart (Extra r) parts

    -- ---- runs of rows, each put in as one member

    module _ (step : Members → List Row → Members) (label : List Row → List ℕ) where
      pub record RunBack (run : List Row) : Type 0 where
        pub part : Part
        pub is : (ms : Members) → step ms run ≡ put part.key part.json ms
        pub reads : Reads part
        pub same : IsPermutation run part.rows
        pub labelled : part.name ≡ label run
        pub extra : (r : Row) → In r run → Extra r part

      -- no two runs have one label
      abbrev pub Differ : List (List Row) → Type 0
      Differ [] = Unit {0}
      Differ (run ∷ runs) = AllByRecursion (λ other. bytes_eq (label other) (label run) ≡ false) runs × Differ runs

      abbrev pub parts_of : (runs : List (List Row)) → AllByRecursion RunBack runs → List Part
      parts_of [] all = []
      parts_of (run ∷ runs) all = all.0.part ∷ parts_of runs all.1

      else_of : (name : List ℕ) (run : List Row) (runs : List (List Row)) (all : AllByRecursion RunBack runs) → name ≡ label run → AllByRecursion (λ other. bytes_eq (label other) (label run) ≡ false) runs → AllElse name (parts_of runs all)
      else_of name run [] all is differ = tt
      else_of name run (other ∷ runs) all is differ = (ap (λ (n : List ℕ). bytes_eq n name) all.0.labelled ∙ ap (bytes_eq (label other)) is ∙ differ.0, else_of name run runs all.1 is differ.1)

      distinct_parts : (runs : List (List Row)) (all : AllByRecursion RunBack runs) → Differ runs → Distinct (parts_of runs all)
      distinct_parts [] all differ = tt
      distinct_parts (run ∷ runs) all differ = (else_of all.0.part.name run runs all.1 all.0.labelled differ.0, distinct_parts runs all.1 differ.1)

      abbrev AllNew : List Part → List Part → Type 0
      AllNew done ps = AllByRecursion (λ (p : Part). AllElse p.name done) ps

      new_more : (done : List Part) (p : Part) (ps : List Part) → AllNew done ps → AllElse p.name ps → AllNew (placed p done) ps
      new_more done p [] new else = tt
      new_more done p (q ∷ ps) new else =
          (all_placed (λ (x : Part). bytes_eq x.name q.name ≡ false) p done (name_turned q.name p.name else.0) new.0, new_more done p ps new.1 else.1)

      gathered : (runs : List (List Row)) (all : AllByRecursion RunBack runs) → Distinct (parts_of runs all) → (done : List Part) (old : List Row) → IsPermutation old (rows_in done) → ((r : Row) → In r old → AnyPart (Extra r) done)
          → AllRead done → Distinct done → AllNew done (parts_of runs all) → ObjectBack (fold step (as_members done) runs) (old ++ whole runs)
      gathered [] all own done old same found reads distinct new =
          record {
            parts = done;
            is = refl;
            reads = reads;
            own = distinct;
            same = subst (λ xs. IsPermutation xs (rows_in done)) (sym (append-nil old)) same;
            found = λ r there. found r (subst (In r) (append-nil old) there);
          }
      gathered (run ∷ runs) all own done old same found reads distinct new =
          let p = all.0.part in
          let one : IsPermutation (old ++ run) (rows_in (placed p done)) =
          IsPermutation-trans _ _ _ (IsPermutation-append _ _ _ _ same all.0.same) (rows_placed p done) in
          let found_one : (r : Row) → In r (old ++ run) → AnyPart (Extra r) (placed p done) =
          λ r there. elim (in_append r old run there) [ inl w ↦ any_kept (Extra r) p done (found r w) | inr w ↦ any_placed (Extra r) p done (all.0.extra r w) ] in
          let rest = gathered runs all.1 own.1 (placed p done) (old ++ run) one found_one (all_placed Reads p done all.0.reads reads) (distinct_placed p done new.0 distinct) (new_more done p (parts_of runs all.1) new.1 own.0) in
          let put_is : step (as_members done) run ≡ as_members (placed p done) = all.0.is (as_members done) ∙ members_placed p done (new_key p done all.0.reads reads new.0) in
          record {
            parts = rest.parts;
            is = ap (λ ms. fold step ms runs) put_is ∙ rest.is;
            reads = rest.reads;
            own = rest.own;
            same = subst (λ xs. IsPermutation xs (rows_in rest.parts)) (append_assoc old run (whole runs)) rest.same;
            found = λ r there. rest.found r (subst (In r) (sym (append_assoc old run (whole runs))) there);
          }

      none_new : (ps : List Part) → AllNew [] ps
      none_new [] = tt
      none_new (p ∷ ps) = (tt, none_new ps)

      -- the object of all runs
      pub all_gathered : (runs : List (List Row)) (all : AllByRecursion RunBack runs) → Differ runs → ObjectBack (fold step no_members runs) (whole runs)
      all_gathered runs all differ = gathered runs all (distinct_parts runs all differ) [] [] (IsPermutation-refl []) (λ r there. absurd there) tt tt (none_new (parts_of runs all))
