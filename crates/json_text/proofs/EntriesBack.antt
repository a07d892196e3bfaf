-- The entries of a list are read as their rows, where each is and no two have equal keys.
use Rattle.std.proofs.Common.{◌≡◌, ℕ, ◌||◌, List, [], ◌∷◌, ◌++◌, map, Bool, false, cond, Result, Ok, Err, refl, sym, ap, ◌∙◌, append_assoc, append-nil}
use Rattle.std.specs.List.{list_any, AllByRecursion}
use Rattle.std.specs.List.Sorted.{IsPermutation}
use Rattle.std.proofs.lemmas.List.Sorted.{IsPermutation-refl, IsPermutation-append}
use Rattle.std.proofs.lemmas.List.Folds.{list_any-append}
use Rattle.serde_json.specs.Data.{Data, object, Members}
use Rattle.serde_json.specs.View.{items_of}
use Rattle.base_kinds.specs.declared.path.Elem.{Elem}
use Rattle.base_kinds.specs.declared.operation.Row.{Row}
use Rattle.base_kinds.specs.Schema.{SchemaNode, names_of}
use Rattle.json_rows.specs.declared.fault.RowsFault.{RowsFault}
use Rattle.json_rows.specs.declared.fault.RowsFault.TheVariants.{BadValue}
use Rattle.base_lists.specs.Results.{and_then}
use Rattle.json_rows.specs.Entries.{KeyList, keys_of_entry, same_keys, keys_unless_seen}
use Rattle.json_rows.specs.Walk.{RowsOrFault, below, rows_of_members, rows_of_entries, rows_of_object}
use Rattle.json_text.proofs.RunsBack.{whole}

none_or : (a b : Bool) → a ≡ false → b ≡ false → (a || b) ≡ false
none_or a b e f = ap (λ t. t || b) e ∙ f

module _ (schema : List SchemaNode) (node : SchemaNode) (here : List Elem) (name : List ℕ) (inside : List Row → Members) (keys_in : List Row → KeyList) where
  pub record EntryBack (entry : List Row) : Type 0 where
    pub keys : KeyList
    pub rows : List Row
    pub same : IsPermutation entry rows
    pub keyed : keys_of_entry schema (names_of here ++ name ∷ []) (object (inside entry)) [] node.keys ≡ Ok keys
    pub told : (before : List Row) → rows_of_members schema (below here name keys) [] before (inside entry) ≡ Ok (before ++ rows)
    pub labelled : keys ≡ keys_in entry

  abbrev pub AllOther : KeyList → (gs : List (List Row)) → AllByRecursion EntryBack gs → Type 0
  AllOther keys [] all = Unit {0}
  AllOther keys (g ∷ gs) all = (same_keys all.0.keys keys ≡ false) × AllOther keys gs all.1

  abbrev pub DistinctKeys : (gs : List (List Row)) → AllByRecursion EntryBack gs → Type 0
  DistinctKeys [] all = Unit {0}
  DistinctKeys (g ∷ gs) all = AllOther all.0.keys gs all.1 × DistinctKeys gs all.1

  -- no two entries have equal keys
  abbrev pub KeysDiffer : List (List Row) → Type 0
  KeysDiffer [] = Unit {0}
  KeysDiffer (g ∷ gs) = AllByRecursion (λ h. same_keys (keys_in h) (keys_in g) ≡ false) gs × KeysDiffer gs

  all_other : (keys : KeyList) (g : List Row) (gs : List (List Row)) (all : AllByRecursion EntryBack gs) → keys ≡ keys_in g → AllByRecursion (λ h. same_keys (keys_in h) (keys_in g) ≡ false) gs → AllOther keys gs all
  all_other keys g [] all is differ = tt
  all_other keys g (h ∷ gs) all is differ = (ap (λ (ks : KeyList). same_keys ks keys) all.0.labelled ∙ ap (same_keys (keys_in h)) is ∙ differ.0, all_other keys g gs all.1 is differ.1)

  distinct_keys : (gs : List (List Row)) (all : AllByRecursion EntryBack gs) → KeysDiffer gs → DistinctKeys gs all
  distinct_keys [] all differ = tt
  distinct_keys (g ∷ gs) all differ = (all_other all.0.keys g gs all.1 all.0.labelled differ.0, distinct_keys gs all.1 differ.1)

  abbrev Unseen : List KeyList → (gs : List (List Row)) → AllByRecursion EntryBack gs → Type 0
  Unseen seen [] all = Unit {0}
  Unseen seen (g ∷ gs) all = (list_any (same_keys all.0.keys) seen ≡ false) × Unseen seen gs all.1

  unseen_more : (seen : List KeyList) (keys : KeyList) (gs : List (List Row)) (all : AllByRecursion EntryBack gs) → Unseen seen gs all → AllOther keys gs all → Unseen (seen ++ keys ∷ []) gs all
  unseen_more seen keys [] all fresh other = tt
  unseen_more seen keys (g ∷ gs) all fresh other =
      (list_any-append (same_keys all.0.keys) seen (keys ∷ []) ∙ none_or _ _ fresh.0 (none_or _ _ other.0 refl), unseen_more seen keys gs all.1 fresh.1 other.1)

  all_unseen : (gs : List (List Row)) (all : AllByRecursion EntryBack gs) → Unseen [] gs all
  all_unseen [] all = tt
  all_unseen (g ∷ gs) all = (refl, all_unseen gs all.1)

  abbrev items : List (List Row) → Rattle.serde_json.specs.Data.Items
  items gs = items_of (map (λ (g : List Row). object (inside g)) gs)

  pub record EntriesTold (seen : List KeyList) (gs : List (List Row)) : Type 0 where
    pub rows : List Row
    pub same : IsPermutation (whole gs) rows
    pub told : (before : List Row) → rows_of_entries schema node here name seen before (items gs) ≡ Ok (before ++ rows)

  entries_from : (gs : List (List Row)) (all : AllByRecursion EntryBack gs) → DistinctKeys gs all → (seen : List KeyList) → Unseen seen gs all → EntriesTold seen gs
  entries_from [] all own seen fresh = record { rows = []; same = IsPermutation-refl []; told = λ before. ap Ok (sym (append-nil before)) }
  entries_from (g ∷ gs) all own seen fresh =
      let e = all.0 in
      let rest = entries_from gs all.1 own.1 (seen ++ e.keys ∷ []) (unseen_more seen e.keys gs all.1 fresh.1 own.0) in
      record {
        rows = e.rows ++ rest.rows;
        same = IsPermutation-append _ _ _ _ e.same rest.same;
        told = λ before.
            let after : KeyList → RowsOrFault = λ keys. and_then (rows_of_object schema (below here name keys) before (object (inside g))) (λ (more : List Row). rows_of_entries schema node here name (seen ++ keys ∷ []) more (items gs)) in
            ap (λ (r : Result KeyList RowsFault). and_then (and_then r (keys_unless_seen seen)) after) e.keyed ∙ ap (λ (t : Bool). and_then (cond t (Err BadValue) (Ok e.keys)) after) fresh.0
            ∙ ap (λ answer. and_then answer (λ (more : List Row). rows_of_entries schema node here name (seen ++ e.keys ∷ []) more (items gs))) (e.told before) ∙ rest.told (before ++ e.rows) ∙ ap Ok (append_assoc before e.rows rest.rows);
      }

  -- the entries are read as their rows
  pub entries_back : (gs : List (List Row)) (all : AllByRecursion EntryBack gs) → KeysDiffer gs → EntriesTold [] gs
  entries_back gs all differ = entries_from gs all (distinct_keys gs all differ) [] (all_unseen gs all)
