-- An ordered set of keys beside the list of those that came before.
use Rattle.std.specs.Prelude.{◌≡◌, List}
use Rattle.std.specs.List.{list_any}
use Rattle.std.specs.Cmp.Lexicographic.{slice_cmp}
use Rattle.std.specs.BTreeSet.{BTreeSet, contains}
use Rattle.base_kinds.specs.Paths.{key_cmp}
use Rattle.json_rows.specs.Entries.{KeyList, same_keys}

-- the set has just the keys of the list
abbrev pub IsIndexed : BTreeSet KeyList → List KeyList → Type 0
IsIndexed index seen =
    (keys : KeyList) → contains (slice_cmp key_cmp) index keys ≡ list_any (same_keys keys) seen
