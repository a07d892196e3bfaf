-- Which octets are the text of a path. A path has one spelling: `/` and a name for each element, and behind it
-- `[KEY=TEXT]` for each of its keys, with `\` and two hexadecimal digits for an octet that doesn't stand for itself.
-- The form is this project's own, close to the path strings of the gNMI path conventions (2.2.2).
use Rattle.std.specs.Prelude.{◌≡◌, ◌≢◌, ℕ, List, [], IsTrue, IsUtf8}
use Rattle.std.specs.List.{AllByRecursion}
use Rattle.std.specs.declared.cmp.Ordering.{Ordering}
use Rattle.base_kinds.specs.declared.path.Elem.{Elem}
use Rattle.base_lists.specs.Rising.{rises}
use Rattle.base_kinds.specs.Paths.{text_cmp}
use Rattle.base_kinds.specs.Texts.{is_key_octet, escaped, path_text}

-- keys in the order of their names
abbrev pub name_cmp : List ℕ × List ℕ → List ℕ × List ℕ → Ordering
name_cmp a b = text_cmp a.0 b.0

-- name and value are in UTF-8; either may be empty
abbrev pub IsKey : List ℕ × List ℕ → Type 0
IsKey key = IsUtf8 key.0 × IsUtf8 key.1

-- an element with a name, and with keys that rise by name, so that no two have one name
pub record IsElem (elem : Elem) : Type 0 where
  pub some_name : elem.name ≢ []
  pub name : IsUtf8 elem.name
  pub keys : AllByRecursion IsKey elem.keys
  pub rising : IsTrue (rises name_cmp elem.keys)

abbrev pub AreElems : List Elem → Type 0
AreElems path = AllByRecursion IsElem path

-- The octets are the path's text. A path may have any number of elements, and `*` and `...` are names as others.
pub record IsPathText (text : List ℕ) (path : List Elem) : Type 0 where
  pub elems : AreElems path
  pub spelled : text ≡ path_text path

-- The octets are the spelling of a text as it stands for the value of a key; the text may be empty.
pub record IsValueText (text value : List ℕ) : Type 0 where
  pub utf8 : IsUtf8 value
  pub spelled : text ≡ escaped is_key_octet value
