-- Texts of paths, worked out by hand from the rule.
use Rattle.std.specs.Prelude.{◌≡◌, ℕ, List, [], ◌∷◌, true, false, codes, refl}
use Rattle.base_kinds.specs.declared.path.Elem.{Elem}
use Rattle.base_kinds.specs.worked.Samples.{plain}
use Rattle.base_lists.specs.Rising.{rises}
use Rattle.base_kinds.specs.Texts.{path_text}
use Rattle.path_core.specs.PathText.{name_cmp}

root : path_text [] ≡ codes "/"
root = refl

names : path_text (plain (codes "a") ∷ plain (codes "...") ∷ plain (codes "*") ∷ []) ≡
    codes "/a/.../*"
names = refl

abbrev keyed : List ℕ → List ℕ → Elem
keyed name value = record { name = codes "l"; keys = (name, value) ∷ [] }

keys : path_text (record {
  name =
      codes "l";
  keys = (codes "j", codes "1") ∷ (codes "k", []) ∷ [];
} ∷ plain (codes "m")
    ∷ []) ≡ codes "/l[j=1][k=]/m"
keys = refl

-- `/` is escaped in names alone, `\` and `]` also in values
slashes : path_text (plain (codes "a/b") ∷ keyed (codes "/") (codes "/") ∷ []) ≡
    codes "/a\\2fb/l[\\2f=/]"
slashes = refl

brackets : path_text (keyed (codes "k") (codes "[\\]") ∷ []) ≡ codes "/l[k=[\\5c\\5d]"
brackets = refl

-- U+20AC, in three octets
euro : path_text (plain (226 ∷ 130 ∷ 172 ∷ []) ∷ []) ≡ codes "/\\e2\\82\\ac"
euro = refl

-- keys in the order of the octets of their names, none twice
rising : rises name_cmp ((codes "B", codes "2") ∷ (codes "a", codes "1")
    ∷ (codes "aa", codes "0") ∷ []) ≡
    true
rising = refl

falling : rises name_cmp ((codes "b", codes "1") ∷ (codes "a", codes "2") ∷ []) ≡ false
falling = refl

twice : rises name_cmp ((codes "a", codes "1") ∷ (codes "a", codes "2") ∷ []) ≡ false
twice = refl
