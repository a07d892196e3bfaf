-- What reading has kept so far.
use Rattle.std.proofs.Common.{◌≡◌, ℕ, ◌++◌, ◌<◌, ◌≤◌, List, length, IsTrue}
use Rattle.std.specs.List.{AllByRecursion, flat_map}
use Rattle.base_kinds.specs.declared.path.Elem.{Elem}
use Rattle.base_lists.specs.Rising.{rises}
use Rattle.base_kinds.specs.Texts.{escaped, key_part, elem_text}
use Rattle.path_core.specs.declared.escapes.Part.{Part}
use Rattle.path_core.specs.PathText.{name_cmp, IsKey, AreElems}
use Rattle.path_core.specs.inner.Reading.{test_of, BeginsOrEnds}

pub record OctetsRead (part : Part) (text octets rest : List ℕ) : Type 0 where
  pub spelled : text ≡ escaped (test_of part) octets ++ rest
  pub small : AllByRecursion (λ octet. octet < 256) octets
  pub shorter : length rest ≤ length text

pub record KeysRead (text : List ℕ) (keys : List (List ℕ × List ℕ)) (rest : List ℕ) : Type 0 where
  pub spelled : text ≡ flat_map key_part keys ++ rest
  pub each : AllByRecursion IsKey keys
  pub rising : IsTrue (rises name_cmp keys)
  pub shorter : length rest ≤ length text

pub record ElemsRead (text : List ℕ) (path : List Elem) (rest : List ℕ) : Type 0 where
  pub spelled : text ≡ flat_map elem_text path ++ rest
  pub elems : AreElems path
  pub ended : BeginsOrEnds 47 rest
