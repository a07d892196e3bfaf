-- The whole of a text as the spelling of one value of a key.
use Rattle.std.proofs.Common.{◌≡◌, List, ℕ, [], ◌++◌, ap, sym, ◌∙◌}
use Rattle.std.proofs.lemmas.List.{append-nil}
use Rattle.base_kinds.specs.Texts.{is_key_octet, escaped}
use Rattle.path_core.specs.declared.escapes.Part.TheVariants.{Value}
use Rattle.path_core.specs.PathText.{IsValueText}
use Rattle.path_core.specs.inner.Reading.{IsTextAt}
use Rattle.path_core.proofs.Spellings.{small_text, no_octet_in_nothing, same_text_at}

pub value_at : (text value : List ℕ) → IsValueText text value → IsTextAt Value text value []
value_at text value is = record {
  octets_at = record { spelled = is.spelled ∙ sym (append-nil (escaped is_key_octet value)); small = small_text value is.utf8; ended = no_octet_in_nothing Value };
  utf8 = is.utf8;
}

pub one_value : (text value other : List ℕ) → IsValueText text value → IsValueText text other → value ≡ other
one_value text value other is is' = (same_text_at Value text value other [] [] (value_at text value is) (value_at text other is')).0

pub value_whole : (text value rest : List ℕ) → IsTextAt Value text value rest → rest ≡ [] → IsValueText text value
value_whole text value rest at none = record {
  utf8 = at.utf8;
  spelled = at.octets_at.spelled ∙ ap (λ r. escaped is_key_octet value ++ r) none ∙ append-nil (escaped is_key_octet value);
}

-- what follows the spelling of a value is none
pub value_ends : (text value rest other : List ℕ) → IsTextAt Value text value rest → IsValueText text other → rest ≡ []
value_ends text value rest other at is = (same_text_at Value text value other rest [] at (value_at text other is)).1
