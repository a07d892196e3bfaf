-- What one word of a line says: one thing at most, and it has no space in it.
use Rattle.std.proofs.Common.{◌≡◌, ℕ, ◌-◌, ◌<◌, ◌≤◌, ◌^◌, ◌⊎◌, List, Bool, true, false, cond, eqb, codes, take, refl, sym, ap, ◌∙◌, arith, ⊎_elim, ℤ, pos, min}
use Rattle.std.specs.List.{list_all}
use Rattle.std.specs.Str.{bytes_eq}
use Rattle.std.specs.Fmt.{decimal}
use Rattle.std.proofs.lemmas.Fmt.{decimal_injective}
use Rattle.std.proofs.lemmas.Bool.{true≢false}
use Rattle.std.specs.Char.{is_ascii_digit}
use Rattle.base_kinds.specs.declared.fill.Fill.{Fill}
use Rattle.base_kinds.specs.declared.fill.Fill.TheVariants.{Old, New, Octet}
use Rattle.base_kinds.specs.declared.request.ListMode.{ListMode}
use Rattle.base_kinds.specs.declared.request.ListMode.TheVariants as modes
use Rattle.base_kinds.specs.declared.request.Span.TheVariants.{Absent, Of}
use Rattle.base_kinds.specs.declared.request.SubMode.{SubMode}
use Rattle.base_kinds.specs.declared.request.SubMode.TheVariants as sub_modes
use Rattle.script_text.specs.declared.keywords.Keyword.{Keyword}
use Rattle.script_text.specs.declared.keywords.Keyword.TheVariants as keywords
use Rattle.script_text.specs.Words.{IsKeyword, IsNumber, IsAuthor, IsName, IsSeconds, IsSpan, IsSubMode, IsListMode, IsFlag, IsFill, IsRest}
use Rattle.plain_texts.specs.Splits.{lacks}
use Rattle.script_text.specs.inner.FirstWords.{SaysOne, IsWordKind}
use Rattle.plain_texts.proofs.Decimals.{all_digits}
use Rattle.plain_texts.proofs.NameTexts.{lacks_by, name_lacks}

-- what a text decides, it decides the same of both
by_decoding : {A : Type 0} (Word : List ℕ → A → Type 0) (decoded : List ℕ → A) → ((text : List ℕ) (a : A) → Word text a → decoded text ≡ a) → SaysOne Word
by_decoding Word decoded each text a b is is' = sym (each text a is) ∙ each text b is'

-- a test that all of one text pass, and not all of another
told_apart : (p : ℕ → Bool) (text other : List ℕ) → list_all p text ≡ true → list_all p other ≡ false → text ≡ other → ⊥
told_apart p text other all some same = true≢false (sym all ∙ ap (list_all p) same ∙ some)

pub no_digits : (text : List ℕ) → list_all is_ascii_digit text ≡ false → (number : ℕ) → IsNumber text number → ⊥
no_digits text some number is = told_apart is_ascii_digit (decimal number) text (all_digits number is.0) some (sym is.1)

pub one_number : SaysOne IsNumber
one_number text a b is is' = decimal_injective a b is.0 is'.0 (sym is.1 ∙ is'.1)

pub number_kind : IsWordKind IsNumber
number_kind = record { one = one_number; spaceless = λ text a is. ap (lacks 32) is.1 ∙ lacks_by is_ascii_digit 32 refl (decimal a) (all_digits a is.0) }

pub author_number : (text : List ℕ) (author : ℕ) → IsAuthor text author → IsNumber text author
author_number text author is = (omega (arith, is.1), is.2)

pub author_kind : IsWordKind IsAuthor
author_kind = record {
  one = λ text a b is is'. one_number text a b (author_number text a is) (author_number text b is');
  spaceless = λ text a is. number_kind.spaceless text a (author_number text a is);
}

pub name_kind : IsWordKind IsName
name_kind = record { one = λ text a b is is'. sym is.1 ∙ is'.1; spaceless = λ text a is. ap (lacks 32) is.1 ∙ name_lacks 32 refl a is.0 }

pub octet_number : (text : List ℕ) (octet : ℕ) → IsFill text (Octet octet) → IsNumber text octet
octet_number text octet is = (omega (arith, is.0), is.1)

no_octet : (text : List ℕ) (octet : ℕ) (word : List ℕ) → list_all is_ascii_digit word ≡ false → text ≡ word → IsFill text (Octet octet) → ⊥
no_octet text octet word some same is = no_digits text (ap (list_all is_ascii_digit) same ∙ some) octet (octet_number text octet is)

pub one_fill : SaysOne IsFill
one_fill text Old Old is is' = refl
one_fill text Old New is is' = absurd (told_apart (λ octet. eqb octet 110) (codes "n") (codes "o") refl refl (ap (take 1) (sym is' ∙ is)))
one_fill text Old (Octet octet) is is' = absurd (no_octet text octet (codes "old") refl is is')
one_fill text New Old is is' = absurd (told_apart (λ octet. eqb octet 110) (codes "n") (codes "o") refl refl (ap (take 1) (sym is ∙ is')))
one_fill text New New is is' = refl
one_fill text New (Octet octet) is is' = absurd (no_octet text octet (codes "new") refl is is')
one_fill text (Octet octet) Old is is' = absurd (no_octet text octet (codes "old") refl is' is)
one_fill text (Octet octet) New is is' = absurd (no_octet text octet (codes "new") refl is' is)
one_fill text (Octet a) (Octet b) is is' = ap Octet (one_number text a b (octet_number text a is) (octet_number text b is'))

one_seconds : (text : List ℕ) (a b : ℤ) → IsSeconds text a → IsSeconds text b → a ≡ b
one_seconds text a b is is' =
    let same = one_number text is.number is'.number is.is is'.is in
    is.bounded ∙ ap (λ n. pos (min n (2 ^ 63 - 1))) same ∙ sym is'.bounded

no_seconds : (text : List ℕ) (a : ℤ) → text ≡ codes "-" → IsSeconds text a → ⊥
no_seconds text a absent is = no_digits text (ap (list_all is_ascii_digit) absent) is.number is.is

pub one_span : SaysOne IsSpan
one_span text Absent Absent is is' = refl
one_span text Absent (Of seconds nanos) is is' = absurd (no_seconds text seconds is is'.0)
one_span text (Of seconds nanos) Absent is is' = absurd (no_seconds text seconds is' is.0)
one_span text (Of seconds nanos) (Of seconds' nanos') is is' =
    let whole = one_seconds text seconds seconds' is.0 is'.0 in
    let part : nanos ≡ nanos' = is.1 ∙ sym is'.1 in
    cc

decoded_sub_mode : List ℕ → SubMode
decoded_sub_mode text = cond (bytes_eq text (codes "change")) sub_modes.Change sub_modes.Sample

sub_mode_decoded : (text : List ℕ) (mode : SubMode) → IsSubMode text mode → decoded_sub_mode text ≡ mode
unfolding decoded_sub_mode
sub_mode_decoded text sub_modes.Change is = ap decoded_sub_mode is
sub_mode_decoded text sub_modes.Sample is = ap decoded_sub_mode is
sub_mode_decoded text sub_modes.Other is = absurd is

sub_mode_spaceless : (text : List ℕ) (mode : SubMode) → IsSubMode text mode → lacks 32 text ≡ true
sub_mode_spaceless text sub_modes.Change is = ap (lacks 32) is
sub_mode_spaceless text sub_modes.Sample is = ap (lacks 32) is
sub_mode_spaceless text sub_modes.Other is = absurd is

pub sub_mode_kind : IsWordKind IsSubMode
sub_mode_kind = record { one = by_decoding IsSubMode decoded_sub_mode sub_mode_decoded; spaceless = sub_mode_spaceless }

decoded_list_mode : List ℕ → ListMode
decoded_list_mode text = cond (bytes_eq text (codes "stream")) modes.Stream (cond (bytes_eq text (codes "once")) modes.Once modes.Poll)

list_mode_decoded : (text : List ℕ) (mode : ListMode) → IsListMode text mode → decoded_list_mode text ≡ mode
unfolding decoded_list_mode
list_mode_decoded text modes.Stream is = ap decoded_list_mode is
list_mode_decoded text modes.Once is = ap decoded_list_mode is
list_mode_decoded text modes.Poll is = ap decoded_list_mode is
list_mode_decoded text modes.Other is = absurd is

list_mode_spaceless : (text : List ℕ) (mode : ListMode) → IsListMode text mode → lacks 32 text ≡ true
list_mode_spaceless text modes.Stream is = ap (lacks 32) is
list_mode_spaceless text modes.Once is = ap (lacks 32) is
list_mode_spaceless text modes.Poll is = ap (lacks 32) is
list_mode_spaceless text modes.Other is = absurd is

pub list_mode_kind : IsWordKind IsListMode
list_mode_kind = record { one = by_decoding IsListMode decoded_list_mode list_mode_decoded; spaceless = list_mode_spaceless }

flag_decoded : (text : List ℕ) (flag : Bool) → IsFlag text flag → bytes_eq text (codes "1") ≡ flag
flag_decoded text true is = ap (λ t. bytes_eq t (codes "1")) is
flag_decoded text false is = ap (λ t. bytes_eq t (codes "1")) is

pub one_flag : SaysOne IsFlag
one_flag = by_decoding IsFlag (λ text. bytes_eq text (codes "1")) flag_decoded

decoded_keyword : List ℕ → Keyword
decoded_keyword text =
    cond (bytes_eq text (codes "at")) keywords.At (
    cond (bytes_eq text (codes "delete")) keywords.Delete (
    cond (bytes_eq text (codes "replace")) keywords.Replace (
    cond (bytes_eq text (codes "update")) keywords.Update (
    cond (bytes_eq text (codes "set")) keywords.Set (
    cond (bytes_eq text (codes "trial")) keywords.Trial (
    cond (bytes_eq text (codes "confirm")) keywords.Confirm (
    cond (bytes_eq text (codes "cancel")) keywords.Cancel (
    cond (bytes_eq text (codes "extend")) keywords.Extend (
    cond (bytes_eq text (codes "get")) keywords.Get (
    cond (bytes_eq text (codes "sub")) keywords.Sub (
    cond (bytes_eq text (codes "open")) keywords.Open (
    cond (bytes_eq text (codes "turn")) keywords.Turn (
    cond (bytes_eq text (codes "poll")) keywords.Poll (
    cond (bytes_eq text (codes "end")) keywords.End (
    cond (bytes_eq text (codes "stop")) keywords.Stop (
    keywords.Fail))))))))))))))))

keyword_decoded : (text : List ℕ) (keyword : Keyword) → IsKeyword text keyword → decoded_keyword text ≡ keyword
unfolding decoded_keyword
keyword_decoded text keywords.At is = ap decoded_keyword is
keyword_decoded text keywords.Delete is = ap decoded_keyword is
keyword_decoded text keywords.Replace is = ap decoded_keyword is
keyword_decoded text keywords.Update is = ap decoded_keyword is
keyword_decoded text keywords.Set is = ap decoded_keyword is
keyword_decoded text keywords.Trial is = ap decoded_keyword is
keyword_decoded text keywords.Confirm is = ap decoded_keyword is
keyword_decoded text keywords.Cancel is = ap decoded_keyword is
keyword_decoded text keywords.Extend is = ap decoded_keyword is
keyword_decoded text keywords.Get is = ap decoded_keyword is
keyword_decoded text keywords.Sub is = ap decoded_keyword is
keyword_decoded text keywords.Open is = ap decoded_keyword is
keyword_decoded text keywords.Turn is = ap decoded_keyword is
keyword_decoded text keywords.Poll is = ap decoded_keyword is
keyword_decoded text keywords.End is = ap decoded_keyword is
keyword_decoded text keywords.Stop is = ap decoded_keyword is
keyword_decoded text keywords.Fail is = ap decoded_keyword is

keyword_spaceless : (text : List ℕ) (keyword : Keyword) → IsKeyword text keyword → lacks 32 text ≡ true
keyword_spaceless text keywords.At is = ap (lacks 32) is
keyword_spaceless text keywords.Delete is = ap (lacks 32) is
keyword_spaceless text keywords.Replace is = ap (lacks 32) is
keyword_spaceless text keywords.Update is = ap (lacks 32) is
keyword_spaceless text keywords.Set is = ap (lacks 32) is
keyword_spaceless text keywords.Trial is = ap (lacks 32) is
keyword_spaceless text keywords.Confirm is = ap (lacks 32) is
keyword_spaceless text keywords.Cancel is = ap (lacks 32) is
keyword_spaceless text keywords.Extend is = ap (lacks 32) is
keyword_spaceless text keywords.Get is = ap (lacks 32) is
keyword_spaceless text keywords.Sub is = ap (lacks 32) is
keyword_spaceless text keywords.Open is = ap (lacks 32) is
keyword_spaceless text keywords.Turn is = ap (lacks 32) is
keyword_spaceless text keywords.Poll is = ap (lacks 32) is
keyword_spaceless text keywords.End is = ap (lacks 32) is
keyword_spaceless text keywords.Stop is = ap (lacks 32) is
keyword_spaceless text keywords.Fail is = ap (lacks 32) is

pub keyword_kind : IsWordKind IsKeyword
keyword_kind = record { one = by_decoding IsKeyword decoded_keyword keyword_decoded; spaceless = keyword_spaceless }

pub one_rest : SaysOne IsRest
one_rest text a b is is' = sym is ∙ is'

-- a number out of the range is no author's
pub no_author : (text : List ℕ) (number : ℕ) → IsNumber text number → (number ≡ 0) ⊎ (2 ^ 32 ≤ number) → (author : ℕ) → IsAuthor text author → ⊥
no_author text number is out author is' =
    let same = one_number text author number (author_number text author is') is in
    ⊎_elim (λ none. omega (arith, is'.0)) (λ above. omega (arith, is'.1)) out

pub no_fill : (text : List ℕ) (number : ℕ) → IsNumber text number → 255 < number → (fill : Fill) → IsFill text fill → ⊥
no_fill text number is above Old is' = no_digits text (ap (list_all is_ascii_digit) is') number is
no_fill text number is above New is' = no_digits text (ap (list_all is_ascii_digit) is') number is
no_fill text number is above (Octet octet) is' = let same = one_number text number octet is (octet_number text octet is') in omega (arith, is'.0)
