-- What a text is as JSON.
use Rattle.std.proofs.Common.{◌≡◌, ℕ, List, Bool, true, false, cond, None, IsUtf8, refl, ap}
use Rattle.std.specs.Str.{is_utf8}
use Rattle.std.proofs.lemmas.Str.{IsUtf8-from_is_utf8, is_utf8-from_IsUtf8}
use Rattle.serde_json.specs.Read.{read}
use Rattle.json_rows.specs.Rows.{data_of}

pub data_of_text : (text : List ℕ) → IsUtf8 text → data_of text ≡ read text
data_of_text text is = ap (λ test. cond test (read text) None) (is_utf8-from_IsUtf8 text is)

none_by_test : (text : List ℕ) (test : Bool) → is_utf8 text ≡ test → (IsUtf8 text → read text ≡ None) → cond test (read text) None ≡ None
none_by_test text true is none = none (IsUtf8-from_is_utf8 text is)
none_by_test text false is none = refl

pub no_data : (text : List ℕ) → (IsUtf8 text → read text ≡ None) → data_of text ≡ None
no_data text none = none_by_test text (is_utf8 text) refl none
