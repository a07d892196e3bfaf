-- The forms of the words: the arguments behind the program's name. The forms are this project's own.
use Rattle.std.specs.Prelude.{ℕ, List, [], ◌∷◌, map, codes, String, string_bytes}
use Rattle.std.specs.Global.{Global}

-- What is asked of a target: by a path's text; a path's text and a JSON text; an id, a number of seconds, a path's text and a
-- JSON text; or an id.
pub data Ask : Type 0 where
  Capabilities : Ask
  Get : List ℕ → Ask
  Set : List ℕ → List ℕ → Ask
  Delete : List ℕ → Ask
  Trial : List ℕ → List ℕ → List ℕ → List ℕ → Ask
  Confirm : List ℕ → Ask
  Cancel : List ℕ → Ask

-- An address, which is a host and a port, and what is asked of the target there. Two words stand alone.
pub data Form : Type 0 where
  Call : List ℕ → Ask → Form
  Help : Form
  Version : Form

-- the words as octets
abbrev pub octets_of_words : List (String Global) → List (List ℕ)
octets_of_words words = map (λ word. string_bytes word) words

-- the words behind the address
abbrev pub ask_words : Ask → List (List ℕ)
ask_words Capabilities = codes "capabilities" ∷ []
ask_words (Get path) = codes "get" ∷ path ∷ []
ask_words (Set path json) = codes "set" ∷ path ∷ json ∷ []
ask_words (Delete path) = codes "delete" ∷ path ∷ []
ask_words (Trial id seconds path json) = codes "trial" ∷ id ∷ seconds ∷ path ∷ json ∷ []
ask_words (Confirm id) = codes "confirm" ∷ id ∷ []
ask_words (Cancel id) = codes "cancel" ∷ id ∷ []

abbrev pub form_words : Form → List (List ℕ)
form_words (Call address ask) = address ∷ ask_words ask
form_words Help = codes "--help" ∷ []
form_words Version = codes "--version" ∷ []
