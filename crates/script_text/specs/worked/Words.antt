-- The words of lines on worked examples.
use Rattle.std.specs.Prelude.{◌≡◌, ◌-◌, ◌^◌, [], ◌∷◌, codes, refl, true, false, min}
use Rattle.base_kinds.specs.Texts.{is_key_octet, escaped}
use Rattle.plain_texts.specs.Names.{is_name}
use Rattle.script_text.specs.Lines.{lines_of}

-- the last line feed ends the last line, and begins no other
ended : lines_of (codes "at 1\nset 1\n") ≡ codes "at 1" ∷ codes "set 1" ∷ []
ended = refl

not_ended : lines_of (codes "at 1\nset 1") ≡ codes "at 1" ∷ codes "set 1" ∷ []
not_ended = refl

empty_lines : lines_of (codes "\n\na") ≡ [] ∷ [] ∷ codes "a" ∷ []
empty_lines = refl

no_lines : lines_of [] ≡ []
no_lines = refl

names : is_name (codes "host-name.1_") ≡ true
names = refl

no_name : is_name (codes "1host") ≡ false
no_name = refl

empty_name : is_name [] ≡ false
empty_name = refl

-- a space, `]` and `\` are escaped in the id of a trial, `[` and `/` stand for themselves
id_text : escaped is_key_octet (codes "a [/]\\") ≡ codes "a\\20[/\\5d\\5c"
id_text = refl

-- the longest duration, and what is read of more seconds
bounded : min (2 ^ 63) (2 ^ 63 - 1) ≡ 9223372036854775807
bounded = refl
