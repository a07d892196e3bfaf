-- The octets of a script on worked examples.
use Rattle.std.specs.Prelude.{◌≡◌, [], codes, refl}
use Rattle.script_run.specs.ScriptOctets.{to_last_feed}

whole_line : to_last_feed (codes "at 1\n") ≡ codes "at 1\n"
whole_line = refl

cut_line : to_last_feed (codes "at 1\nset 1\nge") ≡ codes "at 1\nset 1\n"
cut_line = refl

first_cut : to_last_feed (codes "at 1") ≡ []
first_cut = refl

empty_lines : to_last_feed (codes "\n\na") ≡ codes "\n\n"
empty_lines = refl
