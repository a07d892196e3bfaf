-- A book with an open trial: how many calls of the disk there are, and which histories are gone
-- through.
use Rattle.std.specs.Prelude.{◌≡◌, [], ◌∷◌, Some, None, refl}
use Rattle.base_kinds.specs.declared.entry.Entry.{Entry}
use Rattle.base_kinds.specs.declared.entry.Kind.TheVariants as kinds
use Rattle.book_port.specs.Answers.{look_stages}
use Rattle.book_core.specs.Calls.{calls_before}
use Rattle.book_core.specs.Openings.{opening_stages, restart_calls}

abbrev pub begun : Entry
begun = record {
  number = 1;
  author = 7;
  stamp = 1000;
  kind = kinds.Trial (116 ∷ []) [] 60000001000;
}

abbrev pub expired : Entry
expired = record { number = 2; author = 0; stamp = 60000001000; kind = kinds.Expire }

abbrev pub restarted : Entry
restarted = record { number = 2; author = 0; stamp = 1001; kind = kinds.Restart }

-- before the deadline nothing is due, and at it an entry is appended
not_yet : calls_before None (begun ∷ []) 60000000999 ≡ 0
not_yet = refl

at_deadline : calls_before None (begun ∷ []) 60000001000 ≡ 4
at_deadline = refl

-- a doubt is settled by two calls first
with_a_doubt : calls_before (Some begun) [] 5 ≡ 2
with_a_doubt = refl

both_stages : look_stages (begun ∷ []) 60000001000 ≡ (begun ∷ []) ∷ (begun ∷ expired ∷ []) ∷ []
both_stages = refl

reopening : opening_stages (begun ∷ []) 5 ≡ (begun ∷ []) ∷ (begun ∷ restarted ∷ []) ∷ []
reopening = refl

its_calls : restart_calls (begun ∷ []) ≡ 4
its_calls = refl
