-- Lines of a log on worked examples.
use Rattle.std.specs.Prelude.{◌≡◌, List, [], ◌∷◌, codes, refl}
use Rattle.std.specs.Fmt.{digits}
use Rattle.base_kinds.specs.declared.path.Elem.{Elem}
use Rattle.base_kinds.specs.declared.entry.Kind.TheVariants as kinds
use Rattle.base_kinds.specs.declared.operation.Act.TheVariants.{Delete, Update}
use Rattle.base_kinds.specs.declared.value.Value as v
use Rattle.log_text.specs.Logs.{log_text}

abbrev motd : List Elem
motd = record { name = codes "motd"; keys = [] } ∷ []

-- the deletes come first, whatever their place
set_of_a_delete_and_an_update : log_text (record {
  number =
      1;
  author = 7;
  stamp = 1000;
  kind = kinds.Apply (record
      { act = Update; path = motd; rows = record { path = motd; value = v.Text (codes "m") } ∷ [] }
      ∷ record { act = Delete; path = []; rows = [] } ∷ []);
}
    ∷ [])
    ≡ codes "1 1000 7 apply\n  delete /\n  update /motd\n    /motd \"m\"\n"
unfolding digits
set_of_a_delete_and_an_update = refl

-- an id is written as the value of a key is
trial_and_its_end : log_text (record {
  number =
      1;
  author = 1;
  stamp = 5;
  kind = kinds.Trial (codes "a b") [] 60000000005;
}
    ∷ record { number = 2; author = 1; stamp = 6; kind = kinds.Extend 90000000006 }
    ∷ record { number = 3; author = 0; stamp = 7; kind = kinds.Restart } ∷ [])
    ≡ codes "1 5 1 trial a\\20b 60000000005\n2 6 1 extend 90000000006\n3 7 0 restart\n"
unfolding digits
trial_and_its_end = refl
