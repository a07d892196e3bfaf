-- Which asks are fit, which row belongs to which group, and a legal history, on worked examples.
use Rattle.std.specs.Prelude.{◌≡◌, ℕ, List, [], ◌∷◌, true, false, codes, refl, replicate, pos}
use Rattle.std.proofs.Common.{inl, inr, arith}
use Rattle.base_kinds.specs.declared.path.Elem.{Elem}
use Rattle.base_kinds.specs.declared.value.Value.TheVariants as values
use Rattle.base_kinds.specs.declared.operation.Row.{Row}
use Rattle.base_kinds.specs.declared.operation.Act.TheVariants.{Delete, Update}
use Rattle.base_kinds.specs.declared.entry.Ask.TheVariants as asks
use Rattle.base_kinds.specs.declared.entry.Entry.{Entry}
use Rattle.base_kinds.specs.declared.entry.Kind.TheVariants as kinds
use Rattle.base_kinds.specs.Legal.{is_fit_elem, is_fit_path, is_fit_scalar, is_fit_value, is_fit_op, is_fit_id, is_fit_duration, IsLegal, Gives}
use Rattle.base_kinds.specs.Parts.{part, rows_of_group}
use Rattle.base_kinds.specs.worked.Samples.{plain, hostname, motd, text_row, text_update, hostname_entry, system_rules}

-- ---- fit and unfit

deepest_path : is_fit_path (replicate 32 (plain (codes "a"))) ≡ true
deepest_path = refl

too_deep_path : is_fit_path (replicate 33 (plain (codes "a"))) ≡ false
too_deep_path = refl

-- an element with these keys
abbrev with_keys : List ℕ → List ℕ → Elem
with_keys first second =
    record { name = codes "l"; keys = (first, codes "1") ∷ (second, codes "2") ∷ [] }

keys_that_rise : is_fit_elem (with_keys (codes "a") (codes "b")) ≡ true
keys_that_rise = refl

keys_that_fall : is_fit_elem (with_keys (codes "b") (codes "a")) ≡ false
keys_that_fall = refl

key_twice : is_fit_elem (with_keys (codes "a") (codes "a")) ≡ false
key_twice = refl

no_fraction_digit : is_fit_scalar (values.Dec (pos 15) 0) ≡ false
no_fraction_digit = refl

one_fraction_digit : is_fit_scalar (values.Dec (pos 15) 1) ≡ true
one_fraction_digit = refl

eighteen_fraction_digits : is_fit_scalar (values.Dec (pos 15) 18) ≡ true
eighteen_fraction_digits = refl

nineteen_fraction_digits : is_fit_scalar (values.Dec (pos 15) 19) ≡ false
nineteen_fraction_digits = refl

list_in_list : is_fit_value (values.List (values.List [] ∷ [])) ≡ false
unfolding Rattle.base_kinds.specs.declared.value.Value.TheBlock.hidden-the_row-Value-0 denote.Hole.Carrier.hidden
list_in_list = refl

list_of_texts : is_fit_value (values.List (values.Text (codes "x") ∷ [])) ≡ true
unfolding Rattle.base_kinds.specs.declared.value.Value.TheBlock.hidden-the_row-Value-0 denote.Hole.Carrier.hidden
list_of_texts = refl

delete_with_a_row : is_fit_op (record {
  act =
      Delete;
  path = hostname;
  rows = text_row hostname (codes "r1") ∷ [];
}) ≡ false
delete_with_a_row = refl

rows_that_rise : is_fit_op (record {
  act =
      Update;
  path = [];
  rows = text_row hostname (codes "r1") ∷ text_row motd (codes "m")
      ∷ [];
}) ≡ true
rows_that_rise = refl

rows_that_fall : is_fit_op (record {
  act =
      Update;
  path = [];
  rows = text_row motd (codes "m") ∷ text_row hostname (codes "r1")
      ∷ [];
}) ≡ false
rows_that_fall = refl

no_id : is_fit_id [] ≡ false
no_id = refl

longest_id : is_fit_id (replicate 64 97) ≡ true
longest_id = refl

too_long_id : is_fit_id (replicate 65 97) ≡ false
too_long_id = refl

just_a_second : is_fit_duration 1000000000 ≡ true
just_a_second = refl

not_quite_a_second : is_fit_duration 999999999 ≡ false
not_quite_a_second = refl

just_a_day : is_fit_duration 86400000000000 ≡ true
just_a_day = refl

more_than_a_day : is_fit_duration 86400000000001 ≡ false
more_than_a_day = refl

-- ---- groups: each row belongs to the first line that covers it

abbrev lines : List (List Elem × ℕ)
lines = (hostname, 1) ∷ (plain (codes "system") ∷ [], 2) ∷ (motd, 3) ∷ []

abbrev two_rows : List Row
two_rows = text_row hostname (codes "r1") ∷ text_row motd (codes "m") ∷ []

first_group : rows_of_group lines 1 two_rows ≡ text_row hostname (codes "r1") ∷ []
first_group = refl

second_group : rows_of_group lines 2 two_rows ≡ text_row motd (codes "m") ∷ []
second_group = refl

third_group : rows_of_group lines 3 two_rows ≡ []
third_group = refl

part_of_both : part (hostname ∷ motd ∷ []) two_rows ≡ two_rows
part_of_both = refl

-- ---- a legal history: a Set, and a trial that expires

abbrev trial_entry : Entry
trial_entry =
    record {
      number =
          2;
      author = 7;
      stamp = 2000;
      kind = kinds.Trial (codes "t") (text_update motd (codes "m") ∷ []) 1000002000;
    }

abbrev expiry_entry : Entry
expiry_entry = record { number = 3; author = 0; stamp = 1000002000; kind = kinds.Expire }

first_set_is_given : Gives system_rules [] hostname_entry
first_set_is_given =
    inr (record {
      not_due = refl;
      author = omega arith;
      ask = asks.Apply (text_update hostname (codes "r1") ∷ []);
      ask_fits = refl;
      judged = refl;
    })

trial_is_given : Gives system_rules (hostname_entry ∷ []) trial_entry
trial_is_given =
    inr (record {
      not_due = refl;
      author = omega arith;
      ask = asks.Trial (codes "t") (text_update motd (codes "m") ∷ []) 1000000000;
      ask_fits = record { id_fits = refl; ops_fit = refl; duration_fits = refl };
      judged = refl;
    })

expiry_is_given : Gives system_rules (hostname_entry ∷ trial_entry ∷ []) expiry_entry
expiry_is_given = inl (record { due = refl; is = refl })

three_entries_are_legal : IsLegal system_rules [] (hostname_entry ∷ trial_entry ∷ expiry_entry ∷ [])
three_entries_are_legal =
    record {
      more = hostname_entry ∷ trial_entry ∷ expiry_entry ∷ [];
      whole = refl;
      given = (first_set_is_given, (trial_is_given, (expiry_is_given, tt)));
    }
