-- Which asks are fit to be judged, and which histories can come about. Both are this project's own.
use Rattle.std.specs.Prelude.{◌≡◌, ◌⊎◌, ℕ, ◌≤◌, List, [], ◌∷◌, ◌++◌, Bool, true, false, ◌&&◌, nat_le, length, IsTrue, Ok}
use Rattle.std.specs.List.{list_all}
use Rattle.base_lists.specs.Rising.{rises}
use Rattle.base_kinds.specs.declared.path.Elem.{Elem}
use Rattle.base_kinds.specs.declared.value.Value.{Value}
use Rattle.base_kinds.specs.declared.value.Value as v
use Rattle.base_kinds.specs.declared.operation.Row.{Row}
use Rattle.base_kinds.specs.declared.operation.Op.{Op}
use Rattle.base_kinds.specs.declared.operation.Act.{Act}
use Rattle.base_kinds.specs.declared.operation.Act.TheVariants.{Delete, Replace, Update}
use Rattle.base_kinds.specs.declared.entry.Entry.{Entry}
use Rattle.base_kinds.specs.declared.entry.Kind.TheVariants as kinds
use Rattle.base_kinds.specs.declared.entry.Ask.{Ask}
use Rattle.base_kinds.specs.declared.entry.Ask.TheVariants as asks
use Rattle.base_kinds.specs.Limits.{most_elements, most_keys, most_id_octets, most_fraction_digits, shortest_duration, longest_duration}
use Rattle.base_kinds.specs.Paths.{text_cmp, path_cmp}
use Rattle.base_kinds.specs.Values.{row_values}
use Rattle.base_kinds.specs.Step.{Rules, is_due, next_entry, new_stamp, judge}

-- keys rise by name, and there aren't too many
abbrev pub is_fit_elem : Elem → Bool
is_fit_elem elem = nat_le (length elem.keys) most_keys && rises (λ a b. text_cmp a.0 b.0) elem.keys

-- a path has a bounded number of elements, each of them fit
abbrev pub is_fit_path : List Elem → Bool
is_fit_path path = nat_le (length path) most_elements && list_all is_fit_elem path

-- a value that is no list; a decimal has at least one digit behind the point, and at most so many (RFC 7950 9.3.4)
abbrev pub is_fit_scalar : Value → Bool
is_fit_scalar (v.Dec digits places) = nat_le 1 places && nat_le places most_fraction_digits
is_fit_scalar (v.List' n values) = false
is_fit_scalar _ = true

-- no list stands inside a list
abbrev pub is_fit_value : Value → Bool
is_fit_value (v.List' n values) = list_all is_fit_scalar (row_values values)
is_fit_value value = is_fit_scalar value

abbrev pub is_fit_row : Row → Bool
is_fit_row row = is_fit_path row.path && is_fit_value row.value

abbrev pub is_empty : List Row → Bool
is_empty [] = true
is_empty (row ∷ rows) = false

-- a delete has no rows
abbrev pub has_fit_rows : Act → List Row → Bool
has_fit_rows Delete rows = is_empty rows
has_fit_rows Replace rows = true
has_fit_rows Update rows = true

-- the rows of an operation rise by path
abbrev pub is_fit_op : Op → Bool
is_fit_op op =
    is_fit_path op.path && has_fit_rows op.act op.rows && list_all is_fit_row op.rows
    && rises (λ a b. path_cmp a.path b.path) op.rows

abbrev pub AreFitOps : List Op → Type 0
AreFitOps ops = IsTrue (list_all is_fit_op ops)

-- an id has at least one octet
abbrev pub is_fit_id : List ℕ → Bool
is_fit_id id = nat_le 1 (length id) && nat_le (length id) most_id_octets

-- a duration in nanoseconds that a trial may have
abbrev pub is_fit_duration : ℕ → Bool
is_fit_duration duration = nat_le shortest_duration duration && nat_le duration longest_duration

pub record IsFitTrial (id : List ℕ) (ops : List Op) (duration : ℕ) : Type 0 where
  pub id_fits : IsTrue (is_fit_id id)
  pub ops_fit : AreFitOps ops
  pub duration_fits : IsTrue (is_fit_duration duration)

pub record IsFitExtend (id : List ℕ) (duration : ℕ) : Type 0 where
  pub id_fits : IsTrue (is_fit_id id)
  pub duration_fits : IsTrue (is_fit_duration duration)

-- what may be asked of a target at all
abbrev pub IsFit : Ask → Type 0
IsFit (asks.Apply ops) = AreFitOps ops
IsFit (asks.Trial id ops duration) = IsFitTrial id ops duration
IsFit (asks.Confirm id) = IsTrue (is_fit_id id)
IsFit (asks.Cancel id) = IsTrue (is_fit_id id)
IsFit (asks.Extend id duration) = IsFitExtend id duration

-- the entry is the event of the clock: a trial that is due at the entry's own stamp expires
pub record IsExpiry (h : List Entry) (entry : Entry) : Type 0 where
  pub due : is_due h entry.stamp ≡ true
  pub is : entry ≡ next_entry h (new_stamp h entry.stamp) 0 kinds.Expire

-- nothing is due at the entry's own stamp, and the entry is what becomes of something that its author asked
pub record IsAnswer (rules : Rules) (h : List Entry) (entry : Entry) : Type 0 where
  pub not_due : is_due h entry.stamp ≡ false
  pub author : 1 ≤ entry.author
  pub ask : Ask
  pub ask_fits : IsFit ask
  pub judged : judge rules h entry.stamp entry.author ask ≡ Ok entry

abbrev pub Gives : Rules → List Entry → Entry → Type 0
Gives rules h entry = IsExpiry h entry ⊎ IsAnswer rules h entry

-- each further entry is given over the entries before it
abbrev pub GivenInTurn : Rules → List Entry → List Entry → Type 0
GivenInTurn rules h [] = Unit {0}
GivenInTurn rules h (entry ∷ entries) =
    Gives rules h entry × GivenInTurn rules (h ++ entry ∷ []) entries

-- The history is the base and entries that were given in turn. The base is the history that an opening gave, its
-- Restart included: that entry answers no ask, and an earlier run may have had another schema.
pub record IsLegal (rules : Rules) (base h : List Entry) : Type 0 where
  pub more : List Entry
  pub whole : h ≡ base ++ more
  pub given : GivenInTurn rules base more
