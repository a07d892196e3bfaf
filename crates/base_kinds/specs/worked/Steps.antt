-- Steps of histories under a schema and limits, on worked examples.
use Rattle.std.specs.Prelude.{◌≡◌, ℕ, List, [], ◌∷◌, ◌++◌, map, codes, refl, Result, Ok, Err, replicate, length}
use Rattle.base_kinds.specs.declared.path.Elem.{Elem}
use Rattle.base_kinds.specs.declared.operation.Op.{Op}
use Rattle.base_kinds.specs.declared.operation.Act.TheVariants.{Delete, Replace}
use Rattle.base_kinds.specs.declared.entry.Ask.{Ask}
use Rattle.base_kinds.specs.declared.entry.Ask.TheVariants as asks
use Rattle.base_kinds.specs.declared.entry.Kind.TheVariants as kinds
use Rattle.base_kinds.specs.declared.value.Value.TheVariants as values
use Rattle.base_kinds.specs.declared.entry.Limits.{Limits}
use Rattle.base_kinds.specs.declared.refusal.Refusal.{Refusal}
use Rattle.base_kinds.specs.declared.refusal.Refusal.TheVariants.{TrialOpen, NoTrial, WrongId, TreeInvalid, LogFull, NotFound, BadValue, BadPath}
use Rattle.base_kinds.specs.Tree.{effect}
use Rattle.base_kinds.specs.History.{world_of}
use Rattle.base_kinds.specs.Rules.{rules_of}
use Rattle.base_kinds.specs.Step.{Rules, step}
use Rattle.base_kinds.specs.Events.{Event, Set, Get, Answer, OfSet, OfGet, event_answers, history_after_all}
use Rattle.base_kinds.specs.worked.Samples.{plain, hostname, motd, text_row, text_update, hostname_entry, delete, update, system_schema, system_rules, port_rules, port_rows, via_row, name_row, speed_row}

abbrev pub asked : ℕ → Ask → Event
asked now ask = record { reading = now; author = 1; request = Set (Ok ask) }

-- the answer to a Set as a stamp or a refusal
abbrev pub stamp_in : Answer → Result ℕ Refusal
stamp_in (OfSet (Ok entry)) = Ok entry.stamp
stamp_in (OfSet (Err refusal)) = Err refusal
stamp_in (OfGet (Ok view)) = Ok view.stamp
stamp_in (OfGet (Err refusal)) = Err refusal

abbrev pub answers : Rules → List Event → List (Result ℕ Refusal)
answers rules events = map stamp_in (event_answers rules [] events)

-- 60 seconds
abbrev pub minute : ℕ
minute = 60000000000

abbrev pub hostname_trial : ℕ → Event
hostname_trial now =
    asked now (asks.Trial (codes "t") (text_update hostname (codes "r1") ∷ []) minute)

abbrev pub confirm : ℕ → List ℕ → Event
confirm now id = asked now (asks.Confirm id)

abbrev pub cancel : ℕ → List ℕ → Event
cancel now id = asked now (asks.Cancel id)

abbrev pub apply : ℕ → List Op → Event
apply now ops = asked now (asks.Apply ops)

-- ---- the first Sets

-- a later value stands, and rows rise by path
two_sets : (world_of (hostname_entry ∷ record hostname_entry {
  number =
      2;
  stamp =
      1001;
  kind = kinds.Apply (text_update motd (codes "m") ∷ text_update hostname (codes "r2") ∷ []);
}
    ∷ [])).tree ≡ text_row hostname (codes "r2")
    ∷ text_row motd (codes "m") ∷ []
two_sets = refl

-- a clock that went back gives the stamp above the last one, and so does one that stands still
clock_back : step system_rules (record hostname_entry {
  stamp =
      5000;
}
    ∷ []) 10 2 (asks.Apply []) ≡ Ok (record {
      number =
          2;
      author = 2;
      stamp = 5001;
      kind = kinds.Apply [];
    })
clock_back = refl

-- the clock's first reading 0 gives the stamp 1, and a reading behind the year 2100 is cut
first_stamp : step system_rules [] 0 1 (asks.Apply []) ≡ Ok (record {
  number =
      1;
  author = 1;
  stamp = 1;
  kind = kinds.Apply [];
})
first_stamp = refl

cut_stamp : step system_rules [] 18446744073709551615 1 (asks.Apply []) ≡ Ok (record {
  number =
      1;
  author = 1;
  stamp = 4102444800000000000;
  kind = kinds.Apply [];
})
cut_stamp = refl

-- deletes come before replaces and these before updates, wherever they stand
order_of_acts : effect (text_update hostname (codes "u") ∷ record {
  act =
      Replace;
  path = hostname;
  rows = text_row hostname (codes "r") ∷ [];
}
    ∷ record { act = Delete; path = hostname; rows = [] } ∷ []) [] ≡ text_row hostname (codes "u")
    ∷ []
order_of_acts = refl

-- ---- requests that are refused by themselves, and reads

abbrev pub read : ℕ → List (List Elem) → Event
read now patterns = record { reading = now; author = 1; request = Get patterns }

abbrev pub refused : ℕ → Refusal → Event
refused now refusal = record { reading = now; author = 1; request = Set (Err refusal) }

-- a read has the stamp of the last entry, and one of nothing is refused
reads_see_the_last_entry : answers system_rules
    (read 1 (hostname ∷ []) ∷ apply 1000 (text_update hostname (codes "r1") ∷ [])
    ∷ read 5000 (hostname ∷ []) ∷ read 5000 (hostname ∷ motd ∷ []) ∷ []) ≡
    Err NotFound
    ∷ Ok 1000 ∷ Ok 1000 ∷ Err NotFound ∷ []
reads_see_the_last_entry = refl

-- a trial that is due expires at a read, and neither at a request that is refused by itself nor at a read of a path that is
-- too long
read_expires : answers system_rules
    (hostname_trial 1000 ∷ refused 60000001000 BadValue
    ∷ read 60000001000 (replicate 33 (plain (codes "a")) ∷ []) ∷ read 60000001000 ([] ∷ []) ∷ []) ≡
    Ok 1000
    ∷ Err BadValue ∷ Err BadPath ∷ Err NotFound ∷ []
read_expires = refl

no_entry_before : length (history_after_all system_rules []
    (hostname_trial 1000 ∷ refused 60000001000 BadValue
    ∷ read 60000001000 (replicate 33 (plain (codes "a")) ∷ []) ∷ [])) ≡
    1
no_entry_before = refl

one_entry_behind : length
    (history_after_all system_rules [] (hostname_trial 1000 ∷ read 60000001000 ([] ∷ []) ∷ [])) ≡
    2
one_entry_behind = refl

-- ---- trials

-- a trial of 60 seconds that is confirmed in its last nanosecond, and one that has expired when it is to be confirmed
confirmed_in_time : answers system_rules
    (hostname_trial 1000 ∷ confirm 60000000999 (codes "t") ∷ []) ≡
    Ok 1000
    ∷ Ok 60000000999 ∷ []
confirmed_in_time = refl

confirmed_too_late : answers system_rules
    (hostname_trial 1000 ∷ confirm 60000001000 (codes "t") ∷ []) ≡
    Ok 1000
    ∷ Err NoTrial ∷ []
confirmed_too_late = refl

expiry_is_an_entry : history_after_all system_rules []
    (hostname_trial 1000 ∷ confirm 60000001000 (codes "t") ∷ []) ≡
    record {
      number =
          1;
      author =
          1;
      stamp = 1000;
      kind = kinds.Trial (codes "t") (text_update hostname (codes "r1") ∷ []) 60000001000;
    }
    ∷ record { number = 2; author = 0; stamp = 60000001000; kind = kinds.Expire } ∷ []
expiry_is_an_entry = refl

expired : (world_of (history_after_all system_rules []
    (hostname_trial 1000 ∷ confirm 60000001000 (codes "t") ∷ []))).tree ≡
    []
expired = refl

-- one trial at a time, and another id
trial_is_open : answers system_rules
    (hostname_trial 1 ∷ apply 1 [] ∷ hostname_trial 1 ∷ confirm 1 (codes "u")
    ∷ cancel 1 (codes "u") ∷ []) ≡
    Ok 1
    ∷ Err TrialOpen ∷ Err TrialOpen ∷ Err WrongId ∷ Err WrongId ∷ []
trial_is_open = refl

-- a trial overwrites one leaf and deletes another, and cancelling it brings both back
abbrev cancelled : List Event
cancelled =
    apply 1000 (text_update hostname (codes "a") ∷ text_update motd (codes "m") ∷ [])
    ∷ asked 1000 (asks.Trial (codes "t")
    (text_update hostname (codes "b") ∷ delete motd ∷ []) minute)
    ∷ []

trial_tree : (world_of (history_after_all system_rules [] cancelled)).tree ≡
    text_row hostname (codes "b")
    ∷ []
trial_tree = refl

tree_after_cancel : (world_of
    (history_after_all system_rules [] (cancelled ++ cancel 1000 (codes "t") ∷ []))).tree ≡
    text_row hostname (codes "a")
    ∷ text_row motd (codes "m") ∷ []
tree_after_cancel = refl

cancelled_twice : answers system_rules
    (cancelled ++ cancel 1000 (codes "t") ∷ cancel 1000 (codes "t") ∷ []) ≡
    Ok 1000
    ∷ Ok 1001 ∷ Ok 1002 ∷ Err NoTrial ∷ []
cancelled_twice = refl

-- the clock goes back: a stamp is then the last one and 1, a trial ends so much later than its own stamp, and a new
-- duration counts from the stamp at which it was asked
clock_goes_back : answers system_rules
    (asked 5000 (asks.Trial (codes "t") [] 1000000000)
    ∷ asked 10 (asks.Extend (codes "t") 2000000000) ∷ confirm 2000005000 (codes "t") ∷ []) ≡
    Ok 5000
    ∷ Ok 5001 ∷ Ok 2000005000 ∷ []
clock_goes_back = refl

extended_trial_ends : answers system_rules
    (asked 5000 (asks.Trial (codes "t") [] 1000000000)
    ∷ asked 10 (asks.Extend (codes "t") 2000000000) ∷ confirm 2000005001 (codes "t") ∷ []) ≡
    Ok 5000
    ∷ Ok 5001 ∷ Err NoTrial ∷ []
extended_trial_ends = refl

unextended_trial_ends : answers system_rules
    (asked 5000 (asks.Trial (codes "t") [] 1000000000) ∷ confirm 1000005000 (codes "t") ∷ []) ≡
    Ok 5000
    ∷ Err NoTrial ∷ []
unextended_trial_ends = refl

-- a delete of nothing, by a wildcard, is an entry
wildcard_delete : answers system_rules
    (apply 1000 (delete (plain (codes "*") ∷ plain (codes "config") ∷ []) ∷ []) ∷ []) ≡
    Ok 1000
    ∷ []
wildcard_delete = refl

-- what is refused as an invalid tree: no key leaf, a value out of its shape, no mandatory leaf, a reference without a
-- target, and a third port
no_key_leaf_is_refused : answers port_rules
    (apply 1 (update [] (speed_row (codes "a") (values.Uint 10) ∷ []) ∷ []) ∷ []) ≡
    Err TreeInvalid
    ∷ []
no_key_leaf_is_refused = refl

value_out_of_shape_is_refused : answers port_rules
    (apply 1 (update [] (name_row (codes "a") ∷ speed_row (codes "a") (values.Uint 256) ∷ [])
    ∷ []) ∷ []) ≡
    Err TreeInvalid
    ∷ []
value_out_of_shape_is_refused = refl

no_mandatory_leaf_is_refused : answers port_rules
    (apply 1 (update [] (name_row (codes "a") ∷ []) ∷ []) ∷ []) ≡
    Err TreeInvalid
    ∷ []
no_mandatory_leaf_is_refused = refl

no_target_is_refused : answers port_rules
    (apply 1 (update [] (via_row (codes "a") ∷ []) ∷ []) ∷ []) ≡
    Err TreeInvalid
    ∷ []
no_target_is_refused = refl

third_port_is_refused : answers port_rules
    (apply 1 (update [] (port_rows (codes "a")) ∷ update [] (port_rows (codes "b")) ∷ [])
    ∷ apply 1 (update [] (port_rows (codes "c")) ∷ []) ∷ []) ≡
    Ok 1
    ∷ Err TreeInvalid ∷ []
third_port_is_refused = refl

-- with two entries at most a third Set is refused, and so is a trial as the second entry
abbrev pub two_entries : Limits
two_entries = record { entries = 2; octets = 4096 }

third_set : answers (rules_of system_schema two_entries)
    (apply 1 [] ∷ apply 1 [] ∷ apply 1 [] ∷ []) ≡
    Ok 1
    ∷ Ok 2 ∷ Err LogFull ∷ []
third_set = refl

trial_second : answers (rules_of system_schema two_entries) (apply 1 [] ∷ hostname_trial 1 ∷ []) ≡
    Ok 1
    ∷ Err LogFull ∷ []
trial_second = refl

trial_first : answers (rules_of system_schema two_entries)
    (hostname_trial 1 ∷ confirm 1 (codes "t") ∷ []) ≡
    Ok 1
    ∷ Ok 2 ∷ []
trial_first = refl

-- a Set of one entry with a text of 3,971 octets just fits 4,096 octets, and with one octet more it doesn't
abbrev long_set : ℕ → List Event
long_set size = apply 1 (text_update hostname (replicate size 120) ∷ []) ∷ []

just_fits : answers (rules_of system_schema two_entries) (long_set 3971) ≡ Ok 1 ∷ []
just_fits = refl

just_too_long : answers (rules_of system_schema two_entries) (long_set 3972) ≡ Err LogFull ∷ []
just_too_long = refl
