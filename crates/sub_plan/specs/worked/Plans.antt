-- Plans of lists that are worked out by hand.
use Rattle.std.specs.Prelude.{◌≡◌, ℕ, List, [], ◌∷◌, Bool, true, false, codes, refl, Err, Some, None}
use Rattle.base_kinds.specs.declared.path.Elem.{Elem}
use Rattle.base_kinds.specs.declared.request.SubLine.{SubLine}
use Rattle.base_kinds.specs.declared.request.SubMode.TheVariants as modes
use Rattle.base_kinds.specs.declared.request.ListMode.{ListMode}
use Rattle.base_kinds.specs.declared.request.ListMode.TheVariants as lists
use Rattle.base_kinds.specs.declared.refusal.Refusal.TheVariants.{BadPath, Unsupported, BadSubscribe}
use Rattle.gnmi_kinds.specs.declared.ask.SubAsk.{SubAsk}
use Rattle.gnmi_kinds.specs.declared.ask.Encoding.TheVariants as encodings
use Rattle.gnmi_kinds.specs.declared.path.GnmiPath.{GnmiPath}
use Rattle.sub_plan.specs.Groups.{group_of}
use Rattle.sub_plan.specs.Profile.{is_outside_profile}
use Rattle.sub_plan.specs.Plans.{plan_of, lines_of, groups_of, change_group, line_of}
use Rattle.sub_plan.specs.declared.plan.GroupSort.TheVariants.{Sample}

abbrev plain : List ℕ → Elem
plain name = record { name = name; keys = [] }

abbrev change : List Elem → ℕ → SubLine
change path heartbeat = record {
  path = path;
  mode = modes.Change;
  interval = 0;
  suppress = false;
  heartbeat = heartbeat;
}

abbrev sample : List Elem → ℕ → Bool → ℕ → SubLine
sample path interval suppress heartbeat = record {
  path = path;
  mode = modes.Sample;
  interval = interval;
  suppress = suppress;
  heartbeat = heartbeat;
}

abbrev asked : ListMode → List SubLine → SubAsk
asked mode lines = record {
  prefix = record {
    path = plain (codes "system") ∷ [];
    origin = codes "openconfig";
    target = codes "r1";
    old_element = false;
  };
  lines = lines;
  mode = mode;
  updates_only = false;
  encoding = encodings.Proto;
  unsupported = false;
}

abbrev clock : List Elem
clock = plain (codes "clock") ∷ []

-- two lines send changes, with the lesser of their heartbeats, and each sampled line is a group of its own
abbrev four : SubAsk
four = asked lists.Stream
    (change clock 300000000 ∷ sample [] 0 true 0 ∷ change [] 200000000
    ∷ sample clock 1000000000 false 0 ∷ [])

four_lines : lines_of four ≡
    line_of (plain (codes "system") ∷ []) 0 (change clock 0)
    ∷ line_of (plain (codes "system") ∷ []) 1 (change [] 0)
    ∷ line_of (plain (codes "system") ∷ []) 0 (change [] 0)
    ∷ line_of (plain (codes "system") ∷ []) 2 (change clock 0) ∷ []
four_lines = refl

four_groups : groups_of four ≡
    change_group 200000000
    ∷ record { sort = Sample; interval = 100000000; suppress = true; heartbeat = 0 }
    ∷ record { sort = Sample; interval = 1000000000; suppress = false; heartbeat = 0 } ∷ []
four_groups = refl

-- a list that isn't streamed is one group, without a heartbeat
once_groups : groups_of (asked lists.Once (change clock 300000000 ∷ sample [] 0 true 0 ∷ [])) ≡
    change_group 0 ∷ []
once_groups = refl

-- the interval is looked at also where nothing is sampled, and before the paths
short_interval : plan_of (asked lists.Once (sample (plain [] ∷ []) 99999999 false 0 ∷ []))
    ≡ Err BadSubscribe
short_interval = refl

nameless : plan_of (asked lists.Stream (change (plain [] ∷ []) 0 ∷ [])) ≡ Err BadPath
nameless = refl

no_lines : plan_of (asked lists.Poll []) ≡ Err BadSubscribe
no_lines = refl

no_encoding : plan_of (record (asked lists.Other []) { encoding = encodings.Other })
    ≡ Err Unsupported
no_encoding = refl

-- where two lines cover a row the first one has it, and what no line covers is in no group
in_the_first : group_of (lines_of four)
    (plain (codes "system") ∷ plain (codes "clock") ∷ plain (codes "zone") ∷ []) ≡ Some 0
in_the_first = refl

in_the_second : group_of (lines_of four) (plain (codes "system") ∷ plain (codes "config") ∷ [])
    ≡ Some 1
in_the_second = refl

in_none : group_of (lines_of four) (plain (codes "interfaces") ∷ []) ≡ None
in_none = refl

-- what isn't supported is found before what is wrong with the list, and that before the paths
all_three : plan_of (record (asked lists.Other (change (plain [] ∷ []) 0 ∷ []))
    { unsupported = true }) ≡ Err Unsupported
all_three = refl

two_of_them : plan_of (asked lists.Other (change (plain [] ∷ []) 0 ∷ [])) ≡ Err BadSubscribe
two_of_them = refl

abbrev path_of : List ℕ → Bool → GnmiPath
path_of origin old = record { path = clock; origin = origin; target = []; old_element = old }

inside_profile : is_outside_profile
    (record {
      paths = path_of [] false ∷ path_of (codes "openconfig") false ∷ [];
      models = 0;
      other_extension = false;
    }) ≡ false
inside_profile = refl

other_schema : is_outside_profile
    (record {
      paths = path_of [] false ∷ path_of (codes "cli") false ∷ [];
      models = 0;
      other_extension = false;
    }) ≡ true
other_schema = refl

old_texts : is_outside_profile
    (record { paths = path_of [] true ∷ []; models = 0; other_extension = false }) ≡ true
old_texts = refl

named_model : is_outside_profile (record { paths = []; models = 1; other_extension = false }) ≡ true
named_model = refl
