-- The trees of histories under a schema are valid and small enough.
use Rattle.std.proofs.Common.{◌≡◌, ℕ, ◌+◌, List, [], ◌∷◌, ◌++◌, true, false, not, ◌&&◌, Option, Some, None, Ok, refl, sym, subst, inl, inr}
use Rattle.std.proofs.lemmas.Bool.{not-false, and_from}
use Rattle.std.proofs.Math.Bool.{or-true}
use Rattle.std.proofs.lemmas.List.Elements.{All-nil}
use Rattle.base_kinds.specs.declared.operation.Row.{Row}
use Rattle.base_kinds.specs.declared.operation.Op.{Op}
use Rattle.base_kinds.specs.declared.entry.Entry.{Entry}
use Rattle.base_kinds.specs.declared.entry.Kind.TheVariants as kinds
use Rattle.base_kinds.specs.declared.entry.Ask.{Ask}
use Rattle.base_kinds.specs.declared.entry.Ask.TheVariants as asks
use Rattle.base_kinds.specs.declared.entry.Limits.{Limits}
use Rattle.base_kinds.specs.declared.schema.Sort.{Sort}
use Rattle.base_kinds.specs.declared.schema.Sort.TheVariants as sorts
use Rattle.base_kinds.specs.Bases.{IsBounded, AreBounded, IsAhead, IsSound, IsSoundBefore, HasSoundTrees, IsBase}
use Rattle.base_kinds.specs.History.{OpenTrial, IsHistory, world_after, world_of, stamp_of}
use Rattle.base_kinds.specs.Legal.{Gives, IsLegal}
use Rattle.base_kinds.specs.Limits.{AreInRange}
use Rattle.base_kinds.specs.Room.{IsWithin, CanClose}
use Rattle.base_kinds.specs.Rules.{rules_of}
use Rattle.base_kinds.specs.Schema.{SchemaNode}
use Rattle.base_kinds.specs.Step.{new_stamp, kind_of_ask, judge}
use Rattle.base_kinds.specs.Tree.{effect}
use Rattle.base_kinds.specs.Valid.{unless_none, is_in_maximum, valid, fits, node_is_present, node_in_maximum, mandatory_present, max_elements_hold}
use Rattle.history_laws.specs.SoundLaws.{AsksOperations}
use Rattle.history_laws.proofs.States.{world_after_one}
use Rattle.history_laws.proofs.Judged.{asked, accepted, accepted_is_next}
use Rattle.history_laws.proofs.Given.{kept_by_legal, legal_is_history, legal_is_bounded, legal_is_ahead}
use Rattle.history_laws.proofs.RoomKept.{new_log_has_room, legal_keeps_room}

-- ---- no rows

none_is_missing : (schema : List SchemaNode) → mandatory_present schema [] ≡ true
none_is_missing [] = refl
none_is_missing (node ∷ schema) = and_from (node_is_present [] node) (mandatory_present schema []) (or-true (not node.is_mandatory)) (none_is_missing schema)

few_in_none : (sort : Sort) (names : List (List ℕ)) (most : ℕ) → is_in_maximum sort names [] most ≡ true
few_in_none sorts.Container names most = refl
few_in_none sorts.List names most = refl
few_in_none sorts.Leaf names most = refl
few_in_none sorts.LeafList names most = refl

none_of_node : (node : SchemaNode) (maximum : Option ℕ) → unless_none maximum (is_in_maximum node.sort node.names []) ≡ true
none_of_node node None = refl
none_of_node node (Some most) = few_in_none node.sort node.names most

none_is_too_many : (schema : List SchemaNode) → max_elements_hold schema [] ≡ true
none_is_too_many [] = refl
none_is_too_many (node ∷ schema) = and_from (node_in_maximum [] node) (max_elements_hold schema []) (none_of_node node node.maximum) (none_is_too_many schema)

pub no_rows_are_sound : (schema : List SchemaNode) → IsSound schema []
no_rows_are_sound schema =
    record { is_valid = and_from (mandatory_present schema [] && true) (max_elements_hold schema []) (and_from (mandatory_present schema []) true (none_is_missing schema) refl) (none_is_too_many schema); is_small = refl }

-- ---- one entry

effect_is_sound : (schema : List SchemaNode) (tree : List Row) → not (valid schema tree) ≡ false → not (fits tree) ≡ false → IsSound schema tree
effect_is_sound schema tree is_valid is_small = record { is_valid = not-false (valid schema tree) is_valid; is_small = not-false (fits tree) is_small }

pub accepted_trees_are_sound : (schema : List SchemaNode) (limits : Limits) (h : List Entry) (now author : ℕ) (ask : Ask) (entry : Entry) (ops : List Op) → AsksOperations ops ask → judge (rules_of schema limits) h now author ask ≡ Ok entry → IsSound schema (effect ops (world_of h).tree)
accepted_trees_are_sound schema limits h now author (asks.Apply others) entry ops same is =
    let none = (accepted (rules_of schema limits) h now author (asks.Apply others) entry is).0 in
    subst (λ (os : List Op). IsSound schema (effect os (world_of h).tree)) same (effect_is_sound schema (effect others (world_of h).tree) none.1.0 none.1.1.0)
accepted_trees_are_sound schema limits h now author (asks.Trial id others duration) entry ops same is =
    let none = (accepted (rules_of schema limits) h now author (asks.Trial id others duration) entry is).0 in
    subst (λ (os : List Op). IsSound schema (effect os (world_of h).tree)) same (effect_is_sound schema (effect others (world_of h).tree) none.1.0 none.1.1.0)
accepted_trees_are_sound schema limits h now author _ entry ops same is = absurd same

undone : (schema : List SchemaNode) (tree : List Row) (trial : Option OpenTrial) → IsSound schema tree → IsSoundBefore schema trial → HasSoundTrees schema (world_after kinds.Expire (record { tree = tree; trial = trial }))
undone schema tree None sound before = record { tree = sound; before = tt }
undone schema tree (Some trial) sound before = record { tree = before; before = tt }

later : (schema : List SchemaNode) (tree : List Row) (trial : Option OpenTrial) (deadline : ℕ) → IsSound schema tree → IsSoundBefore schema trial → HasSoundTrees schema (world_after (kinds.Extend deadline) (record { tree = tree; trial = trial }))
later schema tree None deadline sound before = record { tree = sound; before = tt }
later schema tree (Some trial) deadline sound before = record { tree = sound; before = before }

answer_keeps_sound : (schema : List SchemaNode) (limits : Limits) (h : List Entry) (now author : ℕ) (ask : Ask) (entry : Entry) → judge (rules_of schema limits) h now author ask ≡ Ok entry → HasSoundTrees schema (world_of h) → HasSoundTrees schema (world_after (kind_of_ask (new_stamp h now) ask) (world_of h))
answer_keeps_sound schema limits h now author (asks.Apply ops) entry is sound = record { tree = accepted_trees_are_sound schema limits h now author (asks.Apply ops) entry ops refl is; before = tt }
answer_keeps_sound schema limits h now author (asks.Trial id ops duration) entry is sound = record { tree = accepted_trees_are_sound schema limits h now author (asks.Trial id ops duration) entry ops refl is; before = sound.tree }
answer_keeps_sound schema limits h now author (asks.Confirm id) entry is sound = record { tree = sound.tree; before = tt }
answer_keeps_sound schema limits h now author (asks.Cancel id) entry is sound = undone schema (world_of h).tree (world_of h).trial sound.tree sound.before
answer_keeps_sound schema limits h now author (asks.Extend id duration) entry is sound = later schema (world_of h).tree (world_of h).trial (new_stamp h now + duration) sound.tree sound.before

pub given_keeps_sound : (schema : List SchemaNode) (limits : Limits) (h : List Entry) (entry : Entry) → HasSoundTrees schema (world_of h) → Gives (rules_of schema limits) h entry → HasSoundTrees schema (world_of (h ++ entry ∷ []))
given_keeps_sound schema limits h entry sound given = subst (HasSoundTrees schema) (sym (world_after_one h entry)) (by_case given)
  where
    by_case : Gives (rules_of schema limits) h entry → HasSoundTrees schema (world_after entry.kind (world_of h))
    by_case (inl expiry) = subst (λ (e : Entry). HasSoundTrees schema (world_after e.kind (world_of h))) (sym expiry.is) (undone schema (world_of h).tree (world_of h).trial sound.tree sound.before)
    by_case (inr answer) =
        let next : entry ≡ asked h entry.stamp entry.author answer.ask = accepted_is_next (rules_of schema limits) h entry.stamp entry.author answer.ask entry answer.judged in
        subst (λ (e : Entry). HasSoundTrees schema (world_after e.kind (world_of h))) (sym next) (answer_keeps_sound schema limits h entry.stamp entry.author answer.ask entry answer.judged sound)

pub legal_trees_are_sound : (schema : List SchemaNode) (limits : Limits) (base h : List Entry) → HasSoundTrees schema (world_of base) → IsLegal (rules_of schema limits) base h → HasSoundTrees schema (world_of h)
legal_trees_are_sound schema limits base h sound legal = kept_by_legal (rules_of schema limits) (λ es. HasSoundTrees schema (world_of es)) (given_keeps_sound schema limits) base h sound legal

-- ---- bases

pub empty_is_base : (schema : List SchemaNode) (limits : Limits) → AreInRange limits → IsBase schema limits []
empty_is_base schema limits range =
    record { history = tt; bounded = no_entries_bounded; ahead = tt; room = new_log_has_room limits range; sound = record { tree = no_rows_are_sound schema; before = tt } }
  where
    no_entries_bounded : AreBounded []
    no_entries_bounded = All-nil IsBounded

pub closed_is_base : (schema : List SchemaNode) (limits : Limits) (h : List Entry) → IsHistory h → AreBounded h → IsWithin limits h → (world_of h).trial ≡ None → IsSound schema (world_of h).tree → IsBase schema limits h
closed_is_base schema limits h history bounded within none sound =
    record {
      history = history;
      bounded = bounded;
      ahead = subst (λ (trial : Option OpenTrial). IsAhead trial (stamp_of h)) (sym none) tt;
      room = subst (λ (trial : Option OpenTrial). CanClose limits h trial) (sym none) within;
      sound = record { tree = sound; before = subst (IsSoundBefore schema) (sym none) tt };
    }

pub legal_is_base : (schema : List SchemaNode) (limits : Limits) (base h : List Entry) → IsBase schema limits base → IsLegal (rules_of schema limits) base h → IsBase schema limits h
legal_is_base schema limits base h is legal =
    record {
      history = legal_is_history (rules_of schema limits) base h is.history legal;
      bounded = legal_is_bounded (rules_of schema limits) base h is.history is.bounded legal;
      ahead = legal_is_ahead (rules_of schema limits) base h is.ahead legal;
      room = legal_keeps_room schema limits base h is.room legal;
      sound = legal_trees_are_sound schema limits base h is.sound legal;
    }
