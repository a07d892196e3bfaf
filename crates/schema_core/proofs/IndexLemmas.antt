-- The order of the numbers: where names stand in it, and one number more.
use Rattle.std.proofs.Common.{◌≡◌, ℕ, ◌+◌, ◌-◌, ◌<◌, ◌≤◌, length, take, List, [], ◌∷◌, ◌++◌, false, Option, Some, None, IsTrue, refl, ap, sym, ◌∙◌, subst, arith, true≢false, length-append, ◌⊎◌, inl, inr}
use Rattle.std.specs.Prelude.{slice_get, slice_index, insert}
use Rattle.std.specs.declared.cmp.Ordering.{Ordering}
use Rattle.std.specs.declared.cmp.Ordering.TheVariants.{Less, Equal, Greater}
use Rattle.std.specs.Ordering.{nat_cmp, ordering_reverse, is_eq}
use Rattle.std.specs.Cmp.{IsTotalOrder}
use Rattle.std.specs.Cmp.Lexicographic.{slice_cmp, lists_ties, texts_ties}
use Rattle.std.proofs.lemmas.Cmp.{nat_list_cmp_total, lists_total, tied_itself}
use Rattle.std.proofs.lemmas.Bool.{cases_lt, cases_order}
use Rattle.std.proofs.lemmas.List.Edits.{length-insert, get_or-insert_below, get_or-insert_at, get_or-insert_above}
use Rattle.base_kinds.specs.Schema.{SchemaNode, node_of}
use Rattle.schema_core.specs.Nodes.{names_at, has_parent}
use Rattle.schema_core.specs.inner.Index.{names_cmp, names_in, IsSortedIndex, IsBetween}
use Rattle.schema_core.proofs.NodeLemmas.{same_decides, no_some, names_of_got, got, got_within, first_is, stands_there, names_front, names_end, placed_more}

pub names_total : IsTotalOrder names_cmp
names_total = lists_total nat_list_cmp_total

pub names_exact : (a b : List (List ℕ)) → names_cmp a b ≡ Equal → a ≡ b
names_exact a b is = (same_decides a b).0 (lists_ties (slice_cmp nat_cmp) texts_ties a b ∙ ap is_eq is)

turned : (a b : List (List ℕ)) → names_cmp a b ≡ Greater → names_cmp b a ≡ Less
turned a b is = names_total.antisymm b a ∙ ap ordering_reverse is

turned_back : (a b : List (List ℕ)) → names_cmp a b ≡ Less → names_cmp b a ≡ Greater
turned_back a b is = names_total.antisymm b a ∙ ap ordering_reverse is

-- ---- the search

pub whole : (nodes : List SchemaNode) (order : List ℕ) (names : List (List ℕ)) → IsBetween nodes order names 0 (length order)
whole nodes order names = record { ordered = omega arith; inside = omega arith; below = λ place less. absurd (omega arith); above = λ place from less. absurd (omega arith) }

pub before_middle : (nodes : List SchemaNode) (order : List ℕ) (names : List (List ℕ)) (low high middle : ℕ) → IsSortedIndex nodes order → IsBetween nodes order names low high → low ≤ middle → middle < high → names_cmp names (names_in nodes order middle) ≡ Less → IsBetween nodes order names low middle
before_middle nodes order names low high middle kept between from less is =
    let inside = between.inside in
    record {
      ordered = from;
      inside = omega (arith, inside);
      below = between.below;
      above = λ place above short.
          elim (cases_lt middle place) [
            | inl behind ↦ names_total.trans names (names_in nodes order middle) (names_in nodes order place) is (kept.rising middle place behind short)
            | inr here ↦ let e : middle ≡ place = omega (arith, here, above) in ap (λ k. names_cmp names (names_in nodes order k)) (sym e) ∙ is
          ];
    }

pub behind_middle : (nodes : List SchemaNode) (order : List ℕ) (names : List (List ℕ)) (low high middle : ℕ) → IsSortedIndex nodes order → IsBetween nodes order names low high → low ≤ middle → middle < high → names_cmp names (names_in nodes order middle) ≡ Greater → IsBetween nodes order names (middle + 1) high
behind_middle nodes order names low high middle kept between from less is =
    let inside = between.inside in
    record {
      ordered = omega (arith, less);
      inside = inside;
      below = λ place short.
          elim (cases_lt place middle) [
            | inl before ↦ turned_back (names_in nodes order place) names (names_total.trans (names_in nodes order place) (names_in nodes order middle) names (kept.rising place middle before (omega (arith, less, inside))) (turned names (names_in nodes order middle) is))
            | inr here ↦ let e : middle ≡ place = omega (arith, here, short) in ap (λ k. names_cmp names (names_in nodes order k)) (sym e) ∙ is
          ];
      above = between.above;
    }

-- names that stand in the order are those of the node with the number there
pub found_there : (nodes : List SchemaNode) (order : List ℕ) (names : List (List ℕ)) (place : ℕ) → IsSortedIndex nodes order → place < length order → names_cmp names (names_in nodes order place) ≡ Equal → (names_in nodes order place ≡ names) × (node_of nodes names ≡ slice_get nodes (slice_index order place))
found_there nodes order names place kept less is =
    let number = slice_index order place in
    let same : names ≡ names_at nodes number = names_exact names (names_at nodes number) is in
    let there = got nodes number (kept.within place less) in
    let own : names_at nodes number ≡ there.0.names = names_of_got nodes number there.0 there.1 in
    let first = first_is nodes number there.0 there.1 ((kept.placed number there.0 there.1).fresh) in
    (sym same, ap (node_of nodes) (same ∙ own) ∙ first ∙ sym there.1)

-- and so such names are those of some node
pub present_there : (nodes : List SchemaNode) (order : List ℕ) (names : List (List ℕ)) (place : ℕ) → IsSortedIndex nodes order → place < length order → names_cmp names (names_in nodes order place) ≡ Equal → node_of nodes names ≡ None → ⊥
present_there nodes order names place kept less is none =
    let there = got nodes (slice_index order place) (kept.within place less) in
    no_some there.0 (sym there.1 ∙ sym (found_there nodes order names place kept less is).1 ∙ none)

not_equal : {G : Type 0} (names : List (List ℕ)) (o : Ordering) → is_eq o ≡ false → names_cmp names names ≡ o → G
not_equal names o apart is = absurd (true≢false (sym (ap is_eq (tied_itself names_total names)) ∙ ap is_eq is ∙ apart))

-- names with a gap in the order are those of no node
pub absent_there : (nodes : List SchemaNode) (order : List ℕ) (names : List (List ℕ)) (gap : ℕ) → IsSortedIndex nodes order → IsBetween nodes order names gap gap → node_of nodes names ≡ None
absent_there nodes order names gap kept between = by (node_of nodes names) refl
  where
    here : (node : SchemaNode) (number : ℕ) → slice_get nodes number ≡ Some node → node.names ≡ names → node_of nodes names ≡ None
    here node number is named =
        let there = kept.complete number (got_within nodes number node is) in
        let own : names_in nodes order there.0 ≡ names = ap (names_at nodes) there.2 ∙ names_of_got nodes number node is ∙ named in
        elim (cases_lt there.0 gap) [
          | inl low ↦ not_equal names Greater refl (ap (names_cmp names) (sym own) ∙ between.below there.0 low)
          | inr high ↦ not_equal names Less refl (ap (names_cmp names) (sym own) ∙ between.above there.0 high there.1)
        ]

    by : (o : Option SchemaNode) → node_of nodes names ≡ o → node_of nodes names ≡ None
    by None is = is
    by (Some node) is = let there = stands_there nodes names node is in here node there.0 there.1 there.2

-- ---- laws of every schema

pub own_names : (nodes : List SchemaNode) (order : List ℕ) → IsSortedIndex nodes order → (number : ℕ) → number < length nodes → node_of nodes (names_at nodes number) ≡ slice_get nodes number
own_names nodes order kept number less =
    let there = got nodes number less in
    ap (node_of nodes) (names_of_got nodes number there.0 there.1) ∙ first_is nodes number there.0 there.1 ((kept.placed number there.0 there.1).fresh) ∙ sym there.1

pub names_distinct : (nodes : List SchemaNode) (order : List ℕ) → IsSortedIndex nodes order → (i j : ℕ) → i < length nodes → j < length nodes → names_at nodes i ≡ names_at nodes j → i ≡ j
names_distinct nodes order kept i j less short same =
    let first = kept.complete i less in
    let second = kept.complete j short in
    let level : names_in nodes order first.0 ≡ names_in nodes order second.0 = ap (names_at nodes) first.2 ∙ same ∙ sym (ap (names_at nodes) second.2) in
    let back : names_in nodes order second.0 ≡ names_in nodes order first.0 = sym level in
    elim (cases_order first.0 second.0) [
      | inl there ↦ sym first.2 ∙ ap (slice_index order) there ∙ second.2
      | inr apart ↦ elim apart [
        | inl below ↦ not_equal (names_in nodes order first.0) Less refl (ap (names_cmp (names_in nodes order first.0)) level ∙ kept.rising first.0 second.0 below second.1)
        | inr above ↦ not_equal (names_in nodes order second.0) Less refl (ap (names_cmp (names_in nodes order second.0)) back ∙ kept.rising second.0 first.0 above first.1)
      ]
    ]

pub parent_before : (nodes : List SchemaNode) (order : List ℕ) → IsSortedIndex nodes order → (number : ℕ) → number < length nodes → IsTrue (has_parent (take number nodes) (names_at nodes number))
parent_before nodes order kept number less =
    let there = got nodes number less in
    let P : List (List ℕ) → Type 0 = λ names. IsTrue (has_parent (take number nodes) names) in
    subst P (sym (names_of_got nodes number there.0 there.1)) ((kept.placed number there.0 there.1).parent)

-- ---- one number more

-- a place below the new one, the new one, or one behind it
Side : ℕ → ℕ → Type 0
Side at place = (place < at) ⊎ ((place ≡ at) ⊎ ((before : ℕ) × (place ≡ before + 1) × (at ≤ before)))

side_of : (at place : ℕ) → Side at place
unfolding Side
side_of at place =
    elim (cases_order place at) [
      | inl same ↦ inr (inl same)
      | inr apart ↦ elim apart [ inl below ↦ inl below | inr above ↦ inr (inr (place - 1, omega (arith, above), omega (arith, above))) ]
    ]

module _ (nodes : List SchemaNode) (node : SchemaNode) (order : List ℕ) (at : ℕ) (kept : IsSortedIndex nodes order) (between : IsBetween nodes order node.names at at) where
  more : List SchemaNode
  more = nodes ++ node ∷ []

  longer : List ℕ
  longer = insert order at (length nodes)

  name_below : (place : ℕ) → place < at → names_in more longer place ≡ names_in nodes order place
  unfolding more longer
  name_below place less =
      let inside = between.inside in
      ap (names_at more) (get_or-insert_below order at (length nodes) 0 place less inside) ∙ names_front nodes node (slice_index order place) (kept.within place (omega (arith, less, inside)))

  name_here : names_in more longer at ≡ node.names
  unfolding more longer
  name_here = ap (names_at more) (get_or-insert_at order at (length nodes) 0 between.inside) ∙ names_end nodes node

  name_above : (place : ℕ) → at ≤ place → place < length order → names_in more longer (place + 1) ≡ names_in nodes order place
  unfolding more longer
  name_above place from less = ap (names_at more) (get_or-insert_above order at (length nodes) 0 place from between.inside) ∙ names_front nodes node (slice_index order place) (kept.within place less)

  number_below : (place : ℕ) → place < at → slice_index longer place ≡ slice_index order place
  unfolding longer
  number_below place less = get_or-insert_below order at (length nodes) 0 place less between.inside

  number_here : slice_index longer at ≡ length nodes
  unfolding longer
  number_here = get_or-insert_at order at (length nodes) 0 between.inside

  number_above : (place : ℕ) → at ≤ place → slice_index longer (place + 1) ≡ slice_index order place
  unfolding longer
  number_above place from = get_or-insert_above order at (length nodes) 0 place from between.inside

  length_longer : length longer ≡ length order + 1
  unfolding longer
  length_longer = length-insert order at (length nodes) between.inside

  length_more : length more ≡ length nodes + 1
  unfolding more
  length_more = length-append nodes (node ∷ []) ∙ omega arith

  less_by : (a b c d : List (List ℕ)) → a ≡ c → b ≡ d → names_cmp c d ≡ Less → names_cmp a b ≡ Less
  less_by a b c d first second is = (λ i. names_cmp (first i) (second i)) ∙ is

  rises : (i j : ℕ) → i < j → j < length longer → names_cmp (names_in more longer i) (names_in more longer j) ≡ Less
  unfolding Side
  rises i j less short =
      let inside = between.inside in
      let total = length_longer in
      let end : j < length order + 1 = omega (arith, short, total) in
      elim (side_of at i) [
        | inl low ↦ elim (side_of at j) [
          | inl below ↦ less_by _ _ _ _ (name_below i low) (name_below j below) (kept.rising i j less (omega (arith, below, inside)))
          | inr rest ↦ elim rest [
            | inl same ↦ less_by _ _ _ _ (name_below i low) (ap (names_in more longer) same ∙ name_here) (turned node.names (names_in nodes order i) (between.below i low))
            | inr above ↦ less_by _ _ _ _ (name_below i low) (ap (names_in more longer) above.1 ∙ name_above above.0 above.2 (let e = above.1 in omega (arith, e, end))) (kept.rising i above.0 (let e = above.2 in omega (arith, e, low)) (let e = above.1 in omega (arith, e, end)))
          ]
        ]
        | inr later ↦ elim later [
          | inl here ↦ elim (side_of at j) [
            | inl below ↦ absurd (omega (arith, below, here, less))
            | inr rest ↦ elim rest [
              | inl same ↦ absurd (omega (arith, same, here, less))
              | inr above ↦ less_by _ _ _ _ (ap (names_in more longer) here ∙ name_here) (ap (names_in more longer) above.1 ∙ name_above above.0 above.2 (let e = above.1 in omega (arith, e, end))) (between.above above.0 above.2 (let e = above.1 in omega (arith, e, end)))
            ]
          ]
          | inr high ↦ elim (side_of at j) [
            | inl below ↦ absurd (let e = high.1 in let f = high.2 in omega (arith, below, e, f, less))
            | inr rest ↦ elim rest [
              | inl same ↦ absurd (let e = high.1 in let f = high.2 in omega (arith, same, e, f, less))
              | inr above ↦
                  let e = high.1 in
                  let f = above.1 in
                  less_by _ _ _ _ (ap (names_in more longer) high.1 ∙ name_above high.0 high.2 (omega (arith, e, f, less, end))) (ap (names_in more longer) above.1 ∙ name_above above.0 above.2 (omega (arith, f, end))) (kept.rising high.0 above.0 (omega (arith, e, f, less)) (omega (arith, f, end)))
            ]
          ]
        ]
      ]

  stays_within : (place : ℕ) → place < length longer → slice_index longer place < length more
  unfolding Side
  stays_within place short =
      let inside = between.inside in
      let total = length_longer in
      let count = length_more in
      elim (side_of at place) [
        | inl low ↦ let e = number_below place low in let w = kept.within place (omega (arith, low, inside)) in omega (arith, e, w, count)
        | inr later ↦ elim later [
          | inl here ↦ let e : slice_index longer place ≡ length nodes = ap (slice_index longer) here ∙ number_here in omega (arith, e, count)
          | inr high ↦
              let f = high.1 in
              let e : slice_index longer place ≡ slice_index order high.0 = ap (slice_index longer) high.1 ∙ number_above high.0 high.2 in
              let w = kept.within high.0 (omega (arith, f, short, total)) in
              omega (arith, e, w, count)
        ]
      ]

  stays_complete : (number : ℕ) → number < length more → (place : ℕ) × (place < length longer) × (slice_index longer place ≡ number)
  stays_complete number short =
      let inside = between.inside in
      let total = length_longer in
      let count = length_more in
      elim (cases_lt number (length nodes)) [
        | inl old ↦
            let there = kept.complete number old in
            let bound = there.1 in
            elim (cases_lt there.0 at) [
              | inl low ↦ (there.0, omega (arith, bound, total), number_below there.0 low ∙ there.2)
              | inr high ↦ (there.0 + 1, omega (arith, bound, total), number_above there.0 high ∙ there.2)
            ]
        | inr new ↦ (at, omega (arith, inside, total), number_here ∙ omega (arith, new, short, count))
      ]

-- a node that has its place, put at the end, with its number in the gap
pub kept_more : (nodes : List SchemaNode) (node : SchemaNode) (order : List ℕ) (at : ℕ) → IsSortedIndex nodes order → IsBetween nodes order node.names at at → length nodes < 4096 → node_of nodes node.names ≡ None → IsTrue (has_parent nodes node.names) → IsSortedIndex (nodes ++ node ∷ []) (insert order at (length nodes))
unfolding more longer
kept_more nodes node order at kept between room fresh parent =
    let count = length_more nodes node order at kept between in
    record {
      placed = placed_more nodes node kept.placed (record { fresh = fresh; parent = parent });
      few = omega (arith, count, room);
      rising = rises nodes node order at kept between;
      within = stays_within nodes node order at kept between;
      complete = stays_complete nodes node order at kept between;
    }

-- the same where the nodes and the order are known by equations
pub kept_then : (nodes before with_it : List SchemaNode) (node : SchemaNode) (order numbers : List ℕ) (at : ℕ) → IsSortedIndex nodes order → IsBetween nodes order node.names at at → nodes ≡ before → length before < 4096 → node_of before node.names ≡ None → IsTrue (has_parent before node.names) → with_it ≡ nodes ++ node ∷ [] → numbers ≡ insert order at (length nodes) → IsSortedIndex with_it numbers
kept_then nodes before with_it node order numbers at kept between same room fresh parent added inserted =
    let P : List SchemaNode → Type 0 = λ ns. length ns < 4096 in
    let Q : List SchemaNode → Type 0 = λ ns. node_of ns node.names ≡ None in
    let R : List SchemaNode → Type 0 = λ ns. IsTrue (has_parent ns node.names) in
    let here = kept_more nodes node order at kept between (subst P (sym same) room) (subst Q (sym same) fresh) (subst R (sym same) parent) in
    let S : List SchemaNode → Type 0 = λ ns. IsSortedIndex ns (insert order at (length nodes)) in
    let T : List ℕ → Type 0 = λ ns. IsSortedIndex with_it ns in
    subst T (sym inserted) (subst S (sym added) here)
