-- The rows that one of several patterns covers are among those that all of them cover.
use Rattle.std.proofs.Common.{◌≡◌, ℕ, List, [], ◌∷◌, ◌++◌, Bool, true, false, cond, length, filter, refl, sym, ap, ◌∙◌, subst, append_assoc}
use Rattle.std.specs.Prelude.{◌||◌, map, nat_lt, Err}
use Rattle.std.specs.List.{AllByRecursion, list_any}
use Rattle.std.proofs.lemmas.List.Folds.{list_any-append}
use Rattle.base_kinds.specs.declared.path.Elem.{Elem}
use Rattle.base_kinds.specs.declared.operation.Row.{Row}
use Rattle.base_kinds.specs.declared.refusal.Refusal.TheVariants as refusals
use Rattle.base_kinds.specs.Events.{is_empty_part}
use Rattle.base_kinds.specs.Match.{covers}
use Rattle.base_kinds.specs.Parts.{is_covered, part}
use Rattle.base_kinds.specs.Schema.{SchemaNode}
use Rattle.gnmi_kinds.specs.declared.ask.GetAsk.{GetAsk}
use Rattle.gnmi_get_msg.specs.Replies.{get_reply}
use Rattle.request_desk.specs.Gets.{notes_of, within_limit, reply_over}
use Rattle.request_desk.specs.Notes.{path_note}

-- ---- a filter behind one that keeps all that it keeps

kept_more : (p q : Row → Bool) (row : Row) (b : Bool) (front rest : List Row) → p row ≡ b → (q row ≡ true → b ≡ true)
    → filter q front ≡ filter q rest → filter q (cond b (row ∷ front) front) ≡ cond (q row) (row ∷ filter q rest) (filter q rest)
kept_more p q row true front rest is keeps same = ap (λ (rows : List Row). cond (q row) (row ∷ rows) rows) same
kept_more p q row false front rest is keeps same = same ∙ sym (dropped (q row) keeps)
  where
    dropped : (c : Bool) → (c ≡ true → false ≡ true) → cond c (row ∷ filter q rest) (filter q rest) ≡ filter q rest
    dropped true keeps = absurd (differ (keeps refl))
      where
        differ : false ≡ true → ⊥
        differ e = cc
    dropped false keeps = refl

kept : (p q : Row → Bool) → ((row : Row) → q row ≡ true → p row ≡ true) → (rows : List Row) → filter q (filter p rows) ≡ filter q rows
kept p q keeps [] = refl
kept p q keeps (row ∷ rows) = kept_more p q row (p row) (filter p rows) rows refl (keeps row) (kept p q keeps rows)

-- ---- each of the patterns

or_behind : (a b : Bool) → b ≡ true → (a || b) ≡ true
or_behind true b is = refl
or_behind false b is = is

or_front : (a b : Bool) → a ≡ true → (a || b) ≡ true
or_front true b is = refl
or_front false b is = absurd (differ is)
  where
    differ : false ≡ true → ⊥
    differ e = cc

or_none : (a : Bool) → (a || false) ≡ a
or_none true = refl
or_none false = refl

-- a path that a pattern among others covers is covered
covered_among : (before after : List (List Elem)) (pattern path : List Elem) → is_covered (pattern ∷ []) path ≡ true
    → is_covered (before ++ pattern ∷ after) path ≡ true
covered_among before after pattern path is =
    let test : List Elem → Bool = λ (p : List Elem). covers p path in
    list_any-append test before (pattern ∷ after)
    ∙ or_behind (list_any test before) (covers pattern path || list_any test after)
    (or_front (covers pattern path) (list_any test after) (sym (or_none (covers pattern path)) ∙ is))

-- its rows are the same in the part of all patterns
abbrev pub HasSamePart : List (List Elem) → List Row → List Elem → Type 0
HasSamePart patterns tree pattern = part (pattern ∷ []) (part patterns tree) ≡ part (pattern ∷ []) tree

same_part : (before after : List (List Elem)) (tree : List Row) (pattern : List Elem) → HasSamePart (before ++ pattern ∷ after) tree pattern
same_part before after tree pattern =
    kept (λ (row : Row). is_covered (before ++ pattern ∷ after) row.path) (λ (row : Row). is_covered (pattern ∷ []) row.path)
    (λ row is. covered_among before after pattern row.path is) tree

parts_behind : (before after : List (List Elem)) (tree : List Row) → AllByRecursion (HasSamePart (before ++ after) tree) after
parts_behind before [] tree = tt
parts_behind before (pattern ∷ after) tree = (
  same_part before after tree pattern,
  subst (λ (all : List (List Elem)). AllByRecursion (HasSamePart all tree) after) (append_assoc before (pattern ∷ []) after)
      (parts_behind (before ++ pattern ∷ []) after tree),
)

pub same_parts : (patterns : List (List Elem)) (tree : List Row) → AllByRecursion (HasSamePart patterns tree) patterns
same_parts patterns tree = parts_behind [] patterns tree

-- ---- what is said of each by its part alone

pub any_by_part : (patterns some : List (List Elem)) (tree : List Row) (test : List Row → List Elem → Bool) → AllByRecursion (HasSamePart patterns tree) some
    → list_any (λ path. test (part (path ∷ []) (part patterns tree)) path) some ≡ list_any (λ path. test (part (path ∷ []) tree) path) some
any_by_part patterns [] tree test same = refl
any_by_part patterns (path ∷ paths) tree test same =
    ap (λ (rows : List Row). test rows path || list_any (λ p. test (part (p ∷ []) (part patterns tree)) p) paths) same.0
    ∙ ap (λ (b : Bool). test (part (path ∷ []) tree) path || b) (any_by_part patterns paths tree test same.1)

pub map_by_part : {A : Type 0} (patterns some : List (List Elem)) (tree : List Row) (f : List Row → List Elem → A) → AllByRecursion (HasSamePart patterns tree) some
    → map (λ path. f (part (path ∷ []) (part patterns tree)) path) some ≡ map (λ path. f (part (path ∷ []) tree) path) some
map_by_part patterns [] tree f same = refl
map_by_part {A} patterns (path ∷ paths) tree f same =
    ap (λ (rows : List Row). f rows path ∷ map (λ p. f (part (p ∷ []) (part patterns tree)) p) paths) same.0
    ∙ ap (λ (others : List A). f (part (path ∷ []) tree) path ∷ others) (map_by_part patterns paths tree f same.1)

-- ---- the reply over the rows that all paths cover is that over the whole tree

pub same_reply : (schema : List SchemaNode) (ask : GetAsk) (paths : List (List Elem)) (stamp : ℕ) (tree : List Row)
    → reply_over schema ask paths stamp (part paths tree) ≡ reply_over schema ask paths stamp tree
unfolding reply_over
same_reply schema ask paths stamp tree =
    let same = same_parts paths tree in
    let empty = any_by_part paths paths tree (λ (rows : List Row) (path : List Elem). nat_lt (length rows) 1) same in
    let notes = map_by_part {A = List ℕ} paths paths tree (λ (rows : List Row) (path : List Elem). path_note schema ask stamp path rows) same in
    ap (λ (b : Bool). cond b (Err refusals.NotFound) (within_limit (get_reply (notes_of schema ask paths stamp (part paths tree))))) empty
    ∙ ap (λ (octets : List (List ℕ)). cond (list_any (is_empty_part tree) paths) (Err refusals.NotFound) (within_limit (get_reply octets))) notes
