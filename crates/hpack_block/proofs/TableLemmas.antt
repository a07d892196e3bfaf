-- Entries that are evicted, and the room that the others leave.
use Rattle.std.proofs.Common.{◌≡◌, ℕ, zero, suc, ◌+◌, ◌-◌, ◌<◌, ◌≤◌, Bool, true, false, cond, leb, List, [], ◌∷◌, ◌++◌, length, map, take, drop, get_or, Option, Some, None, refl, sym, ap, ◌∙◌, subst, arith}
use Rattle.std.proofs.lemmas.Bool.{leb-true, le-leb, lt-leb}
use Rattle.std.proofs.lemmas.List.{get_or-drop, get_or-take, get_or-map, length-map, length-take, length-drop}
use Rattle.std.proofs.lemmas.Option.{slice_get-get_or}
use Rattle.std.proofs.lemmas.List.Sums.{sum_by-cons, sum_by_push}
use Rattle.std.specs.Prelude.{slice_get}
use Rattle.hpack_block.specs.declared.header.Header.{Header}
use Rattle.hpack_block.specs.StaticTable.{static_table}
use Rattle.hpack_block.specs.Tables.{Table, size_of, size_of_all, fitting_entries, entry_at}
use Rattle.hpack_block.specs.inner.Gathering.{room_beside}

abbrev pub table_of : List Header → ℕ → Table
table_of entries maximum = record { entries = entries; maximum = maximum }

pub static_length : length static_table ≡ 61
unfolding static_table
static_length = refl

pub slice_get-left : (xs ys : List Header) (i : ℕ) → i < length xs → slice_get (xs ++ ys) i ≡ slice_get xs i
slice_get-left [] ys i lt = absurd (omega arith)
slice_get-left (x ∷ xs) ys zero lt = refl
slice_get-left (x ∷ xs) ys (suc i) lt = slice_get-left xs ys i (omega arith)

slice_get-right : (xs ys : List Header) (i n : ℕ) → length xs ≡ n → n ≤ i → slice_get (xs ++ ys) i ≡ slice_get ys (i - n)
slice_get-right [] ys i n e le = let none : i ≡ i - n = omega (arith, e) in ap (slice_get ys) none
slice_get-right (x ∷ xs) ys zero n e le = absurd (omega (arith, e, le))
slice_get-right (x ∷ xs) ys (suc i) n e le =
    let less : length xs ≡ n - 1 = omega (arith, e) in
    let same : i - (n - 1) ≡ suc i - n = omega (arith, e, le) in
    slice_get-right xs ys i (n - 1) less (omega (arith, e, le)) ∙ ap (slice_get ys) same

-- what the first entries have, and those behind them
pub first_at : {A : Type 0} (f : A → Header) (xs : List A) (place : ℕ) (d : A) → map f xs ≡ take 16 static_table → place < length xs
    → slice_get static_table place ≡ Some (f (get_or xs place d))
first_at f xs place d same lt =
    let within : place < 16 = omega (arith, lt, length-map xs f, ap length same, length-take 16 static_table, static_length) in
    slice_get-get_or static_table place (f d) (omega (arith, within, static_length))
    ∙ ap (λ (h : Header). Some h) (sym (get_or-take 16 static_table place (f d) within) ∙ ap (λ (hs : List Header). get_or hs place (f d)) (sym same) ∙ get_or-map f xs place d (f d) lt)

pub other_at : {A : Type 0} (f : A → Header) (xs : List A) (place : ℕ) (d : A) → map f xs ≡ drop 16 static_table → place < length xs
    → slice_get static_table (16 + place) ≡ Some (f (get_or xs place d))
other_at f xs place d same lt =
    slice_get-get_or static_table (16 + place) (f d) (omega (arith, lt, length-map xs f, ap length same, length-drop 16 static_table, static_length))
    ∙ ap (λ (h : Header). Some h) (sym (get_or-drop 16 static_table place (f d)) ∙ ap (λ (hs : List Header). get_or hs place (f d)) (sym same) ∙ get_or-map f xs place d (f d) lt)

-- all are kept where all fit
pub kept_all : (room : ℕ) (entries : List Header) → size_of_all entries ≤ room → fitting_entries room entries ≡ entries
kept_all room [] le = refl
kept_all room (entry ∷ entries) le =
    let whole = sum_by-cons size_of entry entries in
    let fits : size_of entry ≤ room = omega (arith, whole, le) in
    let here : leb (size_of entry) room ≡ true = le-leb (size_of entry) room fits in
    let more = kept_all (room - size_of entry) entries (omega (arith, whole, le)) in
    rw here (ap (λ (es : List Header). entry ∷ es) more)

by_room : {A : Type 0} (b : Bool) (x y z : A) → (b ≡ true → x ≡ y) → cond b x z ≡ cond b y z
by_room true x y z h = h refl
by_room false x y z h = refl

-- the oldest is evicted where not all fit
pub kept_fewer : (room : ℕ) (entries : List Header) (oldest : Header) → room < size_of_all (entries ++ oldest ∷ []) → fitting_entries room (entries ++ oldest ∷ []) ≡ fitting_entries room entries
kept_fewer room [] oldest lt =
    let whole = sum_by-cons size_of oldest [] in
    let here : leb (size_of oldest) room ≡ false = lt-leb (size_of oldest) room (omega (arith, whole, lt)) in
    rw here refl
kept_fewer room (entry ∷ entries) oldest lt =
    let whole = sum_by-cons size_of entry (entries ++ oldest ∷ []) in
    by_room (leb (size_of entry) room) (entry ∷ fitting_entries (room - size_of entry) (entries ++ oldest ∷ [])) (entry ∷ fitting_entries (room - size_of entry) entries) []
    (λ e.
    let le : size_of entry ≤ room = leb-true (size_of entry) room e in
    ap (λ (es : List Header). entry ∷ es) (kept_fewer (room - size_of entry) entries oldest (omega (arith, whole, lt, le))))

fits_by_room : (b : Bool) (room : ℕ) (entry : Header) (rest : List Header) → (b ≡ true → size_of entry ≤ room) → (b ≡ true → size_of_all rest ≤ room - size_of entry) → size_of_all (cond b (entry ∷ rest) []) ≤ room
fits_by_room true room entry rest here more =
    let whole = sum_by-cons size_of entry rest in
    let le = here refl in
    let left = more refl in
    omega (arith, whole, le, left)
fits_by_room false room entry rest here more = omega arith

-- what is kept has room
pub kept_within : (room : ℕ) (entries : List Header) → size_of_all (fitting_entries room entries) ≤ room
kept_within room [] = omega arith
kept_within room (entry ∷ entries) =
    fits_by_room (leb (size_of entry) room) room entry (fitting_entries (room - size_of entry) entries)
    (leb-true (size_of entry) room) (λ e. kept_within (room - size_of entry) entries)

-- ---- the dynamic table

-- one entry is evicted
pub record Evicted (most : ℕ) (entries rest : List Header) (room maximum : ℕ) : Type 0 where
  pub same : fitting_entries most rest ≡ fitting_entries most entries
  pub size : size_of_all rest + room ≡ maximum

pub evicted_one : (most : ℕ) (entries rest : List Header) (oldest : Header) (room maximum : ℕ) → entries ≡ rest ++ oldest ∷ []
    → size_of_all entries + room ≡ maximum → most < maximum - room → Evicted most entries rest (room + size_of oldest) maximum
evicted_one most entries rest oldest room maximum e size lt =
    let whole : size_of_all entries ≡ size_of_all rest + size_of oldest = ap size_of_all e ∙ sum_by_push size_of rest oldest in
    let more : most < size_of_all (rest ++ oldest ∷ []) = subst (λ (es : List Header). most < size_of_all es) e (omega (arith, size, lt)) in
    record {
      same = sym (kept_fewer most rest oldest more) ∙ ap (fitting_entries most) (sym e);
      size = omega (arith, size, whole);
    }

pub evicted_all : (most : ℕ) (entries first : List Header) (room maximum m : ℕ) → fitting_entries most entries ≡ fitting_entries most first
    → size_of_all entries + room ≡ maximum → maximum - room ≤ most → maximum ≡ m → table_of entries maximum ≡ table_of (fitting_entries most first) m
evicted_all most entries first room maximum m same size le e =
    let fits : size_of_all entries ≤ most = omega (arith, size, le) in
    ap (λ (es : List Header). table_of es maximum) (sym (kept_all most entries fits) ∙ same) ∙ ap (table_of (fitting_entries most first)) e

pub size_kept : (most : ℕ) (entries first : List Header) → entries ≡ fitting_entries most first → size_of_all entries ≤ most
size_kept most entries first e = subst (λ (es : List Header). size_of_all es ≤ most) (sym e) (kept_within most first)

by_cond : {A : Type 0} (b : Bool) (x : A) (y : A) → Some y ≡ cond b (Some x) None → (b ≡ true) × (y ≡ x)
by_cond {A = A} true x y e = (refl, inside e)
  where
    inside : ◌≡◌ {A = Option A} (Some y) (Some x) → y ≡ x
    inside h = cc
by_cond false x y e = absurd cc

-- an entry has room
pub room_is : (most : ℕ) (header : Header) (room : ℕ) → Some room ≡ room_beside most header → room + size_of header ≡ most
room_is most header room e =
    let p = by_cond (leb (size_of header) most) (most - size_of header) room e in
    let le : size_of header ≤ most = leb-true _ _ p.0 in
    omega (arith, p.1, le)

pub size_more : (header : Header) (entries new : List Header) → new ≡ header ∷ entries → size_of_all new ≡ size_of header + size_of_all entries
size_more header entries new e = ap size_of_all e ∙ sum_by-cons size_of header entries

-- ---- indices

pub entry_at-past : (table : Table) (index : ℕ) → (index ≡ 0 → ⊥) → 61 ≤ index - 1 → None ≡ slice_get table.entries (index - 1 - 61) → None ≡ entry_at table index
entry_at-past table zero some le none = absurd (some refl)
entry_at-past table (suc place) some le none =
    let at : suc place - 1 - 61 ≡ place - 61 = omega arith in
    none ∙ ap (slice_get table.entries) at ∙ sym (slice_get-right static_table table.entries place 61 static_length (omega arith))

pub entry_at-dynamic : (table : Table) (index : ℕ) (header : Header) → (index ≡ 0 → ⊥) → 61 ≤ index - 1 → Some header ≡ slice_get table.entries (index - 1 - 61) → Some header ≡ entry_at table index
entry_at-dynamic table zero header some le is = absurd (some refl)
entry_at-dynamic table (suc place) header some le is =
    let at : suc place - 1 - 61 ≡ place - 61 = omega arith in
    is ∙ ap (slice_get table.entries) at ∙ sym (slice_get-right static_table table.entries place 61 static_length (omega arith))

pub entry_at-first : (table : Table) (index : ℕ) (header : Header) → (index ≡ 0 → ⊥) → index - 1 < 61 → slice_get static_table (index - 1) ≡ Some header → Some header ≡ entry_at table index
entry_at-first table zero header some lt is = absurd (some refl)
entry_at-first table (suc place) header some lt is =
    let at : suc place - 1 ≡ place = omega arith in
    sym is ∙ ap (slice_get static_table) at ∙ sym (slice_get-left static_table table.entries place (omega (arith, static_length, lt)))
