-- What a lock keeps of its book, read as a history and marks.
use Rattle.std.proofs.Common.{◌≡◌, ◌≢◌, ℕ, ◌+◌, ◌<◌, List, [], ◌∷◌, ◌++◌, length, drop, refl, sym, ap, ◌∙◌, arith, length-append, eq-eqb, ne_eqb, if◌then◌else◌}
use Rattle.std.proofs.Math.Seq.{drop-append_seam}
use mathlib.Core.Logic.{dite}
use mathlib.Core.List.{IsPrefix}
use native.Mathlib.Decide.{ℕ_discrete}
use Rattle.base_kinds.specs.declared.entry.Entry.{Entry}
use Rattle.book_port.specs.declared.happening.Happening.{Happening}
use Rattle.book_port.specs.declared.happening.Happening.TheVariants.{Entered, Marked}
use Rattle.book_port.specs.Chronicles.{history_of, marks_of}
use Rattle.book_port.specs.Chronicles as chronicles
use Rattle.book_port.specs.Opened.{Opened}
use Rattle.book_port.proofs.Chronicled.{history_of_more, marks_of_more}
use Rattle.book_core.specs.Views.{BookView, history_in}
use Rattle.turn_lock.specs.Chronicles.{entries_by, entries_past}
use Rattle.turn_lock.specs.Passes.{occurrences}
use Rattle.turn_lock.proofs.Counts.{times_hit, times_miss, by_hit, by_miss}
use Rattle.turn_lock.proofs.Prefixes.{past_prefix}
use Rattle.shared_book.specs.declared.item.SharedItem.{SharedItem}
use Rattle.shared_book.specs.declared.item.SharedItem.TheVariants as items
use Rattle.shared_book.specs.Items.{opened_item, happened_items, items_of, item_author, happenings_in, history_shared, marks_shared, opened_in}

pub happenings_more : (xs ys : List SharedItem) → happenings_in (xs ++ ys) ≡ happenings_in xs ++ happenings_in ys
happenings_more [] ys = refl
happenings_more (items.Opened opened ∷ xs) ys = happenings_more xs ys
happenings_more (items.Happened happening ∷ xs) ys = ap (λ l. happening ∷ l) (happenings_more xs ys)

pub happenings_all : (hs : List Happening) → happenings_in (happened_items hs) ≡ hs
happenings_all [] = refl
happenings_all (h ∷ hs) = ap (λ l. h ∷ l) (happenings_all hs)

pub history_more : (xs ys : List SharedItem) → history_shared (xs ++ ys) ≡ history_shared xs ++ history_shared ys
history_more xs ys = ap history_of (happenings_more xs ys) ∙ history_of_more (happenings_in xs) (happenings_in ys)

pub marks_more : (xs ys : List SharedItem) → marks_shared (xs ++ ys) ≡ marks_shared xs + marks_shared ys
marks_more xs ys = ap (λ hs. length (marks_of hs)) (happenings_more xs ys) ∙ ap length (marks_of_more (happenings_in xs) (happenings_in ys)) ∙ length-append (marks_of (happenings_in xs)) (marks_of (happenings_in ys))

pub history_items : {D : Type 0} (book : BookView D) → history_shared (items_of book) ≡ history_in book
history_items book = ap history_of (happenings_all book.chronicle)

pub marks_items : {D : Type 0} (book : BookView D) → marks_of (happenings_in (items_of book)) ≡ marks_of book.chronicle
marks_items book = ap marks_of (happenings_all book.chronicle)

-- a longer list begins with the same
pub opened_longer : (opened : Opened) (l : List SharedItem) → IsPrefix (opened_item opened ∷ []) l → opened_in l ≡ opened
opened_longer opened l p = ap opened_in (sym p.1)

dropped : (xs ys : List Entry) → drop (length xs) (xs ++ ys) ≡ ys
dropped xs ys = drop-append_seam xs ys

-- the history past a front is the history of what is past it
pub history_past : (xs ys : List SharedItem) → IsPrefix xs ys → history_shared (entries_past xs ys) ≡ drop (length (history_shared xs)) (history_shared ys)
history_past xs ys p =
    sym (dropped (history_shared xs) (history_shared (entries_past xs ys)))
    ∙ ap (drop (length (history_shared xs))) (sym (history_more xs (entries_past xs ys)) ∙ ap history_shared (past_prefix xs ys p))

pub history_grows : (xs ys : List SharedItem) → IsPrefix xs ys → history_shared ys ≡ history_shared xs ++ history_shared (entries_past xs ys)
history_grows xs ys p = ap history_shared (sym (past_prefix xs ys p)) ∙ history_more xs (entries_past xs ys)

own_hit : (n : ℕ) (e : Entry) (es : List Entry) → e.author ≡ n → chronicles.entries_by n (e ∷ es) ≡ e ∷ chronicles.entries_by n es
own_hit n e es is = ap (λ b. if b then e ∷ chronicles.entries_by n es else chronicles.entries_by n es) (eq-eqb e.author n is)

own_miss : (n : ℕ) (e : Entry) (es : List Entry) → e.author ≢ n → chronicles.entries_by n (e ∷ es) ≡ chronicles.entries_by n es
own_miss n e es ne = ap (λ b. if b then e ∷ chronicles.entries_by n es else chronicles.entries_by n es) (ne_eqb e.author n ne)

-- the history of an author's items is the author's entries
pub history_by : (n : ℕ) (l : List SharedItem) → 0 < n → history_shared (entries_by item_author n l) ≡ chronicles.entries_by n (history_shared l)
history_by n [] pos = refl
history_by n (items.Opened opened ∷ l) pos = ap history_shared (by_miss item_author n (items.Opened opened) l (λ is. omega arith)) ∙ history_by n l pos
history_by n (items.Happened (Entered e) ∷ l) pos = dite (ℕ_discrete e.author n)
    (λ is. ap history_shared (by_hit item_author n (items.Happened (Entered e)) l is) ∙ ap (λ h. e ∷ h) (history_by n l pos) ∙ sym (own_hit n e (history_shared l) is))
    (λ ne. ap history_shared (by_miss item_author n (items.Happened (Entered e)) l ne) ∙ history_by n l pos ∙ sym (own_miss n e (history_shared l) ne))
history_by n (items.Happened (Marked a) ∷ l) pos = dite (ℕ_discrete a n)
    (λ is. ap history_shared (by_hit item_author n (items.Happened (Marked a)) l is) ∙ history_by n l pos)
    (λ ne. ap history_shared (by_miss item_author n (items.Happened (Marked a)) l ne) ∙ history_by n l pos)

-- and its marks are the author's marks
pub marks_by : (n : ℕ) (l : List SharedItem) → 0 < n → marks_shared (entries_by item_author n l) ≡ occurrences n (marks_of (happenings_in l))
marks_by n [] pos = refl
marks_by n (items.Opened opened ∷ l) pos = ap marks_shared (by_miss item_author n (items.Opened opened) l (λ is. omega arith)) ∙ marks_by n l pos
marks_by n (items.Happened (Entered e) ∷ l) pos = dite (ℕ_discrete e.author n)
    (λ is. ap marks_shared (by_hit item_author n (items.Happened (Entered e)) l is) ∙ marks_by n l pos)
    (λ ne. ap marks_shared (by_miss item_author n (items.Happened (Entered e)) l ne) ∙ marks_by n l pos)
marks_by n (items.Happened (Marked a) ∷ l) pos = dite (ℕ_discrete a n)
    (λ is. let one = marks_by n l pos in let hit = times_hit n a (marks_of (happenings_in l)) is in let here = ap marks_shared (by_hit item_author n (items.Happened (Marked a)) l is) in omega (arith, one, hit, here))
    (λ ne. ap marks_shared (by_miss item_author n (items.Happened (Marked a)) l ne) ∙ marks_by n l pos ∙ sym (times_miss n a (marks_of (happenings_in l)) ne))
