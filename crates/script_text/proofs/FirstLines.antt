-- The first line of a text, from a cut before its first line feed.
use Rattle.std.proofs.Common.{◌≡◌, ℕ, ◌-◌, ◌<◌, List, [], ◌∷◌, ◌++◌, Bool, true, false, cond, not, eqb, length, take, drop, inl, inr, refl, sym, ap, ◌∙◌, IsTrue, arith, append_assoc, length-append}
use Rattle.std.specs.List.{slice_split, All, onto_first}
use Rattle.std.proofs.lemmas.List.Splits.{slice_split_none, slice_split_at}
use Rattle.std.proofs.lemmas.List.Elements.{All-nil, All-cons}
use Rattle.std.proofs.lemmas.Bool.{and_parts, and_from, not-true, eqb-true, eqb-false, true≢false}
use Rattle.std.proofs.Math.Seq.{take-length}
use Rattle.std.proofs.lemmas.List.{append-nil}
use Rattle.std.proofs.lemmas.List.Folds.{list_all-append}
use Rattle.script_text.specs.Lines.{lines_of, without_empty_last, IsFirstCut}
use Rattle.plain_texts.specs.Splits.{lacks, IsCut}
use Rattle.script_text.specs.laws.FirstLines.{FirstLineStays}
use Rattle.plain_texts.proofs.Cuts.{cut_there}

abbrev is_line_feed : ℕ → Bool
is_line_feed octet = eqb octet 10

all_before : (front : List ℕ) → IsTrue (lacks 10 front) → All (λ octet. is_line_feed octet ≡ false) front
all_before [] lacking = All-nil (λ octet. is_line_feed octet ≡ false)
all_before (octet ∷ front) lacking =
    let parts = and_parts (not (eqb octet 10)) (lacks 10 front) lacking in
    All-cons (λ octet. is_line_feed octet ≡ false) octet front (not-true (eqb octet 10) parts.0) (all_before front parts.1)

-- a text has a first part
some_part : (parts : List (List ℕ)) → Type 0
some_part parts = (part : List ℕ) × ((others : List (List ℕ)) × (parts ≡ part ∷ others))

onto_some : (octet : ℕ) (parts : List (List ℕ)) → some_part (onto_first octet parts)
unfolding some_part
onto_some octet [] = (octet ∷ [], ([], refl))
onto_some octet (part ∷ others) = (octet ∷ part, (others, refl))

either_some : (b : Bool) (parts others : List (List ℕ)) → some_part parts → some_part others → some_part (cond b parts others)
either_some true parts others some _ = some
either_some false parts others _ some = some

parts_of : (text : List ℕ) → some_part (slice_split is_line_feed text)
unfolding some_part
parts_of [] = ([], ([], refl))
parts_of (octet ∷ text) = either_some (is_line_feed octet) ([] ∷ slice_split is_line_feed text) (onto_first octet (slice_split is_line_feed text)) ([], (slice_split is_line_feed text, refl)) (onto_some octet (slice_split is_line_feed text))

kept_first : (front : List ℕ) (parts : List (List ℕ)) → some_part parts → without_empty_last (front ∷ parts) ≡ front ∷ without_empty_last parts
unfolding some_part
kept_first [] parts some = rw some.1.1 refl
kept_first (octet ∷ front) parts some = refl

line_ended : (front rest : List ℕ) → IsTrue (lacks 10 front) → lines_of (front ++ 10 ∷ rest) ≡ front ∷ lines_of rest
line_ended front rest lacking = ap without_empty_last (slice_split_at is_line_feed front 10 rest (all_before front lacking) refl) ∙ kept_first front (slice_split is_line_feed rest) (parts_of rest)

alone_kept : (front : List ℕ) → 0 < length front → without_empty_last (front ∷ []) ≡ front ∷ []
alone_kept [] some = absurd (omega arith)
alone_kept (octet ∷ front) some = refl

line_alone : (front : List ℕ) → 0 < length front → IsTrue (lacks 10 front) → lines_of front ≡ front ∷ []
line_alone front some lacking = ap without_empty_last (slice_split_none is_line_feed front (all_before front lacking)) ∙ alone_kept front some

-- the first line of a text, and what is left without the line feed that the rest begins with
pub first_line : (text front rest : List ℕ) → 0 < length text → IsCut 10 text front rest → lines_of text ≡ front ∷ lines_of (drop 1 rest)
first_line text front [] some cut =
    let same : text ≡ front = cut.whole ∙ append-nil front in
    rw same (line_alone front (rw (← same) some) cut.lacking)
first_line text front (octet ∷ rest) some cut = rw (cut.whole, cut.begins) (line_ended front rest cut.lacking)

followed : (front more longer rest : List ℕ) → 0 < length front → IsTrue (lacks 10 front) → IsCut 10 more longer rest → FirstLineStays front more
followed front more longer rest some lacking cut =
    let both : IsTrue (lacks 10 (front ++ longer)) = list_all-append (λ octet. not (eqb octet 10)) front longer ∙ and_from (lacks 10 front) (lacks 10 longer) lacking cut.lacking in
    let whole : front ++ more ≡ (front ++ longer) ++ rest = ap (λ r. front ++ r) cut.whole ∙ sym (append_assoc front longer rest) in
    let long : 0 < length (front ++ more) = omega (arith, length-append {A = ℕ}) in
    inr (
      front ++ longer,
      (
        lines_of (drop 1 rest),
        record {
          alone = line_alone front some lacking;
          followed = first_line (front ++ more) (front ++ longer) rest long (record { whole = whole; lacking = both; begins = cut.begins });
          longest = omega (arith, length-append {A = ℕ});
        },
      ),
    )

stays : (front more first rest : List ℕ) → 0 < length front → IsCut 10 front first rest → FirstLineStays front more
stays front more first [] some cut =
    let same : front ≡ first = cut.whole ∙ append-nil first in
    followed front more _ _ some (rw same cut.lacking) (cut_there 10 more)
stays front more first (octet ∷ rest) some cut =
    let is : front ≡ first ++ 10 ∷ rest = rw (← cut.begins) cut.whole in
    inl (
      first,
      (
        rest,
        record {
          alone = rw is (line_ended first rest cut.lacking);
          followed = rw (is, append_assoc) (line_ended first (rest ++ more) cut.lacking);
          cut = is;
          whole = omega (arith, ap length is, length-append {A = ℕ});
        },
      ),
    )

-- a front of a text decides about the first line the same whatever follows it, or that line is at least as long
pub first_line_stays : (front more : List ℕ) → 0 < length front → FirstLineStays front more
first_line_stays front more some = stays front more _ _ some (cut_there 10 front)

pub last_line : (text front rest : List ℕ) → eqb (length text) 0 ≡ false → IsCut 10 text front rest → eqb (length rest) 0 ≡ true → (lines_of text ≡ front ∷ lines_of rest) × (length rest < length text)
last_line text front [] some cut none =
    let more : 0 < length text = omega (arith, eqb-false (length text) 0 some) in
    (first_line text front [] more cut, more)
last_line text front (octet ∷ rest) some cut none = let nothing = eqb-true (length (octet ∷ rest)) 0 none in absurd (omega arith)

pub next_lines : (text front rest : List ℕ) → eqb (length text) 0 ≡ false → IsCut 10 text front rest → eqb (length rest) 0 ≡ false → (lines_of text ≡ front ∷ lines_of (take (length rest - 1) (drop 1 rest))) × (length (take (length rest - 1) (drop 1 rest)) < length text)
next_lines text front [] some cut more = absurd (true≢false more)
next_lines text front (octet ∷ rest) some cut more =
    let all : take (length (octet ∷ rest) - 1) rest ≡ rest = (let n : length (octet ∷ rest) - 1 ≡ length rest = omega arith in rw (n, take-length) refl) in
    let not_empty : 0 < length text = omega (arith, eqb-false (length text) 0 some) in
    rw all (first_line text front (octet ∷ rest) not_empty cut, omega (arith, ap length cut.whole, length-append {A = ℕ}))

pub last_cut : (text front rest : List ℕ) → IsCut 10 text front rest → eqb (length rest) 0 ≡ true → IsFirstCut text front rest
last_cut text front [] cut none = inr (cut.whole ∙ append-nil front, refl)
last_cut text front (octet ∷ rest) cut none = let nothing = eqb-true (length (octet ∷ rest)) 0 none in absurd (omega arith)

pub next_cut : (text front rest : List ℕ) → IsCut 10 text front rest → eqb (length rest) 0 ≡ false → IsFirstCut text front (take (length rest - 1) (drop 1 rest))
next_cut text front [] cut more = absurd (true≢false more)
next_cut text front (octet ∷ rest) cut more =
    let all : take (length (octet ∷ rest) - 1) rest ≡ rest = (let n : length (octet ∷ rest) - 1 ≡ length rest = omega arith in rw (n, take-length) refl) in
    rw all (inl (cut.whole ∙ ap (λ o. front ++ o ∷ rest) cut.begins))
