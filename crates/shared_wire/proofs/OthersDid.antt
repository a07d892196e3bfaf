-- What other ports did, as a turn finds it.
use Rattle.std.proofs.Common.{◌≡◌, ℕ, List, [], ◌∷◌, ◌++◌, ◌==◌, ◌||◌, Bool, true, false, if◌then◌else◌, length, map, refl, sym, ap, ◌∙◌, subst, arith, append-nil, eq-eqb, ne_eqb}
use Rattle.std.proofs.lemmas.List.{map-append}
use Rattle.std.specs.List.{AllByRecursion}
use mathlib.Core.Logic.{dite}
use native.Mathlib.Decide.{ℕ_discrete}
use Rattle.turn_lock.specs.Chronicles.{entries_by}
use Rattle.turn_lock.proofs.Counts.{by_hit, by_miss}
use Rattle.shared_wire.specs.Records.{WireRecord, AreRecords, Follow, last_behind, record_author}
use Rattle.shared_wire.specs.Visits.{OthersWentOn, TakesTurn, VisitView, given_in, given_of, others_of, records_of_others}
use Rattle.shared_wire.proofs.Following.{follow_behind}

either_way : (r : WireRecord) (all xs ys : List WireRecord) (b : Bool) → all ≡ xs ++ ys → (if b then all else r ∷ all) ≡ (if b then xs else r ∷ xs) ++ ys
either_way r all xs ys true is = is
either_way r all xs ys false is = ap (λ l. r ∷ l) is

others_both : (author : ℕ) (xs ys : List WireRecord) → records_of_others author (xs ++ ys) ≡ records_of_others author xs ++ records_of_others author ys
others_both author [] ys = refl
others_both author (r ∷ xs) ys = either_way r (records_of_others author (xs ++ ys)) (records_of_others author xs) (records_of_others author ys) ((r.author == author) || (r.author == 0)) (others_both author xs ys)

-- of whom there is none all are others
others_all : (author : ℕ) (before : WireRecord) (rs : List WireRecord) → Follow before rs → entries_by record_author author rs ≡ [] → records_of_others author rs ≡ rs
others_all author before [] follow none = refl
others_all author before (r ∷ rs) follow none = dite (ℕ_discrete r.author author)
    (λ is. let long = ap length (sym (by_hit record_author author r rs is) ∙ none) in absurd (omega (arith, long)))
    (λ ne.
    let some = follow.2.0 in
    (λ i. if (ne_eqb r.author author ne i || ne_eqb r.author 0 (λ e. omega (arith, some, e)) i) then records_of_others author rs else r ∷ records_of_others author rs)
    ∙ ap (λ l. r ∷ l) (others_all author r rs follow.3 (sym (by_miss record_author author r rs ne) ∙ none)))

-- and no others where all are his
others_none : (author : ℕ) (rs : List WireRecord) → AllByRecursion (λ (r : WireRecord). r.author ≡ author) rs → records_of_others author rs ≡ []
others_none author [] all = refl
others_none author (r ∷ rs) all = (λ i. if (eq-eqb r.author author all.0 i || (r.author == 0)) then records_of_others author rs else r ∷ records_of_others author rs) ∙ others_none author rs all.1

found_others : (author : ℕ) (seen others : List WireRecord) → AreRecords seen → AreRecords (seen ++ others) → entries_by record_author author others ≡ [] → records_of_others author (seen ++ others) ≡ records_of_others author seen ++ others
found_others author [] others are all none = absurd are
found_others author (s ∷ seen) others are all none = others_both author (s ∷ seen) others ∙ ap (λ l. records_of_others author (s ∷ seen) ++ l) (others_all author (last_behind s seen) others (follow_behind s seen others all.2) none)

pub others_later : (author : ℕ) (seen found : List WireRecord) → AreRecords seen → AreRecords found → (went_on : OthersWentOn author seen found) → given_in (records_of_others author found) ≡ given_in (records_of_others author seen) ++ given_in went_on.others
others_later author seen found are all went_on =
    ap (λ l. given_in (records_of_others author l)) went_on.whole
    ∙ ap given_in (found_others author seen went_on.others are (subst AreRecords went_on.whole all) went_on.none)
    ∙ map-append (λ (r : WireRecord). given_of r.deed) (records_of_others author seen) went_on.others

pub others_turn : (old new : VisitView) (found added : List WireRecord) → (turn : TakesTurn old found added new) → others_of new ≡ others_of old ++ given_in turn.begins.others
others_turn old new found added turn =
    ap others_of turn.new_is
    ∙ ap given_in (others_both old.author found added ∙ ap (λ l. records_of_others old.author found ++ l) (others_none old.author added turn.by) ∙ append-nil (records_of_others old.author found))
    ∙ others_later old.author old.seen found turn.has_seen turn.records turn.begins
