-- One turn at the lock, as what its port shows.
use Rattle.std.proofs.Common.{◌≡◌, inl, ℕ, ◌<◌, List, [], ◌∷◌, ◌++◌, length, map, sym, ap, ◌∙◌, subst, arith}
use Rattle.std.proofs.Math.Seq.{drop-append_seam}
use Rattle.std.specs.List.{AllByRecursion}
use mathlib.Core.List.{IsPrefix}
use Rattle.atomic_table.specs.Seated.{TableId}
use Rattle.h2_send.specs.Port.{PortView}
use Rattle.turn_lock.specs.Chronicles.{entries_by, entries_past, AreBy}
use Rattle.turn_lock.specs.Passes.{OwnsItsEntries}
use Rattle.turn_lock.specs.declared.view.View.{View}
use Rattle.turn_lock.specs.declared.view.Ended.{Ended}
use Rattle.turn_lock.proofs.Prefixes.{prefix_length}
use Rattle.shared_wire.specs.Records.{WireRecord, record_author, AreRecords, Adds, AddsSo}
use Rattle.shared_wire.specs.Visits.{HasJustMade, OthersWentOn, AuthorsDiffer, DoesInTurn, TakesTurn, ended_visit, end_of, lock_name, visit_of}
use Rattle.shared_wire.specs.inner.Keeping.{KeepsWire}
use Rattle.shared_wire.proofs.Following.{records_front}
use Rattle.shared_wire.proofs.Owning.{all_by, authors_differ, each_met, none_first, same_owner, shows_made, went_on}

-- ---- what the lock asks of what is left

pub are_by : (n : ℕ) (rs : List WireRecord) → AllByRecursion (λ (r : WireRecord). r.author ≡ n) rs → AreBy record_author n rs
are_by n [] all = tt
are_by n (r ∷ rs) all = (inl all.0, are_by n rs all.1)

past_is : (found added : List WireRecord) → entries_past found (found ++ added) ≡ added
past_is found added = drop-append_seam found added

pub extends : (n : ℕ) (found left seen added : List WireRecord) → found ≡ seen → Adds n found added left → IsPrefix seen left × AreBy record_author n (entries_past seen left)
extends n found left seen added is adds =
    subst (λ l. IsPrefix l left × AreBy record_author n (entries_past l left)) is
    ((added, sym adds.whole), subst (AreBy record_author n) (sym (ap (entries_past found) adds.whole ∙ past_is found added)) (are_by n added adds.by))

-- The pass before a turn, and as it is when the wire is found, with these records.
module _ (table : TableId) (counts : PortView) (before found_by : View WireRecord) (found : List WireRecord)
    (kept : KeepsWire before) (number : found_by.turn.number ≡ before.turn.number) (first : found_by.first ≡ before.first) (start : found_by.start ≡ before.start) (ended : found_by.ended ≡ before.ended) (made : found_by.made ≡ before.made)
    (found_is : found ≡ found_by.seen) (begins : IsPrefix before.seen found_by.seen) (owner : OwnsItsEntries record_author found_by) where
  its_owner : OwnsItsEntries record_author (record before { seen = found })
  its_owner = same_owner found_by (record before { seen = found }) (sym number) (sym first) (sym start) found_is (sym made) (sym ended) owner

  -- the pass itself, as one that is joined
  abbrev self : Ended WireRecord
  self = record { number = before.turn.number; start = before.start; seen = before.seen; finds = before.finds; made = before.made; host_seen = [] }

  pub went_on_so : OthersWentOn before.turn.number before.seen found
  went_on_so = went_on before.first before.first before.start before.seen found before.turn.number before.made kept.owner.own its_owner.own (subst (IsPrefix before.seen) (sym found_is) begins)

  pub has_made : AllByRecursion (HasJustMade found) (end_of (visit_of table before counts) ∷ map ended_visit before.ended)
  has_made = (
    shows_made before.first self found (none_first before kept before.turn.number kept.some) its_owner.own,
    each_met (HasJustMade found) before.ended (λ i e h. let k = its_owner.others i e h in shows_made before.first e found (none_first before kept e.number k.some) k.its),
  )

  pub authors : AuthorsDiffer (end_of (visit_of table before counts) ∷ map ended_visit before.ended)
  authors = authors_differ self before.ended kept.some (λ i e h. (its_owner.others i e h).some) its_owner.differ

  some_seen : 0 < length before.seen
  some_seen =
      let some = ap length kept.began in let one = prefix_length before.first before.start kept.owner.own.from_first in let two = prefix_length before.start before.seen kept.owner.own.since_start in
      omega (arith, some, one, two)

  has_seen : AreRecords found → AreRecords before.seen
  has_seen records = records_front before.seen went_on_so.others some_seen (subst AreRecords went_on_so.whole records)

  -- and behind the turn
  module _ (left_table : TableId) (after : View WireRecord) (added left : List WireRecord) (records : AreRecords found) (adds : Adds before.turn.number found added left)
      (number_then : after.turn.number ≡ before.turn.number) (start_then : after.start ≡ before.start) (ended_then : after.ended ≡ before.ended) (known_then : after.known ≡ before.known)
      (table_then : left_table ≡ table) (seen_then : after.seen ≡ left) (finds_then : after.finds ≡ before.finds ++ found ∷ []) (made_then : after.made ≡ before.made ++ entries_by record_author before.turn.number (entries_past found left)) where
    made_is : after.made ≡ before.made ++ added
    made_is = made_then ∙ ap (λ l. before.made ++ entries_by record_author before.turn.number l) (ap (entries_past found) adds.whole ∙ past_is found added) ∙ ap (λ l. before.made ++ l) (all_by before.turn.number added adds.by)

    pub takes_turn : TakesTurn (visit_of table before counts) found added (visit_of left_table after counts)
    takes_turn = record {
      own = kept.some;
      has_seen = has_seen records;
      begins = went_on_so;
      has_made = has_made;
      records = records;
      by = adds.by;
      records_on = subst AreRecords adds.whole adds.records;
      new_is = λ i. record {
        lock = lock_name (table_then i);
        author = number_then i;
        start = start_then i;
        seen = (seen_then ∙ adds.whole) i;
        finds = finds_then i;
        made = made_is i;
        met = map ended_visit (ended_then i);
        known = known_then i;
        counts = counts;
      };
    }

pub extends_by : (author n : ℕ) (found left seen added : List WireRecord) → author ≡ n → found ≡ seen → Adds author found added left → IsPrefix seen left × AreBy record_author n (entries_past seen left)
extends_by author n found left seen added is same adds = extends n found left seen added same (subst (λ m. Adds m found added left) is adds)

-- The pass before a turn, as it is when the wire is found, and behind the turn, which added this by what it found.
pub does_in_turn : (Does : List WireRecord → List WireRecord → Type 0) (table left_table : TableId) (counts : PortView) (before found_by after : View WireRecord) (found left : List WireRecord) (author : ℕ)
    → KeepsWire before → found_by.turn.number ≡ before.turn.number → found_by.first ≡ before.first → found_by.start ≡ before.start → found_by.ended ≡ before.ended → found_by.known ≡ before.known → found_by.made ≡ before.made
    → found ≡ found_by.seen → IsPrefix before.seen found_by.seen → OwnsItsEntries record_author found_by → AreRecords found → author ≡ before.turn.number → AddsSo author Does found left
    → after.turn.number ≡ found_by.turn.number → after.start ≡ found_by.start → after.ended ≡ found_by.ended → after.known ≡ found_by.known → left_table ≡ table → after.seen ≡ left
    → after.finds ≡ before.finds ++ found_by.seen ∷ []
    → after.made ≡ found_by.made ++ entries_by record_author found_by.turn.number (entries_past found_by.seen left)
    → DoesInTurn Does (visit_of table before counts) (visit_of left_table after counts)
does_in_turn Does table left_table counts before found_by after found left author kept number first start ended known made found_is begins owner records is adds_so number_then start_then ended_then known_then table_then seen_then finds_then made_then = record {
  found = found;
  added = adds_so.added;
  turn = takes_turn table counts before found_by found kept number first start ended made found_is begins owner left_table after adds_so.added left records (subst (λ n. Adds n found adds_so.added left) is adds_so.adds)
      (number_then ∙ number) (start_then ∙ start) (ended_then ∙ ended) (known_then ∙ known) table_then seen_then
      (finds_then ∙ ap (λ l. before.finds ++ l ∷ []) (sym found_is))
      (made_then ∙ (λ i. made i ++ entries_by record_author (number i) (entries_past (sym found_is i) left)));
  does = adds_so.does;
}
