-- A record as octets.
use Rattle.std.proofs.Common.{◌≡◌, ℕ, zero, suc, ◌^◌, ◌<◌, Bool, true, false, if◌then◌else◌, List, [], ◌∷◌, take, drop, slice_index, refl, sym, ap, ◌∙◌, subst, arith}
use Rattle.std.specs.List.{AllByRecursion}
use Rattle.std.specs.Int.{w32, w64, from_be_bytes}
use Rattle.std.proofs.lemmas.Nat.{from_be_bytes-to_be_bytes_4, from_be_bytes-to_be_bytes_8}
use Rattle.h2_windows.specs.Holding.{counted}
use Rattle.h2_events.specs.declared.said.Said.TheVariants as said
use Rattle.h2_send.specs.Inputs.{Input, Event, Speech}
use Rattle.h2_send.specs.Port.{Progress}
use Rattle.shared_wire.specs.Parts.{Kind, FitTypes, Beginning, Settings, SettingsAck, Ping, Window, Call, TooLong, Data, Trailers, Reset, StreamFault, GoAway, Message, Finish, Status, End}
use Rattle.shared_wire.specs.Records.{Deed, WireRecord, AreRecords, FitsTypes, Follow}
use Rattle.shared_wire.specs.Records as deed
use Rattle.shared_wire.specs.Entries.{Ending, Entry, HasRoom, Done, WriteFault, NoMemory, Overflow, Refused, kind_code, ending_code, spelling, deed_parts, entry_of, entries_behind, entries_of, place_in, place_of}

-- ---- read back

abbrev one_at : {T : Type 0} → T → List T → ℕ → T
one_at last [] n = last
one_at last (x ∷ xs) zero = x
one_at last (x ∷ xs) (suc n) = one_at last xs n

abbrev kind_of : ℕ → Kind
kind_of = one_at End (Beginning ∷ Settings ∷ SettingsAck ∷ Ping ∷ Window ∷ Call ∷ TooLong ∷ Data ∷ Trailers ∷ Reset ∷ StreamFault ∷ GoAway ∷ Message ∷ Finish ∷ Status ∷ [])

kind_is : (k : Kind) → kind_of (kind_code k) ≡ k
kind_is Beginning = refl
kind_is Settings = refl
kind_is SettingsAck = refl
kind_is Ping = refl
kind_is Window = refl
kind_is Call = refl
kind_is TooLong = refl
kind_is Data = refl
kind_is Trailers = refl
kind_is Reset = refl
kind_is StreamFault = refl
kind_is GoAway = refl
kind_is Message = refl
kind_is Finish = refl
kind_is Status = refl
kind_is End = refl

abbrev ending_of_code : ℕ → Ending
ending_of_code = one_at Refused (Done ∷ WriteFault ∷ NoMemory ∷ Overflow ∷ [])

ending_is : (k : Ending) → ending_of_code (ending_code k) ≡ k
ending_is Done = refl
ending_is WriteFault = refl
ending_is NoMemory = refl
ending_is Overflow = refl
ending_is Refused = refl

abbrev flag_of : ℕ → Bool
flag_of = one_at true (false ∷ [])

flag_is : (b : Bool) → flag_of (if b then 1 else 0) ≡ b
flag_is true = refl
flag_is false = refl

abbrev read : List ℕ → Entry
read octets = record {
  author = from_be_bytes w32 (take 4 octets);
  kind = kind_of (slice_index octets 48);
  flag = flag_of (slice_index octets 49);
  stream = from_be_bytes w32 (take 4 (drop 4 octets));
  number = from_be_bytes w64 (take 8 (drop 8 octets));
  place = from_be_bytes w64 (take 8 (drop 16 octets));
  size = from_be_bytes w64 (take 8 (drop 24 octets));
  before = from_be_bytes w64 (take 8 (drop 32 octets));
  after = from_be_bytes w64 (take 8 (drop 40 octets));
  ending = ending_of_code (slice_index octets 50);
}

read_back : (e : Entry) → HasRoom e → read (spelling e) ≡ e
read_back e room i = record {
  author = from_be_bytes-to_be_bytes_4 e.author room.author i;
  kind = kind_is e.kind i;
  flag = flag_is e.flag i;
  stream = from_be_bytes-to_be_bytes_4 e.stream room.stream i;
  number = from_be_bytes-to_be_bytes_8 e.number room.number i;
  place = from_be_bytes-to_be_bytes_8 e.place room.place i;
  size = from_be_bytes-to_be_bytes_8 e.size room.size i;
  before = from_be_bytes-to_be_bytes_8 e.before room.before i;
  after = from_be_bytes-to_be_bytes_8 e.after room.after i;
  ending = ending_is e.ending i;
}

pub same_entry : (e other : Entry) → HasRoom e → HasRoom other → spelling e ≡ spelling other → e ≡ other
same_entry e other room there same = sym (read_back e room) ∙ ap read same ∙ read_back other there

-- ---- room

small : (n : ℕ) → counted n < 2 ^ 64
small n = omega arith

place_small : (input : Input) (at : Progress) → ((place_in input at).0 < 2 ^ 64) × ((place_in input at).1 < 2 ^ 64)
place_small (Event event) at = (omega arith, omega arith)
place_small (Speech stream (said.Message octets)) at = (small _, small _)
place_small (Speech stream (said.Finish refusal)) at = (omega arith, omega arith)
place_small (Speech stream (said.Status status)) at = (omega arith, omega arith)

deed_small : (d : Deed) (at : Progress) → ((place_of d at).0 < 2 ^ 64) × ((place_of d at).1 < 2 ^ 64)
deed_small deed.Began at = (omega arith, omega arith)
deed_small (deed.Gave input) at = place_small input at
deed_small (deed.Refused input) at = (omega arith, omega arith)
deed_small (deed.Ended code) at = (omega arith, omega arith)
deed_small (deed.Starved input) at = (omega arith, omega arith)

deed_fits : (d : Deed) → FitsTypes d → FitTypes (deed_parts d)
deed_fits deed.Began fits = (omega arith, omega arith)
deed_fits (deed.Gave input) fits = fits
deed_fits (deed.Refused input) fits = fits
deed_fits (deed.Ended code) small = (omega arith, omega (arith, small))
deed_fits (deed.Starved input) fits = fits

has_room : (at : Progress) (r : WireRecord) → r.author < 2 ^ 32 → FitsTypes r.deed → HasRoom (entry_of at r)
has_room at r author fits = let parts = deed_fits r.deed fits in let place = deed_small r.deed at in record {
  author = author;
  stream = parts.0;
  number = parts.1;
  place = place.0;
  size = place.1;
  before = small _;
  after = small _;
}

all_behind : (before : WireRecord) (rs : List WireRecord) → Follow before rs → AllByRecursion HasRoom (entries_behind before rs)
all_behind before [] follow = tt
all_behind before (r ∷ rs) follow = (has_room before.left r follow.2.1 follow.2.2, all_behind r rs follow.3)

pub all_room : (rs : List WireRecord) → AreRecords rs → AllByRecursion HasRoom (entries_of rs)
all_room [] are = absurd are
all_room (first ∷ rs) are = let none = are.3 in (has_room first.left first (omega (arith, none)) (subst FitsTypes (sym are.0) tt), all_behind first rs are.2)
