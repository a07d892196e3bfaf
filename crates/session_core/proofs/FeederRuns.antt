-- A session beside feeders: the history that its port has seen behind the meetings with theirs, and what they say over that.
use Rattle.std.proofs.Common.{◌≡◌, ◌⊎◌, inl, inr, ℕ, ◌+◌, ◌≤◌, List, [], ◌∷◌, ◌++◌, Bool, true, false, map, length, refl, sym, ap, ◌∙◌, subst, append-nil, append_assoc, arith}
use Rattle.std.specs.Prelude.{Some, None, Err}
use Rattle.std.specs.List.{AllByRecursion}
use Rattle.std.proofs.lemmas.List.{length-append}
use Rattle.base_kinds.specs.declared.entry.Entry.{Entry}
use Rattle.base_kinds.specs.declared.refusal.Refusal.{Refusal}
use Rattle.base_kinds.specs.declared.refusal.Refusal.TheVariants as refusals
use Rattle.base_kinds.specs.Schema.{SchemaNode}
use Rattle.book_port.specs.Chronicles.{entries_by}
use Rattle.book_port.specs.Follows.{Turn, OthersWentOn, Follows, GoesOn, made_by}
use Rattle.book_port.specs.Ports.{PortView, TakesOne, TakesTurns}
use Rattle.book_port.proofs.Chronicled.{entries_by_more}
use Rattle.book_port.proofs.Following.{nobody_went_on, others_again, others_follow, own_are_made}
use Rattle.book_port.proofs.Taking.{taken_follow, taken_go_on}
use Rattle.h2_events.specs.Items.{Item, said_by, said_on}
use Rattle.h2_events.specs.declared.said.Piece.{Piece}
use Rattle.h2_events.specs.declared.said.Piece.TheVariants as piece
use Rattle.h2_events.specs.declared.said.Said.{Said}
use Rattle.h2_events.specs.declared.said.Said.TheVariants as said
use Rattle.h2_frame.specs.Frames.{Frame}
use Rattle.h2_send.specs.Inputs.{Input, item_of}
use Rattle.h2_send.specs.Orders.{order_of}
use Rattle.h2_send.specs.Port.{Progress}
use Rattle.h2_send.specs.StreamFrames.{AreLast}
use Rattle.h2_send.specs.declared.condition.Condition.{Condition}
use Rattle.stream_workers.specs.Feeders.{Feeder, MeetsEach, streams_of}
use Rattle.stream_workers.specs.Ports.{own_port}
use Rattle.stream_worker.specs.Books.{IsMadeIn, StandAmong}
use Rattle.stream_worker.specs.Feeds.{Feeds, IsCause, IsLost, last_pieces}
use Rattle.stream_worker.specs.declared.job.FeedEnd.{FeedEnd}
use Rattle.stream_worker.specs.declared.job.FeedEnd.TheVariants as ends
use Rattle.stream_laws.specs.Runs.{Moment}
use Rattle.subscribe_calls.specs.Calls.{reply_octets}
use Rattle.session_core.specs.declared.how.How.{How}
use Rattle.session_core.specs.Deeds.{AreDone, Deed, Service, told, turns_in}
use Rattle.session_core.specs.FeederRuns.{ServesCall, SessionRunBeside}
use Rattle.session_core.specs.Feeding.{left_last}
use Rattle.session_core.specs.Runs.{Outside, outside_of, start_of}
use Rattle.session_core.specs.Serving.{deeds_in, first_service, service_of, standing_of}
use Rattle.session_core.specs.laws.FeederLaws.{BeginsWith, HasEarlier, IsRunOver, SaysFront}
use Rattle.session_core.proofs.Chains.{last_seen}
use Rattle.session_core.proofs.Feeders.{all_zip, said_behind}
use Rattle.session_core.proofs.History.{turns_taken}
use Rattle.session_core.proofs.Silence.{done_parts}
use Rattle.session_core.proofs.Streams.{streams_answered}

-- ---- the history that the returned port has seen

-- it begins with what the session's own port had seen, and nothing of the session's author stands behind that
pub books_went : (old : PortView) (feeders : List Feeder) (new : PortView) → MeetsEach old feeders new → OthersWentOn old.author old.seen new.seen
books_went old [] new is = nobody_went_on old.author old.seen new.seen (ap (λ (p : PortView). p.seen) is)
books_went old (feeder ∷ feeders) new (next, meets, rest) =
    let same : next.author ≡ old.author = ap (λ (p : PortView). p.author) meets.new_is in
    others_again old.author old.seen next.seen new.seen meets.has_own (subst (λ (n : ℕ). OthersWentOn n next.seen new.seen) same (books_went next feeders new rest))

-- and with what each feeder's port had seen at its end
abbrev HasSeenThat : List Entry → Feeder → Type 0
HasSeenThat h feeder = (more : List Entry) × (h ≡ feeder.to.book.seen ++ more)

pub books_seen : (old : PortView) (feeders : List Feeder) (new : PortView) → MeetsEach old feeders new → AllByRecursion (HasSeenThat new.seen) feeders
books_seen old [] new is = tt
books_seen old (feeder ∷ feeders) new (next, meets, rest) =
    let later = books_went next feeders new rest in (
      (
        meets.has_other.others ++ later.others,
        later.whole ∙ ap (λ (h : List Entry). h ++ later.others) meets.has_other.whole ∙ append_assoc feeder.to.book.seen meets.has_other.others later.others,
      ),
      books_seen next feeders new rest,
    )

-- turns stay those of one author
one_author : (old new : PortView) (turn : Turn) → TakesOne old turn new → new.author ≡ old.author
one_author old new turn (inl (result, taken)) = ap (λ (p : PortView). p.author) taken.new_is
one_author old new turn (inr (result, taken)) = ap (λ (p : PortView). p.author) taken.new_is

turns_author : (old new : PortView) (turns : List Turn) → TakesTurns old turns new → new.author ≡ old.author
turns_author old new [] is = ap (λ (p : PortView). p.author) is
turns_author old new (turn ∷ turns) (next, one, rest) = turns_author next new turns rest ∙ one_author old next turn one

-- what is seen of a session's start by what it doesn't share, and where it ended itself
abbrev own_start : Outside → Outside
own_start old = outside_of old.input old.output (own_port old.port) old.readings

abbrev own_end : {schema : List SchemaNode} {old new : Outside} {how : How} → SessionRunBeside schema old how new → Service
own_end {new = new} run = service_of (standing_of (own_port run.port) run.run.calls new.readings run.run.round)

own_taken : (schema : List SchemaNode) (old new : Outside) (how : How) (run : SessionRunBeside schema old how new) → TakesTurns (own_port old.port) (turns_in (deeds_in run.run.served)) (own_port run.port)
own_taken schema old new how run = turns_taken schema (first_service (start_of schema (own_start old))) (own_end run) (deeds_in run.run.served) run.run.served.done

pub beside_follow : (schema : List SchemaNode) (old new : Outside) (how : How) (run : SessionRunBeside schema old how new) → Follows old.port.author old.port.seen (turns_in (deeds_in run.run.served)) new.port.seen
beside_follow schema old new how run =
    let turns = turns_in (deeds_in run.run.served) in
    let taken = own_taken schema old new how run in
    others_follow old.port.author old.port.seen turns run.port.seen new.port.seen (taken_follow (own_port old.port) (own_port run.port) turns taken)
    (subst (λ (n : ℕ). OthersWentOn n run.port.seen new.port.seen) (turns_author (own_port old.port) (own_port run.port) turns taken) (books_went run.port run.feeders new.port run.met))

pub own_stand_beside : (schema : List SchemaNode) (old new : Outside) (how : How) (run : SessionRunBeside schema old how new)
    → entries_by old.port.author new.port.seen ≡ entries_by old.port.author old.port.seen ++ made_by old.port.author (turns_in (deeds_in run.run.served))
own_stand_beside schema old new how run =
    let turns = turns_in (deeds_in run.run.served) in
    own_are_made old.port.author old.port.seen turns new.port.seen (taken_go_on (own_port old.port) (own_port run.port) turns (own_taken schema old new how run)) (beside_follow schema old new how run)

-- ---- the runs of feeders

made_later : (h more : List Entry) (told : List Turn) → AllByRecursion (IsMadeIn h) told → AllByRecursion (IsMadeIn (h ++ more)) told
made_later h more [] all = tt
made_later h more (turn ∷ told) all = (
  record {
    left = all.0.left;
    more = all.0.more ++ more;
    goes_on = ap (λ (l : List Entry). l ++ more) all.0.goes_on ∙ append_assoc turn.left all.0.more more;
  },
  made_later h more told all.1,
)

runs_over : (schema : List SchemaNode) (h : List Entry) (feeder : Feeder) → HasSeenThat h feeder → (feeds : Feeds schema feeder.stream feeder.plan feeder.end feeder.from feeder.to) → IsRunOver schema h feeder feeds
runs_over schema h feeder (more, is) feeds =
    subst (λ (l : List Entry). IsRunOver schema l feeder feeds) (sym is) (record {
      run = feeds.looks.served more;
      made_in = made_later feeder.to.book.seen more feeds.looks.told feeds.looks.made_in;
    })

all_over : (schema : List SchemaNode) (h : List Entry) (feeders : List Feeder) → AllByRecursion (HasSeenThat h) feeders
    → AllByRecursion (λ (feeder : Feeder). (feeds : Feeds schema feeder.stream feeder.plan feeder.end feeder.from feeder.to) → IsRunOver schema h feeder feeds) feeders
all_over schema h [] all = tt
all_over schema h (feeder ∷ feeders) all = (runs_over schema h feeder all.0, all_over schema h feeders all.1)

pub feeders_say : (schema : List SchemaNode) (old new : Outside) (how : How) (run : SessionRunBeside schema old how new)
    → AllByRecursion (λ (feeder : Feeder). (feeds : Feeds schema feeder.stream feeder.plan feeder.end feeder.from feeder.to) → IsRunOver schema new.port.seen feeder feeds) run.feeders
feeders_say schema old new how run = all_over schema new.port.seen run.feeders (books_seen run.port run.feeders new.port run.met)

-- ---- what is said on their streams

-- behind the messages that were taken: nothing, the message that comes next, or that memory was wanting
abbrev IsTail : List (List ℕ) → List Said → Type 0
IsTail rest tail =
    (tail ≡ [])
    ⊎ ((octets : List ℕ) × (later : List (List ℕ)) × (tail ≡ said.Message octets ∷ []) × (rest ≡ octets ∷ later))
    ⊎ ((others : List Said) × (tail ≡ said.Finish (Some refusals.NoMemory) ∷ others))

lost_so : (condition : Condition) (rest : List (List ℕ)) (lost : List Said) → IsLost condition rest lost → IsTail rest lost
lost_so condition rest [] is = inl refl
lost_so condition rest (said.Message octets ∷ []) is = inr (inl (octets, is.1, refl, is.2))
lost_so condition rest (said.Message octets ∷ more ∷ others) is = absurd is
lost_so condition rest (said.Finish None ∷ others) is = absurd is
lost_so condition rest (said.Finish (Some refusals.NoMemory) ∷ others) is = inr (inr (others, refl))
lost_so condition rest (said.Finish (Some refusal) ∷ others) is = absurd is
lost_so condition rest (said.Status status ∷ others) is = absurd is

tail_so : (end : FeedEnd) (stream : ℕ) (progress : Progress) (condition : Condition) (rest : List (List ℕ)) (lost : List Said) → IsCause end stream progress → IsLost condition rest lost → IsTail rest (map said_by (last_pieces end) ++ lost)
tail_so ends.Gone stream progress condition rest lost cause is = lost_so condition rest lost is
tail_so (ends.Refused refusal) stream progress condition rest lost cause is = inr (inr (lost, ap (λ (r : Refusal). said.Finish (Some r) ∷ lost) cause))

words_so : (taken : List (List ℕ)) (pieces : List Piece) (lost : List Said) → map said_by (map piece.Message taken ++ pieces) ++ lost ≡ map said.Message taken ++ (map said_by pieces ++ lost)
words_so [] pieces lost = refl
words_so (octets ∷ taken) pieces lost = ap (λ (words : List Said). said.Message octets ∷ words) (words_so taken pieces lost)

-- a front of these messages, and perhaps that memory was wanting
record IsFront (octets : List (List ℕ)) (words : List Said) : Type 0 where
  pub taken : List (List ℕ)
  pub rest : List (List ℕ)
  pub whole : octets ≡ taken ++ rest
  pub end : List Said
  pub ends : (end ≡ []) ⊎ (end ≡ told (Err refusals.NoMemory))
  pub said_is : words ≡ map said.Message taken ++ end

none_said : (octets : List (List ℕ)) → IsFront octets []
none_said octets = record { taken = []; rest = octets; whole = refl; end = []; ends = inl refl; said_is = refl }

one_more : (octets : List ℕ) (others : List (List ℕ)) (words : List Said) → IsFront others words → IsFront (octets ∷ others) (said.Message octets ∷ words)
one_more octets others words front = record {
  taken = octets ∷ front.taken;
  rest = front.rest;
  whole = ap (λ (l : List (List ℕ)). octets ∷ l) front.whole;
  end = front.end;
  ends = front.ends;
  said_is = ap (λ (l : List Said). said.Message octets ∷ l) front.said_is;
}

refused : (octets : List (List ℕ)) → IsFront octets (said.Finish (Some refusals.NoMemory) ∷ [])
refused octets = record { taken = []; rest = octets; whole = refl; end = told (Err refusals.NoMemory); ends = inr refl; said_is = refl }

abbrev first_word : Said → List Said → Said
first_word none [] = none
first_word none (word ∷ words) = word

abbrev later_words : List Said → List Said
later_words [] = []
later_words (word ∷ words) = words

none_first : (first second : List Said) → first ++ second ≡ [] → first ≡ []
none_first [] second is = refl
none_first (word ∷ first) second is = absurd cc

no_word : (octets : List (List ℕ)) (word : Said) (words more : List Said) → word ∷ more ≡ [] → IsFront octets (word ∷ words)
no_word octets word words more is = absurd cc

module _ (stream : ℕ) (lost tail : List Said) (rest : List (List ℕ)) where
  at_tail : (begun : Bool) (word : Said) (words : List Said) (frames : List Frame) → IsTail rest tail → AreLast stream begun (word ∷ words) frames → word ∷ words ++ lost ≡ tail → IsFront rest (word ∷ words)
  at_tail begun word words frames (inl none) last is = no_word rest word words (words ++ lost) (is ∙ none)
  at_tail begun word words frames (inr (inl (octets, later, one, next))) last is =
      let both : word ∷ words ++ lost ≡ said.Message octets ∷ [] = is ∙ one in
      let none : words ≡ [] = none_first words lost (ap later_words both) in
      subst (λ (l : List (List ℕ)). IsFront l (word ∷ words)) (sym next)
      (subst (λ (w : Said). IsFront (octets ∷ later) (w ∷ words)) (sym (ap (first_word word) both))
      (subst (λ (ws : List Said). IsFront (octets ∷ later) (said.Message octets ∷ ws)) (sym none) (one_more octets later [] (none_said later))))
  at_tail begun word words frames (inr (inr (others, refusal))) last is =
      let first : word ≡ said.Finish (Some refusals.NoMemory) = ap (first_word word) (is ∙ refusal) in
      let ended : AreLast stream begun (said.Finish (Some refusals.NoMemory) ∷ words) frames = subst (λ (w : Said). AreLast stream begun (w ∷ words) frames) first last in
      subst (λ (w : Said). IsFront rest (w ∷ words)) (sym first)
      (subst (λ (ws : List Said). IsFront rest (said.Finish (Some refusals.NoMemory) ∷ ws)) (sym ended.2) (refused rest))

  front_so : (begun : Bool) (words : List Said) (taken : List (List ℕ)) (frames : List Frame) → IsTail rest tail → AreLast stream begun words frames → words ++ lost ≡ map said.Message taken ++ tail → IsFront (taken ++ rest) words
  front_so begun [] taken frames tail_is last is = none_said (taken ++ rest)
  front_so begun (word ∷ words) [] frames tail_is last is = at_tail begun word words frames tail_is last is
  front_so begun (word ∷ words) (octets ∷ taken) frames tail_is last is =
      let first : word ≡ said.Message octets = ap (first_word word) is in
      subst (λ (w : Said). IsFront (octets ∷ taken ++ rest) (w ∷ words)) (sym first)
      (one_more octets (taken ++ rest) words
      (front_so true words taken frames tail_is (subst (λ (w : Said). AreLast stream begun (w ∷ words) frames) first last) (ap later_words is)))

-- what is made of a list's items, in two parts
record AreParted {A B : Type 0} (f : A → B) (items : List A) (made : List B) : Type 0 where
  pub first : List A
  pub rest : List A
  pub whole : items ≡ first ++ rest
  pub made_is : made ≡ map f first

parted : {A B : Type 0} (f : A → B) (items : List A) (made others : List B) → map f items ≡ made ++ others → AreParted f items made
parted f items [] others is = record { first = []; rest = items; whole = refl; made_is = refl }
parted f [] (one ∷ made) others is = absurd cc
parted {A} {B} f (item ∷ items) (one ∷ made) others is =
    let later = parted f items made others (ap rest_of is) in
    record {
      first = item ∷ later.first;
      rest = later.rest;
      whole = ap (λ (l : List A). item ∷ l) later.whole;
      made_is = ap (λ (b : B). b ∷ made) (sym (ap (first_of one) is)) ∙ ap (λ (l : List B). f item ∷ l) later.made_is;
    }
  where
    first_of : B → List B → B
    first_of none [] = none
    first_of none (b ∷ bs) = b

    rest_of : List B → List B
    rest_of [] = []
    rest_of (b ∷ bs) = bs

says_front : (schema : List SchemaNode) (port : PortView) (deeds : List Deed) (given : List Input) (order : List Item) (lost : List Said) (h : List Entry) (feeder : Feeder) (frames : List Frame) → AreLast feeder.stream false (said_on feeder.stream order) frames
    → HasSeenThat h feeder → (serves : ServesCall schema port deeds given feeder) → said_on feeder.stream order ++ lost ≡ said_on feeder.stream (order_of given) → SaysFront schema feeder.plan h (said_on feeder.stream order)
says_front schema port deeds given order lost h feeder frames last seen serves most =
    let feeds = serves.feeds in
    let tail : List Said = map said_by (last_pieces feeder.end) ++ feeds.lost in
    let front : IsFront (feeds.taken ++ feeds.rest) (said_on feeder.stream order) =
    front_so feeder.stream lost tail feeds.rest false (said_on feeder.stream order) feeds.taken frames
    (tail_so feeder.end feeder.stream feeder.to.wire.progress feeder.to.wire.progress.condition feeds.rest feeds.lost feeds.cause feeds.is_lost)
    last (most ∙ serves.said ∙ words_so feeds.taken (last_pieces feeder.end) feeds.lost) in
    let parts = parted (reply_octets schema feeder.plan) feeds.messages front.taken front.rest (feeds.whole ∙ front.whole) in
    record {
      moments = feeds.looks.moments;
      messages = feeds.messages;
      run = (runs_over schema h feeder seen feeds).run;
      first = parts.first;
      rest = parts.rest;
      whole = parts.whole;
      end = front.end;
      ends = front.ends;
      said_is = front.said_is ∙ ap (λ (octets : List (List ℕ)). map said.Message octets ++ front.end) parts.made_is;
    }

pub fed_streams_say : (schema : List SchemaNode) (old new : Outside) (how : How) (run : SessionRunBeside schema old how new)
    → AllByRecursion (λ (feeder : Feeder). SaysFront schema feeder.plan new.port.seen (said_on feeder.stream (order_of run.run.inputs))) run.feeders
fed_streams_say schema old new how run =
    all_zip (HasSeenThat new.port.seen) (ServesCall schema old.port (deeds_in run.run.served) run.given)
    (λ (feeder : Feeder). SaysFront schema feeder.plan new.port.seen (said_on feeder.stream (order_of run.run.inputs)))
    one_says run.feeders (books_seen run.port run.feeders new.port run.met) run.served
  where
    one_says : (feeder : Feeder) → HasSeenThat new.port.seen feeder → ServesCall schema old.port (deeds_in run.run.served) run.given feeder
        → SaysFront schema feeder.plan new.port.seen (said_on feeder.stream (order_of run.run.inputs))
    one_says feeder seen serves =
        let s = feeder.stream in
        let answer = streams_answered (streams_of run.feeders) schema (own_start old) (outside_of new.input new.output (own_port run.port) new.readings) how run.run s in
        says_front schema old.port (deeds_in run.run.served) run.given (order_of run.run.inputs) (said_on s (map item_of run.last.lost)) new.port.seen feeder answer.last answer.last_are seen serves
        (sym (said_behind s run.run.inputs run.last.lost) ∙ ap (λ (is : List Input). said_on s (order_of is)) (sym run.last.whole))

-- ---- where feeders begin

taken_begin : (old new : PortView) (turns : List Turn) → TakesTurns old turns new → (start more : List Entry) → old.seen ≡ start ++ more → AllByRecursion (BeginsWith start) turns
taken_begin old new [] is start more seen = tt
taken_begin old new (turn ∷ turns) (next, one, rest) start more seen =
    let finds = one_found old next turn one in
    let first : turn.found ≡ start ++ (more ++ finds.0) = finds.1 ∙ ap (λ (h : List Entry). h ++ finds.0) seen ∙ append_assoc start more finds.0 in
    let goes = one_left old next turn one in (
      record { more = more ++ finds.0; whole = first },
      taken_begin next new turns rest start ((more ++ finds.0) ++ goes.0) (goes.1 ∙ ap (λ (h : List Entry). h ++ goes.0) first ∙ append_assoc start (more ++ finds.0) goes.0),
    )
  where
    one_found : (from to : PortView) (t : Turn) → TakesOne from t to → (others : List Entry) × (t.found ≡ from.seen ++ others)
    one_found from to t (inl (result, taken)) = (taken.begins.others, taken.begins.whole)
    one_found from to t (inr (result, taken)) = (taken.begins.others, taken.begins.whole)

    one_left : (from to : PortView) (t : Turn) → TakesOne from t to → (added : List Entry) × (to.seen ≡ t.found ++ added)
    one_left from to t (inl (result, taken)) = (taken.more, ap (λ (p : PortView). p.seen) taken.new_is ∙ taken.goes_on)
    one_left from to t (inr (result, taken)) = (taken.more, ap (λ (p : PortView). p.seen) taken.new_is ∙ taken.goes_on)

pub feeders_begin : (schema : List SchemaNode) (port : PortView) (deeds : List Deed) (given : List Input) (feeder : Feeder) (serves : ServesCall schema port deeds given feeder)
    → AllByRecursion (BeginsWith (left_last port.seen (turns_in serves.before))) serves.feeds.turns
feeders_begin schema port deeds given feeder serves =
    let start = left_last port.seen (turns_in serves.before) in
    taken_begin feeder.from.book feeder.to.book serves.feeds.turns serves.feeds.looks.taken start [] (serves.new_port.seen_is ∙ sym (append-nil start))

-- ---- where their messages begin

-- the turn leaves a history no shorter than this one
abbrev IsAtLeast : List Entry → Turn → Type 0
IsAtLeast start turn = length start ≤ length turn.left

at_least : (start : List Entry) (turns : List Turn) → AllByRecursion (BeginsWith start) turns → AllByRecursion GoesOn turns → AllByRecursion (IsAtLeast start) turns
at_least start [] all go = tt
at_least start (turn ∷ turns) all go =
    let found : length turn.found ≡ length start + length all.0.more = ap length all.0.whole ∙ length-append start all.0.more in
    let left : length turn.left ≡ length turn.found + length go.0.more = ap length go.0.whole ∙ length-append turn.found go.0.more in
    (omega (arith, found, left), at_least start turns all.1 go.1)

behind_all : {T : Type 0} (P : T → Type 0) (first : List T) (one : T) (after : List T) → AllByRecursion P (first ++ one ∷ after) → P one × AllByRecursion P after
behind_all P [] one after all = all
behind_all P (x ∷ first) one after all = behind_all P first one after all.1

among_all : {T : Type 0} (P : T → Type 0) (some items : List T) → StandAmong some items → AllByRecursion P items → AllByRecursion P some
among_all P [] items among all = tt
among_all P (one ∷ some) items (first, after, is, rest) all =
    let behind = behind_all P first one after (subst (AllByRecursion P) is all) in
    (behind.0, among_all P some after rest behind.1)

moments_at : (start : List Entry) (moments : List Moment) (told : List Turn) → map (λ (m : Moment). m.position) moments ≡ map (λ (t : Turn). length t.left) told → AllByRecursion (IsAtLeast start) told
    → AllByRecursion (λ (m : Moment). length start ≤ m.position) moments
moments_at start [] told same all = tt
moments_at start (moment ∷ moments) [] same all = absurd cc
moments_at start (moment ∷ moments) (turn ∷ told) same all =
    (subst (λ (n : ℕ). length start ≤ n) (sym (ap (first_number 0) same)) all.0, moments_at start moments told (ap later_numbers same) all.1)
  where
    first_number : ℕ → List ℕ → ℕ
    first_number none [] = none
    first_number none (n ∷ ns) = n

    later_numbers : List ℕ → List ℕ
    later_numbers [] = []
    later_numbers (n ∷ ns) = ns

pub none_older : (schema : List SchemaNode) (port : PortView) (deeds : List Deed) (given : List Input) (feeder : Feeder) (serves : ServesCall schema port deeds given feeder)
    → AllByRecursion (λ (m : Moment). length (left_last port.seen (turns_in serves.before)) ≤ m.position) serves.feeds.looks.moments
none_older schema port deeds given feeder serves =
    let start = left_last port.seen (turns_in serves.before) in
    let looks = serves.feeds.looks in
    moments_at start looks.moments looks.told looks.positions
    (among_all (IsAtLeast start) looks.told serves.feeds.turns looks.among
    (at_least start serves.feeds.turns (feeders_begin schema port deeds given feeder serves) (taken_go_on feeder.from.book feeder.to.book serves.feeds.turns looks.taken)))

-- so of what is said on their streams
pub fed_streams_none_older : (schema : List SchemaNode) (old new : Outside) (how : How) (run : SessionRunBeside schema old how new)
    → AllByRecursion (λ (feeder : Feeder). (serves : ServesCall schema old.port (deeds_in run.run.served) run.given feeder) × (says : SaysFront schema feeder.plan new.port.seen (said_on feeder.stream (order_of run.run.inputs)))
    × AllByRecursion (λ (moment : Moment). length (left_last old.port.seen (turns_in serves.before)) ≤ moment.position) says.moments) run.feeders
unfolding says_front
fed_streams_none_older schema old new how run =
    all_zip (HasSeenThat new.port.seen) (ServesCall schema old.port (deeds_in run.run.served) run.given)
    (λ (feeder : Feeder). (serves : ServesCall schema old.port (deeds_in run.run.served) run.given feeder) × (says : SaysFront schema feeder.plan new.port.seen (said_on feeder.stream (order_of run.run.inputs)))
    × AllByRecursion (λ (moment : Moment). length (left_last old.port.seen (turns_in serves.before)) ≤ moment.position) says.moments)
    (λ (feeder : Feeder) seen serves. let s = feeder.stream in
    let answer = streams_answered (streams_of run.feeders) schema (own_start old) (outside_of new.input new.output (own_port run.port) new.readings) how run.run s in (
      serves,
      says_front schema old.port (deeds_in run.run.served) run.given (order_of run.run.inputs) (said_on s (map item_of run.last.lost)) new.port.seen feeder answer.last answer.last_are seen serves
          (sym (said_behind s run.run.inputs run.last.lost) ∙ ap (λ (is : List Input). said_on s (order_of is)) (sym run.last.whole)),
      none_older schema old.port (deeds_in run.run.served) run.given feeder serves,
    ))
    run.feeders (books_seen run.port run.feeders new.port run.met) run.served

-- ---- the session's own entries

-- what stands in a history of an author stands in all that go on from it
have_earlier : (author : ℕ) (h entries : List Entry) → entries_by author h ≡ entries → (turns : List Turn) → AllByRecursion (BeginsWith h) turns → AllByRecursion (HasEarlier author entries) turns
have_earlier author h entries is [] all = tt
have_earlier author h entries is (turn ∷ turns) all = (
  record {
    later = entries_by author all.0.more;
    whole = ap (entries_by author) all.0.whole ∙ entries_by_more author h all.0.more ∙ ap (λ (es : List Entry). es ++ entries_by author all.0.more) is;
  },
  have_earlier author h entries is turns all.1,
)

-- the session's own entries up to a deed
own_up_to : (schema : List SchemaNode) (start last : Service) (deeds before after : List Deed) (deed : Deed) → AreDone schema start deeds last → deeds ≡ before ++ deed ∷ after
    → entries_by start.port.author (left_last start.port.seen (turns_in before)) ≡ entries_by start.port.author start.port.seen ++ made_by start.port.author (turns_in before)
own_up_to schema start last deeds before after deed done cut =
    let parts = done_parts schema start before (deed ∷ after) last (subst (λ (ds : List Deed). AreDone schema start ds last) cut done) in
    let taken = turns_taken schema start parts.0 before parts.1 in
    ap (entries_by start.port.author) (sym (last_seen schema start before parts.0 parts.1))
    ∙ own_are_made start.port.author start.port.seen (turns_in before) parts.0.port.seen (taken_go_on start.port parts.0.port (turns_in before) taken) (taken_follow start.port parts.0.port (turns_in before) taken)

pub feeders_find : (schema : List SchemaNode) (old new : Outside) (how : How) (run : SessionRunBeside schema old how new) (feeder : Feeder) (serves : ServesCall schema old.port (deeds_in run.run.served) run.given feeder)
    → AllByRecursion (HasEarlier old.port.author (entries_by old.port.author old.port.seen ++ made_by old.port.author (turns_in serves.before))) serves.feeds.turns
feeders_find schema old new how run feeder serves =
    have_earlier old.port.author (left_last old.port.seen (turns_in serves.before)) (entries_by old.port.author old.port.seen ++ made_by old.port.author (turns_in serves.before))
    (own_up_to schema (first_service (start_of schema (own_start old))) (own_end run) (deeds_in run.run.served) serves.before serves.after serves.deed run.run.served.done serves.whole)
    serves.feeds.turns (feeders_begin schema old.port (deeds_in run.run.served) run.given feeder serves)
