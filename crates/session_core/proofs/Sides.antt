-- What a session keeps with feeders, from one step to the next.
use Rattle.std.proofs.Common.{◌≡◌, ℕ, ◌==◌, List, [], ◌∷◌, ◌++◌, map, Bool, true, false, refl, sym, ap, ◌∙◌, subst, cond, append_assoc, append-nil}
use Rattle.std.specs.Prelude.{◌||◌, Option, None, Some}
use Rattle.std.specs.List.{AllByRecursion}
use Rattle.book_port.specs.Ports.{PortView}
use Rattle.h2_streams.specs.Calls.{Moment, ended, read, reads_of}
use Rattle.h2_events.specs.declared.said.Said.{Said}
use Rattle.h2_events.specs.Items.{is_last}
use Rattle.h2_send.specs.Inputs.{Input}
use Rattle.stream_workers.specs.Feeders.{Started}
use Rattle.session_core.specs.declared.waiting.Waiting.{Waiting}
use Rattle.session_core.specs.Deeds.{Deed, Handing, handed_by, handed_in, said_to, turns_in}
use Rattle.session_core.specs.Feeding.{left_last}
use Rattle.session_core.specs.Saying.{waits_on}
use Rattle.session_core.specs.inner.Feeders.{HasFeeders, IsHandedBy, IsSilent, IsStartedFor, FeederState, is_told, feeder_state, book_of}
use Rattle.session_core.specs.inner.Sending.{WireHistory, HasGrown, SaysNothing, SaysThere, spoken}
use Rattle.session_core.specs.inner.Words.{words}
use Rattle.session_core.proofs.Rounds.{all_more}

-- ---- what is said to a stream, and what waits there

cond_appends : {A : Type 0} (b : Bool) (x xs ys : List A) → cond b (x ++ (xs ++ ys)) (xs ++ ys) ≡ cond b (x ++ xs) xs ++ ys
cond_appends true x xs ys = sym (append_assoc x xs ys)
cond_appends false x xs ys = refl

cond_append : {A : Type 0} (b : Bool) (x : A) (xs ys : List A) → cond b (x ∷ (xs ++ ys)) (xs ++ ys) ≡ cond b (x ∷ xs) xs ++ ys
cond_append true x xs ys = refl
cond_append false x xs ys = refl

pub said_to-append : (s : ℕ) (xs ys : List Deed) → said_to s (xs ++ ys) ≡ said_to s xs ++ said_to s ys
said_to-append s [] ys = refl
said_to-append s (a ∷ xs) ys =
    ap (λ t. cond (a.stream == s) (a.said ++ t) t) (said_to-append s xs ys) ∙ cond_appends (a.stream == s) a.said (said_to s xs) (said_to s ys)

pub said_to-one : (s : ℕ) (a : Deed) → said_to s (a ∷ []) ≡ cond (a.stream == s) a.said []
said_to-one s a = elim (a.stream == s) as (λ c. cond c (a.said ++ []) [] ≡ cond c a.said []) [ true ↦ append-nil a.said | false ↦ refl ]

pub waits_on-append : (s : ℕ) (xs ys : List Waiting) → waits_on s (xs ++ ys) ≡ waits_on s xs ++ waits_on s ys
waits_on-append s [] ys = refl
waits_on-append s (w ∷ xs) ys =
    ap (λ t. cond (w.stream == s) (w.said ∷ t) t) (waits_on-append s xs ys) ∙ cond_append (w.stream == s) w.said (waits_on s xs) (waits_on s ys)

cond_none : (b : Bool) → ◌≡◌ {A = List Said} [] (cond b [] [])
cond_none true = refl
cond_none false = refl

cond_twice : (b : Bool) (said : Said) (others : List Said) → cond b (said ∷ cond b others []) (cond b others []) ≡ cond b (said ∷ others) []
cond_twice true said others = refl
cond_twice false said others = refl

pub waits_on-words : (s on : ℕ) (said : List Said) → waits_on s (words on said) ≡ cond (on == s) said []
waits_on-words s on [] = cond_none (on == s)
waits_on-words s on (word ∷ others) = ap (λ t. cond (on == s) (word ∷ t) t) (waits_on-words s on others) ∙ cond_twice (on == s) word others

-- ---- lists that are empty

first_empty : {A : Type 0} (xs ys : List A) → xs ++ ys ≡ [] → xs ≡ []
first_empty [] ys is = refl
first_empty (x ∷ xs) ys is = absurd cc

last_empty : {A : Type 0} (xs ys : List A) → xs ++ ys ≡ [] → ys ≡ []
last_empty [] ys is = is
last_empty (x ∷ xs) ys is = absurd cc

both_empty : {A : Type 0} (xs ys : List A) → xs ≡ [] → ys ≡ [] → xs ++ ys ≡ []
both_empty xs ys first last = ap (λ zs. zs ++ ys) first ∙ last

-- ---- what was handed over

pub handed_more : (deeds : List Deed) (d : Deed) → handed_in (deeds ++ d ∷ []) ≡ handed_in deeds ++ handed_by d.stream d.doing
handed_more [] d = append-nil (handed_by d.stream d.doing)
handed_more (e ∷ deeds) d = ap (λ t. handed_by e.stream e.doing ++ t) (handed_more deeds d) ∙ sym (append_assoc (handed_by e.stream e.doing) (handed_in deeds) (handed_by d.stream d.doing))

map_more : {A B : Type 0} (f : A → B) (xs : List A) (x : A) → map f (xs ++ x ∷ []) ≡ map f xs ++ f x ∷ []
map_more f [] x = refl
map_more f (y ∷ xs) x = ap (λ t. f y ∷ t) (map_more f xs x)

still_handed : (name : List ℕ) (port : PortView) (deeds : List Deed) (d : Deed) (one : Started) → IsHandedBy name port deeds one → IsHandedBy name port (deeds ++ d ∷ []) one
still_handed name port deeds d one h = record {
  before = h.before;
  deed = h.deed;
  after = h.after ++ d ∷ [];
  whole = ap (λ (ds : List Deed). ds ++ d ∷ []) h.whole ∙ append_assoc h.before (h.deed ∷ h.after) (d ∷ []);
  body = h.body;
  asked = h.asked;
  started = h.started;
}

all_handed : (name : List ℕ) (port : PortView) (deeds : List Deed) (d : Deed) (all : List Started) → AllByRecursion (IsHandedBy name port deeds) all → AllByRecursion (IsHandedBy name port (deeds ++ d ∷ [])) all
all_handed name port deeds d [] are = tt
all_handed name port deeds d (one ∷ all) are = (still_handed name port deeds d one are.0, all_handed name port deeds d all are.1)

-- ---- what the reader was told

or_more : (a b c : Bool) → (a || (b || c)) ≡ ((a || b) || c)
or_more true b c = refl
or_more false b c = refl

pub told_more : (s : ℕ) (moments more : List Moment) → is_told s (moments ++ more) ≡ (is_told s moments || is_told s more)
told_more s [] more = refl
told_more s (ended other ∷ moments) more = ap (λ t. (other == s) || t) (told_more s moments more) ∙ or_more (other == s) (is_told s moments) (is_told s more)
told_more s (read frame event ∷ moments) more = told_more s moments more

pub silence_untold : (s : ℕ) (more : List Moment) → reads_of more ≡ [] → is_told s more ≡ false
silence_untold s [] is = refl
silence_untold s (ended other ∷ more) is = absurd cc
silence_untold s (read frame None ∷ more) is = silence_untold s more is
silence_untold s (read frame (Some event) ∷ more) is = absurd cc

end_untold : (s on : ℕ) (b : Bool) → (on == s) ≡ false → is_told s (cond b (ended on ∷ []) []) ≡ false
end_untold s on true other = ap (λ t. t || false) other
end_untold s on false other = refl

-- ---- steps

module _ (port : PortView) (side : FeederState) (waiting : List Waiting) (moments : List Moment) (deeds : List Deed) (b : HasFeeders port side waiting moments deeds) where
  silent_more : (d : Deed) (s : ℕ) → said_to s (deeds ++ d ∷ []) ≡ [] → IsSilent s side.own (waiting ++ words d.stream d.said) moments
  silent_more d s none =
      let all = sym (said_to-append s deeds (d ∷ [])) ∙ none in
      let before = b.silent s (first_empty (said_to s deeds) (said_to s (d ∷ [])) all) in
      record {
        unsaid = before.unsaid;
        none = waits_on-append s waiting (words d.stream d.said)
            ∙ both_empty (waits_on s waiting) (waits_on s (words d.stream d.said)) before.none
            (waits_on-words s d.stream d.said ∙ sym (said_to-one s d) ∙ last_empty (said_to s deeds) (said_to s (d ∷ [])) all);
        untold = before.untold;
      }

  -- a deed more, which hands nothing over
  pub deed_beside : (d : Deed) → handed_by d.stream d.doing ≡ [] → HasFeeders port side (waiting ++ words d.stream d.said) moments (deeds ++ d ∷ [])
  deed_beside d none = record {
    silent = silent_more d;
    streams = handed_more deeds d ∙ ap (λ (t : List ℕ). handed_in deeds ++ t) none ∙ append-nil (handed_in deeds) ∙ b.streams;
    handed = all_handed side.name port deeds d side.started b.handed;
  }

  -- one that hands over a call
  pub handing_beside : (d : Deed) (body : List ℕ) (one : Started) → d.doing ≡ Handing body → IsStartedFor side.name d.stream body (book_of port) (left_last port.seen (turns_in deeds)) one
      → HasFeeders port (record side { started = side.started ++ one ∷ [] }) (waiting ++ words d.stream d.said) moments (deeds ++ d ∷ [])
  handing_beside d body one is started = record {
    silent = silent_more d;
    streams = handed_more deeds d ∙ ap (λ doing. handed_in deeds ++ handed_by d.stream doing) is
        ∙ ap (λ (t : List ℕ). t ++ d.stream ∷ []) b.streams ∙ ap (λ (s : ℕ). map (λ o. o.stream) side.started ++ s ∷ []) (sym started.on)
        ∙ sym (map_more (λ o. o.stream) side.started one);
    handed = all_more (IsHandedBy side.name port (deeds ++ d ∷ [])) side.started one (all_handed side.name port deeds d side.started b.handed)
        (record { before = deeds; deed = d; after = []; whole = refl; body = body; asked = is; started = started });
  }

  -- less waits
  pub fewer_wait : (rest : List Waiting) → ((s : ℕ) → waits_on s waiting ≡ [] → waits_on s rest ≡ []) → HasFeeders port side rest moments deeds
  fewer_wait rest fewer = record {
    silent = λ s none. record { unsaid = (b.silent s none).unsaid; none = fewer s (b.silent s none).none; untold = (b.silent s none).untold };
    streams = b.streams;
    handed = b.handed;
  }

  -- the session says no more on a stream where nothing waits
  pub says_there : (own : List (Option Input)) → ((s : ℕ) → waits_on s waiting ≡ [] → spoken s own ≡ spoken s side.own) → HasFeeders port (record side { own = own }) waiting moments deeds
  says_there own same = record {
    silent = λ s none. record { unsaid = same s (b.silent s none).none ∙ (b.silent s none).unsaid; none = (b.silent s none).none; untold = (b.silent s none).untold };
    streams = b.streams;
    handed = b.handed;
  }

  -- the reader goes on, and isn't told of a stream where nothing waits
  pub reader_on : (more : List Moment) → ((s : ℕ) → waits_on s waiting ≡ [] → is_told s more ≡ false) → HasFeeders port side waiting (moments ++ more) deeds
  reader_on more untold = record {
    silent = λ s none. record {
      unsaid = (b.silent s none).unsaid;
      none = (b.silent s none).none;
      untold = told_more s moments more ∙ ap (λ t. t || is_told s more) (b.silent s none).untold ∙ untold s (b.silent s none).none;
    };
    streams = b.streams;
    handed = b.handed;
  }

-- what a call of the sending half that says nothing leaves
pub side_kept : (port : PortView) (old new : WireHistory) (started : List Started) (waiting : List Waiting) (moments : List Moment) (deeds : List Deed) → HasGrown old new → SaysNothing old new
    → HasFeeders port (feeder_state old started) waiting moments deeds → HasFeeders port (feeder_state new started) waiting moments deeds
side_kept port old new started waiting moments deeds grown silent b =
    subst (λ (n : List ℕ). HasFeeders port (record { name = n; own = new.own; started = started }) waiting moments deeds) (sym grown.name)
    (says_there port (feeder_state old started) waiting moments deeds b new.own (λ s none. silent s))

-- and one that says something that was the first to wait on its stream
front_waits : (s : ℕ) (still rest : List Waiting) (w : Waiting) → waits_on s (still ++ w ∷ rest) ≡ [] → cond (w.stream == s) (w.said ∷ waits_on s rest) (waits_on s rest) ≡ []
front_waits s still rest w none = last_empty (waits_on s still) (waits_on s (w ∷ rest)) (sym (waits_on-append s still (w ∷ rest)) ∙ none)

not_there : (b : Bool) (said : Said) (others : List Said) → cond b (said ∷ others) others ≡ [] → b ≡ false
not_there true said others is = absurd cc
not_there false said others is = refl

none_behind : (b : Bool) (said : Said) (others : List Said) → cond b (said ∷ others) others ≡ [] → others ≡ []
none_behind true said others is = absurd cc
none_behind false said others is = is

pub without_waits : (s : ℕ) (still rest : List Waiting) (w : Waiting) → waits_on s (still ++ w ∷ rest) ≡ [] → waits_on s (still ++ rest) ≡ []
without_waits s still rest w none =
    waits_on-append s still rest
    ∙ both_empty (waits_on s still) (waits_on s rest) (first_empty (waits_on s still) (waits_on s (w ∷ rest)) (sym (waits_on-append s still (w ∷ rest)) ∙ none))
    (none_behind (w.stream == s) w.said (waits_on s rest) (front_waits s still rest w none))

pub side_says : (port : PortView) (old new : WireHistory) (started : List Started) (still rest : List Waiting) (w : Waiting) (moments : List Moment) (deeds : List Deed) → HasGrown old new → SaysThere w.stream old new
    → HasFeeders port (feeder_state old started) (still ++ w ∷ rest) moments deeds → HasFeeders port (feeder_state new started) (still ++ w ∷ rest) moments deeds
side_says port old new started still rest w moments deeds grown there b =
    subst (λ (n : List ℕ). HasFeeders port (record { name = n; own = new.own; started = started }) (still ++ w ∷ rest) moments deeds) (sym grown.name)
    (says_there port (feeder_state old started) (still ++ w ∷ rest) moments deeds b new.own
    (λ s none. there s (not_there (w.stream == s) w.said (waits_on s rest) (front_waits s still rest w none))))

-- what is said first on a stream may end it, and what waits there then isn't silent
pub front_untold : (s : ℕ) (still rest : List Waiting) (w : Waiting) → waits_on s (still ++ w ∷ rest) ≡ [] → is_told s (cond (is_last w.said) (ended w.stream ∷ []) []) ≡ false
front_untold s still rest w none = end_untold s w.stream (is_last w.said) (not_there (w.stream == s) w.said (waits_on s rest) (front_waits s still rest w none))
