-- What is read off two orders, one behind the other.
use Rattle.std.proofs.Common.{◌≡◌, ℕ, ◌==◌, List, [], ◌∷◌, ◌++◌, Bool, true, false, Contains, map, refl, sym, ap, ◌∙◌, subst, cond, inl}
use Rattle.h2_frame.specs.Frames.{Frame}
use Rattle.h2_events.specs.Items.{Item, Meant, Accepted, Wrote, Read, Event, Ended, heard, written, said_on, is_last, as_read, events_read, ended_before, GoTogether}

cond_append : {A : Type 0} (b : Bool) (x : A) (xs ys : List A) → cond b (x ∷ (xs ++ ys)) (xs ++ ys) ≡ cond b (x ∷ xs) xs ++ ys
cond_append true x xs ys = refl
cond_append false x xs ys = refl

pub heard-append : (xs ys : List Item) → heard (xs ++ ys) ≡ heard xs ++ heard ys
heard-append [] ys = refl
heard-append (Meant event ∷ xs) ys = ap (λ t. event ∷ t) (heard-append xs ys)
heard-append (Accepted on said ∷ xs) ys = heard-append xs ys
heard-append (Wrote frame ∷ xs) ys = heard-append xs ys

pub written-append : (xs ys : List Item) → written (xs ++ ys) ≡ written xs ++ written ys
written-append [] ys = refl
written-append (Meant event ∷ xs) ys = written-append xs ys
written-append (Accepted on said ∷ xs) ys = written-append xs ys
written-append (Wrote frame ∷ xs) ys = ap (λ t. frame ∷ t) (written-append xs ys)

pub said_on-append : (s : ℕ) (xs ys : List Item) → said_on s (xs ++ ys) ≡ said_on s xs ++ said_on s ys
said_on-append s [] ys = refl
said_on-append s (Meant event ∷ xs) ys = said_on-append s xs ys
said_on-append s (Accepted on said ∷ xs) ys =
    ap (λ t. cond (on == s) (said ∷ t) t) (said_on-append s xs ys) ∙ cond_append (on == s) said (said_on s xs) (said_on s ys)
said_on-append s (Wrote frame ∷ xs) ys = said_on-append s xs ys

pub as_read-append : (xs ys : List Item) → as_read (xs ++ ys) ≡ as_read xs ++ as_read ys
as_read-append [] ys = refl
as_read-append (Meant event ∷ xs) ys = ap (λ t. Event event ∷ t) (as_read-append xs ys)
as_read-append (Accepted on said ∷ xs) ys =
    ap (λ t. cond (is_last said) (Ended on ∷ t) t) (as_read-append xs ys) ∙ cond_append (is_last said) (Ended on) (as_read xs) (as_read ys)
as_read-append (Wrote frame ∷ xs) ys = as_read-append xs ys

pub events_read-append : (xs ys : List Read) → events_read (xs ++ ys) ≡ events_read xs ++ events_read ys
events_read-append [] ys = refl
events_read-append (Event event ∷ xs) ys = ap (λ t. event ∷ t) (events_read-append xs ys)
events_read-append (Ended stream ∷ xs) ys = events_read-append xs ys

-- ---- frames that were written

pub written-wrote : (frames : List Frame) → written (map Wrote frames) ≡ frames
written-wrote [] = refl
written-wrote (frame ∷ frames) = ap (λ t. frame ∷ t) (written-wrote frames)

pub heard-wrote : (frames : List Frame) → heard (map Wrote frames) ≡ []
heard-wrote [] = refl
heard-wrote (frame ∷ frames) = heard-wrote frames

pub as_read-wrote : (frames : List Frame) → as_read (map Wrote frames) ≡ []
as_read-wrote [] = refl
as_read-wrote (frame ∷ frames) = as_read-wrote frames

pub said_on-wrote : (s : ℕ) (frames : List Frame) → said_on s (map Wrote frames) ≡ []
said_on-wrote s [] = refl
said_on-wrote s (frame ∷ frames) = said_on-wrote s frames

-- ---- one order is two that go together

with_end : (b : Bool) (on : ℕ) (more : List Read) → events_read (cond b (Ended on ∷ more) more) ≡ events_read more
with_end true on more = refl
with_end false on more = refl

pub events_as_read : (order : List Item) → events_read (as_read order) ≡ heard order
events_as_read [] = refl
events_as_read (Meant event ∷ items) = ap (λ t. event ∷ t) (events_as_read items)
events_as_read (Accepted on said ∷ items) = with_end (is_last said) on (as_read items) ∙ events_as_read items
events_as_read (Wrote frame ∷ items) = events_as_read items

pub one_goes_together : (is_fed : ℕ → Bool) (order : List Item) (reader : List Read) → as_read order ≡ reader → GoTogether is_fed order reader
one_goes_together is_fed order reader one = record {
  events = ap events_read (sym one) ∙ events_as_read order;
  ends = λ number stream h. inl (subst (λ r. Contains (ended_before number r) stream) one h);
  only = λ number stream h. subst (λ r. Contains (ended_before number r) stream) (sym one) h;
}
