-- Turns of a port, and what they answer.
use Rattle.std.proofs.Common.{◌≡◌, ◌≢◌, ◌⊎◌, ℕ, List, [], ◌∷◌, ◌++◌, refl, sym, ap, ◌∙◌, subst, inl, inr, Option, Some, None, Result, Ok, Err}
use Rattle.base_kinds.specs.declared.entry.Entry.{Entry}
use Rattle.base_kinds.specs.declared.entry.Ask.{Ask}
use Rattle.base_kinds.specs.declared.refusal.Refusal.{Refusal}
use Rattle.base_kinds.specs.declared.refusal.Refusal.TheVariants as refusals
use Rattle.base_kinds.specs.Step.{Rules, step, after_expiry, with_answer}
use Rattle.base_kinds.specs.declared.entry.View.{View}
use Rattle.base_kinds.specs.declared.path.Elem.{Elem}
use Rattle.base_kinds.specs.Events.{view_of}
use Rattle.book_port.specs.Answers.{AnswersSet, AnswersLook, IsAccepted, IsRefused, IsCutShort}
use Rattle.book_port.specs.Chronicles.{entries_by}
use Rattle.book_port.specs.Follows.{Turn}
use Rattle.book_port.specs.Opened.{rules_in}
use Rattle.book_port.specs.Ports.{PortView, TakesTurn, HasFaultCause, SetsOnce, LooksOnce, marks_after}
use Rattle.request_desk.specs.Tasks.{Task, Says, Changes, Looks, stamped}
use Rattle.request_desk.specs.Answers.{IsDone, IsEnded, IsSaid, Answers, IsAnsweredBy}

-- a turn that is answered otherwise, with the same marks and the same faults of the disk
pub retaken : {A B : Type 0} (old : PortView) (turn : Turn) (a : Result A Refusal) (b : Result B Refusal) (new : PortView)
    → marks_after old.marks a ≡ marks_after old.marks b → (HasFaultCause {T = A} old.faults a new.faults → HasFaultCause {T = B} old.faults b new.faults)
    → TakesTurn old turn a new → TakesTurn old turn b new
retaken old turn a b new same faults taken = record {
  own = taken.own;
  begins = taken.begins;
  has_made = taken.has_made;
  alone = taken.alone;
  found_run = taken.found_run;
  left_run = taken.left_run;
  more = taken.more;
  goes_on = taken.goes_on;
  fault = faults taken.fault;
  new_is = taken.new_is ∙ ap (λ (n : ℕ). record old {
    seen = turn.left;
    finds = old.finds ++ turn.found ∷ [];
    made = old.made ++ entries_by old.author taken.more;
    marks = n;
    faults = new.faults;
  }) same;
}

-- what is given leaves the same faults, whatever it is
given_faults : (A B : Type 0) (before now : Option ℕ) (a : A) (b : B)
    → HasFaultCause {T = A} before (Ok a) now → HasFaultCause {T = B} before (Ok b) now
given_faults A B None None a b h = h
given_faults A B None (Some n) a b h = h
given_faults A B (Some m) None a b h = h
given_faults A B (Some m) (Some n) a b h = h

-- so do refusals, whatever else might have been answered
refused_faults : (A B : Type 0) (before now : Option ℕ) (refusal : Refusal)
    → HasFaultCause {T = A} before (Err refusal) now → HasFaultCause {T = B} before (Err refusal) now
refused_faults A B None None refusal h = h
refused_faults A B None (Some n) refusal h = h
refused_faults A B (Some m) None refusal h = h
refused_faults A B (Some m) (Some n) refusals.DiskFault h = h
refused_faults A B (Some m) (Some n) refusal h = h

-- refusals leave the same marks, whatever else might have been answered
same_marks : (A B : Type 0) (marks : ℕ) (refusal : Refusal) → marks_after {T = A} marks (Err refusal) ≡ marks_after {T = B} marks (Err refusal)
same_marks A B marks refusals.DiskFault = refl
same_marks A B marks refusal = refl

-- ---- a change

accepted : (rules : Rules) (author now : ℕ) (ask : Ask) (reply : ℕ → List ℕ) (turn : Turn) (stamp : ℕ) (octets : List ℕ)
    → turn.reading ≡ now → octets ≡ reply stamp → IsAccepted rules turn.found now author ask stamp turn.left
    → IsDone rules author (Changes ask reply) turn (Ok octets)
accepted rules author now ask reply turn stamp octets read written is =
    let judged : step rules turn.found turn.reading author ask ≡ Ok is.entry =
    subst (λ (n : ℕ). step rules turn.found n author ask ≡ Ok is.entry) (sym read) is.judged in
    record {
      answer = ap Ok (written ∙ ap reply is.stamp_is) ∙ sym (ap (stamped reply) judged);
      left = subst (λ (n : ℕ). turn.left ≡ after_expiry turn.found n ++ is.entry ∷ []) (sym read) is.left_is
          ∙ sym (ap (with_answer (after_expiry turn.found turn.reading)) judged);
    }

refused : (rules : Rules) (author now : ℕ) (ask : Ask) (reply : ℕ → List ℕ) (turn : Turn) (refusal : Refusal)
    → turn.reading ≡ now → IsRefused rules turn.found now author ask refusal turn.left
    → IsDone rules author (Changes ask reply) turn (Err refusal)
refused rules author now ask reply turn refusal read is =
    let judged : step rules turn.found turn.reading author ask ≡ Err refusal =
    subst (λ (n : ℕ). step rules turn.found n author ask ≡ Err refusal) (sym read) is.judged in
    record {
      answer = sym (ap (stamped reply) judged);
      left = subst (λ (n : ℕ). turn.left ≡ after_expiry turn.found n) (sym read) is.left_is
          ∙ sym (ap (with_answer (after_expiry turn.found turn.reading)) judged);
    }

cut_short : (turn : Turn) (now : ℕ) → turn.reading ≡ now → IsCutShort turn.found now turn.left → IsCutShort turn.found turn.reading turn.left
cut_short turn now read cut = subst (λ (n : ℕ). IsCutShort turn.found n turn.left) (sym read) cut

-- what a refused change is, by its refusal
not_changed : (rules : Rules) (author now : ℕ) (ask : Ask) (reply : ℕ → List ℕ) (turn : Turn) (refusal : Refusal)
    → turn.reading ≡ now → AnswersSet rules turn.found now author ask (Err refusal) turn.left
    → IsDone rules author (Changes ask reply) turn (Err refusal) ⊎ IsEnded turn (Err refusal)
not_changed rules author now ask reply turn refusals.DiskFault read is =
    inr (record { cause = inl refl; left = cut_short turn now read is })
not_changed rules author now ask reply turn refusals.NoMemory read is =
    inr (record { cause = inr refl; left = cut_short turn now read is })
not_changed rules author now ask reply turn refusal read is = inl (refused rules author now ask reply turn refusal read is)

pub change_accepted : (old new : PortView) (now : ℕ) (ask : Ask) (reply : ℕ → List ℕ) (stamp : ℕ) (octets : List ℕ)
    → octets ≡ reply stamp → SetsOnce old now ask (Ok stamp) new → IsAnsweredBy (Changes ask reply) old now (Ok octets) new
change_accepted old new now ask reply stamp octets written set = record {
  turn = Some set.turn;
  answers = (refl, inl (accepted (rules_in old.opened) old.author now ask reply set.turn stamp octets set.reading written set.answer));
  moves = (set.reading, retaken old set.turn (Ok stamp) (Ok octets) new refl (given_faults ℕ (List ℕ) old.faults new.faults stamp octets) set.taken);
}

pub change_refused : (old new : PortView) (now : ℕ) (ask : Ask) (reply : ℕ → List ℕ) (refusal : Refusal)
    → SetsOnce old now ask (Err refusal) new → IsAnsweredBy (Changes ask reply) old now (Err refusal) new
change_refused old new now ask reply refusal set = record {
  turn = Some set.turn;
  answers = (refl, not_changed (rules_in old.opened) old.author now ask reply set.turn refusal set.reading set.answer);
  moves = (set.reading, retaken old set.turn (Err refusal) (Err refusal) new (same_marks ℕ (List ℕ) old.marks refusal) (refused_faults ℕ (List ℕ) old.faults new.faults refusal) set.taken);
}

-- ---- a look

-- the view that was found gives what is answered, and no fault of the disk is answered for it
looked : (rules : Rules) (author now : ℕ) (reply : List Entry → Result (List ℕ) Refusal) (patterns : List (List Elem)) (turn : Turn) (view : View)
    (result : Result (List ℕ) Refusal) → turn.reading ≡ now → AnswersLook turn.found now patterns (Ok view) turn.left
    → ((h : List Entry) → view ≡ view_of h patterns → reply h ≡ result) → IsDone rules author (Looks reply) turn result
looked rules author now reply patterns turn view result read is gives =
    let left : turn.left ≡ after_expiry turn.found turn.reading =
    subst (λ (n : ℕ). turn.left ≡ after_expiry turn.found n) (sym read) is.1 in
    record { answer = sym (gives turn.left is.0) ∙ ap reply left; left = left }

starved : (now : ℕ) (patterns : List (List Elem)) (turn : Turn) (view : View) → turn.reading ≡ now
    → AnswersLook turn.found now patterns (Ok view) turn.left → IsEnded turn (Err refusals.NoMemory)
starved now patterns turn view read is = record { cause = inr refl; left = cut_short turn now read (inr is.1) }

look_refused_so : (rules : Rules) (author now : ℕ) (reply : List Entry → Result (List ℕ) Refusal) (patterns : List (List Elem)) (turn : Turn)
    (refusal : Refusal) → turn.reading ≡ now → AnswersLook turn.found now patterns (Err refusal) turn.left
    → IsDone rules author (Looks reply) turn (Err refusal) ⊎ IsEnded turn (Err refusal)
look_refused_so rules author now reply patterns turn refusals.DiskFault read is = inr (record { cause = inl refl; left = cut_short turn now read is })
look_refused_so rules author now reply patterns turn refusals.NoMemory read is = inr (record { cause = inr refl; left = cut_short turn now read is })
look_refused_so rules author now reply patterns turn refusal read is = absurd is

pub look_refused : (old new : PortView) (now : ℕ) (patterns : List (List Elem)) (reply : List Entry → Result (List ℕ) Refusal) (refusal : Refusal)
    → LooksOnce old now patterns (Err refusal) new → IsAnsweredBy (Looks reply) old now (Err refusal) new
look_refused old new now patterns reply refusal look = record {
  turn = Some look.turn;
  answers = (refl, look_refused_so (rules_in old.opened) old.author now reply patterns look.turn refusal look.reading look.answer);
  moves = (look.reading, retaken old look.turn (Err refusal) (Err refusal) new (same_marks View (List ℕ) old.marks refusal) (refused_faults View (List ℕ) old.faults new.faults refusal) look.taken);
}

pub look_answered : (old new : PortView) (now : ℕ) (patterns : List (List Elem)) (reply : List Entry → Result (List ℕ) Refusal) (view : View)
    (octets : List ℕ) → LooksOnce old now patterns (Ok view) new → ((h : List Entry) → view ≡ view_of h patterns → reply h ≡ Ok octets)
    → IsAnsweredBy (Looks reply) old now (Ok octets) new
look_answered old new now patterns reply view octets look gives = record {
  turn = Some look.turn;
  answers = (refl, inl (looked (rules_in old.opened) old.author now reply patterns look.turn view (Ok octets) look.reading look.answer gives));
  moves = (look.reading, retaken old look.turn (Ok view) (Ok octets) new refl (given_faults View (List ℕ) old.faults new.faults view octets) look.taken);
}

-- a refusal behind a view is no fault of the disk
no_mark : (marks : ℕ) (view : View) (refusal : Refusal) → refusal ≢ refusals.DiskFault
    → marks_after {T = View} marks (Ok view) ≡ marks_after {T = List ℕ} marks (Err refusal)
no_mark marks view refusals.DiskFault other = absurd (other refl)
no_mark marks view refusal other = refl

no_fault : (before now : Option ℕ) (view : View) (refusal : Refusal) → refusal ≢ refusals.DiskFault
    → HasFaultCause {T = View} before (Ok view) now → HasFaultCause {T = List ℕ} before (Err refusal) now
no_fault None None view refusal other h = h
no_fault None (Some n) view refusal other h = h
no_fault (Some m) None view refusal other h = h
no_fault (Some m) (Some n) view refusals.DiskFault other h = absurd (other refl)
no_fault (Some m) (Some n) view refusal other h = h

found_so : (rules : Rules) (author now : ℕ) (reply : List Entry → Result (List ℕ) Refusal) (patterns : List (List Elem)) (turn : Turn) (view : View)
    (refusal : Refusal) → turn.reading ≡ now → AnswersLook turn.found now patterns (Ok view) turn.left
    → (refusal ≢ refusals.NoMemory → (h : List Entry) → view ≡ view_of h patterns → reply h ≡ Err refusal)
    → IsDone rules author (Looks reply) turn (Err refusal) ⊎ IsEnded turn (Err refusal)
found_so rules author now reply patterns turn view refusals.NoMemory read is gives = inr (starved now patterns turn view read is)
found_so rules author now reply patterns turn view refusal read is gives =
    inl (looked rules author now reply patterns turn view (Err refusal) read is (gives (λ e. cc)))

pub look_not_answered : (old new : PortView) (now : ℕ) (patterns : List (List Elem)) (reply : List Entry → Result (List ℕ) Refusal) (view : View)
    (refusal : Refusal) → LooksOnce old now patterns (Ok view) new → refusal ≢ refusals.DiskFault
    → (refusal ≢ refusals.NoMemory → (h : List Entry) → view ≡ view_of h patterns → reply h ≡ Err refusal)
    → IsAnsweredBy (Looks reply) old now (Err refusal) new
look_not_answered old new now patterns reply view refusal look other gives = record {
  turn = Some look.turn;
  answers = (refl, found_so (rules_in old.opened) old.author now reply patterns look.turn view refusal look.reading look.answer gives);
  moves = (look.reading, retaken old look.turn (Ok view) (Err refusal) new (no_mark old.marks view refusal other) (no_fault old.faults new.faults view refusal other) look.taken);
}

-- ---- no turn

said_unless : (rules : Rules) (author : ℕ) (task : Task) (refusal : Refusal) → (refusal ≢ refusals.NoMemory → task ≡ Says (Err refusal))
    → Answers rules author task None (Err refusal)
said_unless rules author task refusals.NoMemory is = inr refl
said_unless rules author task refusal is = inl (subst (λ (t : Task). IsSaid t (Err refusal)) (sym (is (λ e. cc))) refl)

pub refused_alone : (task : Task) (port : PortView) (now : ℕ) (refusal : Refusal) → (refusal ≢ refusals.NoMemory → task ≡ Says (Err refusal))
    → IsAnsweredBy task port now (Err refusal) port
refused_alone task port now refusal is =
    record { turn = None; answers = said_unless (rules_in port.opened) port.author task refusal is; moves = refl }
