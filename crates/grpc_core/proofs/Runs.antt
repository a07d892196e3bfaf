-- Messages among octets: one list, wherever they are cut, and an end to each.
use Rattle.std.proofs.Common.{◌≡◌, ℕ, zero, suc, ◌+◌, ◌/◌, ◌%◌, ◌<◌, ◌≤◌, false, List, [], ◌∷◌, ◌++◌, length, take, drop, get_or, refl, sym, ap, ◌∙◌, subst, arith, append_assoc, length-drop, inl, inr}
use Rattle.std.specs.Prelude.{nat_eq, Option, Some, None}
use Rattle.std.specs.List.{AllByRecursion, flat_map}
use Rattle.std.proofs.lemmas.Bool.{cases_lt}
use Rattle.std.proofs.lemmas.List.{length-append, get_or-drop, get_or_past, drop-drop}
use Rattle.std.proofs.Math.Seq.{take-append_seam, drop-append_seam}
use Rattle.grpc_core.specs.Messages.{stated, of_length, standing, framed, largest_message, end_at, Cut, cut, cut_at, cut_within, with_message, AreMessages, AreOctets, Splits}
use Rattle.grpc_core.specs.declared.message.SplitFault.{SplitFault}
use Rattle.grpc_core.specs.declared.message.Standing.{Standing}
use Rattle.grpc_core.specs.declared.message.Standing.TheVariants.{Waiting, Whole, Faulty}
use Rattle.grpc_core.proofs.Cutting.{First, message_first}

-- ---- what is written stands first

states_again : (n : ℕ) → n ≤ largest_message → stated (n / 16777216 % 256) (n / 65536 % 256) (n / 256 % 256) (n % 256) ≡ n
states_again n le = omega (arith, le)

size_whole : (size there : ℕ) → size ≤ largest_message → size ≤ there → of_length size there ≡ Whole size
size_whole size there small enough = grind (arith, small, enough)

pub framed_whole : (message after : List ℕ) → length message ≤ largest_message → standing (framed message ++ after) ≡ Whole (length message)
framed_whole message after small =
    let n = length message in
    let enough : n ≤ length (message ++ after) = omega (arith, length-append message after) in
    ap (λ size. of_length size (length (message ++ after))) (states_again n small) ∙ size_whole n (length (message ++ after)) small enough

no_end : (message after : List ℕ) (fault : Option SplitFault) → length message ≤ largest_message → standing (framed message ++ after) ≡ end_at fault → ⊥
no_end message after None small ends = let whole = sym (framed_whole message after small) ∙ ends in absurd cc
no_end message after (Some fault) small ends = let whole = sym (framed_whole message after small) ∙ ends in absurd cc

-- ---- one list

-- where two lists are equal and their fronts have one length, the fronts are equal, and what follows
record Alike (m n a b : List ℕ) : Type 0 where
  front : m ≡ n
  after : a ≡ b

alike : (m n a b : List ℕ) → length m ≡ length n → m ++ a ≡ n ++ b → Alike m n a b
alike [] [] a b same is = record { front = refl; after = is }
alike [] (y ∷ n) a b same is = absurd (omega (arith, same))
alike (x ∷ m) [] a b same is = absurd (omega (arith, same))
alike (x ∷ m) (y ∷ n) a b same is =
    let sizes : length m ≡ length n = omega (arith, same) in
    let tails : m ++ a ≡ n ++ b = cc in
    let first : x ≡ y = cc in
    let others = alike m n a b sizes tails in
    let front : m ≡ n = others.front in
    let both : x ∷ m ≡ y ∷ n = cc in
    record { front = both; after = others.after }

whole_size : (m n : ℕ) → Whole m ≡ Whole n → m ≡ n
whole_size m n is = cc

framed_alike : (m n a b : List ℕ) → length m ≤ largest_message → length n ≤ largest_message → framed m ++ a ≡ framed n ++ b → Alike m n a b
framed_alike m n a b small less is =
    let sizes : length m ≡ length n = whole_size (length m) (length n) (sym (framed_whole m a small) ∙ ap standing is ∙ framed_whole n b less) in
    alike m n a b sizes (ap (λ octets. drop 5 octets) is)

pub same_list : (octets : List ℕ) (ms ns : List (List ℕ)) (r s : List ℕ) (e f : Option SplitFault) → AreMessages octets ms r → standing r ≡ end_at e → AreMessages octets ns s → standing s ≡ end_at f → (ms ≡ ns) × (r ≡ s)
same_list octets [] [] r s e f p ends q stops = (refl, sym p ∙ q)
same_list octets [] (n ∷ ns) r s e f p ends q stops = absurd (no_end n q.0 e q.2 (sym (ap standing (sym p ∙ q.1)) ∙ ends))
same_list octets (m ∷ ms) [] r s e f p ends q stops = absurd (no_end m p.0 f p.2 (sym (ap standing (sym q ∙ p.1)) ∙ stops))
same_list octets (m ∷ ms) (n ∷ ns) r s e f p ends q stops =
    let same = framed_alike m n p.0 q.0 p.2 q.2 (sym p.1 ∙ q.1) in
    let others = same_list p.0 ms ns r s e f p.3 ends (subst (λ (o : List ℕ). AreMessages o ns s) (sym same.after) q.3) stops in
    let first : m ≡ n = same.front in
    let rest : ms ≡ ns = others.0 in
    let both : m ∷ ms ≡ n ∷ ns = cc in
    (both, others.1)

one_fault : (e f : Option SplitFault) → end_at e ≡ end_at f → e ≡ f
one_fault None None is = refl
one_fault None (Some fault) is = absurd cc
one_fault (Some fault) None is = absurd cc
one_fault (Some fault) (Some other) is = let same : fault ≡ other = cc in ap Some same

pub one : (octets : List ℕ) (ms ns : List (List ℕ)) (r s : List ℕ) (e f : Option SplitFault) → Splits octets ms r e → Splits octets ns s f → (ms ≡ ns) × (r ≡ s) × (e ≡ f)
one octets ms ns r s e f p q =
    let same = same_list octets ms ns r s e f p.leading p.ends q.leading q.ends in
    (same.0, same.1, one_fault e f (sym p.ends ∙ ap standing same.1 ∙ q.ends))

pub first_ones : (octets : List ℕ) (ms ns : List (List ℕ)) (r s : List ℕ) (fault : Option SplitFault) → AreMessages octets ms r → AreMessages octets ns s → standing s ≡ end_at fault → (others : List (List ℕ)) × (ns ≡ ms ++ others)
first_ones octets [] ns r s fault p q ends = (ns, refl)
first_ones octets (m ∷ ms) [] r s fault p q ends = absurd (no_end m p.0 fault p.2 (sym (ap standing (sym q ∙ p.1)) ∙ ends))
first_ones octets (m ∷ ms) (n ∷ ns) r s fault p q ends =
    let same = framed_alike m n p.0 q.0 p.2 q.2 (sym p.1 ∙ q.1) in
    let others = first_ones p.0 ms ns r s fault p.3 (subst (λ (o : List ℕ). AreMessages o ns s) (sym same.after) q.3) ends in
    let first : m ≡ n = same.front in
    let rest : ns ≡ ms ++ others.0 = others.1 in
    let both : n ∷ ns ≡ m ∷ (ms ++ others.0) = cc in
    (others.0, both)

-- ---- one behind the other

pub leading_more : (a b : List ℕ) (ms ns : List (List ℕ)) (r s : List ℕ) → AreMessages a ms r → AreMessages (r ++ b) ns s → AreMessages (a ++ b) (ms ++ ns) s
leading_more a b [] ns r s p q = subst (λ (o : List ℕ). AreMessages (o ++ b) ns s) (sym p) q
leading_more a b (m ∷ ms) ns r s p q = (
  p.0 ++ b,
  ap (λ (o : List ℕ). o ++ b) p.1 ∙ append_assoc (framed m) p.0 b,
  p.2,
  leading_more p.0 b ms ns r s p.3 q,
)

pub goes_on : (a b : List ℕ) (ms ns : List (List ℕ)) (r s : List ℕ) (fault : Option SplitFault) → Splits a ms r None → Splits (r ++ b) ns s fault → Splits (a ++ b) (ms ++ ns) s fault
goes_on a b ms ns r s fault p q = record { leading = leading_more a b ms ns r s p.leading q.leading; ends = q.ends }

leading_longer : (a b : List ℕ) (ms : List (List ℕ)) (r : List ℕ) → AreMessages a ms r → AreMessages (a ++ b) ms (r ++ b)
leading_longer a b [] r p = ap (λ (o : List ℕ). o ++ b) p
leading_longer a b (m ∷ ms) r p = (
  p.0 ++ b,
  ap (λ (o : List ℕ). o ++ b) p.1 ∙ append_assoc (framed m) p.0 b,
  p.2,
  leading_longer p.0 b ms r p.3,
)

size_stays : (size have more : ℕ) (fault : SplitFault) → of_length size have ≡ Faulty fault → of_length size more ≡ Faulty fault
size_stays size have more fault is = grind (arith, is)

fault_stays : (r b : List ℕ) (fault : SplitFault) → standing r ≡ Faulty fault → standing (r ++ b) ≡ Faulty fault
fault_stays [] b fault is = absurd cc
fault_stays (f ∷ []) b fault is = absurd cc
fault_stays (f ∷ x ∷ []) b fault is = absurd cc
fault_stays (f ∷ x ∷ y ∷ []) b fault is = absurd cc
fault_stays (f ∷ x ∷ y ∷ z ∷ []) b fault is = absurd cc
fault_stays (zero ∷ x ∷ y ∷ z ∷ u ∷ more) b fault is = size_stays (stated x y z u) (length more) (length (more ++ b)) fault is
fault_stays (suc f ∷ x ∷ y ∷ z ∷ u ∷ more) b fault is =
    let flagged : nat_eq (suc f) 0 ≡ false = grind arith in
    let was = rw flagged at is in
    rw flagged was

pub stays : (a b : List ℕ) (ms : List (List ℕ)) (r : List ℕ) (fault : SplitFault) → Splits a ms r (Some fault) → Splits (a ++ b) ms (r ++ b) (Some fault)
stays a b ms r fault p = record { leading = leading_longer a b ms r p.leading; ends = fault_stays r b fault p.ends }

-- ---- what is written

pub written : (messages : List (List ℕ)) (rest : List ℕ) (fault : Option SplitFault) → AllByRecursion (λ message. length message ≤ largest_message) messages → standing rest ≡ end_at fault → Splits (flat_map framed messages ++ rest) messages rest fault
written messages rest fault small ends = record { leading = leads messages small; ends = ends }
  where
    leads : (messages : List (List ℕ)) → AllByRecursion (λ message. length message ≤ largest_message) messages → AreMessages (flat_map framed messages ++ rest) messages rest
    leads [] small = refl
    leads (m ∷ ms) small = (flat_map framed ms ++ rest, append_assoc (framed m) (flat_map framed ms) rest, small.0, leads ms small.1)

-- ---- an end to each

size_waits : (size there : ℕ) → of_length size there ≡ Waiting → there ≤ 4194303
size_waits size there is = grind (arith, is)

pub unfinished : (rest : List ℕ) → standing rest ≡ end_at None → length rest ≤ 4194308
unfinished [] is = omega arith
unfinished (f ∷ []) is = omega arith
unfinished (f ∷ a ∷ []) is = omega arith
unfinished (f ∷ a ∷ b ∷ []) is = omega arith
unfinished (f ∷ a ∷ b ∷ c ∷ []) is = omega arith
unfinished (zero ∷ a ∷ b ∷ c ∷ d ∷ more) is = let few : length more ≤ 4194303 = size_waits (stated a b c d) (length more) is in omega (arith, few)
unfinished (suc f ∷ a ∷ b ∷ c ∷ d ∷ more) is =
    let flagged : nat_eq (suc f) 0 ≡ false = grind arith in
    let was = rw flagged at is in
    absurd cc

octets_at : (octets : List ℕ) → AreOctets octets → (i : ℕ) → get_or octets i 0 < 256
octets_at octets all i =
    elim (cases_lt i (length octets)) [
      | inl lt ↦ all i 0 lt
      | inr le ↦ rw (get_or_past octets i 0 le) (omega arith)
    ]

-- what a cut says of octets
abbrev Says : List ℕ → Cut → Type 0
Says octets c = Splits octets c.messages c.rest c.fault

-- one message in front, and what is said of what follows it
one_more : (octets : List ℕ) (n : ℕ) (c : Cut) → First octets n → Says (drop (5 + n) octets) c → Says octets (with_message (take n (drop 5 octets)) c)
one_more octets n c first others = record { leading = (drop (5 + n) octets, first.parts, first.allowed, others.leading); ends = others.ends }

nothing_left : (octets : List ℕ) → length octets ≤ 0 → octets ≡ []
nothing_left [] le = refl
nothing_left (x ∷ octets) le = absurd (omega (arith, le))

-- so many messages at most are cut, whatever the octets are
abbrev CutsWithin : ℕ → Type 0
CutsWithin most = (octets : List ℕ) → length octets ≤ most → ((i : ℕ) → get_or octets i 0 < 256) → Says octets (cut_within most octets)

says_at : (most : ℕ) (octets : List ℕ) → length octets ≤ suc most → ((i : ℕ) → get_or octets i 0 < 256) → CutsWithin most → (stands : Standing) → standing octets ≡ stands → Says octets (cut_at (cut_within most) octets stands)
says_at most octets le fits others Waiting is = record { leading = refl; ends = is }
says_at most octets le fits others (Faulty fault) is = record { leading = refl; ends = is }
says_at most octets le fits others (Whole n) is =
    let first = message_first octets n fits is in
    let rest = drop (5 + n) octets in
    let fewer : length rest ≤ most = omega (arith, length-drop (5 + n) octets, first.there, le) in
    let fit : (i : ℕ) → get_or rest i 0 < 256 = λ i. rw (get_or-drop (5 + n) octets i 0) (fits (5 + n + i)) in
    one_more octets n (cut_within most rest) first (others rest fewer fit)

says_within : (most : ℕ) → CutsWithin most
says_within zero octets le fits = record { leading = refl; ends = ap standing (nothing_left octets le) }
says_within (suc most) octets le fits = says_at most octets le fits (says_within most) (standing octets) refl

pub every : (octets : List ℕ) → AreOctets octets → Says octets (cut octets)
every octets all = says_within (length octets) octets (omega arith) (octets_at octets all)

-- ---- the cut is what is said

abbrev cut_of : List (List ℕ) → List ℕ → Option SplitFault → Cut
cut_of messages rest fault = record { messages = messages; rest = rest; fault = fault }

at_an_end : (others : List ℕ → Cut) (octets : List ℕ) (fault : Option SplitFault) → cut_at others octets (end_at fault) ≡ cut_of [] octets fault
at_an_end others octets None = refl
at_an_end others octets (Some fault) = refl

at_a_message : (most : ℕ) (message after : List ℕ) → length message ≤ largest_message → cut_within (suc most) (framed message ++ after) ≡ with_message message (cut_within most after)
at_a_message most message after small =
    let whole = framed message ++ after in
    let n = length message in
    let first : take n (drop 5 whole) ≡ message = take-append_seam message after in
    let rest : drop (5 + n) whole ≡ after = sym (drop-drop n 5 whole) ∙ drop-append_seam message after in
    ap (λ (s : Standing). cut_at (cut_within most) whole s) (framed_whole message after small)
    ∙ ap (λ (m : List ℕ). with_message m (cut_within most (drop (5 + n) whole))) first
    ∙ ap (λ (o : List ℕ). with_message message (cut_within most o)) rest

only_within : (most : ℕ) (octets : List ℕ) (ms : List (List ℕ)) (r : List ℕ) (fault : Option SplitFault) → length octets ≤ most → AreMessages octets ms r → standing r ≡ end_at fault → cut_within most octets ≡ cut_of ms r fault
only_within zero octets [] r fault le p ends =
    let empty : octets ≡ [] = nothing_left octets le in
    let none : None ≡ fault = one_fault None fault (sym (ap standing (sym p ∙ empty)) ∙ ends) in
    ap (λ (o : List ℕ). cut_of [] o None) p ∙ ap (λ (f : Option SplitFault). cut_of [] r f) none
only_within zero octets (m ∷ ms) r fault le p ends = absurd (omega (arith, ap length p.1, le, length-append m p.0))
only_within (suc most) octets [] r fault le p ends =
    ap (λ (s : Standing). cut_at (cut_within most) octets s) (ap standing p ∙ ends)
    ∙ at_an_end (cut_within most) octets fault
    ∙ ap (λ (o : List ℕ). cut_of [] o fault) p
only_within (suc most) octets (m ∷ ms) r fault le p ends =
    let fewer : length p.0 ≤ most = omega (arith, ap length p.1, le, length-append m p.0) in
    ap (λ (o : List ℕ). cut_within (suc most) o) p.1
    ∙ at_a_message most m p.0 p.2
    ∙ ap (λ (c : Cut). with_message m c) (only_within most p.0 ms r fault fewer p.3 ends)

pub only : (octets : List ℕ) (messages : List (List ℕ)) (rest : List ℕ) (fault : Option SplitFault) → Splits octets messages rest fault → cut octets ≡ record { messages = messages; rest = rest; fault = fault }
only octets messages rest fault p = only_within (length octets) octets messages rest fault (omega arith) p.leading p.ends
