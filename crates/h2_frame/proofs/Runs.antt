-- Runs of frames: one list, wherever they are cut, and an end to each.
use Rattle.std.proofs.Common.{All, ◌≡◌, ℕ, zero, suc, ◌+◌, ◌<◌, ◌≤◌, ◌⊎◌, List, [], ◌∷◌, ◌++◌, length, get_or, take, drop, refl, sym, ap, subst, ◌∙◌, append_assoc, arith, inl, inr}
use Rattle.std.specs.Prelude.{slice_range}
use Rattle.std.specs.List.{AllByRecursion, flat_map}
use Rattle.std.proofs.lemmas.Bool.{cases_lt}
use Rattle.std.proofs.lemmas.List.{append-nil, length-append, length-drop, get_or_append_left, get_or_default, get_or_past, take-append-drop}
use Rattle.h2_frame.specs.declared.frame.Head.{Head}
use Rattle.h2_frame.specs.Frames.{Frame, Frames, FramesTo, LeadingFrames, BeginsWith, AreOctets, IsEnd, IsTooLong, Fits, Spells, StandsFirst, IsPart, frame_of, spelling, stated_length}
use Rattle.h2_frame.proofs.Spelling.{alike, not_part, spelled}
use Rattle.h2_frame.proofs.Reading.{IsOctets, states_least, frame_no_part, stands, begins}

-- ---- what stands first

-- where a frame of at most `max` octets stands first, what is stated is allowed
begins_allowed : (max : ℕ) (octets : List ℕ) (f : Frame) (after : List ℕ) → BeginsWith max octets f after → stated_length octets ≤ max
begins_allowed max octets f after first =
    let front = first.front in
    let spells : Spells (front ++ []) f = subst (λ (o : List ℕ). Spells o f) (sym (append-nil front)) first.spells in
    let least : stated_length front ≤ f.head.length = states_least front [] f spells in
    let head_there : 9 ≤ length front = omega (arith, ap length first.spells.octets_are) in
    let a : get_or octets 0 0 ≡ get_or front 0 0 = ap (λ (o : List ℕ). get_or o 0 0) first.joined ∙ get_or_append_left front after 0 0 (omega arith) in
    let b : get_or octets 1 0 ≡ get_or front 1 0 = ap (λ (o : List ℕ). get_or o 1 0) first.joined ∙ get_or_append_left front after 0 1 (omega arith) in
    let c : get_or octets 2 0 ≡ get_or front 2 0 = ap (λ (o : List ℕ). get_or o 2 0) first.joined ∙ get_or_append_left front after 0 2 (omega arith) in
    omega (arith, first.allowed)

-- where a frame stands first no run ends
no_end : (max : ℕ) (octets : List ℕ) (f : Frame) (after : List ℕ) → BeginsWith max octets f after → IsEnd max octets → ⊥
no_end max octets f after first (inl part) = not_part max first.front after f first.spells (subst (λ (o : List ℕ). IsPart max o) first.joined part)
no_end max octets f after first (inr long) = omega (arith, begins_allowed max octets f after first, long)

part_not_long : (max : ℕ) (octets : List ℕ) → IsPart max octets → stated_length octets ≤ max
part_not_long max octets part = omega (arith, states_least octets part.missing part.frame part.whole, part.allowed)

first_begins : (max : ℕ) (octets : List ℕ) (head : Head) (used : ℕ) → StandsFirst max octets head used → BeginsWith max octets (frame_of head (slice_range octets 9 used)) (drop used octets)
first_begins max octets head used first = record {
  front = take used octets;
  spells = first.frame;
  allowed = first.allowed;
  joined = sym (take-append-drop used octets);
}

-- ---- one list

pub same_lists : (max : ℕ) (octets : List ℕ) (fs gs : List Frame) (r s : List ℕ) → LeadingFrames max octets fs r → IsEnd max r → LeadingFrames max octets gs s → IsEnd max s → (fs ≡ gs) × (r ≡ s)
same_lists max octets [] [] r s p e q f = (refl, sym p ∙ q)
same_lists max octets [] (g ∷ gs) r s p e q f = absurd (no_end max octets g q.0 q.1 (subst (λ (o : List ℕ). IsEnd max o) (sym p) e))
same_lists max octets (f ∷ fs) [] r s p e q d = absurd (no_end max octets f p.0 p.1 (subst (λ (o : List ℕ). IsEnd max o) (sym q) d))
same_lists max octets (f ∷ fs) (g ∷ gs) r s p e q d =
    let t = alike p.1.front q.1.front p.0 q.0 f g p.1.spells q.1.spells (sym p.1.joined ∙ q.1.joined) in
    let first : f ≡ g = t.1 in
    let u = same_lists max p.0 fs gs r s p.2 e (subst (λ (o : List ℕ). LeadingFrames max o gs s) (sym t.2) q.2) d in
    let rest : fs ≡ gs = u.0 in
    (cc, u.1)

pub to_an_end : (max : ℕ) (octets : List ℕ) (fs : List Frame) (rest : List ℕ) → Frames max octets fs rest → FramesTo max octets fs rest
to_an_end max octets fs rest p = record { leading = p.leading; ends = inl p.is_part }

pub same_to_an_end : (max : ℕ) (octets : List ℕ) (fs gs : List Frame) (r s : List ℕ) → FramesTo max octets fs r → FramesTo max octets gs s → (fs ≡ gs) × (r ≡ s)
same_to_an_end max octets fs gs r s p q = same_lists max octets fs gs r s p.leading p.ends q.leading q.ends

pub same_to_a_part : (max : ℕ) (octets : List ℕ) (fs gs : List Frame) (r s : List ℕ) → Frames max octets fs r → Frames max octets gs s → (fs ≡ gs) × (r ≡ s)
same_to_a_part max octets fs gs r s p q = same_lists max octets fs gs r s p.leading (inl p.is_part) q.leading (inl q.is_part)

-- ---- one behind the other

pub leading_more : (max : ℕ) (a b : List ℕ) (fs gs : List Frame) (r s : List ℕ) → LeadingFrames max a fs r → LeadingFrames max (r ++ b) gs s → LeadingFrames max (a ++ b) (fs ++ gs) s
leading_more max a b [] gs r s p q = subst (λ (o : List ℕ). LeadingFrames max (o ++ b) gs s) (sym p) q
leading_more max a b (f ∷ fs) gs r s p q = (
  p.0 ++ b,
  record {
    front = p.1.front;
    spells = p.1.spells;
    allowed = p.1.allowed;
    joined = ap (λ (o : List ℕ). o ++ b) p.1.joined ∙ append_assoc p.1.front p.0 b;
  },
  leading_more max p.0 b fs gs r s p.2 q,
)

pub joined_to_an_end : (max : ℕ) (a b : List ℕ) (fs gs : List Frame) (r s : List ℕ) → FramesTo max a fs r → FramesTo max (r ++ b) gs s → FramesTo max (a ++ b) (fs ++ gs) s
joined_to_an_end max a b fs gs r s p q = record { leading = leading_more max a b fs gs r s p.leading q.leading; ends = q.ends }

pub joined_to_a_part : (max : ℕ) (a b : List ℕ) (fs gs : List Frame) (r s : List ℕ) → Frames max a fs r → Frames max (r ++ b) gs s → Frames max (a ++ b) (fs ++ gs) s
joined_to_a_part max a b fs gs r s p q = record { leading = leading_more max a b fs gs r s p.leading q.leading; is_part = q.is_part }

-- ---- cuts

-- the front of a part is a part
front_part : (max : ℕ) (a b : List ℕ) → IsPart max (a ++ b) → IsPart max a
front_part max a b p = record {
  missing = b ++ p.missing;
  frame = p.frame;
  some_missing = omega (arith, length-append b p.missing, p.some_missing);
  whole = subst (λ (o : List ℕ). Spells o p.frame) (append_assoc a b p.missing) p.whole;
  allowed = p.allowed;
}

-- of two ways to split a list, one has the longer front
record Longer (x y a b : List ℕ) : Type 0 where
  middle : List ℕ
  front : x ≡ a ++ middle
  behind : b ≡ middle ++ y

splits : (x y a b : List ℕ) → x ++ y ≡ a ++ b → Longer a b x y ⊎ ((t : Longer x y a b) × (0 < length t.middle))
splits [] y a b e = inl (record { middle = a; front = refl; behind = e })
splits (c ∷ x) y [] b e = inr (record { middle = c ∷ x; front = refl; behind = sym e }, omega arith)
splits (c ∷ x) y (d ∷ a) b e =
    let first : c ≡ d = cc in
    let rest : x ++ y ≡ a ++ b = cc in
    elim (splits x y a b rest) [
      | inl t ↦ inl (record { middle = t.middle; front = (let f = t.front in cc); behind = t.behind })
      | inr t ↦ inr (record { middle = t.0.middle; front = (let f = t.0.front in cc); behind = t.0.behind }, t.1)
    ]

-- what of a run stands before a cut: the rest there is a proper prefix of a frame, or the run's own rest was cut
abbrev Cut : ℕ → List ℕ → List ℕ → List Frame → List ℕ → Type 0
Cut max a b hs s =
    (fs gs : List Frame) × (r : List ℕ) × LeadingFrames max a fs r × (IsPart max r ⊎ (r ++ b ≡ s)) × LeadingFrames max (r ++ b) gs s × (hs ≡ fs ++ gs)

cut_first : (max : ℕ) (a b : List ℕ) (h : Frame) (hs : List Frame) (s : List ℕ) (p : LeadingFrames max (a ++ b) (h ∷ hs) s) (t : Longer p.1.front p.0 a b) → 0 < length t.middle → Cut max a b (h ∷ hs) s
cut_first max a b h hs s p t lt = (
  [],
  h ∷ hs,
  a,
  refl,
  inl (record { missing = t.middle; frame = h; some_missing = lt; whole = subst (λ (o : List ℕ). Spells o h) t.front p.1.spells; allowed = p.1.allowed }),
  p,
  refl,
)

cut_leading : (max : ℕ) (a b : List ℕ) (hs : List Frame) (s : List ℕ) → LeadingFrames max (a ++ b) hs s → Cut max a b hs s
cut_leading max a b [] s p = ([], [], a, refl, inr p, p, refl)
cut_leading max a b (h ∷ hs) s p =
    elim (splits p.1.front p.0 a b (sym p.1.joined)) [
      | inl t ↦
          let c = cut_leading max t.middle b hs s (subst (λ (o : List ℕ). LeadingFrames max o hs s) t.behind p.2) in (
            h ∷ c.0,
            c.1,
            c.2,
            (t.middle, record { front = p.1.front; spells = p.1.spells; allowed = p.1.allowed; joined = t.front }, c.3),
            c.4,
            c.5,
            ap (λ (l : List Frame). h ∷ l) c.6,
          )
      | inr t ↦ cut_first max a b h hs s p t.0 t.1
    ]

pub cut_to_a_part : (max : ℕ) (a b : List ℕ) (hs : List Frame) (s : List ℕ) → Frames max (a ++ b) hs s
    → (fs gs : List Frame) × (r : List ℕ) × Frames max a fs r × Frames max (r ++ b) gs s × (hs ≡ fs ++ gs)
cut_to_a_part max a b hs s p =
    let c = cut_leading max a b hs s p.leading in
    (c.0, c.1, c.2, record { leading = c.3; is_part = part c.2 c.4 }, record { leading = c.5; is_part = p.is_part }, c.6)
  where
    part : (r : List ℕ) → IsPart max r ⊎ (r ++ b ≡ s) → IsPart max r
    part r (inl is) = is
    part r (inr same) = front_part max r b (subst (λ (o : List ℕ). IsPart max o) (sym same) p.is_part)

-- ---- octets

octets_at : (octets : List ℕ) → AreOctets octets → IsOctets octets
octets_at octets all i =
    elim (cases_lt i (length octets)) [
      | inl lt ↦ all i 0 lt
      | inr le ↦ rw (get_or_past octets i 0 le) (omega arith)
    ]

octets_left : (xs ys : List ℕ) → AreOctets (xs ++ ys) → AreOctets xs
octets_left xs ys all = λ i d lt. rw (sym (get_or_append_left xs ys d i lt)) (all i d (omega (arith, length-append xs ys)))

octets_right : (xs ys : List ℕ) → AreOctets (xs ++ ys) → AreOctets ys
octets_right [] ys all = all
octets_right (x ∷ xs) ys all = octets_right xs ys (λ i d lt. all (suc i) d (omega arith))

-- the octets that follow leading frames
octets_after : (max : ℕ) (octets : List ℕ) (fs : List Frame) (rest : List ℕ) → LeadingFrames max octets fs rest → AreOctets octets → AreOctets rest
octets_after max octets [] rest p all = subst AreOctets p all
octets_after max octets (f ∷ fs) rest p all =
    octets_after max p.0 fs rest p.2 (octets_right p.1.front p.0 (subst AreOctets p.1.joined all))

-- octets that don't state too much are the front of a frame, or have a whole one in front
some_first : (max : ℕ) (octets : List ℕ) → AreOctets octets → IsEnd max octets ⊎ ((head : Head) × (used : ℕ) × StandsFirst max octets head used)
some_first max octets all =
    elim (cases_lt max (stated_length octets)) [
      | inl long ↦ inl (inr long)
      | inr le ↦ elim (cases_lt (length octets) (9 + stated_length octets)) [
        | inl short ↦ inl (inl (begins max octets (octets_at octets all) le short))
        | inr enough ↦ inr (_, 9 + stated_length octets, stands max octets (octets_at octets all) le enough)
      ]
    ]

-- ---- what is too long, cut

stated_front : (a b : List ℕ) → 3 ≤ length a → stated_length (a ++ b) ≡ stated_length a
stated_front (x ∷ y ∷ z ∷ a) b le = refl
stated_front [] b le = absurd (omega arith)
stated_front (x ∷ []) b le = absurd (omega arith)
stated_front (x ∷ y ∷ []) b le = absurd (omega arith)

front_end : (max : ℕ) (a b : List ℕ) → AreOctets a → IsEnd max (a ++ b) → IsEnd max a
front_end max a b all (inl part) = inl (front_part max a b part)
front_end max a b all (inr long) =
    elim (cases_lt max (stated_length a)) [
      | inl too ↦ inr too
      | inr le ↦ elim (cases_lt (length a) 3) [
        | inl few ↦ inl (begins max a (octets_at a all) le (omega arith))
        | inr three ↦ let same = stated_front a b three in absurd (omega (arith, same, long, le))
      ]
    ]

pub cut_to_an_end : (max : ℕ) (a b : List ℕ) (hs : List Frame) (s : List ℕ) → AreOctets (a ++ b) → FramesTo max (a ++ b) hs s
    → (fs gs : List Frame) × (r : List ℕ) × FramesTo max a fs r × FramesTo max (r ++ b) gs s × (hs ≡ fs ++ gs)
cut_to_an_end max a b hs s all p =
    let c = cut_leading max a b hs s p.leading in
    let rest : AreOctets c.2 = octets_after max a c.0 c.2 c.3 (octets_left a b all) in
    (c.0, c.1, c.2, record { leading = c.3; ends = ends c.2 rest c.4 }, record { leading = c.5; ends = p.ends }, c.6)
  where
    ends : (r : List ℕ) → AreOctets r → IsPart max r ⊎ (r ++ b ≡ s) → IsEnd max r
    ends r fits (inl is) = inl is
    ends r fits (inr same) = front_end max r b fits (subst (λ (o : List ℕ). IsEnd max o) (sym same) p.ends)

-- ---- every run ends

ends_within : (max fuel : ℕ) (octets : List ℕ) → length octets ≤ fuel → AreOctets octets → (fs : List Frame) × (rest : List ℕ) × FramesTo max octets fs rest
ends_within max zero octets le all =
    elim (some_first max octets all) [
      | inl end ↦ ([], octets, record { leading = refl; ends = end })
      | inr first ↦ absurd (omega (arith, first.2.size, first.2.within))
    ]
ends_within max (suc fuel) octets le all =
    elim (some_first max octets all) [
      | inl end ↦ ([], octets, record { leading = refl; ends = end })
      | inr first ↦
          let used = first.1 in
          let others = ends_within max fuel (drop used octets) (omega (arith, length-drop used octets, first.2.size, first.2.within))
          (octets_right (take used octets) (drop used octets) (subst AreOctets (sym (take-append-drop used octets)) all)) in (
            frame_of first.0 (slice_range octets 9 used) ∷ others.0,
            others.1,
            record { leading = (drop used octets, first_begins max octets first.0 used first.2, others.2.leading); ends = others.2.ends },
          )
    ]

pub all_end : (max : ℕ) (octets : List ℕ) → AreOctets octets → (fs : List Frame) × (rest : List ℕ) × FramesTo max octets fs rest
all_end max octets all = ends_within max (length octets) octets (omega arith) all

-- ---- what is written

written : (max : ℕ) (fs : List Frame) (rest : List ℕ) → AllByRecursion Fits fs → AllByRecursion (λ f. f.head.length ≤ max) fs → LeadingFrames max (flat_map spelling fs ++ rest) fs rest
written max [] rest fits allowed = refl
written max (f ∷ fs) rest fits allowed = (
  flat_map spelling fs ++ rest,
  record { front = spelling f; spells = spelled f fits.0; allowed = allowed.0; joined = append_assoc (spelling f) (flat_map spelling fs) rest },
  written max fs rest fits.1 allowed.1,
)

pub written_to_an_end : (max : ℕ) (fs : List Frame) (rest : List ℕ) → AllByRecursion Fits fs → AllByRecursion (λ f. f.head.length ≤ max) fs → IsEnd max rest → FramesTo max (flat_map spelling fs ++ rest) fs rest
written_to_an_end max fs rest fits allowed end = record { leading = written max fs rest fits allowed; ends = end }

pub written_to_a_part : (max : ℕ) (fs : List Frame) (rest : List ℕ) → AllByRecursion Fits fs → AllByRecursion (λ f. f.head.length ≤ max) fs → IsPart max rest → Frames max (flat_map spelling fs ++ rest) fs rest
written_to_a_part max fs rest fits allowed part = record { leading = written max fs rest fits allowed; is_part = part }

-- ---- how a list of frames begins, by what stands first

pub one_more : (max : ℕ) (octets : List ℕ) (head : Head) (used : ℕ) (fs : List Frame) (rest : List ℕ) → StandsFirst max octets head used → FramesTo max (drop used octets) fs rest
    → FramesTo max octets (frame_of head (slice_range octets 9 used) ∷ fs) rest
one_more max octets head used fs rest first p = record { leading = (drop used octets, first_begins max octets head used first, p.leading); ends = p.ends }

pub one_more_to_a_part : (max : ℕ) (octets : List ℕ) (head : Head) (used : ℕ) (fs : List Frame) (rest : List ℕ) → StandsFirst max octets head used → Frames max (drop used octets) fs rest
    → Frames max octets (frame_of head (slice_range octets 9 used) ∷ fs) rest
one_more_to_a_part max octets head used fs rest first p = record { leading = (drop used octets, first_begins max octets head used first, p.leading); is_part = p.is_part }

end_alone : (max : ℕ) (octets : List ℕ) (fs : List Frame) (rest : List ℕ) → IsEnd max octets → FramesTo max octets fs rest → (fs ≡ []) × (rest ≡ octets)
end_alone max octets fs rest end p = let t = same_lists max octets fs [] rest octets p.leading p.ends refl end in t

pub part_alone : (max : ℕ) (octets : List ℕ) (fs : List Frame) (rest : List ℕ) → IsPart max octets → FramesTo max octets fs rest → (fs ≡ []) × (rest ≡ octets)
part_alone max octets fs rest part p = end_alone max octets fs rest (inl part) p

pub long_alone : (max : ℕ) (octets : List ℕ) (fs : List Frame) (rest : List ℕ) → IsTooLong max octets → FramesTo max octets fs rest → (fs ≡ []) × (rest ≡ octets)
long_alone max octets fs rest long p = end_alone max octets fs rest (inr long) p

pub one_taken : (max : ℕ) (octets : List ℕ) (head : Head) (used : ℕ) (fs : List Frame) (rest : List ℕ) → StandsFirst max octets head used → FramesTo max octets fs rest
    → (gs : List Frame) × (fs ≡ frame_of head (slice_range octets 9 used) ∷ gs) × FramesTo max (drop used octets) gs rest
one_taken max octets head used [] rest first p =
    absurd (no_end max octets _ (drop used octets) (first_begins max octets head used first) (subst (λ (o : List ℕ). IsEnd max o) (sym p.leading) p.ends))
one_taken max octets head used (f ∷ fs) rest first p =
    let q = p.leading in
    let t = alike q.1.front (take used octets) q.0 (drop used octets) f _ q.1.spells first.frame (sym q.1.joined ∙ sym (take-append-drop used octets)) in
    (fs, ap (λ (g : Frame). g ∷ fs) t.1, record { leading = subst (λ (o : List ℕ). LeadingFrames max o fs rest) t.2 q.2; ends = p.ends })

pub none_too_long : (max : ℕ) (octets : List ℕ) (fs : List Frame) (rest : List ℕ) → IsTooLong max octets → Frames max octets fs rest → ⊥
none_too_long max octets fs rest long p =
    let alone = long_alone max octets fs rest long (to_an_end max octets fs rest p) in
    omega (arith, part_not_long max octets (subst (λ (o : List ℕ). IsPart max o) alone.1 p.is_part), long)
