-- A front of a part of a disk grows by what is read behind it.
use Rattle.std.proofs.Common.{◌≡◌, ℕ, ◌+◌, ◌-◌, ◌<◌, ◌≤◌, List, [], ◌++◌, length, take, drop, min, Option, Some, None, sym, ap, subst, ◌∙◌, arith, length-append, take-add}
use Rattle.std.proofs.lemmas.List.{take_all, length-take-le, take-take, drop-drop, length-drop, length-take}
use Rattle.disk_model.specs.Content.{Content, Tells, ReadsAt}

front_on : (seen octets more into : List ℕ) (place size count : ℕ) → octets ≡ take (length octets) (take size (drop place seen)) → ReadsAt seen (place + length octets) count into → count ≤ length into → length octets + count ≤ size → more ≡ octets ++ take count into → more ≡ take (length more) (take size (drop place seen))
front_on seen octets more into place size count front reads within fits is =
    let part = drop place seen in
    let long : length more ≡ length octets + count = ap length is ∙ length-append octets (take count into) ∙ ap (λ n. length octets + n) (length-take-le count into within) in
    is
    ∙ ap (λ t. octets ++ t) reads.octets
    ∙ ap (λ o. o ++ take count (drop (place + length octets) seen)) (front ∙ take-take (length octets) size part (omega (arith, fits)))
    ∙ ap (λ d. take (length octets) part ++ take count d) (sym (drop-drop (length octets) place seen))
    ∙ sym (take-add (length octets) count part)
    ∙ sym (take-take (length octets + count) size part fits)
    ∙ ap (λ n. take n (take size part)) (sym long)

pub front_more : (told at : Option Content) (octets more into : List ℕ) (place size count from : ℕ) → at ≡ told → from ≡ place + length octets → Tells told (λ c. octets ≡ take (length octets) (take size (drop place c.seen))) → Tells at (λ c. ReadsAt c.seen from count into) → count ≤ length into → length octets + count ≤ size → more ≡ octets ++ take count into → Tells told (λ c. more ≡ take (length more) (take size (drop place c.seen)))
front_more None at octets more into place size count from same from_is front reads within fits is = tt
front_more (Some c) None octets more into place size count from same from_is front reads within fits is = absurd (cc)
front_more (Some c) (Some d) octets more into place size count from same from_is front reads within fits is =
    let one : d ≡ c = cc in
    front_on c.seen octets more into place size count front (subst (λ e. ReadsAt e.seen (place + length octets) count into) one (subst (λ p. ReadsAt d.seen p count into) from_is reads)) within fits is

pub front_start : (told : Option Content) (octets : List ℕ) (place size : ℕ) → octets ≡ [] → Tells told (λ c. octets ≡ take (length octets) (take size (drop place c.seen)))
front_start None octets place size is = tt
front_start (Some c) octets place size is = is ∙ sym (ap (λ o. take (length o) (take size (drop place c.seen))) is)

part_length : (seen : List ℕ) (place size : ℕ) → length (take size (drop place seen)) ≡ min size (length seen - place)
part_length seen place size = length-take size (drop place seen) ∙ ap (λ n. min size n) (length-drop place seen)

pub front_whole : (told : Option Content) (octets : List ℕ) (place size : ℕ) → Tells told (λ c. octets ≡ take (length octets) (take size (drop place c.seen))) → size ≤ length octets → Tells told (λ c. octets ≡ take size (drop place c.seen))
front_whole None octets place size front enough = tt
front_whole (Some c) octets place size front enough = front ∙ take_all (length octets) (take size (drop place c.seen)) (omega (arith, enough, part_length c.seen place size))

pub front_ends : (told at : Option Content) (octets into : List ℕ) (place size count : ℕ) → at ≡ told → Tells told (λ c. octets ≡ take (length octets) (take size (drop place c.seen))) → Tells at (λ c. ReadsAt c.seen (place + length octets) count into) → 0 < length into → count ≡ 0 → Tells told (λ c. octets ≡ take size (drop place c.seen))
front_ends None at octets into place size count same front reads room none = tt
front_ends (Some c) None octets into place size count same front reads room none = absurd (cc)
front_ends (Some c) (Some d) octets into place size count same front reads room none =
    let one : d ≡ c = cc in
    let ends : length c.seen ≤ place + length octets = subst (λ e. length e.seen ≤ place + length octets) one (reads.at_end room none) in
    front ∙ take_all (length octets) (take size (drop place c.seen)) (omega (arith, ends, part_length c.seen place size))

-- less is taken than was read, but not nothing where there was something
pub reads_least : (told : Option Content) (place count left taken : ℕ) (into : List ℕ) → Tells told (λ c. ReadsAt c.seen place count into) → 0 < left → taken ≡ min count left → Tells told (λ c. ReadsAt c.seen place taken into)
reads_least None place count left taken into reads room is = tt
reads_least (Some c) place count left taken into reads room is =
    let le : taken ≤ count = omega (arith, is) in
    record {
      octets = sym (take-take taken count into le) ∙ ap (λ l. take taken l) reads.octets ∙ take-take taken count (drop place c.seen) le;
      at_end = λ buffer none. reads.at_end buffer (omega (arith, is, none, room));
    }

pub more_length : (octets more into : List ℕ) (count : ℕ) → count ≤ length into → more ≡ octets ++ take count into → length more ≡ length octets + count
more_length octets more into count within is = ap length is ∙ length-append octets (take count into) ∙ ap (λ n. length octets + n) (length-take-le count into within)
