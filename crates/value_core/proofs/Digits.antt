-- What digits write, one after another.
use Rattle.std.proofs.Common.{◌≡◌, ℕ, ◌+◌, ◌*◌, ◌^◌, ◌<◌, ◌≤◌, List, [], ◌∷◌, ◌++◌, length, get_or, drop, refl, sym, ap, subst, ◌∙◌, arith}
use Rattle.std.specs.Char.{digit_value}
use Rattle.std.specs.Str.Parse.{AllDigits, digits_value_after}
use Rattle.std.proofs.lemmas.List.{drop_more, drop_all}

pub value_append : (n : ℕ) (xs ys : List ℕ) → digits_value_after 10 n (xs ++ ys) ≡ digits_value_after 10 (digits_value_after 10 n xs) ys
value_append n [] ys = refl
value_append n (x ∷ xs) ys = value_append (n * 10 + digit_value x) xs ys

grown : (n d r : ℕ) → n * 10 + d ≤ r → n ≤ r
grown n d r h = omega arith

-- digits make no number smaller
pub value_ge : (n : ℕ) (xs : List ℕ) → n ≤ digits_value_after 10 n xs
value_ge n [] = omega arith
value_ge n (x ∷ xs) = grown n (digit_value x) _ (value_ge (n * 10 + digit_value x) xs)

pub digits_append : (xs ys : List ℕ) → AllDigits 10 xs → AllDigits 10 ys → AllDigits 10 (xs ++ ys)
digits_append [] ys h k = k
digits_append (x ∷ xs) ys h k = (h.0, digits_append xs ys h.1 k)

-- what is read and what is left of the octets, before the octet at this index
pub record ReadsDigits (start longer : ℕ) (octets : List ℕ) (i : ℕ) : Type 0 where
  pub value : digits_value_after 10 longer (drop i octets) ≡ digits_value_after 10 start octets
  pub left : AllDigits 10 octets → AllDigits 10 (drop i octets)
  pub whole : AllDigits 10 (drop i octets) → AllDigits 10 octets

pub reads_more : (start longer octet : ℕ) (octets : List ℕ) (i : ℕ) → i < length octets → octet ≡ get_or octets i 0 → digit_value octet < 10 → ReadsDigits start longer octets i → ReadsDigits start (longer * 10 + digit_value octet) octets (i + 1)
reads_more start longer octet octets i within is digit reads =
    let e = drop_more octets i 0 within ∙ ap (λ x. x ∷ drop (i + 1) octets) (sym is) in
    record {
      value = sym (ap (digits_value_after 10 longer) e) ∙ reads.value;
      left = λ all. (subst (AllDigits 10) e (reads.left all)).1;
      whole = λ rest. reads.whole (subst (AllDigits 10) (sym e) (digit, rest));
    }

pub reads_none : (start : ℕ) (octets : List ℕ) → ReadsDigits start start octets 0
reads_none start octets = record { value = refl; left = λ h. h; whole = λ h. h }

pub reads_all : (start longer : ℕ) (octets : List ℕ) (i : ℕ) → length octets ≤ i → ReadsDigits start longer octets i → (longer ≡ digits_value_after 10 start octets) × AllDigits 10 octets
reads_all start longer octets i past reads =
    let e = drop_all i octets past in
    (sym (ap (digits_value_after 10 longer) e) ∙ reads.value, reads.whole (subst (AllDigits 10) (sym e) tt))

-- one more digit makes the number too large, and so do all of them
pub reads_large : (start longer octet : ℕ) (octets : List ℕ) (i : ℕ) → i < length octets → octet ≡ get_or octets i 0 → ReadsDigits start longer octets i → (digit_value octet < 10 → 2 ^ 64 ≤ longer * 10 + digit_value octet) → AllDigits 10 octets → 2 ^ 64 ≤ digits_value_after 10 start octets
reads_large start longer octet octets i within is reads large all =
    let e = drop_more octets i 0 within ∙ ap (λ x. x ∷ drop (i + 1) octets) (sym is) in
    let next = longer * 10 + digit_value octet in
    let value : digits_value_after 10 next (drop (i + 1) octets) ≡ digits_value_after 10 start octets = sym (ap (digits_value_after 10 longer) e) ∙ reads.value in
    let digit = (subst (AllDigits 10) e (reads.left all)).0 in
    let more = value_ge next (drop (i + 1) octets) in
    subst (λ r. 2 ^ 64 ≤ r) value (reach (2 ^ 64) next (digits_value_after 10 next (drop (i + 1) octets)) (large digit) more)
  where
    reach : (a b c : ℕ) → a ≤ b → b ≤ c → a ≤ c
    reach a b c h k = omega arith
