-- A message that is whole stands first, and the others behind it.
use Rattle.std.proofs.Common.{◌≡◌, ℕ, zero, suc, ◌+◌, ◌/◌, ◌%◌, ◌<◌, ◌≤◌, false, List, [], ◌∷◌, ◌++◌, length, take, drop, get_or, sym, ap, ◌∙◌, subst, arith, length-take}
use Rattle.std.specs.Prelude.{nat_eq}
use Rattle.std.specs.Int.{bytes_high_first}
use Rattle.std.proofs.lemmas.List.{take-append-drop, drop-drop}
use Rattle.grpc_core.specs.Messages.{stated, of_length, standing, framed, largest_message, AreMessages}
use Rattle.grpc_core.specs.declared.message.Standing.TheVariants.{Whole}

four : (a b c d : ℕ) → a < 256 → b < 256 → c < 256 → d < 256 → bytes_high_first 4 (stated a b c d) ≡ a ∷ b ∷ c ∷ d ∷ []
four a b c d p q r s =
    let n = stated a b c d in
    let e : n / 16777216 % 256 ≡ a = omega (arith, p, q, r, s) in
    let f : n / 65536 % 256 ≡ b = omega (arith, p, q, r, s) in
    let g : n / 256 % 256 ≡ c = omega (arith, p, q, r, s) in
    let h : n % 256 ≡ d = omega (arith, p, q, r, s) in
    ap (λ x. x ∷ n / 65536 % 256 ∷ n / 256 % 256 ∷ n % 256 ∷ []) e ∙ ap (λ x. a ∷ x ∷ n / 256 % 256 ∷ n % 256 ∷ []) f ∙ ap (λ x. a ∷ b ∷ x ∷ n % 256 ∷ []) g ∙ ap (λ x. a ∷ b ∷ c ∷ x ∷ []) h

record OfLength (size have n : ℕ) : Type 0 where
  pub same : size ≡ n
  pub there : n ≤ have
  pub allowed : n ≤ largest_message

of_length-whole : (size have n : ℕ) → of_length size have ≡ Whole n → OfLength size have n
of_length-whole size have n is = grind arith

pub record First (octets : List ℕ) (n : ℕ) : Type 0 where
  pub parts : octets ≡ framed (take n (drop 5 octets)) ++ drop (5 + n) octets
  pub allowed : length (take n (drop 5 octets)) ≤ largest_message
  pub there : 5 + n ≤ length octets

plain_first : (a b c d : ℕ) (more : List ℕ) (n : ℕ) → a < 256 → b < 256 → c < 256 → d < 256 → OfLength (stated a b c d) (length more) n → First (0 ∷ a ∷ b ∷ c ∷ d ∷ more) n
plain_first a b c d more n p q r s o =
    let whole = 0 ∷ a ∷ b ∷ c ∷ d ∷ more in
    let m = take n more in
    let size : length m ≡ stated a b c d = omega (arith, o.same, o.there, length-take n more) in
    let head : bytes_high_first 4 (length m) ≡ a ∷ b ∷ c ∷ d ∷ [] = ap (λ k. bytes_high_first 4 k) size ∙ four a b c d p q r s in
    let rest : m ++ drop (5 + n) whole ≡ more = ap (λ x. m ++ x) (sym (drop-drop n 5 whole)) ∙ take-append-drop n more in
    record {
      parts = sym (ap (λ (h : List ℕ). ((0 ∷ h) ++ m) ++ drop (5 + n) whole) head ∙ ap (λ t. 0 ∷ a ∷ b ∷ c ∷ d ∷ t) rest);
      allowed = omega (arith, o.same, o.allowed, size);
      there = omega (arith, o.there);
    }

pub message_first : (octets : List ℕ) (n : ℕ) → ((i : ℕ) → get_or octets i 0 < 256) → standing octets ≡ Whole n → First octets n
message_first [] n fits is = absurd cc
message_first (f ∷ []) n fits is = absurd cc
message_first (f ∷ a ∷ []) n fits is = absurd cc
message_first (f ∷ a ∷ b ∷ []) n fits is = absurd cc
message_first (f ∷ a ∷ b ∷ c ∷ []) n fits is = absurd cc
message_first (zero ∷ a ∷ b ∷ c ∷ d ∷ more) n fits is = plain_first a b c d more n (fits 1) (fits 2) (fits 3) (fits 4) (of_length-whole (stated a b c d) (length more) n is)
message_first (suc f ∷ a ∷ b ∷ c ∷ d ∷ more) n fits is = let t : nat_eq (suc f) 0 ≡ false = grind arith in let k = rw t at is in absurd cc

pub AreMessages-append : (octets : List ℕ) (ms ns : List (List ℕ)) (mid rest : List ℕ) → AreMessages octets ms mid → AreMessages mid ns rest → AreMessages octets (ms ++ ns) rest
AreMessages-append octets [] ns mid rest first second = subst (λ o. AreMessages o ns rest) (sym first) second
AreMessages-append octets (m ∷ ms) ns mid rest (after, is, fits, others) second = (after, is, fits, AreMessages-append after ms ns mid rest others second)
