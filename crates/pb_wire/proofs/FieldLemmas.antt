-- What is read as a field is one, and a field is read, whatever follows it.
use Rattle.std.proofs.Common.{◌≡◌, ℕ, ◌+◌, ◌-◌, ◌*◌, ◌/◌, ◌%◌, ◌^◌, ◌<◌, ◌≤◌, Bool, true, false, cond, ltb, leb, eqb, List, ◌++◌, length, take, drop, Option, Some, None, refl, sym, ap, ◌∙◌, subst, arith, append_assoc, lit<, ◌⊎◌, inl, inr}
use Rattle.std.proofs.lemmas.Option.{some_pair_parts}
use Rattle.std.proofs.lemmas.Bool.{ltb-false, le-ltb, leb-false, lt-leb, eqb-true}
use Rattle.std.proofs.lemmas.List.{take_at, drop_at, take-append-drop, length-append, length-take}
use Rattle.std.specs.Int.{Width, w32, w64, byte_len, from_le_bytes}
use Rattle.pb_wire.specs.declared.field.Body.{Body}
use Rattle.pb_wire.specs.declared.field.Body.TheVariants.{Varint, Eight, Octets, Four}
use Rattle.pb_wire.specs.declared.field.Field.{Field}
use Rattle.pb_wire.specs.Varint.{IsVarint}
use Rattle.pb_wire.specs.Message.{wire_type, IsDelimited, IsBody, IsField}
use Rattle.base_lists.specs.Options.{◌>>=◌}
use Rattle.pb_wire.specs.inner.Reading.{varint_at, number_at, delimited_at, body_at, field_at}
use Rattle.pb_wire.proofs.SpellingLemmas.{Takes, bind_some, passed, failed_not, parts_from, varint_takes, varint_again}

-- ---- a field is read

pub number_again : (w : Width) (front rest : List ℕ) → length front ≡ byte_len w → number_at w (front ++ rest) ≡ Some (from_le_bytes w front, rest)
number_again w front rest len =
    let long : ltb (length (front ++ rest)) (byte_len w) ≡ false = le-ltb _ _ (omega (arith, length-append front rest, len)) in
    rw (long, take_at front rest (byte_len w) len, drop_at front rest (byte_len w) len) refl

pub delimited_again : (total place : ℕ) (front rest : List ℕ) (from to : ℕ) → place + length (front ++ rest) ≡ total → IsDelimited place front from to → delimited_at total (front ++ rest) ≡ Some (Octets from to, rest)
unfolding delimited_at
delimited_again total place front rest from to all is =
    let len = is.len in
    let content = is.content in
    let regrouped : front ++ rest ≡ len ++ (content ++ rest) = ap (λ (s : List ℕ). s ++ rest) is.parts ∙ append_assoc len content rest in
    let long : ltb (length (content ++ rest)) (length content) ≡ false = le-ltb _ _ (omega (arith, length-append content rest)) in
    let sum : length (front ++ rest) ≡ length len + length (content ++ rest) = ap length regrouped ∙ length-append len (content ++ rest) in
    let first : total - length (content ++ rest) ≡ from = omega (arith, all, sum, is.first) in
    let last : from + length content ≡ to = sym is.last in
    ap (delimited_at total) regrouped ∙ rw (varint_again len (content ++ rest) (length content) is.is_len, long, drop_at content rest (length content) refl, first, last) refl

pub body_again : (total place : ℕ) (front rest : List ℕ) (body : Body) → place + length (front ++ rest) ≡ total → IsBody place front body → body_at total (wire_type body) (front ++ rest) ≡ Some (body, rest)
unfolding body_at
body_again total place front rest (Varint n) all is = rw (varint_again front rest n is) refl
body_again total place front rest (Eight n) all is =
    rw (number_again w64 front rest is.0) (ap (λ (m : ℕ). Some (Eight m, rest)) (sym is.1))
body_again total place front rest (Octets from to) all is = delimited_again total place front rest from to all is
body_again total place front rest (Four n) all is =
    rw (number_again w32 front rest is.0) (ap (λ (m : ℕ). Some (Four m, rest)) (sym is.1))

pub wire_type-lt : (body : Body) → wire_type body < 8
wire_type-lt (Varint n) = lit< tt
wire_type-lt (Eight n) = lit< tt
wire_type-lt (Octets from to) = lit< tt
wire_type-lt (Four n) = lit< tt

pub field_again : (total place : ℕ) (front rest : List ℕ) (field : Field) → place + length (front ++ rest) ≡ total → IsField place front field → field_at total (front ++ rest) ≡ Some (field, rest)
unfolding field_at
field_again total place front rest field all is =
    let tag = is.tag in
    let body = is.body in
    let n : ℕ = field.number * 8 + wire_type field.body in
    let small = wire_type-lt field.body in
    let regrouped : front ++ rest ≡ tag ++ (body ++ rest) = ap (λ (s : List ℕ). s ++ rest) is.parts ∙ append_assoc tag body rest in
    let sum : length (front ++ rest) ≡ length tag + length (body ++ rest) = ap length regrouped ∙ length-append tag (body ++ rest) in
    let low : ltb (field.number * 8 + wire_type field.body) 8 ≡ false = le-ltb _ _ (omega (arith, is.is_number.0)) in
    let high : leb (2 ^ 32) (field.number * 8 + wire_type field.body) ≡ false = lt-leb _ _ (omega (arith, is.is_number.1, small)) in
    let kind : (field.number * 8 + wire_type field.body) % 8 ≡ wire_type field.body = omega (arith, small) in
    let number : (field.number * 8 + wire_type field.body) / 8 ≡ field.number = omega (arith, small) in
    let read = body_again total (place + length tag) body rest field.body (omega (arith, all, sum)) is.is_body in
    ap (field_at total) regrouped ∙ rw (varint_again tag (body ++ rest) (field.number * 8 + wire_type field.body) is.is_tag, low, high, kind, read, number) refl

-- ---- what is read is a field

chosen : {A : Type 0} (b : Bool) (x y z : A) → cond b x y ≡ z → ((b ≡ true) × (x ≡ z)) ⊎ ((b ≡ false) × (y ≡ z))
chosen true x y z e = inl (refl, e)
chosen false x y z e = inr (refl, e)

Takes-weaker : (P Q : List ℕ → Type 0) (octets rest : List ℕ) → ((s : List ℕ) → P s → Q s) → Takes P octets rest → Takes Q octets rest
Takes-weaker P Q octets rest f t = record { front = t.front; parts = t.parts; is = f t.front t.is }

pub number_takes : (w : Width) (octets : List ℕ) (n : ℕ) (rest : List ℕ) → number_at w octets ≡ Some (n, rest) → Takes (λ s. (length s ≡ byte_len w) × (n ≡ from_le_bytes w s)) octets rest
number_takes w octets n rest e =
    let g = failed_not (ltb (length octets) (byte_len w)) (Some (from_le_bytes w (take (byte_len w) octets), drop (byte_len w) octets)) (n, rest) e in
    let long : byte_len w ≤ length octets = ltb-false _ _ g.0 in
    let same = some_pair_parts (from_le_bytes w (take (byte_len w) octets)) n (drop (byte_len w) octets) rest g.1 in
    record {
      front = take (byte_len w) octets;
      parts = parts_from octets (take (byte_len w) octets) rest (byte_len w) refl same.1;
      is = (omega (arith, length-take (byte_len w) octets, long), sym same.0);
    }

abbrev Got : ℕ → ℕ → List ℕ → Body → List ℕ → Type 0
Got place kind octets body rest = Takes (λ s. IsBody place s body × (wire_type body ≡ kind)) octets rest

turned : (place kind : ℕ) (octets : List ℕ) (b body : Body) (r rest : List ℕ) → ◌≡◌ {A = Option (Body × List ℕ)} (Some (b, r)) (Some (body, rest)) → Got place kind octets b r → Got place kind octets body rest
turned place kind octets b body r rest e got =
    let same = some_pair_parts b body r rest e in
    subst (λ (x : List ℕ). Got place kind octets body x) same.1 (subst (λ (x : Body). Got place kind octets x r) same.0 got)

pub delimited_takes : (total place : ℕ) (octets : List ℕ) (body : Body) (rest : List ℕ) → place + length octets ≡ total → delimited_at total octets ≡ Some (body, rest) → Got place 2 octets body rest
unfolding delimited_at
delimited_takes total place octets body rest all e =
    let b = bind_some (varint_at octets) (λ n. cond (ltb (length n.1) n.0) None (Some (Octets (total - length n.1) (total - length n.1 + n.0), drop n.0 n.1))) (body, rest) e in
    let n : ℕ = b.0.0 in
    let after : List ℕ = b.0.1 in
    let t = varint_takes octets n after b.1 in
    let g = failed_not (ltb (length after) n) (Some (Octets (total - length after) (total - length after + n), drop n after)) (body, rest) b.2 in
    let long : n ≤ length after = ltb-false _ _ g.0 in
    turned place 2 octets (Octets (total - length after) (total - length after + n)) body (drop n after) rest g.1 (content_is total place octets t.front after n all t.parts long t.is)
  where
    content_is : (total place : ℕ) (octets len after : List ℕ) (n : ℕ) → place + length octets ≡ total → octets ≡ len ++ after → n ≤ length after → IsVarint len n → Got place 2 octets (Octets (total - length after) (total - length after + n)) (drop n after)
    content_is total place octets len after n all parts long is =
        let taken : length (take n after) ≡ n = omega (arith, length-take n after, long) in
        let sum : length octets ≡ length len + length after = ap length parts ∙ length-append len after in
        record {
          front = len ++ take n after;
          parts = parts ∙ ap (λ (s : List ℕ). len ++ s) (sym (take-append-drop n after)) ∙ sym (append_assoc len (take n after) (drop n after));
          is = (
            record {
              len = len;
              content = take n after;
              parts = refl;
              is_len = subst (λ (m : ℕ). IsVarint len m) (sym taken) is;
              first = omega (arith, all, sum);
              last = ap (λ (m : ℕ). total - length after + m) (sym taken);
            },
            refl,
          );
        }

pub body_takes : (total place kind : ℕ) (octets : List ℕ) (body : Body) (rest : List ℕ) → place + length octets ≡ total → body_at total kind octets ≡ Some (body, rest) → Got place kind octets body rest
unfolding body_at
body_takes total place kind octets body rest all e =
    elim (chosen (eqb kind 0) (varint_at octets >>= (λ n. Some (Varint n.0, n.1))) (not_0 kind) (Some (body, rest)) e) [
      | inl c ↦
          let b = bind_some (varint_at octets) (λ n. Some (Varint n.0, n.1)) (body, rest) c.1 in
          let t = varint_takes octets b.0.0 b.0.1 b.1 in
          turned place kind octets (Varint b.0.0) body b.0.1 rest b.2 (Takes-weaker _ _ octets b.0.1 (λ s p. (p, sym (eqb-true kind 0 c.0))) t)
      | inr d ↦ elim (chosen (eqb kind 1) (number_at w64 octets >>= (λ n. Some (Eight n.0, n.1))) (not_1 kind) (Some (body, rest)) d.1) [
        | inl c ↦
            let b = bind_some (number_at w64 octets) (λ n. Some (Eight n.0, n.1)) (body, rest) c.1 in
            let t = number_takes w64 octets b.0.0 b.0.1 b.1 in
            turned place kind octets (Eight b.0.0) body b.0.1 rest b.2 (Takes-weaker _ _ octets b.0.1 (λ s p. (p, sym (eqb-true kind 1 c.0))) t)
        | inr d ↦ elim (chosen (eqb kind 2) (delimited_at total octets) (not_2 kind) (Some (body, rest)) d.1) [
          | inl c ↦ subst (λ (k : ℕ). Got place k octets body rest) (sym (eqb-true kind 2 c.0)) (delimited_takes total place octets body rest all c.1)
          | inr d ↦
              let c = passed (eqb kind 5) (number_at w32 octets >>= (λ n. Some (Four n.0, n.1))) (body, rest) d.1 in
              let b = bind_some (number_at w32 octets) (λ n. Some (Four n.0, n.1)) (body, rest) c.1 in
              let t = number_takes w32 octets b.0.0 b.0.1 b.1 in
              turned place kind octets (Four b.0.0) body b.0.1 rest b.2 (Takes-weaker _ _ octets b.0.1 (λ s p. (p, sym (eqb-true kind 5 c.0))) t)
        ]
      ]
    ]
  where
    not_2 : ℕ → Option (Body × List ℕ)
    not_2 k = cond (eqb k 5) (number_at w32 octets >>= (λ n. Some (Four n.0, n.1))) None

    not_1 : ℕ → Option (Body × List ℕ)
    not_1 k = cond (eqb k 2) (delimited_at total octets) (not_2 k)

    not_0 : ℕ → Option (Body × List ℕ)
    not_0 k = cond (eqb k 1) (number_at w64 octets >>= (λ n. Some (Eight n.0, n.1))) (not_1 k)

pub field_takes : (total place : ℕ) (octets : List ℕ) (field : Field) (rest : List ℕ) → place + length octets ≡ total → field_at total octets ≡ Some (field, rest) → Takes (λ s. IsField place s field) octets rest
unfolding field_at
field_takes total place octets field rest all e =
    let b = bind_some (varint_at octets) (λ tag. cond (ltb tag.0 8) None (cond (leb (2 ^ 32) tag.0) None (body_at total (tag.0 % 8) tag.1 >>= (λ body. Some (record { number = tag.0 / 8; body = body.0 }, body.1))))) (field, rest) e in
    let n : ℕ = b.0.0 in
    let after : List ℕ = b.0.1 in
    let tag = varint_takes octets n after b.1 in
    let low = failed_not (ltb n 8) (cond (leb (2 ^ 32) n) None (body_at total (n % 8) after >>= (λ body. Some (record { number = n / 8; body = body.0 }, body.1)))) (field, rest) b.2 in
    let high = failed_not (leb (2 ^ 32) n) (body_at total (n % 8) after >>= (λ body. Some (record { number = n / 8; body = body.0 }, body.1))) (field, rest) low.1 in
    let y = bind_some (body_at total (n % 8) after) (λ body. Some (record { number = n / 8; body = body.0 }, body.1)) (field, rest) high.1 in
    let sum : length octets ≡ length tag.front + length after = ap length tag.parts ∙ length-append tag.front after in
    let body = body_takes total (place + length tag.front) (n % 8) after y.0.0 y.0.1 (omega (arith, all, sum)) y.1 in
    let whole = joined_is place octets tag.front after body.front y.0.1 n y.0.0 tag.parts tag.is body.parts body.is.0 body.is.1 (ltb-false _ _ low.0) (leb-false _ _ high.0) in
    turned_field place octets (record { number = n / 8; body = y.0.0 }) field y.0.1 rest y.2 whole
  where
    turned_field : (place : ℕ) (octets : List ℕ) (f field : Field) (r rest : List ℕ) → ◌≡◌ {A = Option (Field × List ℕ)} (Some (f, r)) (Some (field, rest)) → Takes (λ s. IsField place s f) octets r → Takes (λ s. IsField place s field) octets rest
    turned_field place octets f field r rest e got =
        let same = some_pair_parts f field r rest e in
        subst (λ (x : List ℕ). Takes (λ s. IsField place s field) octets x) same.1 (subst (λ (x : Field). Takes (λ s. IsField place s x) octets r) same.0 got)

    joined_is : (place : ℕ) (octets tag after body rest : List ℕ) (n : ℕ) (b : Body) → octets ≡ tag ++ after → IsVarint tag n → after ≡ body ++ rest → IsBody (place + length tag) body b → wire_type b ≡ n % 8 → 8 ≤ n → n < 2 ^ 32 → Takes (λ s. IsField place s (record { number = n / 8; body = b })) octets rest
    joined_is place octets tag after body rest n b parts is_tag after-is is_body kind low high =
        let whole : n ≡ n / 8 * 8 + wire_type b = omega (arith, kind) in
        record {
          front = tag ++ body;
          parts = parts ∙ ap (λ (s : List ℕ). tag ++ s) after-is ∙ sym (append_assoc tag body rest);
          is = record {
            tag = tag;
            body = body;
            parts = refl;
            is_tag = subst (λ (m : ℕ). IsVarint tag m) whole is_tag;
            is_number = (omega (arith, low), omega (arith, high));
            is_body = is_body;
          };
        }
