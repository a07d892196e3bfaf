-- Texts in the code: each run of bits is read in one way.
use Rattle.std.proofs.Common.{◌≡◌, ℕ, ◌+◌, ◌-◌, ◌<◌, Bool, true, List, [], ◌∷◌, ◌++◌, length, get_or, take, drop, replicate, refl, sym, ap, ◌∙◌, subst, arith}
use Rattle.std.proofs.lemmas.List.{append-nil, append_assoc, append_cancel_left, length-append, replicate-append-replicate, take_more, take-append-drop}
use Rattle.std.proofs.lemmas.List.Concat.{flat_map-append}
use Rattle.hpack_huff.specs.Bits.{bits_of, octet_bits}
use Rattle.hpack_huff.specs.Code.{code_of, code_length, code_lengths, code_value, codes_with, first_code, rank}
use Rattle.hpack_huff.specs.Huffman.{IsText, codes_of, IsPadding, Huff, Decodes, DecodesFront}
use Rattle.hpack_huff.specs.inner.Taken.{IsUnfinished, Takes, TakesSome, MeetsEndMark}
use Rattle.hpack_huff.proofs.BitsLemmas.{octet_bits-push, octet_bits-append}
use Rattle.hpack_huff.proofs.CodeLemmas.{known, same_symbol, length-code_of}

-- ---- codes one after the other

pub codes_of-append : (xs ys : List ℕ) → codes_of (xs ++ ys) ≡ codes_of xs ++ codes_of ys
unfolding codes_of
codes_of-append xs ys = flat_map-append code_of xs ys

pub codes_of-cons : (x : ℕ) (xs : List ℕ) → codes_of (x ∷ xs) ≡ code_of x ++ codes_of xs
unfolding codes_of
codes_of-cons x xs = refl

pub codes_of-one : (x : ℕ) → codes_of (x ∷ []) ≡ code_of x
unfolding codes_of
codes_of-one x = append-nil (code_of x)

IsText-append : (xs ys : List ℕ) → IsText xs → IsText ys → IsText (xs ++ ys)
IsText-append [] ys p q = q
IsText-append (x ∷ xs) ys p q = (p.0, IsText-append xs ys p.1 q)

-- after the codes of some symbols there is more
cons_then : (x : ℕ) (xs : List ℕ) (rest : List Bool) → codes_of (x ∷ xs) ++ rest ≡ code_of x ++ (codes_of xs ++ rest)
cons_then x xs rest = ap (λ bs. bs ++ rest) (codes_of-cons x xs) ∙ append_assoc (code_of x) (codes_of xs) rest

-- ---- padding

end_mark_ones : code_of 256 ≡ replicate 30 true
unfolding code_of code_length code_lengths code_value first_code codes_with rank bits_of
end_mark_ones = refl

end_mark_long : code_length 256 ≡ 30
unfolding code_length code_lengths
end_mark_long = refl

-- no code is whole in padding
pub padding_unfinished : (bits : List Bool) → IsPadding bits → IsUnfinished bits
padding_unfinished bits h =
    let few = h.few in
    record {
      few = omega arith;
      none = λ symbol rest known e.
          let n = length bits in
          let sum : n + (30 - n) ≡ 30 = omega arith in
          let ones : code_of 256 ≡ bits ++ replicate (30 - n) true =
          end_mark_ones ∙ ap (λ m. replicate m true) (sym sum) ∙ sym (replicate-append-replicate n (30 - n) true)
          ∙ ap (λ bs. bs ++ replicate (30 - n) true) (sym h.ones) in
          let both : code_of 256 ++ [] ≡ code_of symbol ++ (rest ++ replicate (30 - n) true) =
          append-nil (code_of 256) ∙ ones ∙ ap (λ bs. bs ++ replicate (30 - n) true) e
          ∙ append_assoc (code_of symbol) rest (replicate (30 - n) true) in
          let same : 256 ≡ symbol = same_symbol 256 symbol [] (rest ++ replicate (30 - n) true) (omega arith) (omega arith) both in
          let whole : length bits ≡ code_length symbol + length rest =
          ap length e ∙ length-append (code_of symbol) rest ∙ ap (λ m. m + length rest) (length-code_of symbol) in
          let long : code_length symbol ≡ 30 = ap code_length (sym same) ∙ end_mark_long in
          omega arith;
    }

-- ---- one reading

-- two readings of the same bits, each up to where no whole code is left, are one
pub same_reading : (t u : List ℕ) (p q : List Bool) → IsText t → IsText u → IsUnfinished p → IsUnfinished q
    → codes_of t ++ p ≡ codes_of u ++ q → (t ≡ u) × (p ≡ q)
unfolding codes_of
same_reading [] [] p q ht hu hp hq e = (refl, e)
same_reading [] (y ∷ u) p q ht hu hp hq e =
    absurd (hp.none y (codes_of u ++ q) (omega (arith, hu.0)) (e ∙ cons_then y u q))
same_reading (x ∷ t) [] p q ht hu hp hq e =
    absurd (hq.none x (codes_of t ++ p) (omega (arith, ht.0)) (sym e ∙ cons_then x t p))
same_reading (x ∷ t) (y ∷ u) p q ht hu hp hq e =
    let both : code_of x ++ (codes_of t ++ p) ≡ code_of y ++ (codes_of u ++ q) = sym (cons_then x t p) ∙ e ∙ cons_then y u q in
    let same = same_symbol x y (codes_of t ++ p) (codes_of u ++ q) (omega (arith, ht.0)) (omega (arith, hu.0)) both in
    let rests = append_cancel_left (code_of x) (codes_of t ++ p) (codes_of u ++ q)
    (both ∙ ap (λ s. code_of s ++ (codes_of u ++ q)) (sym same)) in
    let r = same_reading t u p q ht.1 hu.1 hp hq rests in
    (let f = r.0 in cc, r.1)

-- where the end mark stands after a text, there is no other reading
pub end_mark_met : (t u : List ℕ) (rest q : List Bool) → IsText t → IsText u → IsUnfinished q
    → codes_of t ++ (code_of 256 ++ rest) ≡ codes_of u ++ q → ⊥
unfolding codes_of
end_mark_met [] [] rest q ht hu hq e = hq.none 256 rest (omega arith) (sym e)
end_mark_met [] (y ∷ u) rest q ht hu hq e =
    let same = same_symbol 256 y rest (codes_of u ++ q) (omega arith) (omega (arith, hu.0)) (e ∙ cons_then y u q) in
    absurd (omega (arith, hu.0))
end_mark_met (x ∷ t) [] rest q ht hu hq e =
    hq.none x (codes_of t ++ (code_of 256 ++ rest)) (omega (arith, ht.0)) (sym e ∙ cons_then x t (code_of 256 ++ rest))
end_mark_met (x ∷ t) (y ∷ u) rest q ht hu hq e =
    let p = code_of 256 ++ rest in
    let both : code_of x ++ (codes_of t ++ p) ≡ code_of y ++ (codes_of u ++ q) = sym (cons_then x t p) ∙ e ∙ cons_then y u q in
    let same = same_symbol x y (codes_of t ++ p) (codes_of u ++ q) (omega (arith, ht.0)) (omega (arith, hu.0)) both in
    let rests = append_cancel_left (code_of x) (codes_of t ++ p) (codes_of u ++ q)
    (both ∙ ap (λ s. code_of s ++ (codes_of u ++ q)) (sym same)) in
    end_mark_met t u rest q ht.1 hu.1 hq rests

-- octets are the code of at most one text
pub one_text : (octets t u : List ℕ) → Huff octets t → Huff octets u → t ≡ u
one_text octets t u f g =
    let a = f.begins in
    let b = g.begins in
    (same_reading t u f.padding g.padding a.text_is b.text_is (padding_unfinished f.padding f.is_padding)
    (padding_unfinished g.padding g.is_padding) (sym a.bits_are ∙ b.bits_are)).0

-- ---- steps of the decoder

pub Takes-none : (bits : List Bool) (out : List ℕ) → Takes bits bits out out
unfolding codes_of
Takes-none bits out = record {
  text = [];
  added = sym (append-nil out);
  begins = record { text_is = tt; bits_are = refl };
}

-- one octet more
pub Takes-octet : (bits old_rest new_rest : List Bool) (out now : List ℕ) (octet : ℕ)
    → Takes bits old_rest out now → octet < 256 → old_rest ≡ code_of octet ++ new_rest
    → Takes bits new_rest out (now ++ octet ∷ [])
Takes-octet bits old_rest new_rest out now octet h low e =
    let b = h.begins in
    record {
      text = h.text ++ octet ∷ [];
      added = ap (λ xs. xs ++ octet ∷ []) h.added ∙ append_assoc out h.text (octet ∷ []);
      begins = record {
        text_is = IsText-append h.text (octet ∷ []) b.text_is (low, tt);
        bits_are =
            b.bits_are ∙ ap (λ bs. codes_of h.text ++ bs) e ∙ sym (append_assoc (codes_of h.text) (code_of octet) new_rest)
            ∙ ap (λ bs. (codes_of h.text ++ bs) ++ new_rest) (sym (codes_of-one octet))
            ∙ ap (λ bs. bs ++ new_rest) (sym (codes_of-append h.text (octet ∷ [])));
      };
    }

-- first some codes, then, with more bits, further ones
pub Takes-more : (bits rest more last : List Bool) (out mid now : List ℕ)
    → Takes bits rest out mid → Takes (rest ++ more) last mid now → Takes (bits ++ more) last out now
Takes-more bits rest more last out mid now h k =
    let b = h.begins in
    let d = k.begins in
    record {
      text = h.text ++ k.text;
      added = k.added ∙ ap (λ xs. xs ++ k.text) h.added ∙ append_assoc out h.text k.text;
      begins = record {
        text_is = IsText-append h.text k.text b.text_is d.text_is;
        bits_are =
            ap (λ bs. bs ++ more) b.bits_are ∙ append_assoc (codes_of h.text) rest more
            ∙ ap (λ bs. codes_of h.text ++ bs) d.bits_are ∙ sym (append_assoc (codes_of h.text) (codes_of k.text) last)
            ∙ ap (λ bs. bs ++ last) (sym (codes_of-append h.text k.text));
      };
    }

-- more bits after all
pub Takes-longer : (bits rest more : List Bool) (out now : List ℕ) → Takes bits rest out now → Takes (bits ++ more) (rest ++ more) out now
Takes-longer bits rest more out now h =
    let b = h.begins in
    record {
      text = h.text;
      added = h.added;
      begins = record {
        text_is = b.text_is;
        bits_are = ap (λ bs. bs ++ more) b.bits_are ∙ append_assoc (codes_of h.text) rest more;
      };
    }

-- ---- the decoder's answers

pub Decodes-from_takes : (octets : List ℕ) (rest : List Bool) (out now : List ℕ)
    → Takes (octet_bits octets) rest out now → IsPadding rest → Decodes octets out now
Decodes-from_takes octets rest out now h p = record {
  text = h.text;
  added = h.added;
  huff = record { padding = rest; is_padding = p; begins = h.begins };
}

pub DecodesFront-from_takes : (octets : List ℕ) (rest : List Bool) (out now : List ℕ)
    → Takes (octet_bits octets) rest out now → DecodesFront octets out now
DecodesFront-from_takes octets rest out now h = record { text = h.text; rest = rest; added = h.added; begins = h.begins }

-- what is left at the end is no padding
pub no_text-at_end : (octets : List ℕ) (rest : List Bool) (out now : List ℕ)
    → Takes (octet_bits octets) rest out now → IsUnfinished rest → (IsPadding rest → ⊥) → (text : List ℕ) → Huff octets text → ⊥
no_text-at_end octets rest out now h unfinished ragged text f =
    let a = h.begins in
    let b = f.begins in
    let same = same_reading h.text text rest f.padding a.text_is b.text_is unfinished
    (padding_unfinished f.padding f.is_padding) (sym a.bits_are ∙ b.bits_are) in
    ragged (subst IsPadding (sym same.1) f.is_padding)

-- the end mark stands inside
pub no_text-at_end_mark : (octets : List ℕ) (rest : List Bool) (out now : List ℕ)
    → Takes (octet_bits octets) (code_of 256 ++ rest) out now → (text : List ℕ) → Huff octets text → ⊥
no_text-at_end_mark octets rest out now h text f =
    let a = h.begins in
    let b = f.begins in
    end_mark_met h.text text rest f.padding a.text_is b.text_is (padding_unfinished f.padding f.is_padding)
    (sym a.bits_are ∙ b.bits_are)

-- an octet's code has bits
pub octet_shorter : (octet : ℕ) (bits rest : List Bool) → octet < 256 → bits ≡ code_of octet ++ rest → length rest < length bits
octet_shorter octet bits rest low e =
    let long = (known octet (omega arith)).least in
    let whole : length bits ≡ code_length octet + length rest =
    ap length e ∙ length-append (code_of octet) rest ∙ ap (λ m. m + length rest) (length-code_of octet) in
    omega arith

-- ---- one octet of the input more

pub nothing_unfinished : IsUnfinished []
nothing_unfinished = padding_unfinished [] (record { few = omega arith; ones = refl })

bits_more : (octets : List ℕ) (i : ℕ) → i < length octets
    → octet_bits (take (i + 1) octets) ≡ octet_bits (take i octets) ++ bits_of 8 (get_or octets i 0)
bits_more octets i h = ap octet_bits (take_more octets i 0 h) ∙ octet_bits-push (take i octets) (get_or octets i 0)

bits_whole : (octets : List ℕ) (i : ℕ) → octet_bits octets ≡ octet_bits (take i octets) ++ octet_bits (drop i octets)
bits_whole octets i = ap octet_bits (sym (take-append-drop i octets)) ∙ octet_bits-append (take i octets) (drop i octets)

pub Takes-next : (octets : List ℕ) (i : ℕ) (pending pushed last : List Bool) (out mid now : List ℕ) → i < length octets
    → Takes (octet_bits (take i octets)) pending out mid → pushed ≡ pending ++ bits_of 8 (get_or octets i 0)
    → Takes pushed last mid now → Takes (octet_bits (take (i + 1) octets)) last out now
Takes-next octets i pending pushed last out mid now h before e k =
    subst (λ bits. Takes bits last out now) (sym (bits_more octets i h))
    (Takes-more (octet_bits (take i octets)) pending (bits_of 8 (get_or octets i 0)) last out mid now before
    (subst (λ bits. Takes bits last mid now) e k))

takes_whole : (octets : List ℕ) (i : ℕ) (last : List Bool) (out now : List ℕ) → Takes (octet_bits (take i octets)) last out now
    → Takes (octet_bits octets) (last ++ octet_bits (drop i octets)) out now
takes_whole octets i last out now h =
    subst (λ bits. Takes bits (last ++ octet_bits (drop i octets)) out now) (sym (bits_whole octets i))
    (Takes-longer (octet_bits (take i octets)) last (octet_bits (drop i octets)) out now h)

pub DecodesFront-next : (octets : List ℕ) (i : ℕ) (pending pushed : List Bool) (out mid now : List ℕ) → i < length octets
    → Takes (octet_bits (take i octets)) pending out mid → pushed ≡ pending ++ bits_of 8 (get_or octets i 0)
    → TakesSome pushed mid now → DecodesFront octets out now
DecodesFront-next octets i pending pushed out mid now h before e k =
    DecodesFront-from_takes octets (k.rest ++ octet_bits (drop (i + 1) octets)) out now
    (takes_whole octets (i + 1) k.rest out now (Takes-next octets i pending pushed k.rest out mid now h before e k.takes))

pub no_text-next : (octets : List ℕ) (i : ℕ) (pending pushed : List Bool) (out mid now : List ℕ) → i < length octets
    → Takes (octet_bits (take i octets)) pending out mid → pushed ≡ pending ++ bits_of 8 (get_or octets i 0)
    → MeetsEndMark pushed mid now → (text : List ℕ) → Huff octets text → ⊥
no_text-next octets i pending pushed out mid now h before e k =
    let last = code_of 256 ++ k.rest in
    let more = octet_bits (drop (i + 1) octets) in
    let whole = takes_whole octets (i + 1) last out now (Takes-next octets i pending pushed last out mid now h before e k.takes) in
    no_text-at_end_mark octets (k.rest ++ more) out now
    (subst (λ rest. Takes (octet_bits octets) rest out now) (append_assoc (code_of 256) k.rest more) whole)
