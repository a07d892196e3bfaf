use Rattle.std.proofs.Common.{◌≡◌, ℕ, ◌≤◌, Bool, true, false, cond, ltb, eqb, Some, None, unwrap_or, length, refl, ap, ◌∙◌, arith, rules, tests}
use Rattle.std.specs.List.{position_or_len}
use Rattle.std.proofs.lemmas.Iterator.{YieldsList-from_slice}
use Rattle.std.proofs.lemmas.Iterator.Search.{position_from_yields_List}
use Rattle.std.proofs.lemmas.List.Sums.{prefix_len-le-length}
use Rattle.std.proofs.lemmas.Bool.{ltb-false}
use Rattle.plain_texts.proofs.splits.length_before.Goals as goal

place : (n len : ℕ) → n ≤ len → (below : Bool) → ltb n len ≡ below → unwrap_or (cond below (Some n) None) len ≡ n
place n len most true is = refl
place n len most false is = let above = ltb-false n len is in omega arith

pub returns : goal.returns
returns c =
    let octets = c.args.octets.now in
    let test = λ (octet : ℕ). eqb octet c.args.separator in
    let found = position_from_yields_List test _ _ c.position.result c.position.ensures.ran (YieldsList-from_slice octets cc) (λ x b q k. search (rules, tests)) in
    c.unwrap_or.ensures ∙ ap (λ r. unwrap_or r (length octets)) found ∙ place (position_or_len test octets) (length octets) (prefix_len-le-length _ octets) (ltb (position_or_len test octets) (length octets)) refl
