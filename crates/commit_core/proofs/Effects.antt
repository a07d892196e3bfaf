-- The operations of one act, applied one after another.
use Rattle.std.proofs.Common.{◌≡◌, ℕ, ◌+◌, ◌<◌, ◌≤◌, List, [], ◌∷◌, length, drop, get_or, sym, ap, ◌∙◌, cond, Bool, true, false}
use Rattle.std.proofs.lemmas.List.{drop_more, drop_all}
use Rattle.base_kinds.specs.declared.operation.Row.{Row}
use Rattle.base_kinds.specs.declared.operation.Op.{Op}
use Rattle.base_kinds.specs.declared.operation.Act.{Act}
use Rattle.base_kinds.specs.Tree.{is_act, with_act, in_turn, op_effect}

-- what is left from place i on
from_place : (act : Act) (ops : List Op) (i : ℕ) (op : Op) (is : Bool) → i < length ops → op ≡ get_or ops i op → is_act act op.act ≡ is → with_act act (drop i ops) ≡ cond is (op ∷ with_act act (drop (i + 1) ops)) (with_act act (drop (i + 1) ops))
from_place act ops i op is within here which =
    let left : drop i ops ≡ op ∷ drop (i + 1) ops = drop_more ops i op within ∙ ap (λ o. o ∷ drop (i + 1) ops) (sym here) in
    ap (with_act act) left ∙ ap (λ b. cond b (op ∷ with_act act (drop (i + 1) ops)) (with_act act (drop (i + 1) ops))) which

pub one_applied : (act : Act) (ops : List Op) (i : ℕ) (op : Op) (old between new : List Row) → i < length ops → op ≡ get_or ops i op → is_act act op.act ≡ true → new ≡ op_effect op between → in_turn (with_act act (drop i ops)) between ≡ in_turn (with_act act ops) old → in_turn (with_act act (drop (i + 1) ops)) new ≡ in_turn (with_act act ops) old
one_applied act ops i op old between new within here which is rest =
    ap (in_turn (with_act act (drop (i + 1) ops))) is ∙ ap (λ left. in_turn left between) (sym (from_place act ops i op true within here which)) ∙ rest

pub one_passed : (act : Act) (ops : List Op) (i : ℕ) (op : Op) (old between : List Row) → i < length ops → op ≡ get_or ops i op → is_act act op.act ≡ false → in_turn (with_act act (drop i ops)) between ≡ in_turn (with_act act ops) old → in_turn (with_act act (drop (i + 1) ops)) between ≡ in_turn (with_act act ops) old
one_passed act ops i op old between within here which rest = ap (λ left. in_turn left between) (sym (from_place act ops i op false within here which)) ∙ rest

-- at the end all are applied
pub all_applied : (act : Act) (ops : List Op) (i : ℕ) (old new : List Row) → length ops ≤ i → in_turn (with_act act (drop i ops)) new ≡ in_turn (with_act act ops) old → new ≡ in_turn (with_act act ops) old
all_applied act ops i old new all rest =
    let nothing : drop i ops ≡ [] = drop_all i ops all in
    ap (λ left. in_turn (with_act act left) new) (sym nothing) ∙ rest
