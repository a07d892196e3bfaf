use Rattle.std.proofs.Common.{◌≡◌, ℕ, ◌+◌, List, [], ◌∷◌, ◌++◌, length, sym, ap, ◌∙◌, append_assoc, arith, sum_by}
use Rattle.std.specs.List.{flat_map}
use Rattle.std.specs.Int.{w32, to_be_bytes}
use Rattle.base_kinds.specs.declared.value.Value.{Value}
use Rattle.base_kinds.specs.declared.value.Value.TheVariants as values
use Rattle.base_kinds.specs.declared.value.Value.TheViews.{the_lemmas}
use Rattle.std.proofs.lemmas.Grind.{common_steps}
use Rattle.base_kinds.specs.Records.{value_octets}
use Rattle.base_kinds.proofs.Lists.{value_octets-List}
use Rattle.journal_record.specs.Spelling.{value_spelling}
use Rattle.journal_record.proofs.Records.{value_spelling-List}
use Rattle.journal_record.proofs.writing.+values.Goals as goal

-- a tag, a count, and the values make a list
list_put : (o0 o1 o2 o3 : List ℕ) (n : ℕ) (vs items : List Value) (x : Value) → x ≡ values.List vs → n ≡ length vs → items ≡ vs → o1 ≡ o0 ++ 8 ∷ [] → o2 ≡ o1 ++ to_be_bytes w32 n → o3 ≡ o2 ++ flat_map value_spelling items → o3 ≡ o0 ++ value_spelling x
list_put o0 o1 o2 o3 n vs items x is len same first second third =
    third ∙ ap (λ (l : List Value). o2 ++ flat_map value_spelling l) same ∙ ap (λ (o : List ℕ). o ++ flat_map value_spelling vs) (second ∙ ap (λ (m : ℕ). o1 ++ to_be_bytes w32 m) len ∙ ap (λ (o : List ℕ). o ++ to_be_bytes w32 (length vs)) first)
    ∙ append_assoc (o0 ++ 8 ∷ []) (to_be_bytes w32 (length vs)) (flat_map value_spelling vs) ∙ append_assoc o0 (8 ∷ []) (to_be_bytes w32 (length vs) ++ flat_map value_spelling vs)
    ∙ ap (λ (l : List ℕ). o0 ++ l) (sym (value_spelling-List vs)) ∙ ap (λ (y : Value). o0 ++ value_spelling y) (sym is)

pub put_value-put_values-requires : goal.put_value-put_values-requires
put_value-put_values-requires t c =
    let whole : value_octets c.args.value.now ≡ 5 + sum_by value_octets c.in-List.values = ap value_octets c.in-List.is ∙ value_octets-List c.in-List.values in
    let items : sum_by value_octets c.items-in-List.result.now ≡ sum_by value_octets c.in-List.values = ap (sum_by value_octets) c.items-in-List.ensures in
    (grind (arith, the_lemmas, common_steps), omega (arith, whole, items))

pub put_value-returns-in-List-clause-items : goal.put_value-returns-in-List-clause-items
put_value-returns-in-List-clause-items t c =
    list_put c.args.out.now.items c.put_tag-in-List.new.out.items c.put_four.new.out.items c.put_values.new.out.items c.len.result c.in-List.values c.items-in-List.result.now c.args.value.now
    c.in-List.is c.len.ensures c.items-in-List.ensures c.put_tag-in-List.ensures.items c.put_four.ensures.items c.put_values.ensures.items
