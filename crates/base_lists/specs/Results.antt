-- Steps that may end in a fault, and what a call answers that may want memory.
use Rattle.std.specs.Prelude.{◌≡◌, ◌≢◌, List, [], ◌∷◌, Result, Ok, Err}

-- what follows from a value, or the fault
abbrev pub and_then : {A B E : Type 0} → Result A E → (A → Result B E) → Result B E
and_then (Ok a) next = next a
and_then (Err fault) next = Err fault

-- the list with one value more in front, or the fault
abbrev pub with_first : {A E : Type 0} → A → Result (List A) E → Result (List A) E
with_first a (Ok others) = Ok (a ∷ others)
with_first a (Err fault) = Err fault

-- what each item gives, in order; the first fault decides
abbrev pub traverse : {A B E : Type 0} → (A → Result B E) → List A → Result (List B) E
traverse f [] = Ok []
traverse f (item ∷ items) = and_then (f item) (λ b. with_first b (traverse f items))

-- the result is the one that is defined, or memory was wanting: the fault that says so is the first argument
abbrev pub IsUnlessMemory : {A E : Type 0} → E → Result A E → Result A E → Type 0
IsUnlessMemory memory (Ok a) defined = defined ≡ Ok a
IsUnlessMemory memory (Err fault) defined = fault ≢ memory → defined ≡ Err fault
