-- What was added of a text, put together piece by piece, and facts about what a call that gave up leaves.
use Rattle.std.proofs.Common.{◌≡◌, List, ◌++◌, Result, Ok, Err, OnErr, sym, ap, ◌∙◌, append_assoc}
use Rattle.base_lists.specs.Fronts.{AppendsFront}

-- one piece is there, and a prefix of what follows it
pub AppendsFront-more : {A : Type 0} (old mid new a b whole : List A) → mid ≡ old ++ a → whole ≡ a ++ b → AppendsFront mid new b → AppendsFront old new whole
AppendsFront-more {A} old mid new a b whole is parts f = record {
  front = a ++ f.front;
  rest = f.rest;
  parts = parts ∙ ap (λ (s : List A). a ++ s) f.parts ∙ sym (append_assoc a f.front f.rest);
  is = f.is ∙ ap (λ (s : List A). s ++ f.front) is ∙ append_assoc old a f.front;
}

-- a prefix of the first piece is one of the whole
pub AppendsFront-longer : {A : Type 0} (old new a b whole : List A) → whole ≡ a ++ b → AppendsFront old new a → AppendsFront old new whole
AppendsFront-longer {A} old new a b whole parts f = record {
  front = f.front;
  rest = f.rest ++ b;
  parts = parts ∙ ap (λ (s : List A). s ++ b) f.parts ∙ append_assoc f.front f.rest b;
  is = f.is;
}

-- what follows from a fact about a call that gave up
pub OnErr-map : {T E P Q : Type 0} (r : Result T E) → (P → Q) → OnErr r P → OnErr r Q
OnErr-map (Ok x) f h = h
OnErr-map (Err e) f h = f h

-- a fact that holds anyhow
pub OnErr-any : {T E P : Type 0} (r : Result T E) → P → OnErr r P
OnErr-any (Ok x) p = tt
OnErr-any (Err e) p = p
