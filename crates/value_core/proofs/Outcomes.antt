-- A fact at the answers that a call passes on.
use Rattle.std.proofs.Common.{Option, Some, None, Result, Ok, Err, IfNone, OnOk}

pub none_from : {A : Type 0} (o : Option A) (P : Type 0) → P → IfNone o P
none_from None P p = p
none_from (Some a) P p = tt

pub ok_from : {A E : Type 0} (r : Result A E) (P : Type 0) → P → OnOk r P
ok_from (Ok a) P p = p
ok_from (Err e) P p = tt

-- what follows from a fact where there is no answer
pub none_by : {A P Q : Type 0} (o : Option A) → (P → Q) → IfNone o P → IfNone o Q
none_by None follows p = follows p
none_by (Some a) follows p = tt
