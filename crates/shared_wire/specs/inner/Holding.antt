-- A wire as a turn has it in hand.
use Rattle.std.specs.Prelude.{◌≡◌, ℕ, ◌<◌, List, length, refl}
use Rattle.std.specs.Coded.{Coded, code_by, coded×}
use Rattle.environment.specs.Output.{Output}
use Rattle.h2_send.specs.Conditions.{answer_of}
use Rattle.h2_send.specs.Orders.{line_after}
use Rattle.h2_send.specs.Lines.{first_line}
use Rattle.h2_send.specs.Wires.{WireView}
use Rattle.h2_send.specs.declared.condition.Condition.{Condition}
use Rattle.h2_send.specs.declared.condition.Condition.TheVariants as condition
use Rattle.shared_wire.specs.Records.{WireRecord, IsOpen, fault_in, most_records}
use Rattle.shared_wire.specs.Visits.{StandsBehind}

pub record HeldView (S : Type 0) : Type 0 where
  pub wire : WireView S
  pub records : List WireRecord

module _ {S : Type 0} where
  abbrev pub held_code : Coded (WireView S) → Coded (List WireRecord) → Coded (HeldView S)
  held_code wire records =
      code_by (WireView S × List WireRecord) (coded× wire records)
      (λ v. (v.wire, v.records)) (λ p. record { wire = p.0; records = p.1 }) (λ _. refl)

-- While the wire is open there is room for one record at least, with which it can be closed.
pub record HoldsOpen {S : Type 0} (wire : WireView S) (rs : List WireRecord)
    (count : ℕ) : Type 0 where
  pub is_open : IsOpen rs
  pub wire_open : wire.condition ≡ condition.Open
  pub line : wire.line ≡ line_after first_line wire.inputs
  pub room : count < most_records

pub record Holds {S : Type 0} (seen : S → Output) (state : Condition) (wire : WireView S)
    (rs : List WireRecord) (count : ℕ) : Type 0 where
  pub counted : length rs ≡ count
  pub stands : StandsBehind seen rs wire
  pub answers : answer_of state ≡ fault_in rs
  pub is_open : state ≡ condition.Open → HoldsOpen wire rs count
  pub closed : (state ≡ condition.Open → ⊥) → IsOpen rs → ⊥
