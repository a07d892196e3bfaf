use Rattle.std.proofs.Common.{Some, drop, ◌+◌, sym, subst}
use Rattle.environment.specs.Input.{Input, ReadsFront}
use Rattle.environment.proofs.Fronts.{ReadsFront-of}
use Rattle.environment.proofs.mem_source.MemSourceSource.read.Goals as goal

pub returns-clause-gives : goal.returns-clause-gives
returns-clause-gives c =
    let count = rw c.items-2.ensures at c.copy_front-count.ensures.count in
    let front = rw c.items-2.ensures at c.copy_front-count.ensures.octets in
    let n = c.copy_front-count.result in
    let buffer = c.copy_front-count.new.buffer in
    let octets = c.self.inside.octets in
    let place = c.self.inside.place in
    let left = drop (place + n) octets in
    let inside = ReadsFront-of c.self.inside.past octets buffer place n count front in
    let after = subst (λ (past : Input). ReadsFront n buffer (record c.self.inside.past { left = Some (drop place octets) }) (record past { left = Some left })) (sym c.gave.ensures) inside in
    rw (← c.self.view_is) after
