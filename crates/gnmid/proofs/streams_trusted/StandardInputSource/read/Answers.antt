use Rattle.std.proofs.Common.{None, length, ◌≤◌, sym, subst, rules}
use Rattle.environment.specs.Input.{Input, ReadsFront}
use Rattle.gnmid.proofs.Records.{ReadsFront-recorded}
use Rattle.gnmid.proofs.streams_trusted.StandardInputSource.read.Goals as goal

pub returns-in-Ok : goal.returns-in-Ok
returns-in-Ok c =
    let past = c.args.self.now.past in
    let n = c.in-Ok.count in
    let buffer = c.read_uninterrupted.new.buffer in
    let bound : n ≤ length buffer = search rules in
    subst (λ (after : Input). ReadsFront n buffer (record past { left = None }) (record after { left = None })) (sym c.gave.ensures) (ReadsFront-recorded past n buffer bound)
