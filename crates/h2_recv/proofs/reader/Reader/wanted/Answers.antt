use Rattle.std.proofs.Common.{◌≡◌, ◌+◌, ◌≤◌, ◌<◌, length, arith}
use Rattle.h2_recv.specs.Receiving.{next_end}
use Rattle.h2_recv.proofs.PieceLemmas.{one_in_preface, one_in_frame, first_in_preface, first_in_frame}
use Rattle.h2_recv.proofs.reader.Reader.wanted.Goals as goal

pub returns-then-self-lt-PREFACE_OCTETS-clause-one : goal.returns-then-self-lt-PREFACE_OCTETS-clause-one
returns-then-self-lt-PREFACE_OCTETS-clause-one c = λ piece after moments begun peer le reaches.
    one_in_preface c.args.self.now piece after moments begun peer le c.requires.part reaches

pub returns-then-self-lt-PREFACE_OCTETS-clause-fault : goal.returns-then-self-lt-PREFACE_OCTETS-clause-fault
returns-then-self-lt-PREFACE_OCTETS-clause-fault c = λ piece moments code le faults.
    first_in_preface c.args.self.now piece moments code le c.requires.part faults

pub returns-else-self-lt-PREFACE_OCTETS-clause-one : goal.returns-else-self-lt-PREFACE_OCTETS-clause-one
returns-else-self-lt-PREFACE_OCTETS-clause-one c = λ piece after moments begun peer le reaches.
    let end : length c.args.self.now.rest + c.wanted.result ≡ next_end c.args.self.now.rest = rw c.items.ensures at c.wanted.ensures.end in
    let lt : length c.args.self.now.rest < next_end c.args.self.now.rest = omega (arith, end, c.wanted.ensures.some) in
    let within : length c.args.self.now.rest + length piece ≤ next_end c.args.self.now.rest = omega (arith, end, le) in
    one_in_frame c.args.self.now piece after moments begun peer c.if-self-lt-PREFACE_OCTETS.false lt within reaches

pub returns-else-self-lt-PREFACE_OCTETS-clause-fault : goal.returns-else-self-lt-PREFACE_OCTETS-clause-fault
returns-else-self-lt-PREFACE_OCTETS-clause-fault c = λ piece moments code le faults.
    let end : length c.args.self.now.rest + c.wanted.result ≡ next_end c.args.self.now.rest = rw c.items.ensures at c.wanted.ensures.end in
    let lt : length c.args.self.now.rest < next_end c.args.self.now.rest = omega (arith, end, c.wanted.ensures.some) in
    let within : length c.args.self.now.rest + length piece ≤ next_end c.args.self.now.rest = omega (arith, end, le) in
    first_in_frame c.args.self.now piece moments code c.if-self-lt-PREFACE_OCTETS.false lt within faults
