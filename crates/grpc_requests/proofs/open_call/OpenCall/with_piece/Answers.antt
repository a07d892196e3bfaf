use Rattle.std.proofs.Common.{◌≡◌, ℕ, List, ◌++◌, Bool, Some, length, drop, refl, sym, subst}
use Rattle.std.specs.Prelude.{IfOk}
use Rattle.grpc_core.specs.Splitters.{Stops}
use Rattle.grpc_core.specs.declared.message.SplitFault.{SplitFault}
use Rattle.grpc_core.specs.declared.message.SplitFault.TheVariants as faults
use Rattle.grpc_requests.specs.Calls.{with_piece, asks_by}
use Rattle.grpc_requests.specs.Requests.{still_open}
use Rattle.grpc_requests.specs.inner.Tables.{KeepsCall}
use Rattle.grpc_requests.proofs.Calls.{faults_so, ends_so, goes_on_so}
use Rattle.grpc_requests.proofs.open_call.OpenCall.with_piece.Goals as goal

pub returns-in-Err-Compressed : goal.returns-in-Err-Compressed
returns-in-Err-Compressed c = λ call k.
    let is = c.in-Err-Compressed.field-0-is in
    let same : c.in-Err-Compressed.field-0 ≡ faults.Compressed = cc in
    faults_so c.args.self call k c.args.octets.now c.args.ended c.feed.new.out faults.Compressed
    (subst (λ (f : SplitFault). Stops (c.args.self.splitter.rest ++ c.args.octets.now) c.args.self.messages c.feed.new.out f) same (c.in-Err-Compressed.ensures.fault k.no_fault))
    (λ e. let apart : faults.Compressed ≡ faults.NoMemory = e in absurd cc) c.over.result c.over.ensures

pub returns-in-Err-TooLarge : goal.returns-in-Err-TooLarge
returns-in-Err-TooLarge c = λ call k.
    let is = c.in-Err-TooLarge.field-0-is in
    let same : c.in-Err-TooLarge.field-0 ≡ faults.TooLarge = cc in
    faults_so c.args.self call k c.args.octets.now c.args.ended c.feed.new.out faults.TooLarge
    (subst (λ (f : SplitFault). Stops (c.args.self.splitter.rest ++ c.args.octets.now) c.args.self.messages c.feed.new.out f) same (c.in-Err-TooLarge.ensures.fault k.no_fault))
    (λ e. let apart : faults.TooLarge ≡ faults.NoMemory = e in absurd cc) c.over-in-Err-TooLarge.result c.over-in-Err-TooLarge.ensures

pub returns-then-ended : goal.returns-then-ended
returns-then-ended c = λ call k.
    subst (λ (e : Bool). IfOk c.over-then-ended.result (λ step. KeepsCall step.call (still_open (Some (with_piece c.args.octets.now e call))) × (step.asked ≡ drop (length (asks_by (Some call))) (asks_by (Some (with_piece c.args.octets.now e call))))))
    (sym c.if-ended.true)
    (ends_so c.args.self call k c.args.octets.now c.feed.new.out c.feed.new.self.rest c.in-Ok.ensures.ok c.over-then-ended.result (c.over-then-ended.ensures c.feed.new.self.rest (sym c.held.ensures.value)))

pub returns : goal.returns
returns c = λ call k.
    subst (λ (e : Bool). IfOk c.going_on.result (λ step. KeepsCall step.call (still_open (Some (with_piece c.args.octets.now e call))) × (step.asked ≡ drop (length (asks_by (Some call))) (asks_by (Some (with_piece c.args.octets.now e call))))))
    (sym c.if-ended.false)
    (goes_on_so c.args.self call k c.args.octets.now c.feed.new.out c.feed.new.self.rest c.in-Ok.ensures.ok c.feed.new.self refl c.in-Ok.ensures.goes_on.1 c.going_on.result c.going_on.ensures)
