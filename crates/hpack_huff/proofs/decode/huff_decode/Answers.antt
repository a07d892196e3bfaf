use Rattle.std.proofs.Common.{[], ◌∷◌, ◌++◌, arith}
use Rattle.std.proofs.lemmas.Bool.{both_ways}
use Rattle.std.proofs.lemmas.Result.{err_from_is_err_and}
use Rattle.std.proofs.lemmas.List.{take_all}
use Rattle.hpack_huff.specs.Bits.{octet_bits}
use Rattle.hpack_huff.proofs.HuffmanLemmas.{Takes-none, nothing_unfinished, Takes-next, DecodesFront-next, no_text-next, no_text-at_end}
use Rattle.hpack_huff.proofs.decode.huff_decode.Goals as goal

pub loop-octet-init : goal.loop-octet-init
unfolding octet_bits
loop-octet-init c = rw c.nothing-pending.ensures (Takes-none [] c.args.out.now, nothing_unfinished)

pub returns-in_err-take_codes-clause-bad : goal.returns-in_err-take_codes-clause-bad
returns-in_err-take_codes-clause-bad c =
    let p = err_from_is_err_and c.from_residual.result c.from_residual.ensures.1 in
    rw (p.1, p.2) (λ bad.
    no_text-next c.args.octets.now c.loop-octet.octet-index c.loop-octet.pending c.push.new.self c.args.out.now c.loop-octet.out
    c.take_codes.new.out (omega arith) c.loop-octet.invariant.0 c.push.ensures (c.in_err-take_codes.ensures.bad bad))

pub returns-in_err-take_codes-clause-memory : goal.returns-in_err-take_codes-clause-memory
returns-in_err-take_codes-clause-memory c =
    let p = err_from_is_err_and c.from_residual.result c.from_residual.ensures.1 in
    rw (p.1, p.2) (λ memory.
    let more = c.in_err-take_codes.ensures.memory memory in (
      more.0,
      DecodesFront-next c.args.octets.now c.loop-octet.octet-index c.loop-octet.pending c.push.new.self c.args.out.now c.loop-octet.out
          (c.take_codes.new.out ++ more.0 ∷ []) (omega arith) c.loop-octet.invariant.0 c.push.ensures more.1,
    ))

pub returns-in_err-take_codes-clause-err : goal.returns-in_err-take_codes-clause-err
returns-in_err-take_codes-clause-err c =
    let p = err_from_is_err_and c.from_residual.result c.from_residual.ensures.1 in
    rw p.1
    (DecodesFront-next c.args.octets.now c.loop-octet.octet-index c.loop-octet.pending c.push.new.self c.args.out.now c.loop-octet.out
    c.take_codes.new.out (omega arith) c.loop-octet.invariant.0 c.push.ensures c.in_err-take_codes.ensures.err)

pub loop-octet-preserved : goal.loop-octet-preserved
loop-octet-preserved c = (
  Takes-next c.args.octets.now c.loop-octet.octet-index c.loop-octet.pending c.push.new.self c.take_codes.new.pending c.args.out.now
      c.loop-octet.out c.take_codes.new.out (omega arith) c.loop-octet.invariant.0 c.push.ensures c.in_ok-take_codes.ensures.ok,
  c.in_ok-take_codes.ensures.unfinished,
)

pub returns-else-is_padding-clause-bad : goal.returns-else-is_padding-clause-bad
returns-else-is_padding-clause-bad c = λ bad.
    let all = take_all c.loop-octet.octet-index c.args.octets.now (omega arith) in
    no_text-at_end c.args.octets.now c.loop-octet.pending c.args.out.now c.loop-octet.out
    (rw all at c.loop-octet.invariant.0) c.loop-octet.invariant.1 (λ h. both_ways c.is_padding.result c.if-is_padding.false (c.is_padding.ensures.1 h))
