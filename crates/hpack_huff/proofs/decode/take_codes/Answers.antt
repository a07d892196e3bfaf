use Rattle.std.proofs.Common.{List, ℕ, [], ◌∷◌, ◌++◌, sym, subst}
use Rattle.hpack_huff.specs.inner.Taken.{Takes}
use Rattle.hpack_huff.proofs.HuffmanLemmas.{Takes-none, Takes-octet, octet_shorter}
use Rattle.hpack_huff.proofs.decode.take_codes.Goals as goal

pub loop-octet-init : goal.loop-octet-init
loop-octet-init c = Takes-none c.args.pending.now c.args.out.now

pub loop-octet-smaller : goal.loop-octet-smaller
loop-octet-smaller c =
    octet_shorter c.in-Octet.octet c.loop-octet.pending c.next.new.self (c.in-Octet.ensures.0) (c.in-Octet.ensures.1)

pub loop-octet-preserved : goal.loop-octet-preserved
loop-octet-preserved c =
    subst (Takes c.args.pending.now c.next.new.self c.args.out.now) (sym c.in_ok-push-in-Octet.ensures.ok)
    (Takes-octet c.args.pending.now c.loop-octet.pending c.next.new.self c.args.out.now c.loop-octet.out c.in-Octet.octet
    c.loop-octet.invariant c.in-Octet.ensures.0 c.in-Octet.ensures.1)

pub returns-in_err-push-in-Octet-clause-memory : goal.returns-in_err-push-in-Octet-clause-memory
returns-in_err-push-in-Octet-clause-memory c = λ _. (
  c.in-Octet.octet,
  record {
    rest = c.next.new.self;
    takes = subst (λ (out : List ℕ). Takes c.args.pending.now c.next.new.self c.args.out.now (out ++ c.in-Octet.octet ∷ [])) (sym c.in_err-push-in-Octet.ensures.err)
        (Takes-octet c.args.pending.now c.loop-octet.pending c.next.new.self c.args.out.now c.loop-octet.out c.in-Octet.octet
        c.loop-octet.invariant c.in-Octet.ensures.0 c.in-Octet.ensures.1);
  },
)
