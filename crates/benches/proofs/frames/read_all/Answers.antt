use Rattle.std.proofs.Common.{fold, ◌≡◌, ℕ, List, [], ap, refl, sym, ◌∙◌}
use Rattle.std.proofs.lemmas.List.{take_rest}
use Rattle.h2_frame.specs.declared.frame.Head.{Head}
use Rattle.h2_frame.specs.declared.frame.Got.{Got}
use Rattle.h2_frame.specs.declared.frame.Got.TheVariants as got
use Rattle.h2_frame.specs.Frames.{Frame, FramesTo, IsReadAs}
use Rattle.h2_frame.proofs.Runs.{one_taken, part_alone, long_alone}
use Rattle.benches.specs.Frames.{mixed}
use Rattle.benches.proofs.frames.read_all.Goals as goal

-- where no whole frame stands first, no frame is left
ended : (octets : List ℕ) (answer : Got) (left : List Frame) (rest : List ℕ) → IsReadAs 16384 octets answer → ((head : Head) (used : ℕ) → answer ≡ got.Frame head used → ⊥) → FramesTo 16384 octets left rest → left ≡ []
ended octets (got.Frame head used) left rest says none p = absurd (none head used refl)
ended octets got.More left rest says none p = (part_alone 16384 octets left rest says p).0
ended octets (got.Bad code) left rest says none p = (long_alone 16384 octets left rest says.1 p).0

pub loop-head-preserved : goal.loop-head-preserved
loop-head-preserved c = λ frames rest h.
    let i = c.loop-head.invariant frames rest h in
    let t = one_taken 16384 c.loop-head.rest.now c.in-Frame.head c.in-Frame.used i.0 rest c.in-Frame.ensures.says i.1 in
    (t.0, rw take_rest t.2, i.2 ∙ ap (fold mixed c.loop-head.checksum) t.1 ∙ ap (λ (k : ℕ). fold mixed k t.0) (sym (c.mixed-checksum.ensures [])))

pub returns : goal.returns
returns c = λ frames rest h.
    let i = c.loop-head.invariant frames rest h in
    sym (i.2 ∙ ap (fold mixed c.loop-head.checksum) (ended c.loop-head.rest.now c.read_frame.result i.0 rest c.read_frame.ensures.says c.in_default.not-Frame i.1))
