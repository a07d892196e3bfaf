-- Runs that need nothing but the output.
use Rattle.std.proofs.Common.{◌≡◌, ℕ, List, inl, inr, ap, ◌∙◌, codes}
use Rattle.environment.specs.Output.{Output}
use Rattle.program.specs.declared.ending.Ending.{Ending}
use Rattle.program.specs.declared.ending.Ending.TheVariants.{Done}
use Rattle.program.specs.Ending.{exit_status}
use Rattle.program.specs.Printing.{SaysLast}
use Rattle.program.specs.Commands.{Help, Version}
use Rattle.program.specs.HelpRun.{help_text, version_text}
use Rattle.program.specs.laws.RunLaws.{WroteAndEnded}
use Rattle.program.specs.laws.WordLaws.{CompletesHelp, CompletesVersion, CompletesRefusals}
use Rattle.program.proofs.RunLaws.{one_more_is_more, printed_whole}

pub help_completes : CompletesHelp
help_completes words before after returned how links status is run quiet =
    printed_whole help_text Done run.ending before.output after.output status quiet.output run.status_is (run.done Help is).0.output

pub version_completes : CompletesVersion
version_completes words before after returned how links status is run quiet =
    printed_whole version_text Done run.ending before.output after.output status quiet.output run.status_is (run.done Version is).0.output

-- a last line was written whole where the output didn't fail
said_whole : (line : List ℕ) (old new : Output) (good status : ℕ) → new.faults ≡ old.faults → status ≡ good → SaysLast line old new → WroteAndEnded line good old new status
said_whole line old new good status quiet is (inl whole) = (whole, is)
said_whole line old new good status quiet is (inr broken) = absurd (one_more_is_more old.faults new.faults quiet (ap (λ (o : Output). o.faults) broken.2))

pub refusals_complete : CompletesRefusals
refusals_complete words before after returned how links status none run quiet =
    let refuses = run.refused none in
    said_whole (codes "bad words\n") before.output after.output _ status quiet.output (run.status_is ∙ ap (λ (e : Ending). exit_status e) refuses.ends) refuses.line
