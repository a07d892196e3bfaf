-- A disk that stops and fails in the calls for which it is armed.
use Rattle.std.specs.Prelude.{◌≡◌, ◌⊎◌, ℕ, ◌+◌, ◌-◌, ◌^◌, ◌==◌, if◌then◌else◌, Bool, true, List, [], ◌∷◌}
use Rattle.std.specs.Prelude.{◌++◌, length, Option, Some, None, Result, MatchResult, IsErr, unwrap_or}
use Rattle.disk_model.specs.Content.{Content}
use Rattle.base_kinds.specs.declared.fill.Fill.{Fill}
use Rattle.disk_model.specs.Arming.{Arming, armed_by, arming_after, unarmed}
use Rattle.disk_model.specs.Calls.{Fuse}
use Rattle.disk_model.specs.declared.outcome.Outcome.{Outcome}
use Rattle.disk_model.specs.declared.outcome.Outcome.TheVariants.{Passes, Fails, Stops}
use Rattle.memory_disks.specs.Contents.{content_after_write, content_after_failed_write, content_after_cut}
use Rattle.memory_disks.specs.Contents.{content_after_failed_cut, content_after_sync, synced_content}
use Rattle.memory_disks.specs.Octets.{octets_after_write, octets_after_stop}

pub record FuseView : Type 0 where
  pub content : Content
  pub faults : ℕ
  -- whether it has failed for want of memory
  pub starved : Bool
  pub arming : Arming
  -- the octets of the last sync
  pub base : List ℕ
  -- the ranges that were written since, each a place and a length
  pub written : List (ℕ × ℕ)
  -- what the stop left
  pub left : Option (List ℕ)

-- what makes its calls fail
abbrev pub fuse_of : FuseView → Fuse
fuse_of disk = record { arming = Some disk.arming; starved = disk.starved }

-- the number of calls of a disk that is made without a stop
abbrev pub no_stop : ℕ
no_stop = 2 ^ 64 - 1

-- the arming of a disk that is made to stop in the call after so many, or made without a stop
abbrev pub first_arming : ℕ → Fill → Arming
first_arming passes fill = if passes == no_stop then unarmed else armed_by ((passes, fill) ∷ []) []

-- the counts go on by one call
abbrev pub with_call_counted : FuseView → FuseView
with_call_counted disk = record disk { arming = arming_after disk.arming }

-- a call fails, with this content, and is counted
abbrev pub after_failure : Content → FuseView → FuseView
after_failure content disk = record disk { content = content; faults = disk.faults + 1 }

-- and it fails for want of memory
abbrev pub after_want_of_memory : FuseView → FuseView
after_want_of_memory disk = record disk { starved = true }

-- the disk stops: by what a read gives and by the ranges that were written since the last sync
abbrev pub after_stop : Fill → List ℕ → List (ℕ × ℕ) → FuseView → FuseView
after_stop fill seen written disk =
    record disk { left = Some (octets_after_stop fill disk.base seen written) }

-- and it stops in a call that writes nothing
abbrev pub after_quiet_stop : Fill → FuseView → FuseView
after_quiet_stop fill disk = after_stop fill disk.content.seen disk.written disk

-- what a call does that changes no content: the length, or a read
abbrev pub after_look : Outcome → FuseView → FuseView
after_look Passes disk = disk
after_look Fails disk = after_failure disk.content disk
after_look (Stops fill) disk = after_quiet_stop fill (after_failure disk.content disk)

-- A sync. After it nothing is written since the last one. A sync that fails changes nothing.
abbrev pub after_sync : Outcome → FuseView → FuseView
after_sync Passes disk = record disk {
  content = content_after_sync disk.content;
  base = disk.content.seen;
  written = [];
}
after_sync Fails disk = after_look Fails disk
after_sync (Stops fill) disk = after_look (Stops fill) disk

-- the ranges that were written, with this write
abbrev pub with_write : ℕ → List ℕ → List (ℕ × ℕ) → List (ℕ × ℕ)
with_write place piece written = written ++ (place, length piece) ∷ []

-- a write
abbrev pub after_write : ℕ → List ℕ → FuseView → FuseView
after_write place piece disk = record disk {
  content = content_after_write place piece disk.content;
  written = with_write place piece disk.written;
}

-- a write that failed
abbrev pub after_failed_write : ℕ → List ℕ → FuseView → FuseView
after_failed_write place piece disk =
    after_failure (content_after_failed_write place piece disk.content) disk

-- a stop in a write whose piece counts as written since the last sync
abbrev pub after_stop_in_write : Fill → ℕ → List ℕ → FuseView → FuseView
after_stop_in_write fill place piece disk =
    after_stop fill (octets_after_write place piece disk.content.seen)
    (with_write place piece disk.written) (after_failed_write place piece disk)

-- a stop in a write, and where there was no memory for its piece, as if it hadn't been made
abbrev pub StopsInWrite : Fill → ℕ → List ℕ → FuseView → FuseView → Type 0
StopsInWrite fill place piece old new = (new ≡ after_stop_in_write fill place piece old)
    ⊎ (new ≡ after_want_of_memory (after_quiet_stop fill (after_failed_write place piece old)))

-- A write. Where it passes it fails for want of memory alone.
abbrev pub WriteGives : {E : Type 0} → Outcome → ℕ → List ℕ → Result Unit E
    → FuseView → FuseView → Type 0
WriteGives Passes place piece result old new = MatchResult result
    (λ _. new ≡ after_write place piece old)
    (λ _. new ≡ after_want_of_memory (after_failed_write place piece old))
WriteGives Fails place piece result old new =
    IsErr result × (new ≡ after_failed_write place piece old)
WriteGives (Stops fill) place piece result old new =
    IsErr result × StopsInWrite fill place piece old new

-- a cut
abbrev pub after_cut : ℕ → FuseView → FuseView
after_cut n disk = record disk { content = content_after_cut n disk.content }

-- a cut that failed
abbrev pub after_failed_cut : ℕ → FuseView → FuseView
after_failed_cut n disk = after_failure (content_after_failed_cut n disk.content) disk

-- A cut. Where it passes it fails for want of memory alone. Where the disk stops in it, it isn't made.
abbrev pub CutGives : {E : Type 0} → Outcome → ℕ → Result Unit E → FuseView → FuseView → Type 0
CutGives Passes n result old new = MatchResult result
    (λ _. new ≡ after_cut n old)
    (λ _. new ≡ after_want_of_memory (after_failed_cut n old))
CutGives Fails n result old new = IsErr result × (new ≡ after_failed_cut n old)
CutGives (Stops fill) n result old new =
    IsErr result × (new ≡ after_quiet_stop fill (after_failed_cut n old))

-- what the disk leaves: after a stop what that left, and before one what a read gives
abbrev pub image_left : FuseView → List ℕ
image_left disk = unwrap_or disk.left disk.content.seen

-- a disk that is made of these octets, all of them synced
abbrev pub new_disk_of : List ℕ → Bool → Arming → FuseView
new_disk_of octets starved arming = record {
  content = synced_content octets;
  faults = 0;
  starved = starved;
  arming = arming;
  base = octets;
  written = [];
  left = None;
}
