-- What is seen of the environment at one moment: what its objects have given and taken so far, and how often they failed.
-- Input.antt and Output.antt of environment say it of the two streams, Content.antt of disk_model of a disk, Doors.antt of
-- environment of the door at which connections come in.
use Rattle.std.specs.Prelude.{◌≡◌, ℕ, ◌+◌, List, [], ◌∷◌, ◌++◌, map, Option, Some, None, option_map, IfSome, Contains, Result, Ok, Err}
use Rattle.environment.specs.Input.{Input}
use Rattle.environment.specs.Output.{Output}
use Rattle.environment.specs.declared.streams.Failed.{Failed}
use Rattle.environment.specs.declared.reading.ReadFault.{ReadFault}
use Rattle.environment.specs.declared.reading.ReadFault.TheVariants as reads
use Rattle.disk_model.specs.Content.{Content, Tells}
use Rattle.listening.specs.Doors.{DoorView}
use Rattle.disk_model.specs.Images.{mask_after_sync}
use Rattle.program.specs.declared.files.DiskFile.{DiskFile}
use Rattle.program.specs.declared.files_record.NamedText.{NamedText}

-- Of files. Of those that are read as texts: the names that were asked for, in order, the texts that were given, each with its
-- file's name, how many reads failed, and all the texts that there are, where the files tell them. Of those that are used as
-- disks: the names that were asked for, in order, those of files that have to be there apart from those where an empty one
-- is made if there is none; how often no disk was given; and the octets that each holds when it is opened, where the files
-- tell them. What is done to a disk later is told by that disk alone.
pub record SeenFiles : Type 0 where
  pub asked : List (List ℕ)
  pub given : List NamedText
  pub faults : ℕ
  pub held : Option (List NamedText)
  pub disks_asked : List (List ℕ)
  pub new_disks_asked : List (List ℕ)
  pub disk_faults : ℕ
  pub disks_held : Option (List NamedText)

-- of a disk: what it tells of its content, where it does, and how often it has failed
pub record SeenDisk : Type 0 where
  pub told : Option Content
  pub faults : ℕ

-- the clock by the readings that it gave; the door with both halves of each connection, where its octets come in and where they
-- go out, as these are seen
pub record Environment : Type 0 where
  pub files : SeenFiles
  pub input : Input
  pub output : Output
  pub door : DoorView Input Output
  pub clock : List ℕ

module _ {I O : Type 0} (reads : I → Input) (writes : O → Output) where
  -- of a connection, where its octets come in and where they go out
  abbrev pub seen_halves : I × O → Input × Output
  seen_halves halves = (reads halves.0, writes halves.1)

  -- of a door, the connections that it gave and, where it tells them, those to come
  abbrev pub seen_door : DoorView I O → DoorView Input Output
  seen_door door = record {
    given = map seen_halves door.given;
    left = option_map (λ links. map seen_halves links) door.left;
    faults = door.faults;
  }

-- nothing was asked for as yet
abbrev pub unread_files : SeenFiles
unread_files = record {
  asked = [];
  given = [];
  faults = 0;
  held = None;
  disks_asked = [];
  new_disks_asked = [];
  disk_faults = 0;
  disks_held = None;
}

-- the files after one of this name was asked for
abbrev pub files_after_ask : List ℕ → SeenFiles → SeenFiles
files_after_ask name files = record files { asked = files.asked ++ name ∷ [] }

-- the files after they gave a text
abbrev pub files_with_text : NamedText → SeenFiles → SeenFiles
files_with_text text files = record files { given = files.given ++ text ∷ [] }

-- the files after a read failed
abbrev pub files_with_fault : SeenFiles → SeenFiles
files_with_fault files = record files { faults = files.faults + 1 }

-- the file of this name was asked for and gave this text; no other one was asked for, and nothing failed
pub record GaveText (name text : List ℕ) (old new : SeenFiles) : Type 0 where
  pub files : new ≡ files_with_text (record { name = name; text = text }) (files_after_ask name old)
  pub held : IfSome old.held (λ texts. Contains texts (record { name = name; text = text }))

-- the file of this name was asked for and failed, and no other one was asked for
abbrev pub FailedToGive : List ℕ → SeenFiles → SeenFiles → Type 0
FailedToGive name old new = new ≡ files_with_fault (files_after_ask name old)

-- what asking for the file of this name answers: its text, or that it failed, or that memory was wanting for the text
abbrev pub TextGives : List ℕ → Result (List ℕ) ReadFault → SeenFiles → SeenFiles → Type 0
TextGives name (Ok text) old new = GaveText name text old new
TextGives name (Err reads.Failed) old new = FailedToGive name old new
TextGives name (Err reads.NoMemory) old new = new ≡ files_after_ask name old

-- one text under its name, or none: all that files in memory have
abbrev pub texts_of : List ℕ → Option (List ℕ) → List NamedText
texts_of name (Some text) = record { name = name; text = text } ∷ []
texts_of name None = []

-- a way to ask for the file of a name as a disk: what the files are after it
abbrev pub DiskAsk : Type 0
DiskAsk = List ℕ → SeenFiles → SeenFiles

-- the files after a file of this name that has to be there was asked for as a disk
abbrev pub files_after_disk : DiskAsk
files_after_disk name files = record files { disks_asked = files.disks_asked ++ name ∷ [] }

-- the files after it was asked for, or an empty one that is made if there is none
abbrev pub files_after_new_disk : DiskAsk
files_after_new_disk name files =
    record files { new_disks_asked = files.new_disks_asked ++ name ∷ [] }

-- the files after no disk was given
abbrev pub files_with_disk_fault : SeenFiles → SeenFiles
files_with_disk_fault files = record files { disk_faults = files.disk_faults + 1 }

-- a disk of this name, which tells this, is among these
pub record IsDiskOf (name : List ℕ) (told : Option Content) (disks : List NamedText) : Type 0 where
  pub content : Content
  pub tells : told ≡ Some content
  pub held : Contains disks (record { name = name; text = content.seen })

-- what a disk holds counts as synced, and nothing was done to it before
pub record IsJustOpened (content : Content) : Type 0 where
  pub mask : content.mask ≡ mask_after_sync content.seen
  pub past : content.past ≡ []

-- The file of this name was asked for once, in this way, and given as a disk that hasn't failed yet, and no other one was
-- asked for.
pub record GaveDisk
    (ask : DiskAsk) (name : List ℕ) (disk : SeenDisk) (old new : SeenFiles) : Type 0 where
  pub files : new ≡ ask name old
  pub quiet : disk.faults ≡ 0
  pub opened : Tells disk.told IsJustOpened
  pub held : IfSome old.disks_held (λ disks. IsDiskOf name disk.told disks)

-- the file of this name was asked for once, in this way, and no disk was given, and no other one was asked for
abbrev pub FailedToGiveDisk : DiskAsk → List ℕ → SeenFiles → SeenFiles → Type 0
FailedToGiveDisk ask name old new = new ≡ files_with_disk_fault (ask name old)

module _ {D : Type 0} (told : D → Option Content) (faults : D → ℕ) where
  abbrev pub seen_disk : D → SeenDisk
  seen_disk disk = record { told = told disk; faults = faults disk }

  -- what asking in this way for the disk of this name answers: the disk, or that there is none
  abbrev pub DiskGives : DiskAsk → List ℕ → Result D Failed → SeenFiles → SeenFiles → Type 0
  DiskGives ask name (Ok disk) old new = GaveDisk ask name (seen_disk disk) old new
  DiskGives ask name (Err failed) old new = FailedToGiveDisk ask name old new

-- the one disk that files in memory have, or none
abbrev pub disks_of : Option DiskFile → List NamedText
disks_of (Some file) = record { name = file.name; text = file.octets } ∷ []
disks_of None = []
