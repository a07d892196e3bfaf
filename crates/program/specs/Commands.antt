-- The commands, and the words in which each is given: the arguments behind the program's name. The forms are this
-- project's own (docs/PROFILE.md).
use Rattle.std.specs.Prelude.{◌≡◌, ℕ, ◌<◌, ◌≤◌, ◌^◌, List, [], ◌∷◌, ◌⊎◌, map, codes, String, string_bytes}
use Rattle.std.specs.Fmt.{decimal}
use Rattle.std.specs.Global.{Global}
use Rattle.base_kinds.specs.declared.entry.Limits.{Limits}
use Rattle.base_kinds.specs.Limits.{AreInRange, default_limits}

-- `Check` and `Script` by the name of the schema's file, `Init` and `Log` by that of the journal's, `Session` by both; `Script`
-- and `Init` with the limits of the commit log; `Serve` by both files, an address, and how many connections are accepted; `Load`
-- by a seed and how many Sets are made
pub data Command : Type 0 where
  Check : List ℕ → Command
  Script : List ℕ → Limits → Command
  Init : List ℕ → Limits → Command
  Log : List ℕ → Command
  Session : List ℕ → List ℕ → Command
  Serve : List ℕ → List ℕ → List ℕ → ℕ → Command
  Load : ℕ → ℕ → Command
  Help : Command
  Version : Command

-- the words as octets
abbrev pub octets_of_words : List (String Global) → List (List ℕ)
octets_of_words words = map (λ word. string_bytes word) words

-- the limits as two words
pub record AreLimits (entries octets : List ℕ) (limits : Limits) : Type 0 where
  pub entries_are : entries ≡ decimal limits.entries
  pub octets_are : octets ≡ decimal limits.octets
  pub in_range : AreInRange limits

-- this word, the name of a file, and limits, or none for the default ones
abbrev pub IsNameWithLimits : List ℕ → List (List ℕ) → List ℕ → Limits → Type 0
IsNameWithLimits word words name limits =
    ((words ≡ word ∷ name ∷ []) × (limits ≡ default_limits))
    ⊎ ((entries : List ℕ) × ((octets : List ℕ) ×
    ((words ≡ word ∷ name ∷ entries ∷ octets ∷ []) × AreLimits entries octets limits)))

abbrev pub IsScript : List (List ℕ) → List ℕ → Limits → Type 0
IsScript = IsNameWithLimits (codes "script")

abbrev pub IsInit : List (List ℕ) → List ℕ → Limits → Type 0
IsInit = IsNameWithLimits (codes "init")

-- this word and the name of a file
abbrev pub IsName : List ℕ → List (List ℕ) → List ℕ → Type 0
IsName word words name = words ≡ word ∷ name ∷ []

abbrev pub IsCheck : List (List ℕ) → List ℕ → Type 0
IsCheck = IsName (codes "check")

abbrev pub IsLog : List (List ℕ) → List ℕ → Type 0
IsLog = IsName (codes "log")

-- `session`, the name of the schema's file and that of the journal's
abbrev pub IsSession : List (List ℕ) → List ℕ → List ℕ → Type 0
IsSession words schema journal = words ≡ codes "session" ∷ schema ∷ journal ∷ []

-- the words are no session's
abbrev pub IsNoSession : List (List ℕ) → Type 0
IsNoSession words = (schema journal : List ℕ) → IsSession words schema journal → ⊥

-- `serve` accepts at most so many connections
abbrev pub most_sessions : ℕ
most_sessions = 1024

-- `serve`, the name of the schema's file and that of the journal's, an address, and from 1 to 1,024 connections
pub record IsServe (words : List (List ℕ)) (schema journal address : List ℕ) (sessions : ℕ)
    : Type 0 where
  pub words_are : words ≡
      codes "serve" ∷ schema ∷ journal ∷ address ∷ decimal sessions ∷ []
  pub some : 1 ≤ sessions
  pub few : sessions ≤ most_sessions

-- the words are those of no server
abbrev pub IsNoServe : List (List ℕ) → Type 0
IsNoServe words = (schema journal address : List ℕ) (sessions : ℕ) →
    IsServe words schema journal address sessions → ⊥

-- `load` generates at most so many Sets
abbrev pub most_sets : ℕ
most_sets = 65536

-- `load`, a seed of 64 bits, and from 1 to 65,536 Sets
pub record IsLoad (words : List (List ℕ)) (seed count : ℕ) : Type 0 where
  pub words_are : words ≡ codes "load" ∷ decimal seed ∷ decimal count ∷ []
  pub seed_fits : seed < 2 ^ 64
  pub some : 1 ≤ count
  pub few : count ≤ most_sets

-- the words are no load's
abbrev pub IsNoLoad : List (List ℕ) → Type 0
IsNoLoad words = (seed count : ℕ) → IsLoad words seed count → ⊥

-- the words give this command
abbrev pub Gives : List (List ℕ) → Command → Type 0
Gives words (Check name) = IsCheck words name
Gives words (Script name limits) = IsScript words name limits
Gives words (Init name limits) = IsInit words name limits
Gives words (Log name) = IsLog words name
Gives words (Session schema journal) = IsSession words schema journal
Gives words (Serve schema journal address sessions) =
    IsServe words schema journal address sessions
Gives words (Load seed count) = IsLoad words seed count
Gives words Help = words ≡ codes "--help" ∷ []
Gives words Version = words ≡ codes "--version" ∷ []

abbrev pub GivesNone : List (List ℕ) → Type 0
GivesNone words = (command : Command) → Gives words command → ⊥
