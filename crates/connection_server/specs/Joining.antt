-- What is left when sessions have ended.
use Rattle.std.specs.Prelude.{◌≡◌, ℕ, ◌+◌, List, [], ◌∷◌, map}
use Rattle.connection_server.specs.declared.link.LinkEnd.{LinkEnd}

-- each of these came of the job in its place
abbrev pub CameOf : {J D : Type 0} → (J → D → Type 0) → List J → List D → Type 0
CameOf gives [] [] = Unit {0}
CameOf gives (job ∷ jobs) (done ∷ dones) = gives job done × CameOf gives jobs dones
CameOf gives jobs dones = ⊥

-- the connections' numbers, and their sessions' authors
abbrev pub numbers_of : {I O H : Type 0} → List (LinkEnd I O H) → List ℕ
numbers_of ends = map (λ end. end.number) ends

abbrev pub authors_of : {I O H : Type 0} → List (LinkEnd I O H) → List ℕ
authors_of ends = map (λ end. end.author) ends

-- these numbers are those from the first one on
abbrev pub AreCounted : ℕ → List ℕ → Type 0
AreCounted first [] = Unit {0}
AreCounted first (number ∷ numbers) = (number ≡ first) × AreCounted (first + 1) numbers
