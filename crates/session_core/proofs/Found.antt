-- What others did at the sending half between two calls.
use Rattle.std.proofs.Common.{◌≡◌, ℕ, List, [], ◌∷◌, ◌++◌, map, refl, sym, ◌∙◌, ap, subst, append-nil, append_assoc}
use Rattle.std.specs.Prelude.{Option, Some}
use Rattle.std.specs.List.{AllByRecursion}
use Rattle.h2_send.specs.Inputs.{Input}
use Rattle.h2_send.specs.Port.{Progress}
use Rattle.stream_workers.specs.Feeders.{IsOfFeeder}
use Rattle.session_core.specs.inner.Feeders.{AreOfFeeders}
use Rattle.session_core.specs.inner.Sending.{WireHistory, Finds, Gives, HasGrown, SaysNothing}

pub grown_more : (first second third : WireHistory) → HasGrown first second → HasGrown second third → HasGrown first third
grown_more first second third one other = record {
  name = other.name ∙ one.name;
  did = one.did ++ other.did;
  told = other.told ∙ ap (λ (os : List (Option Input)). os ++ other.did) one.told ∙ append_assoc first.others one.did other.did;
}

pub not_grown : (beside : WireHistory) → HasGrown beside beside
not_grown beside = record { name = refl; did = []; told = sym (append-nil beside.others) }

pub nothing_said : (beside : WireHistory) → SaysNothing beside beside
nothing_said beside = λ stream. refl

front_theirs : (fed : List ℕ) (others did : List (Option Input)) → AllByRecursion (IsOfFeeder fed) (others ++ did) → AllByRecursion (IsOfFeeder fed) others
front_theirs fed [] did are = tt
front_theirs fed (one ∷ others) did are = (are.0, front_theirs fed others did are.1)

-- where all that others did in the end is what feeders said, so it is of what they did before
pub earlier : (fed : List ℕ) (before after : WireHistory) → HasGrown before after → AreOfFeeders fed after → AreOfFeeders fed before
earlier fed before after grown theirs = front_theirs fed before.others grown.did (subst (λ (os : List (Option Input)). AllByRecursion (IsOfFeeder fed) os) grown.told theirs)

none_gave : (at : Progress) (inputs : List Input) → [] ≡ map Some inputs → Gives inputs at at
none_gave at [] is = refl
none_gave at (input ∷ inputs) is = absurd cc

-- others did nothing
pub nothing_found : (others : List (Option Input)) (at : Progress) → Finds others others at at
nothing_found others at = record { did = []; told = sym (append-nil others); gave = none_gave at }
