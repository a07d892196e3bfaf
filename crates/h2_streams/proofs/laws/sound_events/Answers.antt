use Rattle.std.proofs.Common.{arith}
use Rattle.h2_streams.specs.Calls.{new_peer}
use Rattle.h2_streams.proofs.SoundLemmas.{sound_frame, sound_moments}
use Rattle.h2_streams.proofs.laws.sound_events.Goals as goal

pub returns-clause-one : goal.returns-clause-one
returns-clause-one c = sound_frame

pub returns-clause-all : goal.returns-clause-all
returns-clause-all c = λ last moments calls readable. sound_moments new_peer last moments (record { window = omega arith; block = tt; streams = record { rising = tt; few = omega arith } }) calls readable
