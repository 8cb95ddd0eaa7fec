use Rattle.p10_meaning.proofs.SoundCalls.{arrays_small, calls_keep, statements_keep, values_keep}
use Rattle.p10_meaning.proofs.SoundOpening.{opening_sound}
use Rattle.p10_meaning.proofs.laws.sound_states_stay_sound.Goals as goal

pub returns-clause-calls : goal.returns-clause-calls
returns-clause-calls c = calls_keep

pub returns-clause-statements : goal.returns-clause-statements
returns-clause-statements c = statements_keep

pub returns-clause-values : goal.returns-clause-values
returns-clause-values c = values_keep

pub returns-clause-opening : goal.returns-clause-opening
returns-clause-opening c = opening_sound

pub returns-clause-arrays : goal.returns-clause-arrays
returns-clause-arrays c = arrays_small
