use Rattle.p10_meaning.proofs.SoundRuns.{first_parts_keep, turns_keep, frames_fit_on, runs_stay}
use Rattle.p10_meaning.proofs.Arriving.{turns_end}
use Rattle.p10_meaning.proofs.laws.runs_stay_sound.Goals as goal

pub returns-clause-first : goal.returns-clause-first
returns-clause-first c = first_parts_keep

pub returns-clause-turns : goal.returns-clause-turns
returns-clause-turns c = turns_keep

pub returns-clause-frames : goal.returns-clause-frames
returns-clause-frames c = frames_fit_on

pub returns-clause-runs : goal.returns-clause-runs
returns-clause-runs c = runs_stay

pub returns-clause-end : goal.returns-clause-end
returns-clause-end c = turns_end
