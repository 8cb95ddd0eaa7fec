-- When the sources of a command aren't gathered.
use Rattle.std.specs.Prelude.{◌<◌, List, length}
use Rattle.p10_base.specs.Codes.{IsCode}
use Rattle.p10_base.specs.Gathered.{Gathered}
use Rattle.p10_base.specs.Words.{Text}
use Rattle.p10_expand.specs.declared.fault.GatherFault.TheVariants as fault
use Rattle.p10_expand.specs.Gathering.{Setting, Gathers, FailsBy, HaveWords}
use Rattle.p10_command.specs.declared.gathering.GatheredRoots.{GatheredRoots}
use Rattle.p10_command.specs.declared.gathering.GatheredRoots.TheVariants.{All, Stopped}
use Rattle.p10_command.specs.declared.gathering.Ungathered.{Ungathered}
use Rattle.p10_command.specs.declared.gathering.Ungathered.TheVariants.{AbsentRoot, Refused, Over}

-- the files are not gathered, for this reason; a refusal lies in these files
abbrev pub AreUngathered : Setting → Gathered → Ungathered → Type 0
AreUngathered s g (AbsentRoot place) = FailsBy s (fault.RootAbsent place)
AreUngathered s g (Refused refusal) = FailsBy s (fault.Refused refusal g)
AreUngathered s g (Over limit) = FailsBy s (fault.Over limit)

-- the reason can be printed: the place is that of a root with one of these names, and the code of a refusal has a text
abbrev pub CanBeTold : List Text → Ungathered → Type 0
CanBeTold roots (AbsentRoot place) = place < length roots
CanBeTold roots (Refused refusal) = IsCode refusal.family refusal.number
CanBeTold roots (Over limit) = Unit {0}

-- what the roots of a command come to: all files, each of which has words, or why they aren't gathered
abbrev pub AreGathered : Setting → GatheredRoots → Type 0
AreGathered s (All g) = Gathers s g × HaveWords g
AreGathered s (Stopped why g) = AreUngathered s g why × CanBeTold s.roots why
