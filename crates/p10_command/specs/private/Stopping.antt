-- What roots come to that aren't gathered.
use Rattle.std.specs.Prelude.{Result, Ok, Err}
use Rattle.p10_base.specs.Gathered.{nothing_gathered}
use Rattle.p10_expand.specs.declared.fault.GatherFault.{GatherFault}
use Rattle.p10_expand.specs.declared.fault.GatherFault.TheVariants as fault
use Rattle.p10_command.specs.declared.gathering.GatheredRoots.{GatheredRoots}
use Rattle.p10_command.specs.declared.gathering.GatheredRoots.TheVariants.{Stopped}
use Rattle.p10_command.specs.declared.gathering.Ungathered.TheVariants.{AbsentRoot, Refused, Over}
use Rattle.p10_command.specs.declared.trouble.Trouble.{Trouble}
use Rattle.p10_command.specs.declared.trouble.Trouble.TheVariants.{Read, Memory}

-- the answer of gathering, or the trouble
abbrev pub roots_without : GatherFault → Result GatheredRoots Trouble
roots_without (fault.RootAbsent place) = Ok (Stopped (AbsentRoot place) nothing_gathered)
roots_without (fault.Refused refusal g) = Ok (Stopped (Refused refusal) g)
roots_without (fault.Over limit) = Ok (Stopped (Over limit) nothing_gathered)
roots_without fault.Read = Err Read
roots_without fault.Memory = Err Memory
