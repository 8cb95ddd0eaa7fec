-- What parts of the code find and say.
use Rattle.std.specs.Prelude.{◌≡◌, ◌⊎◌, List, Option, Some, None}
use Rattle.p10_base.specs.declared.at.At.{At}
use Rattle.p10_base.specs.declared.report.Violation.{Violation}
use Rattle.p10_base.specs.Gathered.{Gathered}
use Rattle.p10_syn.specs.Trees.{External}
use Rattle.p10_core.specs.Typed.{PlainProgram}
use Rattle.p10_command.specs.declared.trouble.Trouble.TheVariants.{Memory}
use Rattle.p10_command.specs.Saying.{Saying, limit_saying, trouble_saying}
use Rattle.p10_front.specs.declared.fault.FrontFault.{FrontFault}
use Rattle.p10_front.specs.declared.fault.FrontFault.TheVariants as front
use Rattle.p10_synrules.specs.Violations as trees
use Rattle.p10_check_command.specs.Reports.{BreaksProgramRow}

-- a row on trees is violated, if there are trees
abbrev pub BreaksTreeRow : Gathered → Option (List (External At)) → Violation → Type 0
BreaksTreeRow g None v = ⊥
BreaksTreeRow g (Some all) v = trees.Violates g all v.sub v.span

-- a row on programs is violated, if there is a program
abbrev pub BreaksRowOfSome : Option PlainProgram → Violation → Type 0
BreaksRowOfSome None v = ⊥
BreaksRowOfSome (Some p) v = BreaksProgramRow p v

-- this is said, unless memory is out
abbrev pub IsOrNoMemory : Saying → Saying → Type 0
IsOrNoMemory wanted saying = (saying ≡ wanted) ⊎ (saying ≡ trouble_saying Memory)

-- what is said where gathered files aren't read
abbrev pub fault_saying : FrontFault → Saying
fault_saying (front.Over limit) = limit_saying limit
fault_saying front.Memory = trouble_saying Memory
