-- What the code answers, as plain values.
use Rattle.std.specs.Prelude.{List, map, Option, Some, None, Err}
use Rattle.p10_base.specs.declared.at.At.{At}
use Rattle.p10_base.specs.declared.report.Refusal.{Refusal}
use Rattle.p10_base.specs.Codes.{IsCode}
use Rattle.p10_base.specs.Gathered.{Gathered}
use Rattle.p10_syn.specs.declared.statement.Unit as whole
use Rattle.p10_syn.specs.BuiltStatements.{external_of}
use Rattle.p10_syn.specs.Trees.{External}
use Rattle.p10_core.specs.declared.program.Program.{Program}
use Rattle.p10_core.specs.Typed.{PlainProgram}
use Rattle.p10_core.specs.Views.{plain_program}
use Rattle.p10_expand.specs.Answers.{expansion_of}
use Rattle.p10_front.specs.declared.fault.FrontFault.{FrontFault}
use Rattle.p10_front.specs.declared.fault.FrontFault.TheVariants.{Over, Memory}
use Rattle.p10_front.specs.declared.reading.Reading.{Reading}
use Rattle.p10_front.specs.Readings.{PlainReading, Reads}

-- the trees that the code gives
abbrev pub trees_of : Option (List whole.Unit) → Option (List (External At))
trees_of None = None
trees_of (Some all) = Some (map external_of all)

-- the program that the code gives
abbrev pub typed_of : Option Program → Option PlainProgram
typed_of None = None
typed_of (Some p) = Some (plain_program p)

-- what the code gives, as a plain value
abbrev pub reading_of : Reading → PlainReading
reading_of r = record { expansion = expansion_of r.expanded; units = trees_of r.units; program = typed_of r.program; refusal = r.refusal }

-- why files aren't read: they exceed this limit, or memory is out
abbrev pub IsFault : Gathered → FrontFault → Type 0
IsFault g (Over limit) = Reads g (Err limit)
IsFault g Memory = Unit {0}

-- a refusal has a code whose text is known
abbrev pub CanBePrinted : Refusal → Type 0
CanBePrinted refusal = IsCode refusal.family refusal.number
