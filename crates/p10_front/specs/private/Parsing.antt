-- What becomes of expanded words.
use Rattle.std.specs.Prelude.{Some, None, Result, Ok, Err}
use Rattle.p10_expand.specs.declared.expanded.Expanded.{Expanded}
use Rattle.p10_expand.specs.Answers.{expansion_of}
use Rattle.p10_expand.specs.declared.expansion.fault.ExpandFault.{ExpandFault}
use Rattle.p10_expand.specs.declared.expansion.fault.ExpandFault.TheVariants as expanding
use Rattle.p10_pexpr.specs.declared.fault.ParseFault.{ParseFault}
use Rattle.p10_pexpr.specs.declared.fault.ParseFault.TheVariants as parsing
use Rattle.p10_front.specs.declared.fault.FrontFault.{FrontFault}
use Rattle.p10_front.specs.declared.fault.FrontFault.TheVariants.{Over, Memory}
use Rattle.p10_front.specs.declared.reading.Reading.{Reading}
use Rattle.p10_front.specs.Readings.{Parses}
use Rattle.p10_front.specs.Answers.{reading_of}

-- what expanded words are read as
abbrev pub IsParsed : Expanded → Reading → Type 0
IsParsed expanded reading = Parses (expansion_of expanded) (Ok (reading_of reading))

-- why expanded words aren't read
abbrev pub IsUnparsed : Expanded → FrontFault → Type 0
IsUnparsed expanded (Over limit) = Parses (expansion_of expanded) (Err limit)
IsUnparsed expanded Memory = Unit {0}

-- what is answered where words have no trees
abbrev pub reading_without : Expanded → ParseFault → Result Reading FrontFault
reading_without expanded (parsing.Refused refusal) = Ok (record { expanded = expanded; units = None; program = None; refusal = Some refusal })
reading_without expanded (parsing.Over limit) = Err (Over limit)
reading_without expanded parsing.Memory = Err Memory

-- what is answered where files don't expand
abbrev pub fault_of : ExpandFault → FrontFault
fault_of (expanding.Over limit) = Over limit
fault_of expanding.Memory = Memory
