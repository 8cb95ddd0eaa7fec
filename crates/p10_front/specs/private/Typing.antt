-- What becomes of the trees of expanded words.
use Rattle.std.specs.Prelude.{List, map, Some, None, Result, Ok, Err}
use Rattle.p10_syn.specs.declared.statement.Unit as whole
use Rattle.p10_syn.specs.BuiltStatements.{external_of}
use Rattle.p10_elab.specs.declared.fault.ElabFault.{ElabFault}
use Rattle.p10_elab.specs.declared.fault.ElabFault.TheVariants as elaborating
use Rattle.p10_expand.specs.declared.expanded.Expanded.{Expanded}
use Rattle.p10_front.specs.declared.fault.FrontFault.{FrontFault}
use Rattle.p10_front.specs.declared.fault.FrontFault.TheVariants.{Over, Memory}
use Rattle.p10_front.specs.declared.reading.Reading.{Reading}
use Rattle.p10_front.specs.Readings.{Elaborates}
use Rattle.p10_front.specs.Answers.{reading_of}
use Rattle.p10_expand.specs.Answers.{expansion_of}

-- what the trees of expanded words are read as
abbrev pub IsTyped : Expanded → List whole.Unit → Reading → Type 0
IsTyped expanded units reading = Elaborates (expansion_of expanded) (map external_of units) (Ok (reading_of reading))

-- why the trees of expanded words aren't read
abbrev pub IsUntyped : Expanded → List whole.Unit → FrontFault → Type 0
IsUntyped expanded units (Over limit) = Elaborates (expansion_of expanded) (map external_of units) (Err limit)
IsUntyped expanded units Memory = Unit {0}

-- what is answered where trees come to no program
abbrev pub reading_untyped : Expanded → List whole.Unit → ElabFault → Result Reading FrontFault
reading_untyped expanded units (elaborating.Refused refusal) = Ok (record { expanded = expanded; units = Some units; program = None; refusal = Some refusal })
reading_untyped expanded units (elaborating.Over limit) = Err (Over limit)
reading_untyped expanded units elaborating.Memory = Err Memory
