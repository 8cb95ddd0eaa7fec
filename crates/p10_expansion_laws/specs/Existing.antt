-- What there is: each run of words ends, each program expands to something, and gathering ends.
use Rattle.std.specs.Prelude.{ℕ, List, Option, Result, IsSome}
use Rattle.p10_base.specs.declared.span.Span.{Span}
use Rattle.p10_base.specs.declared.report.Limit.{Limit}
use Rattle.p10_base.specs.Gathered.{Gathered}
use Rattle.p10_macros.specs.Table.{Table}
use Rattle.p10_macros.specs.Uses.{Sourced}
use Rattle.p10_macros.specs.Endings.{Ending}
use Rattle.p10_macros.specs.Ends.{Ends}
use Rattle.p10_expand.specs.declared.fault.GatherFault.{GatherFault}
use Rattle.p10_expand.specs.Gathering.{Setting, IsEnding, HaveWords}
use Rattle.p10_expand.specs.Expands.{Expansion, ExpandsTo}

-- words end in some way, whatever macros there are and however many words may be made
abbrev pub WordsEnd : Type 0
WordsEnd = (table : Table) (outer : Option Span) (words : List Sourced) (left : ℕ) → (ending : Ending (List Sourced)) × Ends table outer words left ending

-- the program of files that have words expands to something: words, perhaps with a refusal, or a limit that is exceeded
abbrev pub ProgramsExpand : Type 0
ProgramsExpand = (g : Gathered) → HaveWords g → (answer : Result Expansion Limit) × ExpandsTo g answer

-- where files are told, gathering ends in some way
abbrev pub GatheringEnds : Type 0
GatheringEnds = (s : Setting) → IsSome s.held → (answer : Result Gathered GatherFault) × IsEnding s answer
