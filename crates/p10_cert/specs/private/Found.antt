-- What the code finds at a place.
use Rattle.std.specs.Prelude.{◌≡◌, [], ◌∷◌, ◌++◌, List, flat_map, Option, Some, option_map, Result, Ok, Err}
use Rattle.p10_base.specs.declared.digest.Digest.{Digest}
use Rattle.p10_base.specs.declared.report.Bounds.{Bounds}
use Rattle.p10_cert.specs.Lines.{Line, TotalLine, LastLine}
use Rattle.p10_cert.specs.Sealed.{bytes_of}
use Rattle.p10_cert.specs.Statements.{Section, Ending, section_lines}
use Rattle.p10_cert.specs.declared.cursor.Cursor.{Cursor}
use Rattle.p10_cert.specs.declared.cursor.End.{End as CodeEnd}
use Rattle.p10_cert.specs.declared.cursor.Found.{Found}
use Rattle.p10_cert.specs.declared.cursor.Found.TheVariants.{Function, End}
use Rattle.p10_cert.specs.declared.record.BadLine.{BadLine}
use Rattle.p10_cert.specs.private.Places.{Reads, Place, Opens, HasFunction, HasEnd, FindsWrong}
use Rattle.p10_cert.specs.private.Sections.{sections_in}
use Rattle.p10_cert.specs.private.States.{next_of}
use Rattle.p10_cert.specs.private.States as next

-- a place of the code, without where its text lies in memory
abbrev pub place_of : Cursor → Place
place_of c = record { here = next_of c.next; rest = c.rest.now; lines = c.lines }

-- what stands after the functions
abbrev pub ending_of : CodeEnd → Ending
ending_of e = record { outside = option_map bytes_of e.outside; total = e.total; sections = sections_in e.sections.now }

-- what comes next at a place between two functions
abbrev pub HasNext : Place → Found → Type 0
HasNext from (Function r to) = HasFunction from r.text.now r.line (place_of to)
HasNext from (End end) = HasEnd from (ending_of end)

-- the same, or the first line that may not come
abbrev pub Has : Place → Result Found BadLine → Type 0
Has from (Ok found) = HasNext from found
Has from (Err bad) = FindsWrong from bad.line

-- the same, where the first line of the text may stand before it
abbrev pub Finds : Place → Result Found BadLine → Type 0
Finds from (Ok found) = (start : Place) × Opens from start × HasNext start found
Finds from (Err bad) = FindsWrong from bad.line

-- sections and the last line of the text
abbrev pub closing_lines : List Section → List Line
closing_lines sections = flat_map section_lines sections ++ LastLine ∷ []

-- the end of the text was found from a place after the line of the whole program
abbrev pub EndsAt : Place → Option Digest → Bounds → Found → Type 0
EndsAt from outside total (Function r to) = ⊥
EndsAt from outside total (End end) = (end.outside ≡ outside) × (end.total ≡ total) × Reads from.here from.rest (closing_lines (sections_in end.sections.now)) next.Over []

-- the end of the text was found from a place after the line of the words outside bodies
abbrev pub BoundsAt : Place → Digest → Found → Type 0
BoundsAt from outside (Function r to) = ⊥
BoundsAt from outside (End end) = (end.outside ≡ Some outside) × Reads from.here from.rest (TotalLine end.total ∷ closing_lines (sections_in end.sections.now)) next.Over []
