-- The functions that are defined, and how long they are (Holzmann's rule 4).
use Rattle.std.specs.Prelude.{ℕ, ◌+◌, ◌-◌, nat_eq, nat_lt, List, [], ◌∷◌, Bool, true, false, ◌&&◌, Option, Some, None, codes, bytes_eq, count_by}
use Rattle.std.specs.List.{flat_map, find}
use Rattle.p10_base.specs.Gathered.{Gathered, text_of}
use Rattle.p10_base.specs.Places.{line_of}
use Rattle.p10_base.specs.declared.at.At.{At}
use Rattle.p10_base.specs.declared.span.Span.{Span}
use Rattle.p10_syn.specs.Declaring.{identifier_in}
use Rattle.p10_syn.specs.Trees.{Identifier, Block, Pragma, Landmarks, Definition, External, Outer, Defines}
use Rattle.p10_synrules.specs.Parts.{Part, StatementPart, statements_parts}

-- the function that a unit defines, if it is one
abbrev pub defined_by : External At → List (Definition At)
defined_by (Outer p d) = []
defined_by (Defines d) = d ∷ []

-- the functions that are defined in the roots, in their order
abbrev pub definitions_in : List (External At) → List (Definition At)
definitions_in units = flat_map defined_by units

-- the name of a function, which each has
abbrev pub function_name : Definition At → List (Identifier At)
function_name d = listed (identifier_in d.declarator)
  where
    listed : Option (Identifier At) → List (Identifier At)
    listed None = []
    listed (Some x) = x ∷ []

-- the names of the functions that are defined in the roots, in their order
abbrev pub function_names : List (External At) → List (Identifier At)
function_names units = flat_map function_name (definitions_in units)

-- the line on which a place begins
abbrev pub line_at : Gathered → Span → ℕ
line_at g at = line_of (text_of g at.file) at.start

-- whether the lines from that of one place to that of a later one in its file, both counted, are over 60
abbrev pub is_over_60_lines : Gathered → Span → Span → Bool
is_over_60_lines g first last = nat_eq first.file last.file && nat_lt 60 (line_at g last + 1 - line_at g first)

-- whether a function has over 60 lines from its first word to its last one
abbrev pub has_many_lines : Gathered → Landmarks At → Bool
has_many_lines g l = is_over_60_lines g l.first_word.span l.last_word.span

-- whether a part is a declaration or a statement other than a block
abbrev pub is_counted : Part → Bool
is_counted (StatementPart (Block p ss)) = false
is_counted (StatementPart (Pragma p x)) = false
is_counted (StatementPart s) = true
is_counted part = false

-- whether a function has over 60 declarations and statements other than blocks
abbrev pub has_many_statements : Definition At → Bool
has_many_statements d = nat_lt 60 (count_by is_counted (statements_parts d.body))

-- whether a name is that of `main`
abbrev pub is_main : Identifier At → Bool
is_main x = bytes_eq x.name (codes "main")

-- the first one, if there is one
abbrev pub first_name : List (Identifier At) → Option (Identifier At)
first_name [] = None
first_name (x ∷ xs) = Some x

-- the first name of `main`, or else the first name
abbrev pub chief_name : List (Identifier At) → Option (Identifier At)
chief_name names = or_else (find is_main names) (first_name names)
  where
    or_else : Option (Identifier At) → Option (Identifier At) → Option (Identifier At)
    or_else None other = other
    or_else (Some x) other = Some x
