-- The nesting of a list of words, which bounds how deep trees that spell it are. It is this project's own measure.
-- Each bracket opens a level with a row of words; the nesting at a word is how many words stand in the rows of all open levels.
use Rattle.std.specs.Prelude.{ℕ, ◌+◌, Bool, true, false, List, [], ◌∷◌, length, filter, max, if◌then◌else◌}
use Rattle.std.specs.List.{list_any}
use Rattle.p10_base.specs.Words.{PlainWord}
use Rattle.p10_nesting.specs.declared.role.Role.{Role}
use Rattle.p10_nesting.specs.declared.role.Role.TheVariants.{Opens, Closes, Finishes, Ends, Separates, Quotes}
use Rattle.p10_nesting.specs.Roles.{role_of, is_kept_role, is_question_role, is_string_role, go_on}

-- a row of words, the last one first
abbrev pub Row : Type 0
Row = List PlainWord

-- the rows of the open levels: that of the innermost, and those around it from the inside out
pub record Levels : Type 0 where
  pub row : Row
  pub around : List Row

-- the one level that is open before the first word
abbrev pub outermost : Levels
outermost = record { row = []; around = [] }

-- how many words stand in rows
abbrev pub words_in_rows : List Row → ℕ
words_in_rows [] = 0
words_in_rows (row ∷ rows) = length row + words_in_rows rows

-- how many words stand in the rows of all open levels
abbrev pub words_in : Levels → ℕ
words_in levels = length levels.row + words_in_rows levels.around

-- ## Levels and rows

-- a level opened, with an empty row
abbrev pub opened : Levels → Levels
opened levels = record { row = []; around = levels.row ∷ levels.around }

-- the innermost level closed, but never the outermost
abbrev pub closed_in : Row → List Row → Levels
closed_in row [] = record { row = row; around = [] }
closed_in row (next ∷ around) = record { row = next; around = around }

abbrev pub closed : Levels → Levels
closed levels = closed_in levels.row levels.around

-- another row for the innermost level
abbrev pub with_row : Row → Levels → Levels
with_row row levels = record { row = row; around = levels.around }

-- a word added to the row of the innermost level
abbrev pub added : PlainWord → Levels → Levels
added word levels = with_row (word ∷ levels.row) levels

-- a row reduced: of its words only those stay that begin a part of a statement
abbrev pub reduced : Row → Row
reduced row = filter (λ word. is_kept_role (role_of word)) row

-- whether a row has a `?`
abbrev pub has_question : Row → Bool
has_question row = list_any (λ word. is_question_role (role_of word)) row

-- ## One word

-- the levels after a word: an opening bracket is added before it opens its level, a closing bracket isn't added, and nor
-- is a string directly after a string
abbrev pub met_as : Role → Bool → PlainWord → Levels → Levels
met_as Opens after_string word levels = opened (added word levels)
met_as Closes after_string word levels = closed levels
met_as Finishes after_string word levels = closed levels
met_as Quotes true word levels = levels
met_as Quotes false word levels = added word levels
met_as _ after_string word levels = added word levels

abbrev pub met : Bool → PlainWord → Levels → Levels
met after_string word levels = met_as (role_of word) after_string word levels

-- the levels after the end of a statement: the row of the innermost is reduced where the statement goes on, else emptied
abbrev pub finished : Bool → Levels → Levels
finished goes_on levels = with_row (if goes_on then reduced levels.row else []) levels

-- whether a level is open within the outermost one
abbrev pub is_inside : Levels → Bool
is_inside levels = list_any (λ row. true) levels.around

-- the levels after a word of this role that was met at the first levels and left the second: a `;` ends a statement, and so
-- does a `}` that has closed its level; after a `,` the row of the innermost is reduced, unless it has a `?`
abbrev pub settled_as : Role → Bool → Levels → Levels → Levels
settled_as Ends goes_on before levels = finished goes_on levels
settled_as Finishes goes_on before levels = if is_inside before then finished goes_on levels else levels
settled_as Separates goes_on before levels = if has_question levels.row then levels else with_row (reduced levels.row) levels
settled_as _ goes_on before levels = levels

abbrev pub settled : PlainWord → Bool → Levels → Levels → Levels
settled word goes_on before levels = settled_as (role_of word) goes_on before levels

-- ## All words

-- the nesting at each word, after these levels and, where it is so, directly after a string
abbrev pub nestings : Levels → Bool → List PlainWord → List ℕ
nestings levels after_string [] = []
nestings levels after_string (word ∷ rest) =
    words_in (met after_string word levels) ∷
    nestings (settled word (go_on rest) levels (met after_string word levels)) (is_string_role (role_of word)) rest

-- the greatest of numbers, or 0
abbrev pub greatest : List ℕ → ℕ
greatest [] = 0
greatest (n ∷ ns) = max n (greatest ns)

-- the nesting of a list of words
abbrev pub nesting_of : List PlainWord → ℕ
nesting_of words = greatest (nestings outermost false words)
