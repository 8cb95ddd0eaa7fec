-- The open levels in numbers.
use Rattle.std.specs.Prelude.{◌≡◌, ◌<◌, ◌≤◌, Bool, true, false, nat_lt, List, [], ◌∷◌, ◌++◌, length, if◌then◌else◌}
use Rattle.p10_base.specs.declared.report.TheConstants.Limit.{MOST_NESTING}
use Rattle.p10_base.specs.Words.{PlainWord}
use Rattle.p10_nesting.specs.declared.role.Role.{Role}
use Rattle.p10_nesting.specs.Roles.{role_of, is_opening_role}
use Rattle.p10_nesting.specs.Nesting.{Row, Levels, added, closed, opened, words_in, words_in_rows, reduced, has_question, is_inside, met, settled, nestings, greatest}
use Rattle.p10_nesting.specs.private.Counts.{Counts}

-- the row of the innermost level, and those around it, the outermost first
pub record Tallies : Type 0 where
  pub inner : Counts
  pub outer : List Counts

-- what matters of a row, with those around it
abbrev pub counts_of : List Row → Row → Counts
counts_of around row = record { around = words_in_rows around; words = length row; kept = length (reduced row); asks = has_question row }

-- the rows around the innermost, the outermost first
abbrev pub all_counts_of : List Row → List Counts
all_counts_of [] = []
all_counts_of (row ∷ around) = all_counts_of around ++ counts_of around row ∷ []

-- the levels in numbers, where their words are few enough
pub record IsCounted (levels : Levels) (tallies : Tallies) : Type 0 where
  pub row : tallies.inner ≡ counts_of levels.around levels.row
  pub around : tallies.outer ≡ all_counts_of levels.around
  pub few : words_in levels ≤ MOST_NESTING

-- the levels after a word: too many words stand in their rows, or they are these
abbrev pub IsMet : Levels → Tallies → Bool → Type 0
IsMet levels tallies true = MOST_NESTING < words_in levels
IsMet levels tallies false = IsCounted levels tallies

-- the levels after a word of this role was added to a row
abbrev pub put : Role → PlainWord → Levels → Levels
put role word levels = if is_opening_role role then opened (added word levels) else added word levels

-- a word of this role is added, and whether too many words stand in the rows
abbrev pub Adds : Role → Tallies → Tallies → Bool → Type 0
Adds role old new over = (levels : Levels) (word : PlainWord) → role_of word ≡ role → IsCounted levels old → IsMet (put role word levels) new over

-- a word of this role is met, and whether too many words stand in the rows
abbrev pub Meets : Role → Bool → Tallies → Tallies → Bool → Type 0
Meets role after_string old new over =
    (levels : Levels) (word : PlainWord) → role_of word ≡ role → IsCounted levels old → IsMet (met after_string word levels) new over

-- a level is closed, where one is open within the outermost
abbrev pub Closes : Tallies → Tallies → Type 0
Closes old new = (levels : Levels) → IsCounted levels old → IsCounted (closed levels) new

-- the rows after a word of this role was met
abbrev pub Settles : Role → Bool → Bool → Tallies → Tallies → Type 0
Settles role inside goes_on old new =
    (before levels : Levels) (word : PlainWord) → role_of word ≡ role → is_inside before ≡ inside → IsCounted levels old → IsCounted (settled word goes_on before levels) new

-- whether too many words stand at once in the rows, from these levels on
abbrev pub is_over : Levels → Bool → List PlainWord → Bool
is_over levels after_string words = nat_lt MOST_NESTING (greatest (nestings levels after_string words))

-- how things stand before the rest of the words
pub record Stands (tallies : Tallies) (after_string : Bool) (rest : List PlainWord) (answer : Bool) : Type 0 where
  pub levels : Levels
  pub counted : IsCounted levels tallies
  pub same : is_over levels after_string rest ≡ answer
