-- The structure of a file's conditionals (C99 6.10.1). Of a line only what it is to its conditional counts, by the second
-- word alone; and an `#endif` closes the nearest conditional that is open.
use Rattle.std.specs.Prelude.{ℕ, zero, suc, List, [], ◌∷◌, length, map, Bool, true, false, not, Option, Some, None, option_map, is_none, if◌then◌else◌}
use Rattle.p10_base.specs.Words.{PlainWord}
use Rattle.p10_direct.specs.declared.keyword.Keyword.{Keyword}
use Rattle.p10_direct.specs.declared.keyword.Keyword.TheVariants.{If, Ifdef, Ifndef, Endif}
use Rattle.p10_direct.specs.declared.keyword.Keyword.TheVariants as named
use Rattle.p10_direct.specs.declared.mark.Mark.{Mark}
use Rattle.p10_direct.specs.declared.mark.Mark.TheVariants.{Opens, Elif, Else, Closes, Plain}
use Rattle.p10_direct.specs.Keywords.{keyword_of}
use Rattle.p10_direct.specs.Lines.{Piece, DirectiveLine}

-- the part that a directive with this name has in a conditional: it opens one, is an `#elif` or `#else`, closes
-- one, or has none (C99 6.10.1)
abbrev pub mark_of_keyword : Option Keyword → Mark
mark_of_keyword (Some If) = Opens
mark_of_keyword (Some Ifdef) = Opens
mark_of_keyword (Some Ifndef) = Opens
mark_of_keyword (Some named.Elif) = Elif
mark_of_keyword (Some named.Else) = Else
mark_of_keyword (Some Endif) = Closes
mark_of_keyword _ = Plain

-- the part of the directive that a word names
abbrev pub mark_of_word : PlainWord → Mark
mark_of_word word = mark_of_keyword (keyword_of word)

-- what a line is to the conditional in which it stands
abbrev pub mark_of : Piece → Mark
mark_of (DirectiveLine (hash ∷ name ∷ words)) = mark_of_word name
mark_of _ = Plain

-- whether a conditional is closed in what follows; `inner` conditionals have begun since and are to be closed before it
abbrev pub is_closed : ℕ → List Mark → Bool
is_closed inner [] = false
is_closed inner (Opens ∷ after) = is_closed (suc inner) after
is_closed zero (Closes ∷ after) = true
is_closed (suc inner) (Closes ∷ after) = is_closed inner after
is_closed inner (_ ∷ after) = is_closed inner after

-- the conditional to which a line belongs, looked for in the lines before it, the nearest first: whether it has had its `#else`,
-- or None where none is open; `inner` conditionals that end on the way are passed over
abbrev pub open_before : ℕ → List Mark → Option Bool
open_before inner [] = None
open_before zero (Opens ∷ before) = Some false
open_before (suc inner) (Opens ∷ before) = open_before inner before
open_before inner (Closes ∷ before) = open_before (suc inner) before
open_before zero (Else ∷ before) = option_map (λ had. true) (open_before zero before)
open_before inner (_ ∷ before) = open_before inner before

-- a conditional is open that had no `#else` yet
abbrev pub is_before_else : Option Bool → Bool
is_before_else (Some had_else) = not had_else
is_before_else None = false

-- whether a line breaks the structure, between the lines before it, the nearest first, and those after it
abbrev pub is_break : List Mark → Mark → List Mark → Bool
is_break before Opens after = not (is_closed zero after)
is_break before Elif after = not (is_before_else (open_before zero before))
is_break before Else after = not (is_before_else (open_before zero before))
is_break before Closes after = is_none (open_before zero before)
is_break before Plain after = false

-- the place of the first line that breaks it
abbrev pub first_break_of : List Mark → List Mark → Option ℕ
first_break_of before [] = None
first_break_of before (mark ∷ after) = if is_break before mark after then Some (length before) else first_break_of (mark ∷ before) after

-- the place of the first line that breaks the structure of a file's conditionals
abbrev pub first_unbalanced : List Piece → Option ℕ
first_unbalanced pieces = first_break_of [] (map mark_of pieces)
