-- Which lines of a file are obeyed (C99 6.10.1p6): a conditional stands for its chosen group, which is the first whose condition
-- holds, or that of the `#else` where none does. Nothing in another group is obeyed, and no condition there is looked at.
use Rattle.std.specs.Prelude.{List, [], ◌∷◌, Bool, true, false, ◌&&◌, not}
use Rattle.std.specs.List.{list_all, list_any}
use Rattle.p10_direct.specs.declared.mark.Mark.{Mark}
use Rattle.p10_direct.specs.declared.mark.Mark.TheVariants.{Opens, Elif, Else, Closes, Plain}

-- ## Conditionals

-- a line that was passed: what it is to its conditional, and whether its condition holds. Only an `#if`, `#ifdef` or `#ifndef` and an
-- `#elif` have a condition, and only where they are obeyed; of all others this counts for nothing
pub record PassedLine : Type 0 where
  pub mark : Mark
  pub holds : Bool

-- whether the condition of each group of a conditional holds, of those that have begun, the latest first
abbrev pub Groups : Type 0
Groups = List Bool

-- the innermost of these conditionals with one more group
abbrev pub with_group : Bool → List Groups → List Groups
with_group holds [] = []
with_group holds (groups ∷ outer) = (holds ∷ groups) ∷ outer

-- without the innermost of these conditionals
abbrev pub outer_of : List Groups → List Groups
outer_of [] = []
outer_of (groups ∷ outer) = outer

-- the conditionals that are open after a line with this mark and condition; an `#else` is a group whose condition holds
abbrev pub open_after_line : Mark → Bool → List Groups → List Groups
open_after_line Opens holds open' = (holds ∷ []) ∷ open'
open_after_line Elif holds open' = with_group holds open'
open_after_line Else holds open' = with_group true open'
open_after_line Closes holds open' = outer_of open'
open_after_line Plain holds open' = open'

-- the conditionals that are open after these lines, of which the last comes first; the innermost comes first
abbrev pub open_after : List PassedLine → List Groups
open_after [] = []
open_after (line ∷ before) = open_after_line line.mark line.holds (open_after before)

-- ## Groups

-- the condition of none of these groups holds
abbrev pub none_holds : Groups → Bool
none_holds groups = not (list_any (λ holds. holds) groups)

-- the latest group of a conditional is its chosen one: its condition is the first that holds
abbrev pub is_chosen : Groups → Bool
is_chosen [] = false
is_chosen (holds ∷ earlier) = holds && none_holds earlier

-- what stands in these conditionals stands in their chosen groups
abbrev pub are_chosen : List Groups → Bool
are_chosen open' = list_all is_chosen open'

-- whether a line with this mark is obeyed where these conditionals are open. An `#elif`, `#else` or `#endif` stands in those around
-- its own; and the condition of an `#elif` is looked at only where no earlier group was chosen
abbrev pub is_obeyed_in : Mark → List Groups → Bool
is_obeyed_in Elif [] = false
is_obeyed_in Elif (groups ∷ outer) = none_holds groups && are_chosen outer
is_obeyed_in Else open' = are_chosen (outer_of open')
is_obeyed_in Closes open' = are_chosen (outer_of open')
is_obeyed_in _ open' = are_chosen open'

-- whether a line with this mark is obeyed after these lines; text is, where it has no mark
abbrev pub is_obeyed_after : List PassedLine → Mark → Bool
is_obeyed_after before mark = is_obeyed_in mark (open_after before)
