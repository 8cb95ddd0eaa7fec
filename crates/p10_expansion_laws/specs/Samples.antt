-- What small conditionals stand for, by hand.
use Rattle.std.specs.Prelude.{ℕ, ◌≡◌, suc, List, [], ◌∷◌, Bool, true, false, if◌then◌else◌}
use Rattle.p10_direct.specs.declared.mark.Mark.{Mark}
use Rattle.p10_direct.specs.declared.mark.Mark.TheVariants.{Opens, Elif, Else, Closes, Plain}
use Rattle.p10_expand.specs.Groups.{PassedLine, is_obeyed_after}

-- a line with this mark and condition
abbrev pub line : Mark → Bool → PassedLine
line mark holds = record { mark = mark; holds = holds }

-- a line without a condition
abbrev pub bare : Mark → PassedLine
bare mark = line mark false

-- the numbers of those of these lines that are obeyed after others, where the first has this number
abbrev pub obeyed_from : ℕ → List PassedLine → List PassedLine → List ℕ
obeyed_from number before [] = []
obeyed_from number before (next ∷ lines) =
    if is_obeyed_after before next.mark then number ∷ obeyed_from (suc number) (next ∷ before) lines else obeyed_from (suc number) (next ∷ before) lines

-- the numbers of the lines of a file that are obeyed
abbrev pub obeyed_lines : List PassedLine → List ℕ
obeyed_lines lines = obeyed_from 1 [] lines

-- 1 `#if A`, 2 text, 3 `#elif B`, 4 text, 5 `#else`, 6 text, 7 `#endif`, 8 text
abbrev pub chain : Bool → Bool → List PassedLine
chain a b = line Opens a ∷ bare Plain ∷ line Elif b ∷ bare Plain ∷ bare Else ∷ bare Plain ∷ bare Closes ∷ bare Plain ∷ []

-- 1 `#if A`, 2 `#if B`, 3 text, 4 `#else`, 5 text, 6 `#endif`, 7 text, 8 `#else`, 9 `#if B`, 10 text, 11 `#elif A`, 12 text,
-- 13 `#endif`, 14 text, 15 `#endif`, 16 text
abbrev pub nested : Bool → Bool → List PassedLine
nested a b =
    line Opens a
    ∷ line Opens b ∷ bare Plain ∷ bare Else ∷ bare Plain ∷ bare Closes ∷ bare Plain
    ∷ bare Else
    ∷ line Opens b ∷ bare Plain ∷ line Elif a ∷ bare Plain ∷ bare Closes ∷ bare Plain
    ∷ bare Closes ∷ bare Plain ∷ []

-- the lines of small conditionals that are obeyed, for all truths of their conditions
pub record SmallConditionalsByHand : Type 0 where
  pub first_group : (b : Bool) → obeyed_lines (chain true b) ≡ 1 ∷ 2 ∷ 5 ∷ 7 ∷ 8 ∷ []
  pub second_group : obeyed_lines (chain false true) ≡ 1 ∷ 3 ∷ 4 ∷ 5 ∷ 7 ∷ 8 ∷ []
  pub last_group : obeyed_lines (chain false false) ≡ 1 ∷ 3 ∷ 5 ∷ 6 ∷ 7 ∷ 8 ∷ []
  pub both : obeyed_lines (nested true true) ≡ 1 ∷ 2 ∷ 3 ∷ 4 ∷ 6 ∷ 7 ∷ 8 ∷ 15 ∷ 16 ∷ []
  pub only_outer : obeyed_lines (nested true false) ≡ 1 ∷ 2 ∷ 4 ∷ 5 ∷ 6 ∷ 7 ∷ 8 ∷ 15 ∷ 16 ∷ []
  pub only_inner : obeyed_lines (nested false true) ≡ 1 ∷ 8 ∷ 9 ∷ 10 ∷ 13 ∷ 14 ∷ 15 ∷ 16 ∷ []
  pub neither : obeyed_lines (nested false false) ≡ 1 ∷ 8 ∷ 9 ∷ 11 ∷ 13 ∷ 14 ∷ 15 ∷ 16 ∷ []
