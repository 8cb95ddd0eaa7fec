-- The lines that the expansion of a program comes to, each in the state that the lines before it leave (C99 5.1.1.2p1, phase 4).
use Rattle.std.specs.Prelude.{ℕ, ◌≡◌, suc, List, [], ◌∷◌, length, Bool, true, false, Some, Ok}
use Rattle.p10_base.specs.Gathered.{Gathered, text_of}
use Rattle.p10_base.specs.Words.{PlainWord}
use Rattle.p10_lex.specs.Lexes.{Answers}
use Rattle.p10_direct.specs.Lines.{Piece, AreCut}
use Rattle.p10_direct.specs.Balance.{mark_of}
use Rattle.p10_expand.specs.Groups.{PassedLine, is_obeyed_after}
use Rattle.p10_expand.specs.Obeying.{PlainObeyed, State, Finished, GoesOn, EntersFile, File, LineGives}
use Rattle.p10_expand.specs.Expands.{counted, passed_line, fresh, FileEnds}
use Rattle.p10_base.specs.declared.report.TheConstants.Limit.{MOST_NESTED_INCLUDES, MOST_EXPANDED_WORDS}

-- these roots are the last of the program, and the ones before them came to an end, with these obeyed directives and this many words left to count
pub data ReachesRoots (g : Gathered) : List ℕ → List PlainObeyed → ℕ → Type 0 where
  all_roots : ReachesRoots g g.roots [] MOST_EXPANDED_WORDS
  roots_after : {number : ℕ} {numbers : List ℕ} {obeyed : List PlainObeyed} {left : ℕ} {s : State} →
      ReachesRoots g (number ∷ numbers) obeyed left → FileEnds g MOST_NESTED_INCLUDES number false (fresh obeyed left) (Finished s) → ReachesRoots g numbers s.obeyed s.left

-- a file is entered in a state, in which its words are counted: its lines, from the first on, in the state after that
pub record FileBegins (g : Gathered) (number : ℕ) (built_in : Bool) (entered : State) (pieces : List Piece) (begun : State) : Type 0 where
  pub words : List PlainWord
  pub lexed : Answers number (text_of g number) (Ok words)
  pub counts : counted built_in (length words) entered ≡ Some begun
  pub cut : AreCut words pieces

-- these lines are the last of a file, where this many includes may still be nested, and expansion comes to the first of them in this
-- state, after the lines before them, of which the last comes first
pub data ReachesLines (g : Gathered) : ℕ → File → List PassedLine → List Piece → State → Type 0 where
  lines_of_root : {number : ℕ} {numbers : List ℕ} {obeyed : List PlainObeyed} {left : ℕ} {pieces : List Piece} {begun : State} →
      ReachesRoots g (number ∷ numbers) obeyed left → FileBegins g number false (fresh obeyed left) pieces begun →
      ReachesLines g MOST_NESTED_INCLUDES (record { number = number; built_in = false; pieces = pieces }) [] pieces begun
  lines_after : {nested : ℕ} {file : File} {before : List PassedLine} {piece : Piece} {pieces : List Piece} {s after : State} {holds : Bool} →
      ReachesLines g nested file before (piece ∷ pieces) s → LineGives g file (is_obeyed_after before (mark_of piece)) (length before) piece s (GoesOn holds after) →
      ReachesLines g nested file (passed_line piece holds ∷ before) pieces after
  -- the lines of a file that a line enters,
  lines_of_file : {nested number : ℕ} {built_in : Bool} {file : File} {before : List PassedLine} {piece : Piece} {pieces those : List Piece} {s entered begun : State} →
      ReachesLines g (suc nested) file before (piece ∷ pieces) s → LineGives g file (is_obeyed_after before (mark_of piece)) (length before) piece s (EntersFile number built_in entered) →
      FileBegins g number built_in entered those begun → ReachesLines g nested (record { number = number; built_in = built_in; pieces = those }) [] those begun
  -- and those after that line, where the file's end is reached
  lines_after_file : {nested number : ℕ} {built_in : Bool} {file : File} {before : List PassedLine} {piece : Piece} {pieces : List Piece} {s entered after : State} →
      ReachesLines g (suc nested) file before (piece ∷ pieces) s → LineGives g file (is_obeyed_after before (mark_of piece)) (length before) piece s (EntersFile number built_in entered) →
      FileEnds g nested number built_in entered (Finished after) → ReachesLines g (suc nested) file (passed_line piece true ∷ before) pieces after
