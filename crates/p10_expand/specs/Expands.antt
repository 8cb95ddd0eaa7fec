-- What the words of a program are after its directives are obeyed and its macros replaced (C99 5.1.1.2p1, phase 4; 6.10).
use Rattle.std.specs.Prelude.{ℕ, ◌≡◌, zero, suc, ◌-◌, nat_le, List, [], ◌∷◌, ◌++◌, length, map, Bool, true, false, Option, Some, None, Result, Ok, Err, if◌then◌else◌}
use Rattle.p10_base.specs.declared.report.Refusal.{Refusal}
use Rattle.p10_base.specs.declared.report.Limit.{Limit}
use Rattle.p10_base.specs.Gathered.{Gathered, text_of}
use Rattle.p10_base.specs.Words.{PlainWord}
use Rattle.p10_lex.specs.Lexes.{Answers}
use Rattle.p10_direct.specs.Lines.{Piece, AreCut}
use Rattle.p10_direct.specs.Balance.{mark_of}
use Rattle.p10_expand.specs.Groups.{PassedLine, is_obeyed_after}
use Rattle.p10_expand.specs.Obeying.{PlainObeyed, State, Cause, RefusedBy, PassedLimit, Ended, Finished, Stopped, GoesOn, EntersFile, StopsWith, File, LineGives}
use Rattle.p10_base.specs.declared.report.TheConstants.Limit.{EXPANDED_WORDS, NESTED_INCLUDES, MOST_NESTED_INCLUDES, MOST_EXPANDED_WORDS}

-- ## Files

-- the state where the words of a file were counted, if they may be; those of a built-in header aren't counted
abbrev pub counted : Bool → ℕ → State → Option State
counted true count s = Some s
counted false count s = if nat_le count s.left then Some (record s { left = s.left - count }) else None

-- a line that is passed, whose condition holds or doesn't
abbrev pub passed_line : Piece → Bool → PassedLine
passed_line piece holds = record { mark = mark_of piece; holds = holds }

mutual
  -- what comes of the file with a number, which is a built-in header or not, and in which a number of includes may still be nested
  pub data FileEnds (g : Gathered) : ℕ → ℕ → Bool → State → Ended → Type 0 where
    -- its words (C99 6.4) are counted, and then its lines come in order
    words_counted : {nested number : ℕ} {built_in : Bool} {s begun : State} {words : List PlainWord} {pieces : List Piece} {ended : Ended} →
        Answers number (text_of g number) (Ok words) → counted built_in (length words) s ≡ Some begun → AreCut words pieces →
        LinesEnd g nested (record { number = number; built_in = built_in; pieces = pieces }) [] pieces begun ended → FileEnds g nested number built_in s ended
    too_many_words : {nested number : ℕ} {built_in : Bool} {s : State} {words : List PlainWord} →
        Answers number (text_of g number) (Ok words) → counted built_in (length words) s ≡ None → FileEnds g nested number built_in s (Stopped (PassedLimit EXPANDED_WORDS))

  -- what comes of these lines, the last of a file, after those before them, of which the last comes first; those in chosen groups are
  -- obeyed
  pub data LinesEnd (g : Gathered) : ℕ → File → List PassedLine → List Piece → State → Ended → Type 0 where
    no_lines : {nested : ℕ} {file : File} {before : List PassedLine} {s : State} → LinesEnd g nested file before [] s (Finished s)
    -- the next line comes after this one,
    next_line : {nested : ℕ} {file : File} {before : List PassedLine} {piece : Piece} {pieces : List Piece} {s after : State} {holds : Bool} {ended : Ended} →
        LineGives g file (is_obeyed_after before (mark_of piece)) (length before) piece s (GoesOn holds after) →
        LinesEnd g nested file (passed_line piece holds ∷ before) pieces after ended → LinesEnd g nested file before (piece ∷ pieces) s ended
    -- or after the lines of the file that it enters,
    file_finished : {nested number : ℕ} {built_in : Bool} {file : File} {before : List PassedLine} {piece : Piece} {pieces : List Piece} {s entered after : State} {ended : Ended} →
        LineGives g file (is_obeyed_after before (mark_of piece)) (length before) piece s (EntersFile number built_in entered) →
        FileEnds g nested number built_in entered (Finished after) →
        LinesEnd g (suc nested) file (passed_line piece true ∷ before) pieces after ended → LinesEnd g (suc nested) file before (piece ∷ pieces) s ended
    -- whose end isn't always reached,
    file_stopped : {nested number : ℕ} {built_in : Bool} {file : File} {before : List PassedLine} {piece : Piece} {pieces : List Piece} {s entered : State} {cause : Cause} →
        LineGives g file (is_obeyed_after before (mark_of piece)) (length before) piece s (EntersFile number built_in entered) →
        FileEnds g nested number built_in entered (Stopped cause) → LinesEnd g (suc nested) file before (piece ∷ pieces) s (Stopped cause)
    -- and which isn't entered where no more includes may be nested
    nested_too_deep : {file : File} {before : List PassedLine} {piece : Piece} {pieces : List Piece} {s : State} (number : ℕ) (built_in : Bool) (entered : State) →
        LineGives g file (is_obeyed_after before (mark_of piece)) (length before) piece s (EntersFile number built_in entered) →
        LinesEnd g zero file before (piece ∷ pieces) s (Stopped (PassedLimit NESTED_INCLUDES))
    line_stops : {nested : ℕ} {file : File} {before : List PassedLine} {piece : Piece} {pieces : List Piece} {s : State} {cause : Cause} →
        LineGives g file (is_obeyed_after before (mark_of piece)) (length before) piece s (StopsWith cause) →
        LinesEnd g nested file before (piece ∷ pieces) s (Stopped cause)

-- ## Roots

-- the words of each root, the directives that were obeyed, and the refusal, if there is one
pub record Expansion : Type 0 where
  pub roots : List (List PlainWord)
  pub obeyed : List PlainObeyed
  pub refusal : Option Refusal

-- the state in which a root begins: without macros, names of files that are included once, and items
abbrev pub fresh : List PlainObeyed → ℕ → State
fresh obeyed left = record { macros = []; once = []; given = []; words = []; obeyed = obeyed; left = left }

-- the words of roots that aren't expanded
abbrev pub no_words : List ℕ → List (List PlainWord)
no_words numbers = map (λ number. []) numbers

-- what comes of these roots after those with these words, where a number of words may still be counted; 64 includes may be nested
pub data RootsEnd (g : Gathered) : List ℕ → List (List PlainWord) → List PlainObeyed → ℕ → Result Expansion Limit → Type 0 where
  no_roots : {roots : List (List PlainWord)} {obeyed : List PlainObeyed} {left : ℕ} → RootsEnd g [] roots obeyed left (Ok (record { roots = roots; obeyed = obeyed; refusal = None }))
  root_finished : {number : ℕ} {numbers : List ℕ} {roots : List (List PlainWord)} {obeyed : List PlainObeyed} {left : ℕ} {s : State} {answer : Result Expansion Limit} →
      FileEnds g MOST_NESTED_INCLUDES number false (fresh obeyed left) (Finished s) → RootsEnd g numbers (roots ++ s.words ∷ []) s.obeyed s.left answer →
      RootsEnd g (number ∷ numbers) roots obeyed left answer
  -- the roots after a refused one have no words
  root_refused : {number : ℕ} {numbers : List ℕ} {roots : List (List PlainWord)} {obeyed : List PlainObeyed} {left : ℕ} {s : State} {refusal : Refusal} →
      FileEnds g MOST_NESTED_INCLUDES number false (fresh obeyed left) (Stopped (RefusedBy s refusal)) →
      RootsEnd g (number ∷ numbers) roots obeyed left (Ok (record { roots = roots ++ s.words ∷ [] ++ no_words numbers; obeyed = s.obeyed; refusal = Some refusal }))
  limit_passed : {number : ℕ} {numbers : List ℕ} {roots : List (List PlainWord)} {obeyed : List PlainObeyed} {left : ℕ} {limit : Limit} →
      FileEnds g MOST_NESTED_INCLUDES number false (fresh obeyed left) (Stopped (PassedLimit limit)) → RootsEnd g (number ∷ numbers) roots obeyed left (Err limit)

-- what the program of these files expands to, or the limit that it exceeds before a refusal
abbrev pub ExpandsTo : Gathered → Result Expansion Limit → Type 0
ExpandsTo g answer = RootsEnd g g.roots [] [] MOST_EXPANDED_WORDS answer

-- a program expands to one thing at most
abbrev pub ExpandsToOnce : Type 0
ExpandsToOnce = (g : Gathered) (this that : Result Expansion Limit) → ExpandsTo g this → ExpandsTo g that → this ≡ that
