-- What comes of the lines of a file, by what comes of the first of them.
use Rattle.std.proofs.Common.{◌≡◌, ℕ, zero, suc, List, ◌∷◌, length, Bool, true, refl, sym, subst}
use Rattle.p10_base.specs.Gathered.{Gathered}
use Rattle.p10_direct.specs.Lines.{Piece}
use Rattle.p10_direct.specs.Balance.{mark_of}
use Rattle.p10_expand.specs.Groups.{PassedLine, is_obeyed_after}
use Rattle.p10_expand.specs.Obeying.{State, PassedLimit, Ended, Finished, Stopped, Next, GoesOn, EntersFile, StopsWith, File, LineGives}
use Rattle.p10_expand.specs.Expands.{passed_line, FileEnds, LinesEnd, next_line, file_finished, file_stopped, nested_too_deep, line_stops}
use Rattle.p10_base.specs.declared.report.TheConstants.Limit.{NESTED_INCLUDES}

-- what comes of an included file, in a file in which a number of includes may be nested
abbrev pub IncludeEnds : Gathered → ℕ → ℕ → Bool → State → Ended → Type 0
IncludeEnds g zero number built_in s ended = ended ≡ Stopped (PassedLimit NESTED_INCLUDES)
IncludeEnds g (suc more) number built_in s ended = FileEnds g more number built_in s ended

-- this comes of a line after those before it
abbrev pub GivesFirst : Gathered → File → List PassedLine → Piece → State → Next → Type 0
GivesFirst g file before piece s next = LineGives g file (is_obeyed_after before (mark_of piece)) (length before) piece s next

module _ (g : Gathered) (nested : ℕ) (file : File) (before : List PassedLine) (piece : Piece) (pieces : List Piece) where
  -- the line comes after the first, whose condition holds or doesn't
  abbrev pub Rest : Bool → State → Ended → Type 0
  Rest holds s ended = LinesEnd g nested file (passed_line piece holds ∷ before) pieces s ended

  -- the first line entered a file of which this came
  abbrev pub Resumes : Ended → Ended → Type 0
  Resumes (Finished s) ended = Rest true s ended
  Resumes (Stopped cause) ended = ended ≡ Stopped cause

  -- this came of the first line
  abbrev pub Continues : Next → Ended → Type 0
  Continues (GoesOn holds s) ended = Rest holds s ended
  Continues (EntersFile number built_in s) ended = (within : Ended) × IncludeEnds g nested number built_in s within × Resumes within ended
  Continues (StopsWith cause) ended = ended ≡ Stopped cause

-- what came of the first line, and of the others
pub record ByFirst (g : Gathered) (nested : ℕ) (file : File) (before : List PassedLine) (piece : Piece) (pieces : List Piece) (s : State) (ended : Ended) : Type 0 where
  pub next : Next
  pub gives : GivesFirst g file before piece s next
  pub continues : Continues g nested file before piece pieces next ended

pub by_first : {g : Gathered} {nested : ℕ} {file : File} {before : List PassedLine} {piece : Piece} {pieces : List Piece} {s : State} {ended : Ended} →
    LinesEnd g nested file before (piece ∷ pieces) s ended → ByFirst g nested file before piece pieces s ended
by_first (next_line {after = after} {holds = holds} gives rest) = record { next = GoesOn holds after; gives = gives; continues = rest }
by_first (file_finished {number = number} {built_in = built_in} {entered = entered} {after = after} gives within rest) =
    record { next = EntersFile number built_in entered; gives = gives; continues = (Finished after, within, rest) }
by_first (file_stopped {number = number} {built_in = built_in} {entered = entered} {cause = cause} gives within) =
    record { next = EntersFile number built_in entered; gives = gives; continues = (Stopped cause, within, refl) }
by_first (nested_too_deep number built_in entered gives) =
    record { next = EntersFile number built_in entered; gives = gives; continues = (Stopped (PassedLimit NESTED_INCLUDES), refl, refl) }
by_first (line_stops {cause = cause} gives) = record { next = StopsWith cause; gives = gives; continues = refl }

module _ {g : Gathered} {file : File} {before : List PassedLine} {piece : Piece} {pieces : List Piece} {s : State} where
  from_within : {more number : ℕ} {built_in : Bool} {entered : State} {ended : Ended} (within : Ended) → GivesFirst g file before piece s (EntersFile number built_in entered) →
      FileEnds g more number built_in entered within → Resumes g (suc more) file before piece pieces within ended → LinesEnd g (suc more) file before (piece ∷ pieces) s ended
  from_within (Finished after) gives within rest = file_finished gives within rest
  from_within {more = more} (Stopped cause) gives within is = subst (LinesEnd g (suc more) file before (piece ∷ pieces) s) (sym is) (file_stopped gives within)

  from_entered : (nested number : ℕ) (built_in : Bool) (entered : State) {ended : Ended} → GivesFirst g file before piece s (EntersFile number built_in entered) →
      Continues g nested file before piece pieces (EntersFile number built_in entered) ended → LinesEnd g nested file before (piece ∷ pieces) s ended
  from_entered zero number built_in entered {ended} gives (within, is, resumes) =
      let stopped : ended ≡ Stopped (PassedLimit NESTED_INCLUDES) = subst (λ (w : Ended). Resumes g zero file before piece pieces w ended) is resumes in
      subst (LinesEnd g zero file before (piece ∷ pieces) s) (sym stopped) (nested_too_deep number built_in entered gives)
  from_entered (suc more) number built_in entered gives (within, ends, resumes) = from_within within gives ends resumes

  pub from_first : {nested : ℕ} {ended : Ended} (next : Next) → GivesFirst g file before piece s next → Continues g nested file before piece pieces next ended → LinesEnd g nested file before (piece ∷ pieces) s ended
  from_first (GoesOn holds after) gives rest = next_line gives rest
  from_first {nested} (EntersFile number built_in entered) gives continues = from_entered nested number built_in entered gives continues
  from_first {nested} (StopsWith cause) gives is = subst (LinesEnd g nested file before (piece ∷ pieces) s) (sym is) (line_stops gives)
