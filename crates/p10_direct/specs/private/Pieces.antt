-- The first piece of words.
use Rattle.std.specs.Prelude.{List, [], ◌∷◌, Option, Some, None, codes, if◌then◌else◌}
use Rattle.p10_base.specs.Words.{PlainWord, is_punctuator}
use Rattle.p10_direct.specs.Lines.{Piece, DirectiveLine, TextRun, begins_directive}
use Rattle.p10_direct.specs.Cutting.{before, behind}

-- the first piece, and the words after it
abbrev pub first_piece_of : List PlainWord → Option (Piece × List PlainWord)
first_piece_of [] = None
first_piece_of (word ∷ words) =
    if is_punctuator (codes "#") word
    then Some (DirectiveLine (word ∷ before (λ w. w.first) words), behind (λ w. w.first) words)
    else Some (TextRun (word ∷ before begins_directive words), behind begins_directive words)
