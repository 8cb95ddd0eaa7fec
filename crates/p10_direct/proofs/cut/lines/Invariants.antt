use Rattle.std.proofs.Common.{◌-◌, ◌≤◌, length, List, ◌++◌, map, drop}
use Rattle.p10_base.specs.Words.{plain_word}
use Rattle.p10_direct.specs.Lines.{Piece, AreCut, piece_of}
use Rattle.p10_direct.proofs.cut.lines.Given as goal

-- pieces of what is left make, after those found, pieces of all
abbrev pub invariant-loop-place : goal.invariant-loop-place
invariant-loop-place l = record {
  within : l.place ≤ length l.words;
  so_far : (more : List Piece) → AreCut (map plain_word (drop l.place l.words)) more → AreCut (map plain_word l.words) (map piece_of l.lines ++ more);
}

abbrev pub decreases-loop-place : goal.decreases-loop-place
decreases-loop-place l = length l.words - l.place
