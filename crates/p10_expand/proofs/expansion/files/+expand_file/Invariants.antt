use Rattle.std.proofs.Common.{◌≤◌, map, drop}
use Rattle.p10_direct.specs.Lines.{piece_of}
use Rattle.p10_expand.specs.Expands.{FileEnds}
use Rattle.p10_expand.specs.private.Steps.{state_of, file_of, inner_of}
use Rattle.p10_expand.proofs.InOrder.{PiecesInOrder}
use Rattle.p10_expand.proofs.Walking.{Walks}
use Rattle.p10_expand.proofs.expansion.files.+expand_file.Given as goal

abbrev pub decreases-expand_file : goal.decreases-expand_file
decreases-expand_file l = l.nested

-- what comes of the lines that are left is what comes of the file
abbrev pub invariant-loop-place : goal.invariant-loop-place
invariant-loop-place l =
    let g = l.texts.sources.now in
    record {
      few : inner_of l.stand ≤ l.place;
      ordered : PiecesInOrder (map piece_of (drop l.place l.line-items));
      walks : Walks g l.nested (file_of l.file) l.stand l.place (map piece_of (drop l.place l.line-items)) (state_of l.state) (FileEnds g l.nested l.number l.built_in (state_of l.fn.state));
    }
