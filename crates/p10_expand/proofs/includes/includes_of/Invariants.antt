use Rattle.std.proofs.Common.{map, take}
use Rattle.p10_direct.specs.Lines.{piece_of}
use Rattle.p10_expand.specs.Includes.{NamedIn}
use Rattle.p10_expand.proofs.includes.includes_of.Given as goal

abbrev pub invariant-loop-line : goal.invariant-loop-line
invariant-loop-line l = NamedIn (map piece_of (take l.line-index l.line-items)) l.includes.items
