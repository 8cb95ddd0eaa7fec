use Rattle.std.proofs.Common.{◌≡◌, ◌++◌, map, drop}
use Rattle.p10_syn.specs.BuiltStatements.{external_of}
use Rattle.p10_heads.specs.Heads.{outlines}
use Rattle.p10_heads.specs.HeadViews.{plain_outline}
use Rattle.p10_heads.proofs.outlines.outlines.Given as goal

abbrev pub invariant-loop-unit : goal.invariant-loop-unit
invariant-loop-unit l = map plain_outline l.all.items ++ outlines (map external_of (drop l.unit-index l.root)) ≡ outlines (map external_of l.root)
