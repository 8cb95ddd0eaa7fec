use Rattle.std.proofs.Common.{◌≡◌, ◌++◌, map, drop}
use Rattle.p10_heads.specs.HeadViews.{plain_outline}
use Rattle.p10_syn.specs.BuiltStatements.{init_declarator_of}
use Rattle.p10_heads.specs.Heads.{outlines_of}
use Rattle.p10_heads.proofs.outlines.put_outlines.Given as goal

abbrev pub invariant-loop-d : goal.invariant-loop-d
invariant-loop-d l =
    map plain_outline l.into.items ++ outlines_of l.storage (map init_declarator_of (drop l.d-index l.all))
    ≡ map plain_outline l.fn.into.items ++ outlines_of l.storage (map init_declarator_of l.all)
