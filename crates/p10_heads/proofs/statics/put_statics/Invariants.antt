use Rattle.std.proofs.Common.{◌≡◌, ◌++◌, map, drop}
use Rattle.p10_heads.specs.HeadViews.{plain_head}
use Rattle.p10_syn.specs.BuiltStatements.{init_declarator_of}
use Rattle.p10_heads.specs.Heads.{block_heads}
use Rattle.p10_heads.proofs.statics.put_statics.Given as goal

abbrev pub invariant-loop-d : goal.invariant-loop-d
invariant-loop-d l =
    map plain_head l.into.items ++ block_heads l.root (map init_declarator_of (drop l.d-index l.all))
    ≡ map plain_head l.fn.into.items ++ block_heads l.root (map init_declarator_of l.all)
