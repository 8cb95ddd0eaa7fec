use Rattle.std.proofs.Common.{◌≡◌, ◌++◌, map, drop}
use Rattle.p10_heads.specs.HeadViews.{plain_head}
use Rattle.p10_syn.specs.Trees.{statement_row}
use Rattle.p10_syn.specs.BuiltStatements.{statement_of}
use Rattle.p10_heads.specs.Heads.{heads_in_all}
use Rattle.p10_heads.proofs.statics.+statics.Given as goal

abbrev pub invariant-put_all_statics-loop-s : goal.invariant-put_all_statics-loop-s
invariant-put_all_statics-loop-s l =
    map plain_head l.into.items ++ heads_in_all l.root (statement_row (map statement_of (drop l.s-index l.all)))
    ≡ map plain_head l.fn.into.items ++ heads_in_all l.root (statement_row (map statement_of l.all))
