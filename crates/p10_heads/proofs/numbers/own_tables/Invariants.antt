use Rattle.std.proofs.Common.{◌≡◌, map}
use Rattle.p10_bindings.specs.Bound.{bound_in}
use Rattle.p10_heads.specs.HeadViews.{plain_head}
use Rattle.p10_heads.specs.private.Numbering.{tables_upto}
use Rattle.p10_heads.proofs.numbers.own_tables.Given as goal

abbrev pub invariant-loop-root : goal.invariant-loop-root
invariant-loop-root l = map bound_in l.tables.items ≡ tables_upto l.root (map plain_head l.heads)
