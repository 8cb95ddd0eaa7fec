use Rattle.std.proofs.Common.{◌≡◌, [], map, drop}
use Rattle.p10_bindings.specs.Bound.{bound_in}
use Rattle.p10_heads.specs.HeadViews.{plain_head}
use Rattle.p10_heads.specs.private.Firsts.{firsts}
use Rattle.p10_heads.specs.private.Numbering.{numbers_among}
use Rattle.p10_heads.proofs.numbers.table.Given as goal

abbrev pub invariant-loop-head : goal.invariant-loop-head
invariant-loop-head l =
    firsts (bound_in l.into) (numbers_among l.whose l.number (map plain_head (drop l.head-index l.heads)))
    ≡ firsts [] (numbers_among l.whose 0 (map plain_head l.heads))
