use Rattle.std.proofs.Common.{drop, map, Result}
use Rattle.p10_base.specs.declared.report.Limit.{Limit}
use Rattle.p10_expand.specs.Expands.{Expansion, RootsEnd, ExpandsTo}
use Rattle.p10_expand.specs.Answers.{plain_obeyed}
use Rattle.p10_expand.specs.private.Steps.{lists_in}
use Rattle.p10_expand.proofs.expansion.expand_roots.Given as goal

-- what comes of the roots that are left is what comes of all
abbrev pub invariant-loop-place : goal.invariant-loop-place
invariant-loop-place l = (answer : Result Expansion Limit) →
    RootsEnd l.texts.sources.now (drop l.place l.texts.sources.now.roots) (lists_in l.roots) (map plain_obeyed l.obeyed) l.left answer → ExpandsTo l.texts.sources.now answer
