use Rattle.std.proofs.Common.{◌≡◌, ◌++◌, drop}
use Rattle.p10_core.specs.Views.{plain_statement}
use Rattle.p10_meaning.specs.Variables.{may_change}
use Rattle.p10_diff.specs.Listed.{without_marked}
use Rattle.p10_diff.proofs.listed.without_changed.Given as goal

-- with what is left it is what the whole leaves
abbrev pub invariant-loop-x : goal.invariant-loop-x
invariant-loop-x l = l.left.items ++ without_marked (λ n. may_change n (plain_statement l.c.by.now)) (drop l.x-index l.bounds) ≡ without_marked (λ n. may_change n (plain_statement l.c.by.now)) l.bounds
