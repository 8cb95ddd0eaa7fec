use Rattle.std.proofs.Common.{◌≡◌, ◌++◌, map, drop}
use Rattle.p10_core.specs.Views.{plain_statement}
use Rattle.p10_meaning.specs.Variables.{may_change}
use Rattle.p10_diff.specs.Listed.{without_marked}
use Rattle.p10_diff.proofs.tables.lists_without_changed.Given as goal

-- with what is made of the rest it is what is made of the whole
abbrev pub invariant-loop-list : goal.invariant-loop-list
invariant-loop-list l =
    l.left.items ++ map (without_marked (λ n. may_change n (plain_statement l.c.by.now))) (drop l.list-index l.table) ≡ map (without_marked (λ n. may_change n (plain_statement l.c.by.now))) l.table
