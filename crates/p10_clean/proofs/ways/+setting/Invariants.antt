use Rattle.std.proofs.Common.{◌≡◌, ◌+◌, ◌*◌, drop, None}
use Rattle.p10_core.specs.Views.{plain_labels, plain_statements}
use Rattle.p10_clean.specs.Settings.{then_ways, ways_of_all, ways_from}
use Rattle.p10_clean.specs.private.Code.{settings_of, ways_by}
use Rattle.p10_clean.proofs.ways.+setting.Given as goal

-- what is left, after what was passed, sets what the whole sets

abbrev pub invariant-ways_of_all-loop-s : goal.invariant-ways_of_all-loop-s
invariant-ways_of_all-loop-s l = then_ways (ways_by l.total) (ways_of_all (plain_statements (drop l.s-index l.items)) (ways_by l.total).normal) ≡ ways_of_all (plain_statements l.items) (settings_of l.fn.before)

abbrev pub invariant-ways_of_cases-loop-k : goal.invariant-ways_of_cases-loop-k
invariant-ways_of_cases-loop-k l =
    then_ways (ways_by l.total) (ways_from (plain_labels l.labels) l.k (plain_statements (drop l.k l.items)) (settings_of l.entry) (ways_by l.total).normal) ≡ ways_from (plain_labels l.labels) 0 (plain_statements l.items) (settings_of l.entry) None

-- a tree that is handed on unchanged goes to a function that is lower

abbrev pub decreases-ways_of_branches : goal.decreases-ways_of_branches
decreases-ways_of_branches l = 16 * goal.size-ways_of_branches l

abbrev pub decreases-ways_of_loop : goal.decreases-ways_of_loop
decreases-ways_of_loop l = 16 * goal.size-ways_of_loop l

abbrev pub decreases-ways_of_switch : goal.decreases-ways_of_switch
decreases-ways_of_switch l = 16 * goal.size-ways_of_switch l

abbrev pub decreases-ways_of : goal.decreases-ways_of
decreases-ways_of l = 16 * goal.size-ways_of l + 2

abbrev pub decreases-go_on : goal.decreases-go_on
decreases-go_on l = 16 * goal.size-go_on l + 3

abbrev pub decreases-go_on_with_case : goal.decreases-go_on_with_case
decreases-go_on_with_case l = 16 * goal.size-go_on_with_case l + 3

abbrev pub decreases-ways_of_all : goal.decreases-ways_of_all
decreases-ways_of_all l = 16 * goal.size-ways_of_all l + 9

abbrev pub decreases-ways_of_cases : goal.decreases-ways_of_cases
decreases-ways_of_cases l = 16 * goal.size-ways_of_cases l + 9
