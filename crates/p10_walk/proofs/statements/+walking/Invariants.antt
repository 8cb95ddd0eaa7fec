use Rattle.std.proofs.Common.{◌≡◌, ◌+◌, ◌*◌, drop}
use Rattle.p10_core.specs.Views.{plain_labels, plain_statements}
use Rattle.p10_walk.specs.Walking.{nowhere, reached, walk_all, walk_from}
use Rattle.p10_walk.specs.Leaving.{ends_of}
use Rattle.std.specs.Option.{option_map}
use Rattle.p10_walk.proofs.statements.+walking.Given as goal

-- what is left to be walked, after what was walked, gives what the whole gives

abbrev pub invariant-walk_all-loop-s : goal.invariant-walk_all-loop-s
invariant-walk_all-loop-s g l =
    walk_all (g.R.Rules.operations l.rules) (plain_statements (drop l.s-index l.items)) (ends_of g.R.Rules.known l.total) ≡ walk_all (g.R.Rules.operations l.rules) (plain_statements l.items) (reached (option_map g.R.Rules.known l.fn.e))

abbrev pub invariant-walk_cases-loop-k : goal.invariant-walk_cases-loop-k
invariant-walk_cases-loop-k g l =
    walk_from (g.R.Rules.operations l.rules) (plain_labels l.labels) l.k (plain_statements (drop l.k l.items)) (g.R.Rules.known l.e) (ends_of g.R.Rules.known l.total)
    ≡ walk_from (g.R.Rules.operations l.rules) (plain_labels l.labels) 0 (plain_statements l.items) (g.R.Rules.known l.e) nowhere

-- a tree that is handed on unchanged goes to a function that is lower

abbrev pub decreases-walk_if : goal.decreases-walk_if
decreases-walk_if g l = 16 * goal.size-walk_if g l + 5

abbrev pub decreases-walk_else : goal.decreases-walk_else
decreases-walk_else g l = 16 * goal.size-walk_else g l + 8

abbrev pub decreases-walk : goal.decreases-walk
decreases-walk g l = 16 * goal.size-walk g l + 6

abbrev pub decreases-walk_reached : goal.decreases-walk_reached
decreases-walk_reached g l = 16 * goal.size-walk_reached g l + 7

abbrev pub decreases-go_on_with : goal.decreases-go_on_with
decreases-go_on_with g l = 16 * goal.size-go_on_with g l + 8

abbrev pub decreases-walk_case : goal.decreases-walk_case
decreases-walk_case g l = 16 * goal.size-walk_case g l + 8

abbrev pub decreases-walk_all : goal.decreases-walk_all
decreases-walk_all g l = 16 * goal.size-walk_all g l + 9

abbrev pub decreases-walk_block : goal.decreases-walk_block
decreases-walk_block g l = 16 * goal.size-walk_block g l + 10

abbrev pub decreases-walk_cases : goal.decreases-walk_cases
decreases-walk_cases g l = 16 * goal.size-walk_cases g l + 9

abbrev pub decreases-walk_body : goal.decreases-walk_body
decreases-walk_body g l = 16 * goal.size-walk_body g l

abbrev pub decreases-walk_switch : goal.decreases-walk_switch
decreases-walk_switch g l = 16 * goal.size-walk_switch g l + 1
