use Rattle.std.proofs.Common.{◌≡◌, ◌+◌, ◌*◌, drop, None}
use Rattle.p10_core.specs.Views.{plain_labels, plain_statements}
use Rattle.p10_pass.specs.Passing.{followed, and_then_pass, pass_statements, pass_from}
use Rattle.p10_pass.specs.Leaving.{left_of}
use Rattle.p10_pass.specs.Manners.{manner_by}
use Rattle.p10_pass.proofs.walk.+passing.Given as goal

-- what is left, after what was passed, gives what the whole gives

abbrev pub invariant-pass_statements-loop-s : goal.invariant-pass_statements-loop-s
invariant-pass_statements-loop-s l = and_then_pass (left_of l.total) (pass_statements (manner_by l.m) (plain_statements (drop l.s-index l.items))) ≡ pass_statements (manner_by l.m) (plain_statements l.items) l.fn.env.values

abbrev pub invariant-pass_cases-loop-k : goal.invariant-pass_cases-loop-k
invariant-pass_cases-loop-k l =
    followed (left_of l.total) (pass_from (manner_by l.m) (plain_labels l.labels) l.k (plain_statements (drop l.k l.items)) l.env.values (left_of l.total).normal) ≡ pass_from (manner_by l.m) (plain_labels l.labels) 0 (plain_statements l.items) l.env.values None

-- a tree that is handed on unchanged goes to a function that is lower

abbrev pub decreases-one_round : goal.decreases-one_round
decreases-one_round l = 16 * goal.size-one_round l

abbrev pub decreases-entered : goal.decreases-entered
decreases-entered l = 16 * goal.size-entered l + 1

abbrev pub decreases-enter_loop : goal.decreases-enter_loop
decreases-enter_loop l = 16 * goal.size-enter_loop l + 2

abbrev pub decreases-pass_under : goal.decreases-pass_under
decreases-pass_under l = 16 * goal.size-pass_under l + 3

abbrev pub decreases-pass_claimed : goal.decreases-pass_claimed
decreases-pass_claimed l = 16 * goal.size-pass_claimed l + 4

abbrev pub decreases-pass_loop : goal.decreases-pass_loop
decreases-pass_loop l = 16 * goal.size-pass_loop l + 5

abbrev pub decreases-pass_if : goal.decreases-pass_if
decreases-pass_if l = 16 * goal.size-pass_if l + 5

abbrev pub decreases-pass_statement : goal.decreases-pass_statement
decreases-pass_statement l = 16 * goal.size-pass_statement l + 6

abbrev pub decreases-pass_reached : goal.decreases-pass_reached
decreases-pass_reached l = 16 * goal.size-pass_reached l + 7

abbrev pub decreases-go_on_with : goal.decreases-go_on_with
decreases-go_on_with l = 16 * goal.size-go_on_with l + 7

abbrev pub decreases-pass_case : goal.decreases-pass_case
decreases-pass_case l = 16 * goal.size-pass_case l + 8

abbrev pub decreases-pass_statements : goal.decreases-pass_statements
decreases-pass_statements l = 16 * goal.size-pass_statements l + 9

abbrev pub decreases-pass_all_reached : goal.decreases-pass_all_reached
decreases-pass_all_reached l = 16 * goal.size-pass_all_reached l + 10

abbrev pub decreases-pass_block : goal.decreases-pass_block
decreases-pass_block l = 16 * goal.size-pass_block l + 10

abbrev pub decreases-pass_cases : goal.decreases-pass_cases
decreases-pass_cases l = 16 * goal.size-pass_cases l + 9

abbrev pub decreases-pass_body : goal.decreases-pass_body
decreases-pass_body l = 16 * goal.size-pass_body l

abbrev pub decreases-pass_entered : goal.decreases-pass_entered
decreases-pass_entered l = 16 * goal.size-pass_entered l + 1

abbrev pub decreases-pass_switch : goal.decreases-pass_switch
decreases-pass_switch l = 16 * goal.size-pass_switch l + 2
