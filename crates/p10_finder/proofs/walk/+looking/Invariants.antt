use Rattle.std.proofs.Common.{◌≡◌, ◌+◌, ◌*◌, drop}
use Rattle.p10_core.specs.Views.{plain_labels, plain_statements}
use Rattle.p10_pass.specs.Leaving.{values_in}
use Rattle.p10_finder.specs.Finding.{loops_by}
use Rattle.p10_finder.specs.Loops.{loops_in_all, loops_from}
use Rattle.p10_finder.specs.private.Looking.{search_by}
use Rattle.p10_finder.proofs.walk.+looking.Given as goal

-- what is found in the statements that are left is what is found in all

abbrev pub invariant-loops_in_all-loop-x : goal.invariant-loops_in_all-loop-x
invariant-loops_in_all-loop-x l =
    loops_in_all (search_by l.s) l.s.depth (plain_statements (drop l.x-index l.items)) (values_in l.now) (loops_by l.found) ≡ loops_in_all (search_by l.s) l.s.depth (plain_statements l.items) (values_in l.fn.env) (loops_by l.initial.found)

abbrev pub invariant-loops_from-loop-k : goal.invariant-loops_from-loop-k
invariant-loops_from-loop-k l =
    loops_from (search_by l.s) l.s.depth (plain_labels l.labels) l.k (plain_statements (drop l.k l.items)) (values_in l.env) (values_in l.before) (loops_by l.found)
    ≡ loops_from (search_by l.s) l.s.depth (plain_labels l.labels) 0 (plain_statements l.items) (values_in l.env) (values_in l.initial.before) (loops_by l.initial.found)

-- a tree that is handed on unchanged goes to a function that is lower

abbrev pub decreases-loops_in_if : goal.decreases-loops_in_if
decreases-loops_in_if l = 16 * goal.size-loops_in_if l

abbrev pub decreases-loops_in_loop : goal.decreases-loops_in_loop
decreases-loops_in_loop l = 16 * goal.size-loops_in_loop l

abbrev pub decreases-loops_in_switch : goal.decreases-loops_in_switch
decreases-loops_in_switch l = 16 * goal.size-loops_in_switch l

abbrev pub decreases-loops_in : goal.decreases-loops_in
decreases-loops_in l = 16 * goal.size-loops_in l + 1

abbrev pub decreases-step : goal.decreases-step
decreases-step l = 16 * goal.size-step l + 2

abbrev pub decreases-loops_in_all : goal.decreases-loops_in_all
decreases-loops_in_all l = 16 * goal.size-loops_in_all l + 3

abbrev pub decreases-loops_from : goal.decreases-loops_from
decreases-loops_from l = 16 * goal.size-loops_from l + 3

abbrev pub decreases-loops_in_body : goal.decreases-loops_in_body
decreases-loops_in_body l = 16 * goal.size-loops_in_body l + 2
