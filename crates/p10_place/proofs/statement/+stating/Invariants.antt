use Rattle.std.proofs.Common.{◌+◌, ◌*◌}
use Rattle.p10_place.specs.Roots.{source_of}
use Rattle.p10_place.proofs.StatementPlacings.{Placing_statements}
use Rattle.p10_place.proofs.statement.+stating.Given as goal

abbrev pub invariant-set_statements-loop-i : goal.invariant-set_statements-loop-i
invariant-set_statements-loop-i l = record {
  placing : Placing_statements (source_of l.root) l.i l.first l.fn.all.items l.all.items l.past;
  unvisited : goal.unvisited-set_statements-loop-i l;
}

-- a statement is taken out and put back, so it is above its parts

abbrev pub decreases-set_parts : goal.decreases-set_parts
decreases-set_parts l = 4 * goal.size-set_parts l

abbrev pub decreases-set_statement : goal.decreases-set_statement
decreases-set_statement l = 4 * goal.size-set_statement l + 1

abbrev pub decreases-set_headed : goal.decreases-set_headed
decreases-set_headed l = 4 * goal.size-set_headed l + 2

abbrev pub decreases-set_statements : goal.decreases-set_statements
decreases-set_statements l = 4 * goal.size-set_statements l + 2

abbrev pub decreases-set_block : goal.decreases-set_block
decreases-set_block l = 4 * goal.size-set_block l + 3

abbrev pub decreases-set_if : goal.decreases-set_if
decreases-set_if l = 4 * goal.size-set_if l + 3

abbrev pub decreases-set_switch : goal.decreases-set_switch
decreases-set_switch l = 4 * goal.size-set_switch l + 3

abbrev pub decreases-set_while : goal.decreases-set_while
decreases-set_while l = 4 * goal.size-set_while l + 3

abbrev pub decreases-set_do : goal.decreases-set_do
decreases-set_do l = 4 * goal.size-set_do l + 3

abbrev pub decreases-set_case : goal.decreases-set_case
decreases-set_case l = 4 * goal.size-set_case l + 3

abbrev pub decreases-set_default : goal.decreases-set_default
decreases-set_default l = 4 * goal.size-set_default l + 3

abbrev pub decreases-set_label : goal.decreases-set_label
decreases-set_label l = 4 * goal.size-set_label l + 3
