use Rattle.std.proofs.Common.{◌≡◌, ◌++◌, ◌+◌, ◌*◌, map, drop}
use Rattle.p10_syn.specs.Trees.{statement_row}
use Rattle.p10_syn.specs.BuiltStatements.{statement_of}
use Rattle.p10_synrules.specs.Parts.{statements_parts}
use Rattle.p10_synrules.specs.private.Views.{plain_parts}
use Rattle.p10_synrules.proofs.statement.+stepping.Given as goal

-- what is put down, and what is left
abbrev pub invariant-put_statements-loop-s : goal.invariant-put_statements-loop-s
invariant-put_statements-loop-s l =
    plain_parts l.into ++ statements_parts (statement_row (map statement_of (drop l.s-index l.all))) ≡ plain_parts l.fn.into ++ statements_parts (statement_row (map statement_of l.all))

-- what is passed on unchanged goes to a function that is lower

abbrev pub decreases-put_statement : goal.decreases-put_statement
decreases-put_statement l = 3 * goal.size-put_statement l + 1

abbrev pub decreases-put_head : goal.decreases-put_head
decreases-put_head l = 3 * goal.size-put_head l + 1

abbrev pub decreases-put_within : goal.decreases-put_within
decreases-put_within l = 3 * goal.size-put_within l

abbrev pub decreases-put_statements : goal.decreases-put_statements
decreases-put_statements l = 3 * goal.size-put_statements l + 2
