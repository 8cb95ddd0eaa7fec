use Rattle.std.proofs.Common.{◌≡◌, ◌+◌, ◌*◌, drop}
use Rattle.std.specs.Prelude.{map}
use Rattle.p10_syn.specs.Trees.{expression_row, parameter_row}
use Rattle.p10_syn.specs.Built.{expression_of, parameter_of}
use Rattle.p10_elabx.specs.First.{only_first, lift}
use Rattle.p10_elabx.specs.PlainScopes.{plain_scope, scope_in}
use Rattle.p10_elabx.specs.Calls.{no_arguments}
use Rattle.p10_elabx.specs.TypeNames.{no_parameters}
use Rattle.p10_elabx.specs.Judging.{judge_arguments, judge_parameters}
use Rattle.p10_elabx.specs.Built.{plain_wants, plain_listed, ruled_types}
use Rattle.p10_elabx.proofs.+judge.Given as goal

abbrev pub invariant-walk::judge_arguments-loop-i : goal.invariant-walk::judge_arguments-loop-i
invariant-walk::judge_arguments-loop-i l =
    judge_arguments only_first (scope_in l.situation) (plain_wants l.wants) l.i (plain_listed l.list) (expression_row (map expression_of (drop l.i l.all)))
    ≡ judge_arguments only_first (scope_in l.situation) (plain_wants l.wants) 0 no_arguments (expression_row (map expression_of l.all))

abbrev pub invariant-walk::judge_parameters-loop-parameter : goal.invariant-walk::judge_parameters-loop-parameter
invariant-walk::judge_parameters-loop-parameter l =
    judge_parameters only_first (plain_scope l.scope) l.alone (lift (ruled_types l.types)) (parameter_row (map parameter_of (drop l.parameter-index l.parameters)))
    ≡ judge_parameters only_first (plain_scope l.scope) l.alone no_parameters (parameter_row (map parameter_of l.parameters))

-- what is passed on unchanged goes to a function that is lower

abbrev pub decreases-walk::judge : goal.decreases-walk::judge
decreases-walk::judge l = 8 * goal.size-walk::judge l

abbrev pub decreases-walk::judge_value : goal.decreases-walk::judge_value
decreases-walk::judge_value l = 8 * goal.size-walk::judge_value l + 1

abbrev pub decreases-walk::judge_target : goal.decreases-walk::judge_target
decreases-walk::judge_target l = 8 * goal.size-walk::judge_target l + 1

abbrev pub decreases-walk::judge_arguments : goal.decreases-walk::judge_arguments
decreases-walk::judge_arguments l = 8 * goal.size-walk::judge_arguments l + 2

abbrev pub decreases-walk::judge_call : goal.decreases-walk::judge_call
decreases-walk::judge_call l = 8 * goal.size-walk::judge_call l + 3

abbrev pub decreases-memory::plain_cast : goal.decreases-memory::plain_cast
decreases-memory::plain_cast l = 8 * goal.size-memory::plain_cast l + 1

abbrev pub decreases-memory::judge_cast : goal.decreases-memory::judge_cast
decreases-memory::judge_cast l = 8 * goal.size-memory::judge_cast l + 2

abbrev pub decreases-memory::judge_size : goal.decreases-memory::judge_size
decreases-memory::judge_size l = 8 * goal.size-memory::judge_size l

abbrev pub decreases-walk::judge_type : goal.decreases-walk::judge_type
decreases-walk::judge_type l = 8 * goal.size-walk::judge_type l + 2

abbrev pub decreases-walk::judge_declarator : goal.decreases-walk::judge_declarator
decreases-walk::judge_declarator l = 8 * goal.size-walk::judge_declarator l

abbrev pub decreases-walk::judge_parameters : goal.decreases-walk::judge_parameters
decreases-walk::judge_parameters l = 8 * goal.size-walk::judge_parameters l + 3

abbrev pub decreases-walk::judge_parameter : goal.decreases-walk::judge_parameter
decreases-walk::judge_parameter l = 8 * goal.size-walk::judge_parameter l + 2

abbrev pub decreases-memory::other_memory : goal.decreases-memory::other_memory
decreases-memory::other_memory l = 8 * goal.size-memory::other_memory l + 3

abbrev pub decreases-memory::judge_cleared : goal.decreases-memory::judge_cleared
decreases-memory::judge_cleared l = 8 * goal.size-memory::judge_cleared l + 4

abbrev pub decreases-memory::judge_bytes : goal.decreases-memory::judge_bytes
decreases-memory::judge_bytes l = 8 * goal.size-memory::judge_bytes l + 4

abbrev pub decreases-memory::judge_allocation : goal.decreases-memory::judge_allocation
decreases-memory::judge_allocation l = 8 * goal.size-memory::judge_allocation l + 5

abbrev pub decreases-memory::judge_number : goal.decreases-memory::judge_number
decreases-memory::judge_number l = 8 * goal.size-memory::judge_number l + 2
