use Rattle.p10_macros.proofs.Undefining.{takes_one_name, takes_one_own, stays_named_once}
use Rattle.p10_macros.proofs.table.undefines_one.Goals as goal

pub returns-clause-name : goal.returns-clause-name
returns-clause-name c = takes_one_name

pub returns-clause-own : goal.returns-clause-own
returns-clause-own c = takes_one_own

pub returns-clause-once : goal.returns-clause-once
returns-clause-once c = stays_named_once
