use Rattle.p10_syn.specs.Built.{expression_of}
use Rattle.p10_elabx.specs.PlainScopes.{plain_scope}
use Rattle.p10_elabx.proofs.Answering.{answers_first}
use Rattle.p10_elabx.proofs.elaborate.value.Goals as goal

pub returns : goal.returns
returns c = answers_first (plain_scope c.args.scope.now) (expression_of c.args.e.now) c.first_answer.result c.first_answer.ensures
