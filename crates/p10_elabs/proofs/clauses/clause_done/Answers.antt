use Rattle.p10_syn.specs.Built.{expression_of}
use Rattle.p10_elabs.specs.LocalViews.{plain_local}
use Rattle.p10_elabs.proofs.FormParts.{by_clause}
use Rattle.p10_elabs.proofs.clauses.clause_done.Goals as goal

pub returns : goal.returns
returns c = by_clause (plain_local c.args.local.now) (expression_of c.args.e.now) _ c.in_ok-made.ensures
