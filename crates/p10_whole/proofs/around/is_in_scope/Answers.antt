use Rattle.p10_whole.proofs.Scopes.{scope_shown}
use Rattle.p10_whole.proofs.around.is_in_scope.Goals as goal

pub returns : goal.returns
returns c = scope_shown c.args.around.now.parameters c.args.number c.args.around.now.scope.now c.binary_search.result c.is_ok.result c.is_ok.ensures.value c.binary_search.ensures.bound c.binary_search.ensures.ok
