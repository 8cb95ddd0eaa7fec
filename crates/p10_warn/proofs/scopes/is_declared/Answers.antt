use Rattle.std.proofs.Common.{Some, None}
use Rattle.p10_bindings.specs.Bound.{bound_in}
use Rattle.p10_warn.proofs.ScopeSteps.{found_is}
use Rattle.p10_warn.proofs.scopes.is_declared.Goals as goal

pub returns-in-Some : goal.returns-in-Some
returns-in-Some c = found_is c.args.name.now (bound_in c.args.names.now) (Some c.in-Some.field-0.now) c.in-Some.ensures

pub returns-in-None : goal.returns-in-None
returns-in-None c = found_is c.args.name.now (bound_in c.args.names.now) None c.in-None.ensures
