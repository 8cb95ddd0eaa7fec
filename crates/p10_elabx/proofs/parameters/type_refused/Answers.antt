use Rattle.std.specs.Prelude.{Option}
use Rattle.p10_core.specs.Types.{PlainType}
use Rattle.p10_elabx.proofs.Refusing.{refused_err}
use Rattle.p10_elabx.proofs.parameters.type_refused.Goals as goal

pub returns-in-Err : goal.returns-in-Err
returns-in-Err c = rw c.in-Err.is (refused_err (Option PlainType) _ _ _ _ c.refusal.ensures)
