use Rattle.p10_elabx.proofs.Refusing.{refused_err}
use Rattle.p10_elabx.proofs.parts.refused.Goals as goal

pub returns-in-Err : goal.returns-in-Err
returns-in-Err g c = rw c.in-Err.is (refused_err _ _ _ _ _ c.refusal.ensures)
