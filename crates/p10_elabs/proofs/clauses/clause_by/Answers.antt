use Rattle.p10_elabs.specs.LocalViews.{plain_local}
use Rattle.p10_elabs.proofs.FormParts.{comma_arm}
use Rattle.p10_elabs.proofs.clauses.clause_by.Goals as goal

pub returns-in_ok-made-in-Comma : goal.returns-in_ok-made-in-Comma
returns-in_ok-made-in-Comma c =
    comma_arm (plain_local c.args.local.now) c.args.e.now c.in-Comma.all _ _ c.in-Comma.is c.deref.ensures.value c.in_ok-made-in-Comma.ensures
